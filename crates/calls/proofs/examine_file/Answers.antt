-- `calls::examine_file` meets its contract: the laws of Opening.antt.
-- Assumes nothing.
use mathlib.Core.Path.{◌∙◌, ap}
use Rattle.std.proofs.lemmas.Result.{err_from_is_err_and}
use Rattle.examine.specs.Inspect.{term_answer}
use Rattle.fields.proofs.Groups.{inside}
use Rattle.calls.proofs.Opening.{fields_refused, term_refused, term_accepted}
use Rattle.calls.proofs.examine_file.Goals as goal

pub returns-in_err-layout : goal.returns-in_err-layout
returns-in_err-layout c =
    let p = err_from_is_err_and c.from_residual.result c.from_residual.ensures.1 in
    rw (p.1, p.2) (fields_refused _ _ c.in_err-layout.ensures)

pub term_part-part-requires : goal.term_part-part-requires
term_part-part-requires c = inside _ c.in_ok-layout.ensures

pub returns-in_err-examine_term : goal.returns-in_err-examine_term
returns-in_err-examine_term c =
    let p = err_from_is_err_and c.from_residual-in_err-examine_term.result c.from_residual-in_err-examine_term.ensures.1 in
    rw (p.1, p.2) (term_refused _ _ c.in_ok-layout.ensures _ (c.in_err-examine_term.ensures ∙ ap term_answer c.term_part-part.ensures))

pub returns : goal.returns
returns c = rw c.term_part-part.ensures (term_accepted _ _ c.in_ok-layout.ensures _ (c.in_ok-examine_term.ensures ∙ ap term_answer c.term_part-part.ensures))
