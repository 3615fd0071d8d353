-- `examine::examine_term` meets its contract.
-- Assumes nothing.
use mathlib.Core.Path.{◌≡◌, sym, ap, ◌∙◌}
use mathlib.Core.Option.{some}
use native.Mathlib.Omega.{arith}
use Rattle.std.proofs.Common.{Some, None}
use Rattle.std.proofs.lemmas.Result.{err_from_is_err_and}
use lib.ListN.{length}
use Rattle.code.specs.Code.{end_of}
use Rattle.code.specs.declared.refusal.Condition.TheVariants.{NotOneTerm}
use Rattle.examine.proofs.Laws.{examined_long, examined_endless, examined_past, refuses}
use Rattle.examine.proofs.examine_term.Goals as goal

pub returns-then-s-gt-LONGEST_TERM : goal.returns-then-s-gt-LONGEST_TERM
returns-then-s-gt-LONGEST_TERM c = rw c.at.ensures (refuses _ _ (examined_long _ c.if-s-gt-LONGEST_TERM.true))

pub returns-in_err-place : goal.returns-in_err-place
returns-in_err-place c =
    let p = err_from_is_err_and c.from_residual.result c.from_residual.ensures.1 in
    let e : c.term_end.result ≡ None = grind arith in
    let k : c.in_err-place.field-0.0 ≡ record { condition = NotOneTerm; place = length c.args.s.now } = grind arith in
    rw (p.1, p.2, k) (refuses _ _ (examined_endless _ c.if-s-gt-LONGEST_TERM.false (sym c.term_end.ensures ∙ ap end_of e)))

pub returns-then-place-s : goal.returns-then-place-s
returns-then-place-s c =
    let e : c.term_end.result ≡ Some c.in_ok-place.place = grind arith in
    rw c.at-then-place-s.ensures (refuses _ _ (examined_past _ c.if-s-gt-LONGEST_TERM.false (sym c.term_end.ensures ∙ ap end_of e) (λ q. omega arith)))

pub walk-requires : goal.walk-requires
walk-requires c =
    let e : c.term_end.result ≡ Some c.in_ok-place.place = grind arith in
    (c.if-s-gt-LONGEST_TERM.false, sym c.term_end.ensures ∙ ap end_of e ∙ ap some (omega arith))
