-- `sets::check_set` meets its contract.
-- Assumes nothing.
use mathlib.Core.Path.{sym, ap, ◌∙◌}
use Rattle.std.proofs.lemmas.Result.{err_from_is_err_and}
use Rattle.sets.specs.Sets.{check_from, check_set}
use Rattle.sets.proofs.Answers.{checked}
use Rattle.sets.proofs.Passes.{heads_refuse, heads_whole}
use Rattle.sets.proofs.check_set.Goals as goal

pub check_files-requires : goal.check_files-requires
check_files-requires c = (heads_whole _ c.in_ok-read_heads.ensures).first

pub returns-in_err-read_heads : goal.returns-in_err-read_heads
returns-in_err-read_heads c =
    let p = err_from_is_err_and c.from_residual.result c.from_residual.ensures.1 in
    rw (p.1, p.2) (checked (λ i. (c.type_inv.s i).fits) (heads_refuse _ c.in_err-read_heads.ensures))

pub returns : goal.returns
unfolding check_set
returns c =
    checked (λ i. (c.type_inv.s i).fits)
    (c.check_files.ensures ∙ ap (check_from 0 0) (sym (heads_whole c.args.s.now c.in_ok-read_heads.ensures).read))
