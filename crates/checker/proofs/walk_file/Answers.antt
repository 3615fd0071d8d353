-- `checker::walk_file` meets its contract.
-- Assumes nothing.
use Rattle.std.proofs.lemmas.Result.{err_from_is_err_and}
use Rattle.checker.proofs.Checking.{walking, stopped_early}
use Rattle.checker.proofs.walk_file.Goals as goal

pub walk_term-requires : goal.walk_term-requires
walk_term-requires c = (rw c.term_part-part.ensures (walking _ (λ i. (c.type_inv.s i).fits) c.requires.0), c.requires.1)

pub returns-in_err-walked : goal.returns-in_err-walked
returns-in_err-walked c =
    let p = err_from_is_err_and c.from_residual.result c.from_residual.ensures.1 in
    rw (p.1, p.2) (stopped_early _ (λ i. (c.type_inv.s i).fits) _ (rw c.term_part-part.ensures at c.in_err-walked.ensures.0), c.in_err-walked.ensures.1)
