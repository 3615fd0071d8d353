-- `steps::removal` meets its contract: each answer by its law of Removing.antt.
-- Assumes nothing.
use Rattle.std.proofs.lemmas.Result.{err_from_is_err_and}
use native.Mathlib.Omega.{arith}
use Rattle.steps.proofs.Couples.{some_couple, in_scope, search_refused}
use Rattle.bodies.proofs.Storing.{moved_within}
use Rattle.steps.proofs.Removing.{gap_moved, rest_lowered, moved_scope, still, gone}
use Rattle.steps.proofs.removal.Goals as goal

pub returns-in_err-x : goal.returns-in_err-x
returns-in_err-x c = let e = err_from_is_err_and c.from_residual.result c.from_residual.ensures.1 in rw (e.1, e.2) (λ w f. (search_refused c.couple_at.ensures.sought c.in_err-x.was w f).0)

pub measure-count-requires : goal.measure-count-requires
measure-count-requires c = in_scope (some_couple c.requires c.couple_at.ensures.sought c.in_ok-x.was)

pub returns-then-count-gt0 : goal.returns-then-count-gt0
returns-then-count-gt0 c = still c.requires c.couple_at.ensures.sought c.in_ok-x.was c.measure-count.ensures.count_is (λ e. omega (arith, c.if-count-gt0.true))

pub lower_part-requires : goal.lower_part-requires
lower_part-requires c = moved_scope c.requires c.couple_at.ensures.sought c.in_ok-x.was (gap_moved c.requires c.couple_at.ensures.sought c.in_ok-x.was c.copy_within.ensures.after)

pub returns : goal.returns
returns c =
    let e = c.in_ok-x.was in
    let gap = gap_moved c.requires c.couple_at.ensures.sought e c.copy_within.ensures.after in
    let low = rest_lowered c.requires c.couple_at.ensures.sought e gap c.lower_part.ensures in
    gone c.requires c.couple_at.ensures.sought e c.measure-count.ensures.count_is (omega (arith, c.if-count-gt0.false)) gap low.0 (moved_within low.1.1 low.1.2 c.copy_within-2.ensures.after)
