-- `waiting::raised` meets its contract.
-- Assumes nothing.
use native.Mathlib.Omega.{arith}
use Rattle.waiting.proofs.Copies.{raised_up, raised_small, raised_not}
use Rattle.waiting.proofs.raised.Goals as goal

pub overflow_add-result : goal.overflow_add-result
overflow_add-result c = omega (arith, raised_small c.args.n c.args.low c.args.d c.args.b c.index_of.ensures c.saturating_sub.ensures c.if-saturating_sub-d.true c.requires)

pub returns-then-saturating_sub-d : goal.returns-then-saturating_sub-d
returns-then-saturating_sub-d c = raised_up _ _ _ _ c.index_of.ensures c.saturating_sub.ensures c.if-saturating_sub-d.true

pub returns-else-saturating_sub-d : goal.returns-else-saturating_sub-d
returns-else-saturating_sub-d c = raised_not _ _ _ _ c.index_of.ensures c.saturating_sub.ensures c.if-saturating_sub-d.false
