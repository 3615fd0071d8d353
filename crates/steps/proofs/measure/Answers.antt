-- `steps::measure` meets its contract: the loop is `Counting` of Lowering.antt and `Deepening` of Writing.antt.
-- Assumes nothing.
use native.Mathlib.Omega.{arith}
use Rattle.steps.proofs.Lowering.{counting_next}
use Rattle.steps.proofs.Writing.{deepening_next, measured}
use Rattle.steps.proofs.measure.Goals as goal

pub loop-x-preserved : goal.loop-x-preserved
loop-x-preserved c = let w = c.loop-x.invariant in (
  counting_next w.0 (omega arith) c.is_use.ensures c.from-count.ensures,
  rw c.max-deepest.ensures (deepening_next w.1 (omega arith) c.use_depth.ensures.1 c.use_depth.ensures.0),
)

pub returns : goal.returns
returns c = let w = c.loop-x.invariant in measured w.1 w.0 (omega arith)
