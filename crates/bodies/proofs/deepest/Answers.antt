-- `bodies::deepest` meets its contract: the loop is `Deepening` of Lifting.antt.
-- Assumes nothing.
use native.Mathlib.Omega.{arith}
use Rattle.bodies.proofs.Lifting.{deepening_next, deepest_is}
use Rattle.bodies.proofs.deepest.Goals as goal

pub loop-x-preserved : goal.loop-x-preserved
loop-x-preserved c = deepening_next c.loop-x.invariant c.max-most.ensures

pub returns : goal.returns
returns c = deepest_is c.loop-x.invariant (omega arith)
