-- `bodies::deepest` meets its contract: the loop is `Deepening` of Lifting.antt.
-- Assumes nothing.
use Rattle.bodies.proofs.Lifting.{Deepening}
use Rattle.bodies.proofs.deepest.Given as goal

abbrev pub invariant-loop-x : goal.invariant-loop-x
invariant-loop-x l = Deepening l.term l.x-index l.most
