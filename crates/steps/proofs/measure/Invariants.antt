-- `steps::measure` meets its contract: the loop is `Counting` of Lowering.antt and `Deepening` of Writing.antt.
-- Assumes nothing.
use Rattle.steps.proofs.Lowering.{Counting}
use Rattle.steps.proofs.Writing.{Deepening}
use Rattle.steps.proofs.measure.Given as goal

abbrev pub invariant-loop-x : goal.invariant-loop-x
invariant-loop-x l = Counting l.rest l.c l.x-index l.count × Deepening l.rest l.c l.x-index l.deepest
