-- `waiting::copy_in` meets its contract.
-- Assumes nothing.
use Rattle.waiting.specs.Writing.{Moved}
use Rattle.waiting.proofs.copy_in.Given as goal

abbrev pub invariant-loop-i : goal.invariant-loop-i
invariant-loop-i l = Moved l.initial.work l.initial.work l.work l.p l.i l.to
