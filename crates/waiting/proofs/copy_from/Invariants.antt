-- `waiting::copy_from` meets its contract.
-- Assumes nothing.
use Rattle.waiting.specs.Writing.{Moved}
use Rattle.waiting.proofs.copy_from.Given as goal

abbrev pub invariant-loop-i : goal.invariant-loop-i
invariant-loop-i l = Moved l.t l.initial.work l.work l.p l.i l.to
