-- `waiting::lift_copy` meets its contract: the loop is `Lifting` of Copies.antt.
-- Assumes nothing.
use Rattle.waiting.specs.Writing.{Copied}
use Rattle.waiting.proofs.Copies.{Lifting}
use Rattle.waiting.proofs.lift_copy.Given as goal

abbrev pub invariant-loop-i : goal.invariant-loop-i
invariant-loop-i l = (x : Copied l.initial.work l.depths l.from l.to l.o l.n l.c) × Lifting l.initial.work l.work l.from l.i l.n l.c x.term
