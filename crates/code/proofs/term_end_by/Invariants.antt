-- `code::term_end_by` meets its contract: the loop's invariant and its turns are those of Turn.antt.
-- Assumes nothing.
use Rattle.code.proofs.Turn.{Running}
use Rattle.code.proofs.term_end_by.Given as goal

abbrev pub invariant-loop-i : goal.invariant-loop-i
invariant-loop-i l = Running l.s l.from l.balance l.i
