-- `examine::walk` meets its contract: the loop's invariant and its turns are those of Running.antt.
-- Assumes nothing.
use Rattle.examine.proofs.Running.{Running}
use Rattle.examine.proofs.walk.Given as goal

abbrev pub invariant-loop-i : goal.invariant-loop-i
invariant-loop-i l = Running l.s l.outside l.opens l.degrees l.sp l.last l.i
