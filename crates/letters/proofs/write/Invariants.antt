-- `letters::write` meets its contract: the loop is `Writing` of Writing.antt.
-- Assumes nothing.
use Rattle.letters.proofs.Writing.{Writing}
use Rattle.letters.proofs.write.Given as goal

abbrev pub invariant-loop-i : goal.invariant-loop-i
invariant-loop-i l = Writing l.s l.initial.out l.out l.n l.i
