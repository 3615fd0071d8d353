-- `bodies::end_of` meets its contract: the letters passed are high enough.
-- Assumes nothing.
use Prim.Native.Nat.{◌≤◌}
use Rattle.bodies.specs.Moving.{Ending}
use Rattle.bodies.proofs.end_of.Given as goal

abbrev pub invariant-loop-j : goal.invariant-loop-j
invariant-loop-j l = Ending l.s l.j l.i l.h l.j × (l.j ≤ l.n)
