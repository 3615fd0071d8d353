-- `bodies::skip_high` meets its contract: the letters passed are high enough.
-- Assumes nothing.
use Prim.Native.Nat.{◌+◌, ◌*◌}
use Rattle.bodies.specs.Moving.{Ending}
use Rattle.bodies.proofs.skip_high.Given as goal

abbrev pub invariant-loop-k : goal.invariant-loop-k
invariant-loop-k l = Ending l.s (l.i + 4 * l.k) l.i l.h (l.i + 4 * l.k)
