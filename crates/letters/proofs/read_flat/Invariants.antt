-- `letters::read_flat` meets its contract: the loop is `Flat` of Flat.antt.
-- Assumes nothing.
use Prim.Native.Nat.{◌+◌}
use lib.ListN.{length}
use Rattle.calculus.specs.Terms.{Term}
use Rattle.code.specs.Claims.{Stands}
use Rattle.letters.proofs.Flat.{Flat}
use Rattle.letters.proofs.read_flat.Given as goal

abbrev pub invariant-loop-i : goal.invariant-loop-i
invariant-loop-i l = (t : Term) → Stands l.s 0 (length l.s) t → Flat l.s l.initial.out l.out 0 (length l.s) l.k l.d l.h l.at l.above l.i (l.at + l.i) t
