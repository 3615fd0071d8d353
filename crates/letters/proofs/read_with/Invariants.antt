-- `letters::read_with` meets its contract: the loop is `Reading` of Reading.antt.
-- Assumes nothing.
use Prim.Native.Nat.{◌+◌}
use mathlib.Core.Path.{◌≡◌}
use lib.ListN.{length}
use Rattle.calculus.specs.Terms.{Term}
use Rattle.code.specs.Claims.{Stands}
use Rattle.letters.proofs.Reading.{Reading}
use Rattle.letters.proofs.read_with.Given as goal

abbrev pub invariant-loop-i : goal.invariant-loop-i
invariant-loop-i l = (length l.stack ≡ length l.initial.stack) × ((t : Term) → Stands l.s 0 (length l.s) t → Reading l.s l.initial.out l.out 0 (length l.s) l.k l.d l.h l.room l.at l.stack l.scope l.count l.i (l.at + l.i) t)
