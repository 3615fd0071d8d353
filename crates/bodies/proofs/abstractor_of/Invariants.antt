-- `bodies::abstractor_of` meets its contract: m is the least height so far (`Scanning` of Finding.antt).
-- Assumes nothing.
use Prim.Native.Nat.{◌<◌}
use mathlib.Core.Path.{◌≡◌}
use Rattle.letters.specs.Letters.{letter, abstractor}
use Rattle.bodies.proofs.Finding.{Scanning}
use Rattle.bodies.proofs.abstractor_of.Given as goal

abbrev pub invariant-loop-q : goal.invariant-loop-q
invariant-loop-q l = Scanning l.s l.p l.d l.q l.m × (l.sought ≡ letter abstractor l.d l.m) × (l.m < 4096)
