-- The end of a term by heights.
-- Assumes nothing.
use Prim.Native.Nat.{ℕ}
use mathlib.Core.Path.{◌≡◌}
use mathlib.Core.List.{List}
use native.Mathlib.Omega.{arith}
use Rattle.calculus.proofs.Lift.{lo, hi, cmp}
use Rattle.bodies.specs.Moving.{Ending}

pub ending_is : {s : List ℕ} {n i h e r : ℕ} → Ending s n i h r → Ending s n i h e → r ≡ e
ending_is {e = e} {r = r} a b = elim (cmp r e) [
  | lo u ↦ elim (cmp e r) [
    | lo v ↦ omega arith
    | hi v ↦ absurd (omega (arith, a.low (omega (arith, b.inside)), b.high r a.after v))
  ]
  | hi u ↦ absurd (omega (arith, b.low (omega (arith, a.inside)), a.high e b.after u))
]
