-- The numbers of a state: what one of two ways chose.
-- Assumes nothing.
use Prim.Native.Nat.{ℕ}
use mathlib.Core.Path.{◌≡◌}
use mathlib.Core.Bool.{Bool, true, false, cond}

module _ (b : Bool) {z : ℕ} where
  pub chosen : {x : ℕ} (y : ℕ) → b ≡ true → z ≡ x → z ≡ cond b x y
  chosen y h e = rw h e

  pub other : (x : ℕ) {y : ℕ} → b ≡ false → z ≡ y → z ≡ cond b x y
  other x h e = rw h e
