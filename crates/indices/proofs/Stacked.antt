-- The scopes of the parts still to be read, and what a byte does to them.
-- Assumes nothing.
use Prim.Native.Nat.{ℕ, zero, suc, ◌+◌, ◌-◌, ◌≤◌, ◌<◌}
use mathlib.Core.Path.{◌≡◌, refl, ap, ap₂, ◌∙◌}
use mathlib.Core.List.{List, ◌∷◌}
use native.Mathlib.Omega.{arith}
use native.Mathlib.Numerals.{add-one}
use lib.ListN.{length, get_or, set, length-set}
use lib.Seq.{get_or-set_same, get_or-set_other}
use borrow.Author.Tests.{lt-ltb, le-ltb}
use Rattle.indices.specs.Stack.{pending, body_scope, after, StackReady, Advanced}

pub length_pending : (a : List ℕ) (d n : ℕ) → length (pending a d n) ≡ n
unfolding pending
length_pending a d zero = refl
length_pending a d (suc n) = ap suc (length_pending a (get_or a n 0) n)

-- The first is the scope of the part being read.
pub top : (a : List ℕ) (d n : ℕ) {c : ℕ} {D : List ℕ} → pending a d n ≡ c ∷ D → d ≡ c
unfolding pending
top a d zero e = let z : ◌≡◌ {A = ℕ} 0 1 = cc in absurd (omega arith)
top a d (suc n) e = cc

-- A value at or above the count does not matter.
above : (a : List ℕ) (d n i v : ℕ) → n ≤ i → pending (set a i v) d n ≡ pending a d n
unfolding pending
above a d zero i v h = refl
above a d (suc n) i v h = ap (d ∷◌) (ap (λ x. pending (set a i v) x n) (get_or-set_other a i n v 0 (λ e. omega arith)) ∙ above a (get_or a n 0) n i v (omega arith))

less_one : (n : ℕ) → suc n - 1 ≡ n
less_one n = omega arith

module _ {a : List ℕ} {d b : ℕ} where
  pub advanced_terminal : (n : ℕ) → StackReady a d n → b < 254 → Advanced a a d n (get_or a (n - 1) 0) (n - 1) b
  unfolding pending after
  advanced_terminal zero r h = absurd (omega (arith, r.positive))
  advanced_terminal (suc n) r h = record { scopes = rw (lt-ltb b 254 h, less_one n); same_length = refl; small = omega arith }

  pub advanced_operator : (n x : ℕ) → StackReady a d n → 254 ≤ b → x ≡ body_scope b d → Advanced a (set a n x) d n d (n + 1) b
  unfolding pending after
  advanced_operator zero x r h e = absurd (omega (arith, r.positive))
  advanced_operator (suc n) x r h e =
      record {
        scopes = rw (le-ltb b 254 h, add-one (suc n)) (ap (d ∷◌) (ap₂ (λ p q. p ∷ q) (get_or-set_same a (suc n) x 0 r.fits ∙ e) (ap (λ p. pending (set a (suc n) x) p n) (get_or-set_other a (suc n) n x 0 (λ e. omega arith)) ∙ above a (get_or a n 0) n (suc n) x (omega arith))));
        same_length = length-set a (suc n) x;
        small = omega arith;
      }
