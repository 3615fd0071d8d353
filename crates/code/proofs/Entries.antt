-- A rule of a table, proved at all of its entries by one test that antt computes.
-- Assumes nothing.
use mathlib.Core.Path.{◌≡◌, ◌∙◌, ap, sym}
use mathlib.Core.Bool.{Bool, true, false, cond}
use mathlib.Core.List.{List, [], ◌∷◌}
use Prim.Native.Nat.{ℕ, zero, suc, ◌+◌, ◌<◌}
use native.Mathlib.Nat.{add-zero, zero-add, add-suc, suc-add, le_of_suc-le-suc, not-suc-le-zero}
use lib.Dec.{T, eqb, eqb→eq}
use lib.IntN.{ℤ, pos, negsuc}
use lib.ListN.{length, get_or}
use Rattle.code.specs.Code.{delta, Tabled}

-- Equality of integers, as a test.
abbrev pub eq_z : ℤ → ℤ → Bool
eq_z (pos a) (pos b) = eqb a b
eq_z (pos a) (negsuc b) = false
eq_z (negsuc a) (pos b) = false
eq_z (negsuc a) (negsuc b) = eqb a b

eq_z→eq : (a b : ℤ) → T (eq_z a b) → a ≡ b
eq_z→eq (pos a) (pos b) t = ap pos (eqb→eq a b t)
eq_z→eq (pos a) (negsuc b) t = absurd t
eq_z→eq (negsuc a) (pos b) t = absurd t
eq_z→eq (negsuc a) (negsuc b) t = ap negsuc (eqb→eq a b t)

-- Each entry, at its place counted from i, is what f gives there.
abbrev pub every : (ℕ → ℤ) → ℕ → List ℤ → Bool
every f i [] = true
every f i (x ∷ xs) = cond (eq_z x (f i)) (every f (suc i) xs) false

both : (a b : Bool) → T (cond a b false) → T a × T b
both true b t = (tt, t)
both false b t = absurd t

from : (f : ℕ → ℤ) (xs : List ℤ) (i : ℕ) → T (every f i xs) → (k : ℕ) → k < length xs → get_or xs k (pos 0) ≡ f (i + k)
from f [] i t k h = absurd (not-suc-le-zero h)
from f (x ∷ xs) i t zero h = rw add-zero (eq_z→eq x (f i) (both (eq_z x (f i)) (every f (suc i) xs) t).0)
from f (x ∷ xs) i t (suc k) h =
    from f xs (suc i) (both (eq_z x (f i)) (every f (suc i) xs) t).1 k (le_of_suc-le-suc h) ∙ ap f (suc-add i k ∙ sym (add-suc i k))

pub tabled : {xs : List ℤ} → length xs ≡ 256 → T (every delta 0 xs) → Tabled xs
tabled {xs} l t = record { rule = λ b h. from delta xs 0 t b (rw l h) ∙ ap delta (zero-add b) }
