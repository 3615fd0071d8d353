-- What a string holds after bytes are stored in it, and stores one after the other.
-- Assumes nothing.
use Prim.Native.Nat.{ℕ, suc, ◌+◌, ◌≤◌}
use mathlib.Core.Path.{◌≡◌, refl, ap, ◌∙◌}
use mathlib.Core.List.{List, [], ◌∷◌, ◌++◌, append_assoc}
use native.Mathlib.Omega.{arith}
use native.Mathlib.Nat.{add-suc, add-zero, suc-add, zero-add}
use lib.ListN.{length, set, take, drop, length-append}
use lib.Seq.{sets, sets-eq, length-take-le, set_comm, drop-set-lt, drop-set-add, take-set-le, take_at, drop_at}

-- ---- Outside the bytes that are stored.
pub take_sets : (v s : List ℕ) (at n : ℕ) → n ≤ at → take n (sets s at v) ≡ take n s
take_sets [] s at n h = refl
take_sets (x ∷ v) s at n h = take_sets v (set s at x) (suc at) n (omega arith) ∙ take-set-le n s at x h

pub drop_sets : (v s : List ℕ) (at p : ℕ) → at + length v ≤ p → drop p (sets s at v) ≡ drop p s
drop_sets [] s at p h = refl
drop_sets (x ∷ v) s at p h = drop_sets v (set s at x) (suc at) p (omega arith) ∙ drop-set-lt p s at x (omega arith)

-- From a place before them on.
pub drop_sets_add : (v s : List ℕ) (p j : ℕ) → drop p (sets s (p + j) v) ≡ sets (drop p s) j v
drop_sets_add [] s p j = refl
drop_sets_add (x ∷ v) s p j = rw (← add-suc p j, drop_sets_add v (set s (p + j) x) p (suc j), drop-set-add p s j x)

set_append : (xs ys : List ℕ) (j x : ℕ) → set (xs ++ ys) (length xs + j) x ≡ xs ++ set ys j x
set_append [] ys j x = rw zero-add
set_append (y ∷ xs) ys j x = rw suc-add (ap (y ∷◌) (set_append xs ys j x))

pub sets_append : (v xs ys : List ℕ) (j : ℕ) → sets (xs ++ ys) (length xs + j) v ≡ xs ++ sets ys j v
sets_append [] xs ys j = refl
sets_append (x ∷ v) xs ys j = rw (← add-suc (length xs) j, set_append xs ys j x) (sets_append v xs (set ys j x) (suc j))

-- ---- The bytes that are stored, where they fit.
module _ (v s : List ℕ) (at : ℕ) (h : at + length v ≤ length s) where
  pub take_sets_end : take (at + length v) (sets s at v) ≡ take at s ++ v
  take_sets_end = rw (sets-eq v s at h) (take_at (take at s ++ v) (drop (at + length v) s) (at + length v) (length-append (take at s) v ∙ ap (◌+ length v) (length-take-le at s (omega arith))))

  pub drop_sets_start : drop at (sets s at v) ≡ v ++ drop (at + length v) s
  drop_sets_start = rw (sets-eq v s at h, append_assoc (take at s) v (drop (at + length v) s)) (drop_at (take at s) (v ++ drop (at + length v) s) at (length-take-le at s (omega arith)))

-- The last byte may be stored first.
pub sets_last : (v s : List ℕ) (at x : ℕ) → sets s at (v ++ (x ∷ [])) ≡ sets (set s (at + length v) x) at v
sets_last [] s at x = rw (add-zero at)
sets_last (y ∷ v) s at x = sets_last v (set s at y) (suc at) x ∙ rw (suc-add at (length v), ← add-suc at (length v), set_comm s at (at + suc (length v)) y x (λ q. omega arith))
