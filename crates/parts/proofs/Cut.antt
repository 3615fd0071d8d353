-- The length of a part, its first and last byte, its two sides, and stores outside it.
-- Assumes nothing.
use Prim.Native.Nat.{ℕ, suc, ◌+◌, ◌-◌, ◌≤◌, ◌<◌}
use mathlib.Core.Path.{◌≡◌, ap, ◌∙◌}
use mathlib.Core.List.{List, [], ◌∷◌, ◌++◌}
use native.Mathlib.Omega.{arith}
use native.Mathlib.Numerals.{add-one}
use lib.ListN.{length, get_or, set, take, drop, length-drop}
use lib.Seq.{drop-cons, take-suc, length-take-le, get_or-drop, drop-set-lt, drop-set-add, take-set-le}
use Rattle.parts.specs.Parts.{part}

pub length_part : (s : List ℕ) (j k : ℕ) → k ≤ length s → length (part s j k) ≡ k - j
length_part s j k l = length-take-le (k - j) (drop j s) (rw (length-drop j s) (omega arith))

pub part_empty : (s : List ℕ) (j k : ℕ) → k ≤ j → part s j k ≡ []
part_empty s j k h = ap (λ n. take n (drop j s)) none
  where
    none : k - j ≡ 0
    none = omega arith

module _ (s : List ℕ) (j k : ℕ) (h : j < k) (l : k ≤ length s) where
  pub part_first : part s j k ≡ get_or s j 0 ∷ part s (j + 1) k
  part_first = rw (fewer, drop-cons s j 0 (omega arith), add-one j)
    where
      fewer : k - j ≡ suc (k - suc j)
      fewer = omega arith

  pub part_last : part s j k ≡ part s j (k - 1) ++ (get_or s (k - 1) 0 ∷ [])
  part_last = rw fewer (take-suc (drop j s) (k - 1 - j) 0 (rw (length-drop j s) (omega arith)) ∙ rw (get_or-drop j s (k - 1 - j) 0, there))
    where
      fewer : k - j ≡ suc (k - 1 - j)
      fewer = omega arith

      there : j + (k - 1 - j) ≡ k - 1
      there = omega arith

module _ (s : List ℕ) (j k p x : ℕ) where
  pub part_set_below : p < j → part (set s p x) j k ≡ part s j k
  part_set_below h = rw (drop-set-lt j s p x h)

  pub part_set_above : j ≤ k → k ≤ p → part (set s p x) j k ≡ part s j k
  part_set_above h l = ap (λ q. part (set s q x) j k) there ∙ rw (drop-set-add j s (p - j) x) (take-set-le (k - j) (drop j s) (p - j) x (omega arith))
    where
      there : p ≡ j + (p - j)
      there = omega arith
