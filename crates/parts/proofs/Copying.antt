-- The loops that copy: what is stored, with what is still to be copied, is the result.
-- Assumes nothing.
use Prim.Native.Nat.{ℕ, ◌+◌, ◌-◌, ◌≤◌, ◌<◌}
use mathlib.Core.Path.{◌≡◌, refl, ap, sym, ◌∙◌}
use mathlib.Core.List.{List, append_assoc}
use native.Mathlib.Omega.{arith}
use native.Mathlib.Numerals.{add-one}
use lib.ListN.{length, get_or, set, length-set}
use lib.Seq.{sets, sets-eq, length-sets, drop-drop}
use borrow.Rule.Slice.PartMut.{put_mid}
use Rattle.parts.specs.Parts.{part, Copied}
use Rattle.parts.proofs.Cut.{length_part, part_empty, part_first, part_last, part_set_below, part_set_above}
use Rattle.parts.proofs.Stores.{sets_last}

-- The library's copy of a part.
pub copied : {r s : List ℕ} (from to at : ℕ) → to ≤ length r → at + (to - from) ≤ length s → {v : List ℕ} → v ≡ part r from to → Copied r from to s (put_mid at (at + (to - from) - at) s v) at
copied {r} {s} from to at l m {v} e =
    let n : length (part r from to) ≡ to - from = length_part r from to l in
    let q : at + (to - from) - at ≡ to - from = omega arith in
    let b : put_mid at (at + (to - from) - at) s v ≡ sets s at (part r from to) = rw (e, q, sets-eq (part r from to) s at (omega arith), n, append_assoc, drop-drop) refl in
    record { bytes = b; same_length = ap length b ∙ length-sets s at (part r from to) }

-- The bytes of r from j up to k are still to be stored in s, from p on; then s is s₀ with v stored from `at` on.
pub record Copying (r s : List ℕ) (j k p : ℕ) (s₀ : List ℕ) (at : ℕ) (v : List ℕ) : Type 0 where
  pub ordered : j ≤ k
  pub inside : k ≤ length r
  pub room : p + (k - j) ≤ length s
  pub same_length : length s ≡ length s₀
  pub result : sets s p (part r j k) ≡ sets s₀ at v

pub copying_start : {r s : List ℕ} {j k p : ℕ} → j ≤ k → k ≤ length r → p + (k - j) ≤ length s → Copying r s j k p s p (part r j k)
copying_start h l m = record { ordered = h; inside = l; room = m; same_length = refl; result = refl }

pub copying_end : {r s r₀ s₀ : List ℕ} {j k p from to at : ℕ} → Copying r s j k p s₀ at (part r₀ from to) → k ≤ j → Copied r₀ from to s₀ s at
copying_end {r} {j = j} {k} w h = record { bytes = rw (part_empty r j k h) at w.result; same_length = w.same_length }

-- ---- A turn. r may change by the store, outside what is left of the part.
module _ {r s s₀ v : List ℕ} {j k p at : ℕ} (w : Copying r s j k p s₀ at v) (r' : List ℕ) (h : j < k) (l : length r' ≡ length r) where
  -- The first byte that is left is stored.
  first_stored : part r' (j + 1) k ≡ part r (j + 1) k → Copying r' (set s p (get_or r j 0)) (j + 1) k (p + 1) s₀ at v
  first_stored e =
      record {
        ordered = omega arith;
        inside = omega (arith, w.inside);
        room = rw (length-set s p (get_or r j 0)) (omega (arith, w.room));
        same_length = length-set s p (get_or r j 0) ∙ w.same_length;
        result = rw (e, add-one p) (rw (part_first r j k h w.inside) at w.result);
      }

  -- The last one is stored, at its place q.
  last_stored : (q : ℕ) → q ≡ p + (k - 1 - j) → part r' j (k - 1) ≡ part r j (k - 1) → Copying r' (set s q (get_or r (k - 1) 0)) j (k - 1) p s₀ at v
  last_stored q there e =
      record {
        ordered = omega arith;
        inside = omega (arith, w.inside);
        room = rw (length-set s q (get_or r (k - 1) 0)) (omega (arith, w.room));
        same_length = length-set s q (get_or r (k - 1) 0) ∙ w.same_length;
        result = rw (e, place) (sym (sets_last (part r j (k - 1)) s p (get_or r (k - 1) 0)) ∙ rw (part_last r j k h w.inside) at w.result);
      }
    where
      place : q ≡ p + length (part r j (k - 1))
      place = there ∙ ap (p +◌) (sym (length_part r j (k - 1) (omega (arith, w.inside))))

-- Between two buffers.
pub turn_between : {r s s₀ v : List ℕ} {j k p at : ℕ} → Copying r s j k p s₀ at v → j < k → Copying r (set s p (get_or r j 0)) (j + 1) k (p + 1) s₀ at v
turn_between {r} w h = first_stored w r h refl refl

-- Within one: the store does not touch what is left.
module _ {s s₀ v : List ℕ} {j k p at : ℕ} (w : Copying s s j k p s₀ at v) (h : j < k) where
  pub turn_left : (p' : ℕ) → p' ≡ p + 1 → p ≤ j → Copying (set s p (get_or s j 0)) (set s p (get_or s j 0)) (j + 1) k p' s₀ at v
  turn_left p' q l = rw q (first_stored w (set s p (get_or s j 0)) h (length-set s p (get_or s j 0)) (part_set_below s (j + 1) k p (get_or s j 0) (omega arith)))

  pub turn_right : (q : ℕ) → q ≡ p + (k - 1 - j) → k - 1 ≤ q → Copying (set s q (get_or s (k - 1) 0)) (set s q (get_or s (k - 1) 0)) j (k - 1) p s₀ at v
  turn_right q there l = last_stored w (set s q (get_or s (k - 1) 0)) h (length-set s q (get_or s (k - 1) 0)) q there (part_set_above s j (k - 1) q (get_or s (k - 1) 0) (omega arith) l)
