-- What a body holds after the library's methods have moved or changed a part of it.
-- Assumes nothing.
use Prim.Native.Nat.{ℕ, ◌+◌, ◌-◌, ◌≤◌, ◌<◌}
use mathlib.Core.Path.{◌≡◌, ap, sym, ◌∙◌}
use mathlib.Core.List.{List, ◌++◌, map}
use native.Mathlib.Omega.{arith}
use native.Mathlib.Nat.{sub-zero}
use borrow.Rule.Slice.PartMut.{put_mid}
use lib.ListN.{length, get_or, set, take, drop, length-append, length-drop, length-map}
use lib.Seq.{sets, length-sets, length-take-le}
use Rattle.std.proofs.lemmas.List.{drop_more, get_or_at, get_or_default}
use Rattle.std.proofs.lemmas.List.Edits.{map_over_more}
use Rattle.parts.specs.Parts.{part, Copied}
use Rattle.parts.proofs.Cut.{length_part}
use Rattle.bodies.specs.Moving.{Mapped}
use Rattle.bodies.proofs.Storing.{stored}

-- After `copy_from_slice` of the first n of r.
pub copied_start : {r s v : List ℕ} {n at k : ℕ} → n ≤ length r → at + n ≤ length s → k ≡ n → v ≡ take n r → Copied r 0 n s (put_mid at k s v) at
copied_start {r} {s} {v} {n} {at} {k} l m e q = record { bytes = now; same_length = ap length now ∙ length-sets s at (part r 0 n) }
  where
    now : put_mid at k s v ≡ sets s at (part r 0 n)
    now = let i : take n r ≡ part r 0 n = ap (λ z. take z r) (sym (sub-zero n)) in rw (e, q, i) (stored s (part r 0 n) at n (length_part r 0 n l ∙ sub-zero n) m)

-- After each letter of a part is changed in its place.
pub mapped_part : {g : ℕ → ℕ} {s v : List ℕ} {from to : ℕ} → from ≤ to → to ≤ length s → v ≡ map g (part s from to) → Mapped g s s (put_mid from (to - from) s v) from to from
mapped_part {g} {s} {v} {from} {to} o l q = record { letters_there = now; same_length = ap length now ∙ length-sets s from (map g (part s from to)) }
  where
    now : put_mid from (to - from) s v ≡ sets s from (map g (part s from to))
    now = rw q (stored s (map g (part s from to)) from (to - from) (length-map (part s from to) g ∙ length_part s from to l) (omega arith))

-- ---- A loop that changes each letter of s in its place: the first i are changed.
module _ (g : ℕ → ℕ) (s : List ℕ) {e : List ℕ} (i : ℕ) (l : i < length s) (q : e ≡ map g (take i s) ++ drop i s) where
  before : length (map g (take i s)) ≡ i
  before = length-map (take i s) g ∙ length-take-le i s (omega arith)

  pub changing_letter : get_or e i 0 ≡ get_or s i 0
  changing_letter = rw (q, drop_more s i 0 l) (get_or_at (map g (take i s)) (get_or s i 0) (drop (i + 1) s) 0 i before)

  pub changing_next : {y : ℕ} → y ≡ g (get_or e i 0) → set e i y ≡ map g (take (i + 1) s) ++ drop (i + 1) s
  changing_next r = rw r (map_over_more g s e i (get_or e i 0) l q (get_or_default e i 0 (get_or e i 0) (omega (arith, ap length q, length-append (map g (take i s)) (drop i s), before, length-drop i s))))
