-- What a body holds after the library's methods have moved a part of it, or a loop has written one.
-- Assumes nothing.
use Prim.Native.Nat.{ℕ, ◌+◌, ◌-◌, ◌≤◌, ◌<◌}
use mathlib.Core.Path.{◌≡◌, refl, ap, sym, ◌∙◌}
use mathlib.Core.List.{List, ◌++◌, append_assoc, append-nil}
use native.Mathlib.Omega.{arith}
use native.Mathlib.Nat.{zero-add}
use borrow.Rule.Slice.PartMut.{put_mid}
use lib.ListN.{length, get_or, set, take, drop, take-append-drop}
use lib.Seq.{paste, sets, sets-eq, length-sets, drop-drop}
use Rattle.std.proofs.lemmas.List.{drop_all}
use Rattle.std.proofs.lemmas.List.Edits.{paste_more, paste_all}
use Rattle.std.proofs.lemmas.Slice.{put_mid-paste}
use Rattle.parts.specs.Parts.{part, Copied}
use Rattle.parts.proofs.Cut.{length_part}

-- After a write to the part of k letters from `at` on.
pub stored : (s v : List ℕ) (at k : ℕ) → length v ≡ k → at + k ≤ length s → put_mid at k s v ≡ sets s at v
stored s v at k q l =
    put_mid-paste at k s v v k refl refl (sym q) ∙ paste_all s at v k (sym q) ∙ sym (append_assoc (take at s) v (drop (at + k) s))
    ∙ ap (λ z. (take at s ++ v) ++ drop (at + z) s) (sym q) ∙ sym (sets-eq v s at (omega (arith, q)))

-- After `copy_within`.
pub moved_within : {s s' : List ℕ} {from to at : ℕ} → to ≤ length s → at + (to - from) ≤ length s → s' ≡ paste s at (drop from s) (to - from) → Copied s from to s s' at
moved_within {s} {s'} {from} {to} {at} l m q = record { bytes = now; same_length = ap length now ∙ length-sets s at (part s from to) }
  where
    now : s' ≡ sets s at (part s from to)
    now = let k = length_part s from to l in q ∙ ap (λ z. (take at s ++ part s from to) ++ drop (at + z) s) (sym k) ∙ sym (sets-eq (part s from to) s at (omega (arith, k)))

-- ---- A loop that stores the numbers s, one after the other, over all of d.
pub storing_more : (d s : List ℕ) {e : List ℕ} (i : ℕ) {y : ℕ} → length d ≡ length s → i < length s → e ≡ paste d 0 s i → y ≡ get_or s i 0 → set e i y ≡ paste d 0 s (i + 1)
storing_more d s i m l q r = rw (q, r) (ap (λ j. set (paste d 0 s i) j (get_or s i 0)) (sym (zero-add i)) ∙ paste_more d 0 s i 0 (omega arith) l)

pub storing_all : (d s : List ℕ) {e : List ℕ} (i : ℕ) → length d ≡ length s → i ≡ length s → e ≡ paste d 0 s i → e ≡ s
storing_all d s i m l q = q ∙ paste_all d 0 s i l ∙ ap (s ++◌) (drop_all (0 + i) d (omega arith)) ∙ append-nil s

-- ---- A part stored over itself changes nothing.
sets_over : (s : List ℕ) (from to : ℕ) → from ≤ to → to ≤ length s → sets s from (part s from to) ≡ s
sets_over s from to a b =
    sets-eq (part s from to) s from (omega (arith, length_part s from to b))
    ∙ ap (λ (r : List ℕ). take from s ++ part s from to ++ r) (ap (λ k. drop (from + k) s) (length_part s from to b) ∙ sym (drop-drop (to - from) from s))
    ∙ append_assoc (take from s) (part s from to) (drop (to - from) (drop from s))
    ∙ ap (λ (r : List ℕ). take from s ++ r) (take-append-drop (to - from) (drop from s))
    ∙ take-append-drop from s

pub stays : {s : List ℕ} {from to at : ℕ} → from ≤ to → to ≤ length s → at ≡ from → Copied s from to s s at
stays {s} {from} {to} a b q = record { bytes = sym (ap (λ k. sets s k (part s from to)) q ∙ sets_over s from to a b); same_length = refl }
