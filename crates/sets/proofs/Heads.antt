-- The heads of a set: which files stand in it, and where a field is not whole.
-- Assumes nothing.
use Prim.Native.Nat.{ℕ, ◌+◌, ◌≤◌, ◌<◌}
use mathlib.Core.Path.{◌≡◌, refl, ap, ap₂, sym, ◌∙◌}
use mathlib.Core.Bool.{Bool, true, false, cond, true≢false}
use mathlib.Core.List.{List, [], ◌∷◌, ◌++◌, append_assoc}
use native.Mathlib.Omega.{arith}
use lib.ListN.{length, take, drop, length-append, length-drop}
use lib.Seq.{take-append_seam}
use lib.Dec.{ltb, eqb}
use borrow.Author.Tests.{le-ltb, ltb-true, ltb-false, eqb-true, ne_eqb}
use Rattle.code.specs.Code.{Bytes}
use Rattle.code.proofs.FirstZero.{no_length}
use Rattle.fields.specs.Fields.{Field, Fault, End}
use Rattle.fields.specs.Fields.{word, body_end, body_at, field_at, Whole, Sequence, broken, sequence, first_then}
use Rattle.fields.specs.Files.{write_field}
use Rattle.fields.proofs.Laws.{whole_ends, Ended, ended, Found, done, stop, more, found, found_only}
use Rattle.fields.proofs.Written.{written, field_only}
use Rattle.sets.specs.Sets.{longest_set, or_not_a_set, file_end, files_from, read_set}
use Rattle.sets.specs.Claims.{write_set, HoldsFiles, NoField}

-- ONE FIELD
file_ends : (s : List ℕ) (at : ℕ) → Whole 5 1 s at → file_end s at ≡ End (body_end s at)
unfolding file_end or_not_a_set
file_ends s at w = ap (or_not_a_set at) (whole_ends 5 1 s at w)

pub file_found : {f : Field} (s : List ℕ) (at : ℕ) → field_at 5 1 s at ≡ f → file_end s at ≡ or_not_a_set at f
unfolding file_end
file_found s at e = ap (or_not_a_set at) e

pub end_not_fault : {A : Type 0} {e n p : ℕ} → End e ≡ Fault n p → A
end_not_fault q = let z : ◌≡◌ {A = ℕ} 0 1 = cc in let y : ⊥ = omega arith in absurd y

pub file_ended : (s : List ℕ) (at : ℕ) {m : ℕ} → file_end s at ≡ End m → Ended 5 1 s at m
unfolding file_end or_not_a_set
file_ended s at {m} e = go (field_at 5 1 s at) refl e
  where
    go : (f : Field) → field_at 5 1 s at ≡ f → or_not_a_set at f ≡ End m → Ended 5 1 s at m
    go (Fault n p) q e = end_not_fault (sym e)
    go (End k) q e = ended 5 1 s at (q ∙ e)

file_longer : (s : List ℕ) (at m : ℕ) → file_end s at ≡ End m → at < m
file_longer s at m e = omega (arith, (file_ended s at e).is_end)

file_fault : (s : List ℕ) (at : ℕ) {n p : ℕ} → file_end s at ≡ Fault n p → (n ≡ 16) × (p ≡ at)
unfolding file_end or_not_a_set
file_fault s at {n} {p} e = go (field_at 5 1 s at) e
  where
    go : (f : Field) → or_not_a_set at f ≡ Fault n p → (n ≡ 16) × (p ≡ at)
    go (Fault m q) e = (cc, cc)
    go (End k) e = end_not_fault e

-- ALL FIELDS
pub files_found : (s : List ℕ) (at : ℕ) → Found (file_end s) (body_at s) (length s) at (files_from s at)
files_found s at = found (file_end s) (body_at s) (length s) (file_longer s) (length s) at (omega arith)

pub files_are : (s : List ℕ) {at : ℕ} {q : Sequence (List ℕ)} → Found (file_end s) (body_at s) (length s) at q → files_from s at ≡ q
files_are s f = found_only (file_end s) (body_at s) (length s) (file_longer s) (length s) (omega arith) f

-- no whole field stands where its tests failed
no_field : (s : List ℕ) (at : ℕ) {n p : ℕ} → file_end s at ≡ Fault n p → (f w : List ℕ) → drop at s ≡ write_field 5 f ++ w → ⊥
no_field s at e f w q =
    let h = (written f w {s = s} {at = at} (record { is = q })).whole 1 (omega arith) in
    end_not_fault (sym (file_ends s at h) ∙ e)

-- what the fields from a place on leave: a place where none is whole, or files and nothing else
data Left (s : List ℕ) (at : ℕ) : Sequence (List ℕ) → Type 0 where
  bad : (fs : List (List ℕ)) (rest : List ℕ) {p : ℕ} → drop at s ≡ write_set fs ++ rest → p ≡ at + length (write_set fs)
      → ((f w : List ℕ) → rest ≡ write_field 5 f ++ w → ⊥) → 0 < length rest → Left s at (broken 16 p)
  good : {fs : List (List ℕ)} → drop at s ≡ write_set fs → Left s at (sequence fs)

with_file : {s : List ℕ} {at m : ℕ} {q : Sequence (List ℕ)} (f : List ℕ) → drop at s ≡ write_field 5 f ++ drop m s → m ≡ at + 3 + length f → Left s m q → Left s at (first_then f q)
unfolding first_then write_set
with_file {s} {at} {m} f d e (bad fs rest {p = p} h l n r) =
    bad (f ∷ fs) rest {p = p} (d ∙ ap (λ (w : List ℕ). write_field 5 f ++ w) h ∙ sym (append_assoc (write_field 5 f) (write_set fs) rest)) (omega (arith, length-append f (write_set fs))) n r
with_file f d e (good {fs = fs} h) = good {fs = f ∷ fs} (d ∙ ap (λ (w : List ℕ). write_field 5 f ++ w) h)

pub body_length : (s : List ℕ) (at : ℕ) → Whole 5 1 s at → length (body_at s at) ≡ word s (at + 1)
body_length s at w = simp (lib.ListN.length-take, length-drop) (omega (arith, w.body))

left : (s : List ℕ) → Bytes s → {at : ℕ} {q : Sequence (List ℕ)} → at ≤ length s → Found (file_end s) (body_at s) (length s) at q → Left s at q
unfolding write_set
left s b {at} i (done h) = good {fs = []} (lib.ListN.drop_of_length-le s {i = at} (omega arith))
left s b {at} i (stop {m = n} {p = p} h e) =
    let k = file_fault s at e in
    rw k.0 (bad [] (drop at s) {p = p} refl (omega arith) (no_field s at e) (omega (arith, length-drop at s)))
left s b {at} i (more {m = m} h e f q) =
    let g = file_ended s at e in
    let d = field_only s (record { small = b }) (body_at s at) g.is_whole refl in
    rw q (with_file (body_at s at) (d ∙ ap (λ (k : ℕ). write_field 5 (body_at s at) ++ drop k s) (sym g.is_end)) (omega (arith, body_length s at g.is_whole, g.is_end))
    (left s b (omega (arith, g.is_end, g.is_whole.body)) f))

-- files that are written are found
stand : (s : List ℕ) (fs : List (List ℕ)) {at : ℕ} → at ≤ length s → drop at s ≡ write_set fs → Found (file_end s) (body_at s) (length s) at (sequence fs)
unfolding write_set first_then
stand s [] {at} i h = done {at = at} (omega (arith, sym (length-drop at s) ∙ ap length h))
stand s (f ∷ fs) {at} i h =
    let w = written f (write_set fs) {s = s} {at = at} (record { is = h }) in
    let k = w.whole 1 (omega arith) in
    let n : word s (at + 1) ≡ length f = omega (arith, w.ends) in
    let same : body_at s at ≡ f = ap₂ (λ (m : ℕ) (l : List ℕ). take m l) n w.body.is ∙ take-append_seam f (write_set fs) in
    more {at = at} (omega (arith, k.head)) (file_ends s at k) (stand s fs k.body w.rest.is) (ap (λ (l : List ℕ). sequence (l ∷ fs)) (sym same))

-- THE SET
-- what a set is read as: over the length; not a set; or files
pub data SetView (s : List ℕ) : Sequence (List ℕ) → Type 0 where
  over : longest_set < length s → SetView s (broken 4 0)
  cut : (fs : List (List ℕ)) (rest : List ℕ) → length s ≤ longest_set → s ≡ write_set fs ++ rest → NoField fs rest → SetView s (broken 16 (length (write_set fs)))
  files : {fs : List (List ℕ)} → HoldsFiles s fs → SetView s (sequence fs)

nothing_whole : (f w : List ℕ) → [] ≡ write_field 5 f ++ w → ⊥
nothing_whole f w q = omega (arith, ap length q)

pub set_view : (s : List ℕ) → Bytes s → SetView s (read_set s)
unfolding read_set write_set
set_view s b = go (ltb longest_set (length s)) refl (eqb (length s) 0) refl (left s b (omega arith) (files_found s 0))
  where
    some : (fs : List (List ℕ)) → s ≡ write_set fs → (eqb (length s) 0 ≡ false) → 0 < length fs
    some [] q e = let z : eqb (length s) 0 ≡ true = ap (λ (l : List ℕ). eqb (length l) 0) q in let y : true ≡ false = sym z ∙ e in absurd (true≢false y)
    some (f ∷ fs) q e = omega arith

    inside : {q : Sequence (List ℕ)} → length s ≤ longest_set → eqb (length s) 0 ≡ false → Left s 0 q → SetView s q
    inside l e (bad fs rest {p = p} h r n k) = let j : p ≡ length (write_set fs) = omega arith in rw j (cut fs rest l h (record { none_whole = n; due = λ z. absurd (omega (arith, ap length z)) }))
    inside l e (good {fs = fs} h) = files (record { fits = l; some_file = some fs h e; written = h })

    go : (x : Bool) → ltb longest_set (length s) ≡ x → (y : Bool) → eqb (length s) 0 ≡ y → Left s 0 (files_from s 0)
        → SetView s (cond x (broken 4 0) (cond y (broken 16 0) (files_from s 0)))
    go true e y d v = over (ltb-true longest_set (length s) e)
    go false e true d v = let z = no_length s (eqb-true (length s) 0 d) in cut [] [] (ltb-false longest_set (length s) e) z (record { none_whole = nothing_whole; due = λ _. refl })
    go false e false d v = inside (ltb-false longest_set (length s) e) d v

nonempty : (fs : List (List ℕ)) → 0 < length fs → 0 < length (write_set fs)
unfolding write_set
nonempty [] k = absurd (omega arith)
nonempty (f ∷ fs) k = omega arith

pub holding : {s : List ℕ} {fs : List (List ℕ)} → HoldsFiles s fs → read_set s ≡ sequence fs
unfolding read_set
holding {s} {fs} h =
    let n = nonempty fs h.some_file in
    simp (le-ltb _ _ h.fits, ne_eqb (length s) 0 (λ e. omega (arith, ap length h.written))) (files_are s (stand s fs (omega arith) h.written))
