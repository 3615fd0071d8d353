-- The two passes over a set: its heads, and its files.
-- Assumes nothing.
use Prim.Native.Nat.{ℕ, ◌+◌, ◌≤◌, ◌<◌}
use mathlib.Core.Path.{◌≡◌, refl, ap, sym, ◌∙◌, subst}
use mathlib.Core.Bool.{Bool, true, false, cond}
use mathlib.Core.List.{List, ◌∷◌}
use native.Mathlib.Omega.{arith}
use lib.ListN.{length}
use lib.Dec.{ltb, eqb}
use borrow.Author.Tests.{lt-ltb, le-ltb, eq-eqb, ne_eqb}
use Rattle.fields.specs.Fields.{Fault, End}
use Rattle.fields.specs.Fields.{body_end, body_at, field_at, Whole, Sequence, broken, sequence, first_then}
use Rattle.fields.proofs.Laws.{Found, done, stop, more}
use Rattle.files.specs.Check.{check_file}
use Rattle.std.proofs.Common.{Ok, Err}
use Rattle.code.proofs.Refusals.{refusal_number}
use Rattle.checker.specs.Answer.{CheckAnswer, check_says, CheckedAs}
use Rattle.checker.specs.declared.Checked.{Checked}
use Rattle.checker.specs.declared.Refused.{Refused}
use Rattle.sets.specs.Sets.{longest_set, or_not_a_set, file_end, files_from, read_set, refused_set, accepted_set, check_files, check_from, check_set, set_says}
use Rattle.sets.specs.Clauses.{heads_of, WholeFrom}
use Rattle.sets.proofs.Heads.{end_not_fault, file_found, file_ended, files_found, files_are, body_length}

-- THE HEADS
module _ (s : List ℕ) where
  pub over_length : longest_set < length s → Fault 4 0 ≡ heads_of (length s) (read_set s)
  unfolding heads_of read_set
  over_length h = rw (lt-ltb _ _ h)

  pub empty : length s ≤ longest_set → length s ≡ 0 → Fault 16 0 ≡ heads_of (length s) (read_set s)
  unfolding heads_of read_set
  empty h e = rw (le-ltb _ _ h, eq-eqb _ _ e)

  pub starts : length s ≤ longest_set → (length s ≡ 0 → ⊥) → read_set s ≡ files_from s 0
  unfolding read_set
  starts h e = rw (le-ltb _ _ h, ne_eqb _ _ e)

  pub head_faulty : {at n p : ℕ} → at < length s → field_at 5 1 s at ≡ Fault n p → heads_of (length s) (files_from s at) ≡ Fault 16 at
  unfolding heads_of or_not_a_set
  head_faulty {at} h e = ap (heads_of (length s)) (files_are s (stop {at = at} h (file_found s at e)))

  next_file : {at m : ℕ} → at < length s → field_at 5 1 s at ≡ End m → files_from s at ≡ first_then (body_at s at) (files_from s m)
  unfolding or_not_a_set
  next_file {at} {m} h e = files_are s (more {at = at} h (file_found s at e) (files_found s m) refl)

  pub head_whole : {at m : ℕ} → at < length s → field_at 5 1 s at ≡ End m → heads_of (length s) (files_from s m) ≡ heads_of (length s) (files_from s at)
  unfolding heads_of first_then
  head_whole {at} {m} h e = sym (same (body_at s at) (files_from s m)) ∙ ap (heads_of (length s)) (sym (next_file h e))
    where
      same : (f : List ℕ) (q : Sequence (List ℕ)) → heads_of (length s) (first_then f q) ≡ heads_of (length s) q
      same f (broken n p) = refl
      same f (sequence fs) = refl

  pub heads_end : {at : ℕ} → at ≤ length s → length s ≤ at → End at ≡ heads_of (length s) (files_from s at)
  unfolding heads_of
  heads_end {at} h l = let e : at ≡ length s = omega arith in ap End e ∙ sym (ap (heads_of (length s)) (files_are s (done {at = at} l)))

  pub heads_refuse : {n p : ℕ} → Fault n p ≡ heads_of (length s) (read_set s) → refused_set n p ≡ check_set s
  unfolding heads_of check_set check_from
  heads_refuse {n} {p} e = go (read_set s) e
    where
      go : (q : Sequence (List ℕ)) → Fault n p ≡ heads_of (length s) q → refused_set n p ≡ check_from 0 0 q
      go (broken m r) e = let x : n ≡ m = cc in let y : p ≡ r = cc in rw (x, y) refl
      go (sequence fs) e = end_not_fault (sym e)

  -- where the heads are whole, the set is read from its start
  pub record Starts : Type 0 where
    pub read : read_set s ≡ files_from s 0
    pub first : WholeFrom s 0

  pub heads_whole : {m : ℕ} → End m ≡ heads_of (length s) (read_set s) → Starts
  unfolding heads_of read_set
  heads_whole {m} e = go (ltb longest_set (length s)) (eqb (length s) 0) refl e
    where
      first : (q : Sequence (List ℕ)) → files_from s 0 ≡ q → End m ≡ heads_of (length s) q → WholeFrom s 0
      first (broken n p) h e = end_not_fault e
      first (sequence fs) h e = record { files = fs; are = h }

      go : (x y : Bool) → read_set s ≡ cond x (broken 4 0) (cond y (broken 16 0) (files_from s 0)) → End m ≡ heads_of (length s) (cond x (broken 4 0) (cond y (broken 16 0) (files_from s 0))) → Starts
      go true y h e = end_not_fault e
      go false true h e = end_not_fault e
      go false false h e = record { read = h; first = first (files_from s 0) refl e }

-- THE FILES
-- the first of the files from a place on
pub record Here (s : List ℕ) (at : ℕ) : Type 0 where
  pub is_whole : Whole 5 1 s at
  pub rest : WholeFrom s (body_end s at)
  pub all : files_from s at ≡ sequence (body_at s at ∷ rest.files)

broken_not_sequence : {A : Type 0} {n p : ℕ} {fs : List (List ℕ)} → broken n p ≡ sequence fs → A
broken_not_sequence q = let z : ◌≡◌ {A = ℕ} 0 1 = cc in let y : ⊥ = omega arith in absurd y

pub here : {s : List ℕ} {at : ℕ} → WholeFrom s at → at < length s → Here s at
unfolding first_then
here {s} {at} w l = go (files_found s at) w.are
  where
    after : {m : ℕ} (q : Sequence (List ℕ)) → m ≡ body_end s at → Whole 5 1 s at → files_from s m ≡ q → files_from s at ≡ first_then (body_at s at) q
        → first_then (body_at s at) q ≡ sequence w.files → Here s at
    after (broken n p) e k h j z = broken_not_sequence z
    after (sequence fs) e k h j z = record { is_whole = k; rest = record { files = fs; are = ap (files_from s) (sym e) ∙ h }; all = j }

    go : {q : Sequence (List ℕ)} → Found (file_end s) (body_at s) (length s) at q → q ≡ sequence w.files → Here s at
    go (done h) z = absurd (omega arith)
    go (stop h e) z = broken_not_sequence z
    go (more {m = m} {q = q} h e f r) z =
        let g = file_ended s at e in
        after q g.is_end g.is_whole (files_are s f) (files_are s (more {at = at} h e f refl)) (sym r ∙ z)

module _ {s : List ℕ} {at : ℕ} (h : Here s at) {f : List ℕ} (f_is : f ≡ body_at s at) where
  pub next_place : at + (3 + length f) ≡ body_end s at
  next_place = omega (arith, ap length f_is, body_length s at h.is_whole)

  module _ {r : CheckAnswer} (checked : CheckedAs r (check_file f)) (i c : ℕ) where
    same : CheckedAs r (check_file (body_at s at))
    same = subst (λ (g : List ℕ). CheckedAs r (check_file g)) f_is checked

    refused : (r.number ≡ 0 → ⊥) → record { file = i; number = r.number; place = r.place; comparisons = r.comparisons; degree = r.degree } ≡ check_from i c (files_from s at)
    unfolding check_from check_files
    refused n = rw (h.all, ne_eqb _ _ (λ e. n (same.number_is ∙ e)), same.number_is, same.place_is, same.comparisons_is, same.degree_is) refl

    accepted : r.number ≡ 0 → check_from (i + 1) (c + r.comparisons) (files_from s (at + (3 + length f))) ≡ check_from i c (files_from s at)
    unfolding check_from check_files
    accepted n = rw (next_place, h.rest.are, h.all, eq-eqb _ _ (sym same.number_is ∙ n), same.comparisons_is) refl

  pub file_refused : (x : Refused) → CheckedAs (check_says (Err x)) (check_file f) → (i c : ℕ) → set_says (Err (record { file = i; refused = x })) ≡ check_from i c (files_from s at)
  file_refused x a i c = refused a i c (λ z. omega (arith, refusal_number x.refusal.condition))

  pub file_accepted : (x : Checked) → CheckedAs (check_says (Ok x)) (check_file f) → (i c : ℕ) → check_from (i + 1) (c + x.comparisons) (files_from s (at + (3 + length f))) ≡ check_from i c (files_from s at)
  file_accepted x a i c = accepted a i c refl

pub files_end : (s : List ℕ) {at : ℕ} → length s ≤ at → (i c : ℕ) → accepted_set i c ≡ check_from i c (files_from s at)
unfolding check_from check_files
files_end s {at} l i c = sym (ap (check_from i c) (files_are s (done {at = at} l)))
