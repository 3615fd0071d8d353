-- Laws of reading a file's fields: what each test gives, how the groups follow one another, and which groups stand in an accepted file.
-- Assumes nothing.
use Prim.Native.Nat.{ℕ, zero, suc, ◌+◌, ◌%◌, ◌≤◌, ◌<◌}
use mathlib.Core.Path.{◌≡◌, refl, sym, ap, ◌∙◌, subst}
use mathlib.Core.Bool.{Bool, true, false, cond, not}
use mathlib.Core.List.{List, []}
use native.Mathlib.Omega.{arith}
use lib.ListN.{length, get_or}
use lib.Dec.{leb, ltb, eqb}
use borrow.Author.Tests.{leb-true, leb-false, ltb-false, eqb-true, lt-ltb, le-ltb, le-leb, lt-leb, eq-eqb, ne_eqb}
use Rattle.fields.specs.Fields.{Field, Fault, End}
use Rattle.fields.specs.Fields.{read_file, word, body_end, field_at, then_field, group_end, GroupAt, span_at, group_at, refused}
use Rattle.code.specs.Limits.{longest_file}
use Rattle.fields.specs.Fields.{Sequence, broken, sequence, first_then, then_sequence, sequence_from, groups_from, then_fields, with_groups, layout_with, Whole, GroupHere}

-- One field.
module _ (tag unit : ℕ) (s : List ℕ) (at : ℕ) where
  pub head_cut : length s < at + 3 → field_at tag unit s at ≡ Fault 1 at
  unfolding field_at
  head_cut h = simp (lt-ltb _ _ h)

  pub wrong_tag : at + 3 ≤ length s → (get_or s at 0 ≡ tag → ⊥) → field_at tag unit s at ≡ Fault 2 at
  unfolding field_at
  wrong_tag h t = simp (le-ltb _ _ h, ne_eqb _ _ t)

  pub body_cut : at + 3 ≤ length s → get_or s at 0 ≡ tag → length s < body_end s at → field_at tag unit s at ≡ Fault 1 at
  unfolding field_at
  body_cut h t b = simp (le-ltb _ _ h, eq-eqb _ _ t, lt-ltb _ _ b)

  pub no_multiple : at + 3 ≤ length s → get_or s at 0 ≡ tag → body_end s at ≤ length s → (word s (at + 1) % unit ≡ 0 → ⊥)
      → field_at tag unit s at ≡ Fault 2 at
  unfolding field_at
  no_multiple h t b m = simp (le-ltb _ _ h, eq-eqb _ _ t, le-ltb _ _ b, ne_eqb _ _ m)

  pub whole_ends : Whole tag unit s at → field_at tag unit s at ≡ End (body_end s at)
  unfolding field_at
  whole_ends w = simp (le-ltb _ _ w.head, eq-eqb _ _ w.tagged, le-ltb _ _ w.body, eq-eqb _ _ w.multiple)

-- What a field's tests leave: a refusal, or the whole field up to e.
pub data FieldView (tag unit : ℕ) (s : List ℕ) (at : ℕ) : Field → Type 0 where
  fault : {n p : ℕ} → (1 ≤ n) × (n ≤ 4) → FieldView tag unit s at (Fault n p)
  whole : {e : ℕ} → e ≡ body_end s at → Whole tag unit s at → FieldView tag unit s at (End e)

pub field_view : (tag unit : ℕ) (s : List ℕ) (at : ℕ) → FieldView tag unit s at (field_at tag unit s at)
unfolding field_at
field_view tag unit s at = go _ _ _ _ refl refl refl refl
  where
    go : (a b c d : Bool) → ltb (length s) (at + 3) ≡ a → eqb (get_or s at 0) tag ≡ b → ltb (length s) (body_end s at) ≡ c → eqb (word s (at + 1) % unit) 0 ≡ d
        → FieldView tag unit s at (cond a (Fault 1 at) (cond (not b) (Fault 2 at) (cond c (Fault 1 at) (cond (not d) (Fault 2 at) (End (body_end s at))))))
    go true b c d p q r m = fault {n = 1} (omega arith)
    go false false c d p q r m = fault {n = 2} (omega arith)
    go false true true d p q r m = fault {n = 1} (omega arith)
    go false true false false p q r m = fault {n = 2} (omega arith)
    go false true false true p q r m =
        whole refl (record { head = ltb-false _ _ p; tagged = eqb-true _ _ q; body = ltb-false _ _ r; multiple = eqb-true _ _ m })

pub record Ended (tag unit : ℕ) (s : List ℕ) (at e : ℕ) : Type 0 where
  pub is_whole : Whole tag unit s at
  pub is_end : e ≡ body_end s at

view_ended : {tag unit : ℕ} {s : List ℕ} {at e : ℕ} → FieldView tag unit s at (End e) → Ended tag unit s at e
view_ended (whole q w) = record { is_whole = w; is_end = q }

pub ended : (tag unit : ℕ) (s : List ℕ) (at : ℕ) {e : ℕ} → field_at tag unit s at ≡ End e → Ended tag unit s at e
ended tag unit s at q = view_ended (subst (FieldView tag unit s at) q (field_view tag unit s at))

-- One group.
pub record GroupEnded (s : List ℕ) (at e : ℕ) : Type 0 where
  pub here : GroupHere s at
  pub is_next : e ≡ (span_at s at).next
  pub longer : at + 6 ≤ e
  pub inside : e ≤ length s

pub data GroupView (s : List ℕ) (at : ℕ) : Field → Type 0 where
  fault : {n p : ℕ} → (1 ≤ n) × (n ≤ 4) → GroupView s at (Fault n p)
  whole : {e : ℕ} → GroupEnded s at e → GroupView s at (End e)

right_view : {s : List ℕ} {at m : ℕ} {f : Field} → m ≡ body_end s at → Whole 2 3 s at → FieldView 3 3 s m f → GroupView s at f
right_view q l (fault h) = fault h
right_view {s = s} {at = at} q l (whole {e = e} r w) =
    let right : Whole 3 3 s (body_end s at) = subst (Whole 3 3 s) q w in
    let next : e ≡ (span_at s at).next = r ∙ ap (body_end s) q in
    whole (record { here = record { left = l; right = right }; is_next = next; longer = omega arith; inside = omega (arith, right.body) })

pub group_view : (s : List ℕ) (at : ℕ) → GroupView s at (group_end s at)
unfolding group_end then_field
group_view s at = go (field_view 2 3 s at)
  where
    go : {f : Field} → FieldView 2 3 s at f → GroupView s at (then_field f (field_at 3 3 s))
    go (fault h) = fault h
    go (whole {e = m} q w) = right_view q w (field_view 3 3 s m)

view_group_ended : {s : List ℕ} {at e : ℕ} → GroupView s at (End e) → GroupEnded s at e
view_group_ended (whole g) = g

pub group_ended : (s : List ℕ) (at : ℕ) {e : ℕ} → group_end s at ≡ End e → GroupEnded s at e
group_ended s at q = view_group_ended (subst (GroupView s at) q (group_view s at))

pub here_ends : (s : List ℕ) (at : ℕ) → GroupHere s at → group_end s at ≡ End (span_at s at).next
unfolding group_end then_field
here_ends s at g = rw (whole_ends 2 3 s at g.left) (whole_ends 3 3 s (body_end s at) g.right)

pub left_fault : {n p : ℕ} (s : List ℕ) (at : ℕ) → field_at 2 3 s at ≡ Fault n p → Fault n p ≡ group_end s at
unfolding group_end then_field
left_fault s at q = rw q

pub left_end : {m : ℕ} (s : List ℕ) (at : ℕ) → field_at 2 3 s at ≡ End m → field_at 3 3 s m ≡ group_end s at
unfolding group_end then_field
left_end s at q = rw q

-- What stands one after the other, without the bound k: what is found from a place on.
module _ {A : Type 0} (end : ℕ → Field) (read : ℕ → A) (n : ℕ) where
  pub data Found : ℕ → Sequence A → Type 0 where
    done : {at : ℕ} → n ≤ at → Found at (sequence [])
    stop : {at m p : ℕ} → at < n → end at ≡ Fault m p → Found at (broken m p)
    more : {at m : ℕ} {q r : Sequence A} → at < n → end at ≡ End m → Found m q → r ≡ first_then (read at) q → Found at r

  module _ (longer : (at m : ℕ) → end at ≡ End m → at < m) where
    pub found : (k at : ℕ) → n ≤ k + at → Found at (sequence_from end read k n at)
    unfolding sequence_from then_sequence
    found zero at h = done {at = at} (omega arith)
    found (suc k) at h = go (leb n at) refl (end at) refl (λ m l. found k m (omega arith))
      where
        go : (b : Bool) → leb n at ≡ b → (f : Field) → end at ≡ f → ((m : ℕ) → at < m → Found m (sequence_from end read k n m))
            → Found at (cond b (sequence []) (then_sequence f (λ m. first_then (read at) (sequence_from end read k n m))))
        go true q f e ih = done {at = at} (leb-true n at q)
        go false q (Fault i p) e ih = stop {at = at} (leb-false n at q) e
        go false q (End m) e ih = more {at = at} (leb-false n at q) e (ih m (longer at m e)) refl

    pub found_only : (k : ℕ) {at : ℕ} {q : Sequence A} → n ≤ k + at → Found at q → sequence_from end read k n at ≡ q
    unfolding sequence_from then_sequence
    found_only zero h (done l) = refl
    found_only (suc k) h (done l) = rw (le-leb _ _ l)
    found_only zero h (stop l e) = absurd (omega arith)
    found_only (suc k) h (stop l e) = rw (lt-leb _ _ l, e)
    found_only zero h (more l e f q) = absurd (omega arith)
    found_only (suc k) h (more {at = at} {m = m} l e f q) = rw (lt-leb _ _ l, e) (ap (first_then (read at)) (found_only k (omega (arith, longer at m e)) f) ∙ sym q)

-- The groups of a file.
group_longer : (s : List ℕ) (at m : ℕ) → group_end s at ≡ End m → at < m
group_longer s at m e = omega (arith, (group_ended s at e).longer)

module _ (s : List ℕ) where
  pub groups_found : (at : ℕ) → Found (group_end s) (group_at s) (length s) at (groups_from s at)
  groups_found at = found (group_end s) (group_at s) (length s) (group_longer s) (length s) at (omega arith)

  pub groups_are : {at : ℕ} {q : Sequence GroupAt} → Found (group_end s) (group_at s) (length s) at q → groups_from s at ≡ q
  groups_are f = found_only (group_end s) (group_at s) (length s) (group_longer s) (length s) (omega arith) f

-- The groups from a place on, by what stands there.
pub no_groups : (s : List ℕ) (at : ℕ) → length s ≤ at → groups_from s at ≡ sequence []
no_groups s at h = groups_are s (done {at = at} h)

pub groups_fault : {n p : ℕ} (s : List ℕ) (at : ℕ) → at < length s → group_end s at ≡ Fault n p → groups_from s at ≡ broken n p
groups_fault s at h q = groups_are s (stop {at = at} h q)

pub groups_more : {m : ℕ} (s : List ℕ) (at : ℕ) → at < length s → group_end s at ≡ End m → groups_from s at ≡ first_then (group_at s at) (groups_from s m)
groups_more s at h q = groups_are s (more {at = at} h q (groups_found s _) refl)

-- A group more in the list, or counted before.
pub layout_group : (n e : ℕ) (g : GroupAt) (q : Sequence GroupAt) → layout_with n (with_groups e (first_then g q)) ≡ layout_with (n + 1) (with_groups e q)
unfolding with_groups first_then
layout_group n e g (broken k p) = refl
layout_group n e g (sequence gs) = let q : n + suc (length gs) ≡ n + 1 + length gs = omega arith in rw q

-- The file.
pub over_long : (s : List ℕ) → longest_file < length s → read_file s ≡ refused 4 0
unfolding read_file
over_long s h = simp (lt-ltb _ _ h)

pub term_fault : {n p : ℕ} (s : List ℕ) → length s ≤ longest_file → field_at 1 1 s 0 ≡ Fault n p → read_file s ≡ refused n p
unfolding read_file then_fields
term_fault s h q = rw (le-ltb _ _ h, q)

pub term_end_lem : {e : ℕ} (s : List ℕ) → length s ≤ longest_file → field_at 1 1 s 0 ≡ End e → read_file s ≡ with_groups e (groups_from s e)
unfolding read_file then_fields
term_end_lem s h q = rw (le-ltb _ _ h, q)
