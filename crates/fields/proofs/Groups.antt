-- The groups and the steps of an accepted file: which stand in it, and how they follow one another.
-- Assumes nothing.
use Prim.Native.Nat.{ℕ, suc, ◌+◌, ◌*◌, ◌-◌, ◌/◌, ◌≤◌, ◌<◌}
use mathlib.Core.Path.{◌≡◌, refl, sym, ap, ◌∙◌, subst}
use mathlib.Core.Bool.{Bool, true, false, cond}
use mathlib.Core.List.{List, [], ◌∷◌}
use native.Mathlib.Omega.{arith}
use lib.ListN.{length, length-take, length-drop}
use lib.Dec.{ltb}
use borrow.Author.Tests.{ltb-false}
use Rattle.fields.specs.Fields.{Field, Fault, End}
use Rattle.fields.specs.Fields.{Layout}
use Rattle.fields.specs.Fields.{body_end, read_step, steps_from, read_steps, GroupAt, span_at, group_at}
use Rattle.code.specs.Limits.{longest_file}
use Rattle.fields.specs.Fields.{group_end, Sequence, broken, sequence, first_then, groups_from, Fields, refused, accepted, then_fields, with_groups, read_file, layout_of, term_bytes}
use Rattle.fields.specs.Fields.{Whole, GroupHere, Groups, done, more, StepRange, First, GroupParts}
use Rattle.fields.specs.Claims.{HasFields, AcceptedLayout}
use Rattle.fields.proofs.Laws.{FieldView, fault, whole, field_view, GroupView, GroupEnded, group_view, group_ended, here_ends, whole_ends, Found, groups_found, groups_are, term_end_lem}
use Rattle.fields.proofs.Laws as found

pub none_left : {s : List ℕ} {at : ℕ} {gs : List GroupAt} → Groups s at gs → length s ≤ at → gs ≡ []
none_left (done q) h = refl
none_left (more g r) h = absurd (omega (arith, g.left.head))

pub some_left : {s : List ℕ} {at : ℕ} {gs : List GroupAt} → Groups s at gs → at < length s → GroupHere s at
some_left (done q) h = absurd (omega arith)
some_left (more g r) h = g

pub room : {s : List ℕ} {at : ℕ} {gs : List GroupAt} → Groups s at gs → at + 6 * length gs ≤ length s
room (done q) = omega arith
room (more g r) = omega (arith, room r)

-- Steps.
pub no_step : (s : List ℕ) (at : ℕ) → read_steps s at at ≡ []
unfolding steps_from
no_step s at = let q : (at - at) / 3 ≡ 0 = omega arith in rw q

pub next_step : {s : List ℕ} {from to : ℕ} → StepRange s from to → from < to
    → (read_steps s from to ≡ read_step s from ∷ read_steps s (from + 3) to) × StepRange s (from + 3) to
unfolding steps_from
next_step {from = from} {to = to} r h =
    let q : (to - from) / 3 ≡ suc ((to - (from + 3)) / 3) = omega arith in
    (rw q, record { ordered = omega arith; inside = r.inside; multiple = omega arith })

-- The parts of a group.
first : {s : List ℕ} {at : ℕ} {gs : List GroupAt} → GroupHere s at → Groups s at gs → First s at (span_at s at) gs
first h (done q) = absurd (omega (arith, h.left.head))
first h (more {gs = gs} g r) = record { rest = gs; all = refl; follow = r }

pub span_of : (s : List ℕ) (at : ℕ) → GroupHere s at → GroupParts s at (span_at s at)
span_of s at g =
    record {
      is_span = refl;
      longer = omega arith;
      left_steps = record { ordered = omega arith; inside = g.left.body; multiple = omega (arith, g.left.multiple) };
      right_steps = record { ordered = omega arith; inside = g.right.body; multiple = omega (arith, g.right.multiple) };
      first = λ gs r. first g r;
    }

-- What the groups from a place on leave: a refusal, or groups that stand there.
data GroupsView (s : List ℕ) (at : ℕ) : Sequence GroupAt → Type 0 where
  bad : {n p : ℕ} → (1 ≤ n) × (n ≤ 4) → GroupsView s at (broken n p)
  good : {gs : List GroupAt} → Groups s at gs → GroupsView s at (sequence gs)

with_group_lem : {s : List ℕ} {at m : ℕ} {q : Sequence GroupAt} → GroupEnded s at m → GroupsView s m q → GroupsView s at (first_then (group_at s at) q)
unfolding first_then
with_group_lem g (bad h) = bad h
with_group_lem {s = s} g (good {gs = gs} r) = good (more g.here (subst (λ (k : ℕ). Groups s k gs) g.is_next r))

view_fault : {s : List ℕ} {at n p : ℕ} → GroupView s at (Fault n p) → (1 ≤ n) × (n ≤ 4)
view_fault (fault h) = h

groups_view : {s : List ℕ} {at : ℕ} {q : Sequence GroupAt} → at ≤ length s → Found (group_end s) (group_at s) (length s) at q → GroupsView s at q
groups_view {at = at} i (found.done h) = good (done {at = at} (omega arith))
groups_view {s = s} {at = at} i (found.stop h e) = bad (view_fault (subst (GroupView s at) e (group_view s at)))
groups_view {s = s} {at = at} i (found.more {m = m} h e f q) =
    let g = group_ended s at e in
    rw q (with_group_lem g (groups_view g.inside f))

-- The same of a file.
data FileView (s : List ℕ) : Fields → Type 0 where
  bad : {n p : ℕ} → (1 ≤ n) × (n ≤ 4) → FileView s (refused n p)
  good : {e : ℕ} {gs : List GroupAt} → HasFields s e gs → FileView s (accepted e gs)

file_view : (s : List ℕ) → FileView s (read_file s)
unfolding read_file then_fields with_groups
file_view s = go (ltb longest_file (length s)) refl (field_view 1 1 s 0)
  where
    after : {e : ℕ} → length s ≤ longest_file → e ≡ body_end s 0 → Whole 1 1 s 0 → {q : Sequence GroupAt} → GroupsView s e q → FileView s (with_groups e q)
    after l r w (bad h) = bad h
    after l r w (good g) = good (record { fits = l; term = w; ends = r; groups = g })

    go : (b : Bool) → ltb longest_file (length s) ≡ b → {f : Field} → FieldView 1 1 s 0 f
        → FileView s (cond b (refused 4 0) (then_fields f (λ e. with_groups e (groups_from s e))))
    go true q v = bad {n = 4} (omega arith)
    go false q (fault h) = bad h
    go false q (whole {e = e} r w) = after (ltb-false longest_file (length s) q) r w (groups_view (omega (arith, w.body)) (groups_found s e))

-- All the groups that stand are read.
groups_stand : {s : List ℕ} {at : ℕ} {gs : List GroupAt} → Groups s at gs → Found (group_end s) (group_at s) (length s) at (sequence gs)
unfolding first_then
groups_stand {at = at} (done q) = found.done {at = at} (omega arith)
groups_stand {s = s} {at = at} (more g r) = found.more {at = at} (omega (arith, g.left.head)) (here_ends s at g) (groups_stand r) refl

pub accepts : {s : List ℕ} {e : ℕ} {gs : List GroupAt} → HasFields s e gs → read_file s ≡ accepted e gs
unfolding with_groups
accepts {s = s} {e = e} a =
    term_end_lem s a.fits (whole_ends 1 1 s 0 a.term ∙ ap End (sym a.ends)) ∙ ap (with_groups e) (groups_are s (groups_stand a.groups))

view_accepted : {s : List ℕ} {e : ℕ} {gs : List GroupAt} → FileView s (accepted e gs) → HasFields s e gs
view_accepted (good a) = a

pub accepted_only : (s : List ℕ) {e : ℕ} {gs : List GroupAt} → read_file s ≡ accepted e gs → HasFields s e gs
accepted_only s q = view_accepted (subst (FileView s) q (file_view s))

-- What the numbers of a file say of it.
data LayoutView (s : List ℕ) (r : Layout) : Type 0 where
  bad : (1 ≤ r.number) × (r.number ≤ 4) → read_file s ≡ refused r.number r.place → r.end ≡ 0 → LayoutView s r
  good : r.number ≡ 0 → AcceptedLayout s r → LayoutView s r

layout_view : (s : List ℕ) {r : Layout} → r ≡ layout_of (read_file s) → LayoutView s r
layout_view s e = subst (LayoutView s) (sym e) (go (file_view s) refl)
  where
    go : {F : Fields} → FileView s F → read_file s ≡ F → LayoutView s (layout_of F)
    go (bad h) q = bad h q refl
    go (good {gs = gs} a) q = good refl (record { place = refl; list = gs; counted = omega arith; is = a })

pub if_accepted : (s : List ℕ) {r : Layout} → r ≡ layout_of (read_file s) → r.number ≡ 0 → AcceptedLayout s r
if_accepted s {r = r} e n = go (layout_view s e)
  where
    go : LayoutView s r → AcceptedLayout s r
    go (bad h q z) = absurd (omega arith)
    go (good q a) = a

pub if_refused : (s : List ℕ) {r : Layout} → r ≡ layout_of (read_file s) → (r.number ≡ 0 → ⊥)
    → (read_file s ≡ refused r.number r.place) × (r.end ≡ 0)
if_refused s {r = r} e n = go (layout_view s e)
  where
    go : LayoutView s r → (read_file s ≡ refused r.number r.place) × (r.end ≡ 0)
    go (bad h q z) = (q, z)
    go (good q a) = absurd (n q)

pub numbers : (s : List ℕ) {n p : ℕ} → read_file s ≡ refused n p → (1 ≤ n) × (n ≤ 4)
numbers s q = go (subst (FileView s) q (file_view s))
  where
    go : {n p : ℕ} → FileView s (refused n p) → (1 ≤ n) × (n ≤ 4)
    go (bad h) = h

pub inside : (s : List ℕ) {r : Layout} → r ≡ layout_of (read_file s) → r.end ≤ length s
inside s {r = r} e = go (layout_view s e)
  where
    go : LayoutView s r → r.end ≤ length s
    go (bad h q z) = omega arith
    go (good q a) = omega (arith, a.is.ends, a.is.term.body)

pub term_length : {s : List ℕ} {e : ℕ} {gs : List GroupAt} → HasFields s e gs → 3 + length (term_bytes s e) ≡ e
term_length a = simp (length-take, length-drop) (omega (arith, a.ends, a.term.body))

pub few : {s : List ℕ} {e : ℕ} {gs : List GroupAt} → HasFields s e gs → 3 < e → length gs ≤ 10921
few a h = omega (arith, room a.groups, a.fits)
