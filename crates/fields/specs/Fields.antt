-- The fields of a file (document 01, 'The file'): what is refused, in its order, and what an accepted file holds.
-- Assumes nothing.
use Rattle.std.specs.Prelude.{ℕ, zero, suc, ◌+◌, ◌*◌, ◌-◌, ◌/◌, ◌%◌, ◌≤◌, ◌≡◌, cond, not, Result, Ok, Err, List, [], ◌∷◌, length, get_or, take, drop, leb, ltb, eqb}
use Rattle.calculus.specs.Steps.{Step}
use Rattle.calculus.specs.Rules.{Group}
use Rattle.code.specs.Limits.{longest_file}
use Rattle.code.specs.Refusals.{cut_short, wrong_field, too_long}
use Rattle.code.specs.Refusals as refusals
use Rattle.code.specs.Refusals.{number_of}
use Rattle.code.specs.declared.refusal.Refusal.{Refusal}
use Rattle.fields.specs.declared.Layout as code_layout
use Rattle.fields.specs.declared.GroupSpan.{GroupSpan}

-- A field: its end, or the number and the place of its refusal.
pub data Field : Type 0 where
  Fault : (number place : ℕ) → Field
  End : (end : ℕ) → Field

-- What the code answers of a field says this.
abbrev pub field_says : Result ℕ Refusal → Field
field_says (Ok e) = End e
field_says (Err r) = Fault (number_of r.condition) r.place

-- A file: the number (0 where accepted) and place of the refusal; the end of the term's body; how many groups.
pub record Layout : Type 0 where
  pub number : ℕ
  pub place : ℕ
  pub end : ℕ
  pub groups : ℕ

-- What the code answers of a file says this.
abbrev pub layout_says : Result code_layout.Layout Refusal → Layout
layout_says (Ok l) = record { number = refusals.accepted; place = 0; end = l.end; groups = l.groups }
layout_says (Err r) = record { number = number_of r.condition; place = r.place; end = 0; groups = 0 }

-- The number in two bytes, high byte first.
unfoldable pub word : List ℕ → ℕ → ℕ
word s at = get_or s at 0 * 256 + get_or s (at + 1) 0

-- Where the body of the field at a place ends.
abbrev pub body_end : List ℕ → ℕ → ℕ
body_end s at = at + 3 + word s (at + 1)

-- The field at a place, where tag is due and the body is a multiple of unit bytes: its end, or the number and place of its refusal.
-- Head whole, tag, body whole, multiple.
unfoldable pub field_at : (tag unit : ℕ) → List ℕ → ℕ → Field
field_at tag unit s at =
    cond (ltb (length s) (at + 3)) (Fault cut_short at)
    (cond (not (eqb (get_or s at 0) tag)) (Fault wrong_field at)
    (cond (ltb (length s) (body_end s at)) (Fault cut_short at)
    (cond (not (eqb (word s (at + 1) % unit) 0)) (Fault wrong_field at)
    (End (body_end s at)))))

-- What follows a field, at its end.
unfoldable pub then_field : Field → (ℕ → Field) → Field
then_field (Fault n p) f = Fault n p
then_field (End e) f = f e

-- A group: a tag 2 field, and a tag 3 field after it.
unfoldable pub group_end : List ℕ → ℕ → Field
group_end s at = then_field (field_at 2 3 s at) (field_at 3 3 s)

-- The step in three bytes, and n steps from a place.
abbrev pub read_step : List ℕ → ℕ → Step
read_step s at = record { kind = get_or s at 0; place = word s (at + 1) }

unfoldable pub steps_from : ℕ → List ℕ → ℕ → List Step
steps_from zero s at = []
steps_from (suc n) s at = read_step s at ∷ steps_from n s (at + 3)

-- The steps that stand from one place up to another.
abbrev pub read_steps : List ℕ → ℕ → ℕ → List Step
read_steps s from to = steps_from ((to - from) / 3) s from

-- A group and the place of its tag 2 head in the file.
pub record GroupAt : Type 0 where
  pub head : ℕ
  pub group : Group

-- The parts of the group at a place.
abbrev pub span_at : List ℕ → ℕ → GroupSpan
span_at s at =
    let m = body_end s at in
    record { left = at + 3; middle = m; right = m + 3; next = body_end s m }

abbrev pub group_in : List ℕ → GroupSpan → Group
group_in s g = record { left = read_steps s g.left g.middle; right = read_steps s g.right g.next }

abbrev pub group_at : List ℕ → ℕ → GroupAt
group_at s at = record { head = at; group = group_in s (span_at s at) }

-- What stands one after the other: the number and place of a refusal, or all of it in order.
pub data Sequence (A : Type 0) : Type 0 where
  broken : (number place : ℕ) → Sequence A
  sequence : List A → Sequence A

unfoldable pub first_then : {A : Type 0} → A → Sequence A → Sequence A
first_then a (broken n p) = broken n p
first_then a (sequence l) = sequence (a ∷ l)

unfoldable pub then_sequence : {A : Type 0} → Field → (ℕ → Sequence A) → Sequence A
then_sequence (Fault n p) f = broken n p
then_sequence (End e) f = f e

-- What stands from a place on up to the end n, where `end` tests what is at a place and `read` reads it. k bounds how much there is: the
-- number of the bytes left is enough.
unfoldable pub sequence_from : {A : Type 0} → (end : ℕ → Field) → (read : ℕ → A) → (k n at : ℕ) → Sequence A
sequence_from end read zero n at = sequence []
sequence_from end read (suc k) n at =
    cond (leb n at) (sequence []) (then_sequence (end at) (λ m. first_then (read at) (sequence_from end read k n m)))

-- The groups from a place on.
abbrev pub groups_from : List ℕ → ℕ → Sequence GroupAt
groups_from s at = sequence_from (group_end s) (group_at s) (length s) (length s) at

-- What the fields of a file give: a refusal's number and place, or the end of the term's body, which starts at 3, and the groups.
pub data Fields : Type 0 where
  refused : (number place : ℕ) → Fields
  accepted : (end : ℕ) → List GroupAt → Fields

unfoldable pub then_fields : Field → (ℕ → Fields) → Fields
then_fields (Fault n p) f = refused n p
then_fields (End e) f = f e

-- The groups after the term, whose body ends at e.
unfoldable pub with_groups : ℕ → Sequence GroupAt → Fields
with_groups e (broken n p) = refused n p
with_groups e (sequence gs) = accepted e gs

-- The file: its length, the term's field, the groups.
unfoldable pub read_file : List ℕ → Fields
unfolding word field_at then_field group_end steps_from first_then then_sequence sequence_from then_fields with_groups
read_file s = cond (ltb longest_file (length s)) (refused too_long 0) (then_fields (field_at 1 1 s 0) (λ e. with_groups e (groups_from s e)))

-- The same in numbers: number and place, the end of the term's body (0 where refused), and how many groups, n and those that follow.
abbrev pub layout_with : ℕ → Fields → Layout
layout_with n (refused k p) = record { number = k; place = p; end = 0; groups = 0 }
layout_with n (accepted e gs) = record { number = refusals.accepted; place = 0; end = e; groups = n + length gs }

abbrev pub layout_of : Fields → Layout
layout_of = layout_with 0

-- The body of the field at a place.
abbrev pub body_at : List ℕ → ℕ → List ℕ
body_at s at = take (word s (at + 1)) (drop (at + 3) s)

-- The bytes of the term in a file whose term's body ends at e.
abbrev pub term_bytes : List ℕ → ℕ → List ℕ
term_bytes s e = take (e - 3) (drop 3 s)

-- A field that passes its tests.
pub record Whole (tag unit : ℕ) (s : List ℕ) (at : ℕ) : Type 0 where
  pub head : at + 3 ≤ length s
  pub tagged : get_or s at 0 ≡ tag
  pub body : body_end s at ≤ length s
  pub multiple : word s (at + 1) % unit ≡ 0

-- A group stands at a place.
pub record GroupHere (s : List ℕ) (at : ℕ) : Type 0 where
  pub left : Whole 2 3 s at
  pub right : Whole 3 3 s (body_end s at)

-- The groups gs stand in s from a place on, and end it.
pub data Groups (s : List ℕ) : ℕ → List GroupAt → Type 0 where
  done : {at : ℕ} → at ≡ length s → Groups s at []
  more : {at : ℕ} {gs : List GroupAt} → GroupHere s at → Groups s (span_at s at).next gs → Groups s at (group_at s at ∷ gs)

-- Whole steps stand from one place up to another.
pub record StepRange (s : List ℕ) (from to : ℕ) : Type 0 where
  pub ordered : from ≤ to
  pub inside : to ≤ length s
  pub multiple : (to - from) % 3 ≡ 0

-- Of the groups gs the first is at a place and has the parts r, and the others follow.
pub record First (s : List ℕ) (at : ℕ) (r : GroupSpan) (gs : List GroupAt) : Type 0 where
  pub rest : List GroupAt
  pub all : gs ≡ record { head = at; group = group_in s r } ∷ rest
  pub follow : Groups s r.next rest

-- r has the parts of the group at a place, the first of those that stand from there on.
pub record GroupParts (s : List ℕ) (at : ℕ) (r : GroupSpan) : Type 0 where
  pub is_span : r ≡ span_at s at
  pub longer : at + 6 ≤ r.next
  pub left_steps : StepRange s r.left r.middle
  pub right_steps : StepRange s r.right r.next
  pub first : (gs : List GroupAt) → Groups s at gs → First s at r gs
