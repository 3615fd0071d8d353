-- The states of the walk in bytes and numbers.
-- Assumes nothing.
use Rattle.std.specs.Prelude.{ℕ, suc, ◌+◌, ◌*◌, ◌≤◌, ◌<◌, max, ◌≡◌, Bool, true, false, cond, List, [], ◌∷◌, map, length, get_or, drop}
use Rattle.calculus.specs.Terms.{Term, var, lift, Closed}
use Rattle.calculus.specs.Frames.{Entry, single, pair, domain, Frame, ε, ◌▹◌, depth}
use Rattle.calculus.specs.Rules.{State, own, copied, Question, Next, asks, stops, one_pass_next}
use Rattle.code.specs.Limits.{longest_file, longest_term, longest_state, most_abstractors}
use Rattle.code.specs.Claims.{Stands}
use Rattle.fields.specs.Fields.{GroupAt, Groups}
use Rattle.frames.specs.Stored.{Stored}
use Rattle.frames.specs.declared.FrameRecord.{FrameRecord}
use Rattle.texts.specs.Texts.{Origin}
use Rattle.verdict.specs.Bounds.{waiting_size, waiting_scope, state_fits}
use Rattle.verdict.specs.Verdict.{Item, state_at, placed, Progress}
use Rattle.waiting.specs.Waiting.{Waiting, terms_of, places, Part, Queue, low_of, KeptSlot}
use Rattle.walk.specs.declared.Memory.{Memory}
use Rattle.walk.specs.declared.WalkState.{WalkState}

-- What the walk reads, and the arrays that it writes.
pub record Text : Type 0 where
  pub file : List ℕ
  pub term : List ℕ

-- `reach` is how far frames were written in the work array.
pub record Arrays : Type 0 where
  pub work : List ℕ
  pub list : List ℕ
  pub domains : List ℕ
  pub origins : List ℕ
  pub reach : ℕ

abbrev pub text_of : (file term : List ℕ) → Text
text_of file term = record { file = file; term = term }

abbrev pub arrays_of : Memory → (list : List ℕ) → Arrays
arrays_of m list = record { work = m.work; list = list; domains = m.domains; origins = m.origins; reach = m.reach }

-- A frame each of whose terms is within the limits at its place.
pub data Sound : Frame → Type 0 where
  sound_empty : Sound ε
  sound_single : {R : Frame} {U : Term} → Sound R → Part (depth R) U → Sound (R ▹ single U)
  sound_pair : {R : Frame} {K U : Term} → Sound R → Part (depth R) K → Part (depth R) U → Sound (R ▹ pair K U)

-- Of each of n entries: where its U starts in the work array, below the limit, and the text that this is a copy of.
pub data Notes (t : List ℕ) (m : Arrays) (limit : ℕ) : ℕ → Frame → Type 0 where
  no_notes : {n : ℕ} → n ≡ 0 → Notes t m limit n ε
  one_note : {n j e : ℕ} {R : Frame} {x : Entry} → n ≡ suc j → Notes t m limit j R → Stands m.work (get_or m.domains j 0) e (domain x) → e ≤ limit
      → Origin t (get_or m.origins j 0) (domain x) → Notes t m limit n (R ▹ x)

-- How far a check has come: the next group stands at `next`, and so many comparisons are completed.
pub record Reached (file : List ℕ) (next count : ℕ) (p : Progress) : Type 0 where
  pub groups : List GroupAt
  pub stand : Groups file next groups
  pub left : p.left ≡ map (λ g. g.group) groups
  pub counted : p.comparisons ≡ count
  pub few : count ≤ next
  pub file_bound : length file ≤ longest_file

-- The state (R, W, B), or (R, W, Y, B) with Q for Y.
unfoldable pub state_of : Bool → Frame → List Waiting → List Waiting → Term → State
state_of true R W Q B = own R (terms_of W) B
state_of false R W Q B = copied R (terms_of W) (terms_of Q) B

-- The questions that replace it, with their places; and those that are left once what stands inside its first wagon has been checked.
unfoldable pub questions : Next → List Question
questions (asks qs) = qs
questions (stops x) = []

unfoldable pub rest_of : (is_own : Bool) (place : ℕ) → Frame → List Waiting → List Waiting → Term → List Item
rest_of true place R W Q B = drop 1 (placed place (suc place) (places W) (questions (one_pass_next (state_of true R W Q B))))
rest_of false place R W Q B = placed place (suc place) (places W) (questions (one_pass_next (state_of false R W Q B)))

-- The agenda of a state.
unfoldable pub agenda_of : (checked is_own : Bool) (place : ℕ) → Frame → List Waiting → List Waiting → Term → List Item
agenda_of true b place R W Q B = rest_of b place R W Q B
agenda_of false b place R W Q B = state_at place (places W) (state_of b R W Q B) ∷ []

-- The term's own text stands in the term, is seen as it is, and Y is empty. The frame and the bytes of all that waits, in suspended checks
-- too, are copies of parts of the text before its place.
pub record OwnText (m : Arrays) (f : FrameRecord) (s : WalkState) (Q : List Waiting) : Type 0 where
  pub in_term : s.in_term ≡ true
  pub at_place : s.from ≡ s.place
  pub itself : s.origin ≡ s.place
  pub unlifted : s.shift ≡ 0
  pub no_copies : Q ≡ []
  pub tops : s.middle ≡ s.top
  pub low : low_of m.list s.bottom ≤ longest_state
  pub packed : f.end + longest_state ≤ s.place + low_of m.list s.top

-- What stands inside the first wagon has been checked: the state was within the limits.
pub record InsideChecked (b : ℕ) (s : WalkState) (R : Frame) (W Q : List Waiting) (B : Term) : Type 0 where
  pub is_own : s.own ≡ true
  pub wagon : 0xfe ≤ b
  pub fitted : state_fits (state_of s.own R W Q B) ≡ true

-- What is in the arrays: the frame R, and what waits, W and above it Y; Q is Y with its places.
pub record Held (x : Text) (m : Arrays) (f : FrameRecord) (bottom middle top size scope place : ℕ) (R : Frame) (W Q : List Waiting) : Type 0 where
  pub term_short : length x.term ≤ longest_term
  pub stored : Stored m.work f R
  pub sound : Sound R
  pub notes : Notes x.term m f.end f.len R
  pub domains_long : length m.domains ≡ most_abstractors
  pub origins_long : length m.origins ≡ most_abstractors
  pub waits : Queue true x.term x.term m.list f.len (length x.term) bottom 0 middle W
  pub kept : (j : ℕ) → bottom ≤ j → j < middle → KeptSlot x.term m.work m.list m.reach j
  pub copies : Queue false x.term m.work m.list f.len f.end middle (waiting_scope (terms_of W)) top Q
  pub listed : 6 * top ≤ length m.list
  pub few_waiting : middle + middle ≤ place
  pub place_bound : place < length x.term
  pub size_is : size ≡ waiting_size (terms_of W) + waiting_size (terms_of Q)
  pub scope_is : scope ≡ max (waiting_scope (terms_of W)) (waiting_scope (terms_of Q))
  pub size_bound : size ≤ longest_state
  pub scope_bound : scope ≤ most_abstractors

-- The numbers s and the record f, over the arrays m, are the state of R, W, Y and B.
pub record StateAt (x : Text) (m : Arrays) (f : FrameRecord) (s : WalkState) (R : Frame) (W Q : List Waiting) (B : Term) (p : Progress) : Type 0 where
  pub held : Held x m f s.bottom s.middle s.top s.size s.scope s.place R W Q
  pub text : Term
  pub end : ℕ
  pub stands : Stands (cond s.in_term x.term m.work) s.from end text
  pub inside : s.in_term ≡ false → end ≤ f.end
  pub origin : Origin x.term s.origin text
  pub seen : B ≡ lift s.shift s.cut text
  pub shift_bound : s.shift ≤ most_abstractors
  pub cut_bound : s.cut ≤ f.len
  pub closed : Closed f.len B
  pub own_text : s.own ≡ true → OwnText m f s Q
  -- a variable that was met and not yet typed is all that copied text has in the term
  pub met : s.own ≡ false → s.in_term ≡ true → (k : ℕ) × (text ≡ var k)
  pub inner : s.checked ≡ true → InsideChecked (get_or x.term s.from 0) s R W Q B
  pub reached : Reached x.file s.next s.comparisons p

pub record Stated (x : Text) (m : Arrays) (f : FrameRecord) (s : WalkState) : Type 0 where
  pub frame : Frame
  pub ww : List Waiting
  pub qq : List Waiting
  pub body : Term
  pub progress : Progress
  pub at : StateAt x m f s frame ww qq body progress
