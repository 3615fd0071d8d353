-- The contracts of the walk's functions.
-- Assumes nothing.
use Rattle.std.specs.Prelude.{ℕ, suc, ◌+◌, ◌-◌, ◌*◌, ◌≤◌, ◌<◌, max, ◌≡◌, Bool, true, false, cond, List, map, leb, length, get_or, Option, Some, None, Result, Ok, Err}
use Rattle.calculus.specs.Terms.{Term, size, Closed}
use Rattle.calculus.specs.Frames.{Frame}
use Rattle.calculus.specs.Walks.{states_of}
use Rattle.code.specs.Limits.{longest_file, longest_term, longest_state, most_abstractors}
use Rattle.code.specs.Refusals.{accepted, still_waiting, outgrown}
use Rattle.code.specs.Code.{encode}
use Rattle.code.specs.Scope.{scope}
use Rattle.fields.specs.Fields.{GroupAt, Groups}
use Rattle.frames.specs.Stored.{Agree, pushed}
use Rattle.frames.specs.declared.FrameRecord.{FrameRecord}
use Rattle.compare.specs.Compares.{GroundIs, Comparing, Compares}
use Rattle.compare.specs.Answers.{Compared, ground_says, compared_says}
use Rattle.compare.specs.declared.Ground.{Ground as Halt}
use Rattle.compare.specs.declared.Ground.TheVariants.{StillWaiting, NotReached}
use Rattle.texts.specs.Texts.{Sized, Depths, Origin}
use Rattle.verdict.specs.Bounds.{state_fits}
use Rattle.verdict.specs.Verdict.{Ground, something_waits, state_outgrown, not_reached, place_of, Progress, Run, passed, stopped, finish, check_term}
use Rattle.waiting.specs.Waiting.{Waiting, slot_of, low_of, Noted}
use Rattle.waiting.specs.Writing.{Moved}
use Rattle.waiting.specs.declared.Slot.{Slot}
use Rattle.walk.specs.State.{Text, Arrays, Reached, state_of, rest_of, agenda_of, StateAt, Stated}
use Rattle.walk.specs.declared.Walked.{Walked as Passed}
use Rattle.walk.specs.declared.Stopped.{Stopped as Halted}
use Rattle.walk.specs.declared.Stop.{Stop}
use Rattle.walk.specs.declared.Stop.TheVariants.{ListFull, Stopped}
use Rattle.walk.specs.declared.WalkState.{WalkState}
use Rattle.walk.specs.declared.Turned.{Turned}
use Rattle.walk.specs.declared.Turned.TheVariants.{Answer, State, Inner, Compare}
use Rattle.walk.specs.declared.Rule.{Rule}
use Rattle.walk.specs.declared.Rule.TheVariants.{InsideFirst, One, Three, Four, Five, Six, Seven, Eight, Nine, Ten, Eleven, Twelve}

-- Within the limits, as a test.
abbrev pub within : ℕ → ℕ → Bool
within n m = cond (leb n longest_state) (leb m most_abstractors) false

-- All that can wait.
abbrev pub longest_list : ℕ
longest_list = 36864

-- WHAT A FUNCTION RETURNS
-- What a walk answers, in numbers: 0 or the number and the place of what stops it, the comparisons completed, where the next group is, and
-- the ground. For 8 this is how many wait; for 10 and 12 it is what `compare` says; else 0 0 0.
pub record Walked : Type 0 where
  pub number : ℕ
  pub place : ℕ
  pub comparisons : ℕ
  pub next : ℕ
  pub first : ℕ
  pub second : ℕ
  pub third : ℕ

abbrev pub walked_says : Result Passed Halted → Walked
walked_says (Ok w) = record { number = accepted; place = 0; comparisons = w.comparisons; next = w.next; first = 0; second = 0; third = 0 }
walked_says (Err h) = let c = ground_says h.by in record { number = c.number; place = h.place; comparisons = h.comparisons; next = 0; first = c.first; second = c.second; third = c.third }

-- What stops the walk in the state s.
abbrev pub stopped_by : Halt → ℕ → WalkState → Stop
stopped_by g place s = Stopped (record { by = g; place = place; comparisons = s.comparisons })

-- The state past the first wagon, whose term has n bytes.
abbrev pub past_of : WalkState → (n cut middle top size scope next comparisons : ℕ) → WalkState
past_of s n cut middle top size scope next comparisons = record s {
  checked = false;
  place = cond s.own (s.from + 1 + n) s.place;
  from = s.from + 1 + n;
  origin = s.origin + 1 + n;
  cut = cut;
  middle = middle;
  top = top;
  size = size;
  scope = scope;
  next = next;
  comparisons = comparisons;
}

-- A variable met: (vii).
abbrev pub met_of : WalkState → WalkState
met_of s = record s { own = false; checked = false }

-- A variable of index k typed: (viii). U starts at `from` and is a copy of the text at `origin`.
abbrev pub typed_of : WalkState → (k from origin : ℕ) → WalkState
typed_of s k from origin = record s { own = false; checked = false; in_term = false; from = from; origin = origin; shift = k; cut = 0 }

-- The term's own text at a place, with nothing waiting above what is suspended.
abbrev pub start_of : (place top next comparisons : ℕ) → WalkState
start_of place top next comparisons = record {
  own = true;
  checked = false;
  in_term = true;
  place = place;
  from = place;
  origin = place;
  shift = 0;
  cut = 0;
  bottom = top;
  middle = top;
  top = top;
  size = 0;
  scope = 0;
  next = next;
  comparisons = comparisons;
}

-- What stands inside the first wagon.
abbrev pub inner_of : WalkState → WalkState
inner_of s = start_of (s.place + 1) s.top s.next s.comparisons

-- The same state once that has been checked.
abbrev pub checked_of : WalkState → (next comparisons : ℕ) → WalkState
checked_of s next comparisons = record s { checked = true; next = next; comparisons = comparisons }

-- ANSWERS
-- The ground of a stop in numbers; a and b are the arrays of the two compared bodies after it.
pub data Halts (r : Walked) (a b : List ℕ) : Ground → Type 0 where
  halts_waiting : {i n : ℕ} → r.number ≡ still_waiting → r.place ≡ i → r.first ≡ n → r.second ≡ 0 → r.third ≡ 0 → Halts r a b (something_waits i n)
  halts_outgrown : {i : ℕ} → r.number ≡ outgrown → r.place ≡ i → r.first ≡ 0 → r.second ≡ 0 → r.third ≡ 0 → Halts r a b (state_outgrown i)
  halts_compared : {c : Compared} {g : Ground} → GroundIs c a b g → r.number ≡ c.number → r.place ≡ place_of g → r.first ≡ c.first → r.second ≡ c.second → r.third ≡ c.third → Halts r a b g

-- What an answer says of a run; the list has `long` numbers.
pub data Says (file : List ℕ) (long : ℕ) (a b : List ℕ) : Result Passed Stop → Run → Type 0 where
  says_passed : {w : Passed} {q : Progress} → Reached file w.next w.comparisons q → Says file long a b (Ok w) (passed q)
  says_stopped : {h : Halted} {g : Ground} {q : Progress} → Halts (walked_says (Err h)) a b g → h.comparisons ≡ q.comparisons → Says file long a b (Err (Stopped h)) (stopped g q)
  says_never : {h : Halted} {i : ℕ} {q : Progress} → h.by ≡ NotReached → Says file long a b (Err (Stopped h)) (stopped (not_reached i) q)
  says_full : {x : Run} → long < longest_list → Says file long a b (Err ListFull) x

-- TURNS
-- The frame, once it has one more entry, whose bytes end there, or none.
abbrev pub with_entry : Option ℕ → FrameRecord → FrameRecord
with_entry None f = f
with_entry (Some e) f = pushed f e

-- The frame and the state after a turn of the state s.
abbrev pub frame_after : Turned → FrameRecord → FrameRecord
frame_after (Answer out) f = f
frame_after (State t e) f = with_entry e f
frame_after Inner f = f
frame_after (Compare t place k e) f = pushed f e

abbrev pub state_after : Turned → WalkState → WalkState
state_after (Answer out) s = s
state_after (State t e) s = t
state_after Inner s = s
state_after (Compare t place k e) s = t

-- The state once its comparison is completed, and the groups after it stand at `next`.
abbrev pub completed_of : WalkState → ℕ → WalkState
completed_of s next = record s { checked = false; next = next; comparisons = s.comparisons + 1 }

-- What the turn of the state s comes to by its comparison, placed at `place`: the state t with an entry whose bytes end at e, or an answer.
abbrev pub settled_of : (s t : WalkState) (place e : ℕ) → Result ℕ Halt → Turned
settled_of s t place e (Ok next) = State (completed_of t next) (Some e)
settled_of s t place e (Err g) = Answer (Err (stopped_by g place s))

-- A turn ends the run x, or goes on from a state whose run it is and which leads to fewer states than n, or asks for what stands inside.
pub data Becomes (x : Text) (m : Arrays) (f : FrameRecord) (s : WalkState) (a b : List ℕ) : Turned → ℕ → Run → Type 0 where
  becomes_answer : {r : Result Passed Stop} {n : ℕ} {z : Run} → Says x.file (length m.list) a b r z → Becomes x m f s a b (Answer r) n z
  becomes_state : {t : WalkState} {e : Option ℕ} {n : ℕ} {z : Run} {R : Frame} {W Q : List Waiting} {B : Term} {p : Progress} → StateAt x m (with_entry e f) t R W Q B p → t.checked ≡ false
      → suc (states_of (state_of t.own R W Q B)) ≤ n → z ≡ finish (agenda_of false t.own t.place R W Q B) p → Becomes x m f s a b (State t e) n z
  becomes_inner : {n : ℕ} {z : Run} {R : Frame} {W Q : List Waiting} {B : Term} {p : Progress} → StateAt x m f s R W Q B p → s.own ≡ true → s.checked ≡ false → 0xfe ≤ get_or x.term s.from 0
      → state_fits (state_of s.own R W Q B) ≡ true → states_of (state_of s.own R W Q B) ≤ n → z ≡ finish (agenda_of false s.own s.place R W Q B) p → Becomes x m f s a b Inner n z

-- The same, at once or by a comparison: K ends at k, and the entry's bytes at e.
pub data Comes (x : Text) (m : Arrays) (f : FrameRecord) (s : WalkState) (a b : List ℕ) : Turned → ℕ → Run → Type 0 where
  comes_now : {r : Turned} {n : ℕ} {z : Run} → Becomes x m f s a b r n z → Comes x m f s a b r n z
  comes_compared : {t : WalkState} {place k e n : ℕ} {z : Run} → Comparing x.file m.work s.next f k e
      → ((c : Result ℕ Halt) (l u : List ℕ) → Compares x.file m.work s.next f k e (compared_says c) l u → Becomes x m f s l u (settled_of s t place e c) n z) → Comes x m f s a b (Compare t place k e) n z

-- What is as it was: a frame of len entries whose bytes end at `end`, what is below the bottom of the list, and its bytes at the end of the
-- work array where no frame was written.
pub record Keeps (m m' : Arrays) (len end bottom : ℕ) : Type 0 where
  pub work_long : length m'.work ≡ longest_state
  pub work_below : Agree m.work m'.work 0 end
  pub work_above : Agree m.work m'.work (max (low_of m.list bottom) m'.reach) longest_state
  pub reach_grows : m.reach ≤ m'.reach
  pub list_long : length m'.list ≡ length m.list
  pub list_below : Agree m.list m'.list 0 (6 * bottom)
  pub domains_long : length m'.domains ≡ length m.domains
  pub domains_below : Agree m.domains m'.domains 0 len
  pub origins_long : length m'.origins ≡ length m.origins
  pub origins_below : Agree m.origins m'.origins 0 len

-- The frame and the place of a state go on.
pub record Onward (f : FrameRecord) (s : WalkState) (r : Turned) : Type 0 where
  pub end_grows : f.end ≤ (frame_after r f).end
  pub len_grows : f.len ≤ (frame_after r f).len
  pub same_bottom : (state_after r s).bottom ≡ s.bottom
  pub further : s.place ≤ (state_after r s).place

-- A state at an applicator or an abstractor that is within the limits, and whose inside has been checked if it is to be.
pub record WagonAt (x : Text) (m : Arrays) (f : FrameRecord) (s : WalkState) : Type 0 where
  pub stated : Stated x m f s
  pub fitted : (R : Frame) (W Q : List Waiting) (B : Term) (p : Progress) → StateAt x m f s R W Q B p → state_fits (state_of s.own R W Q B) ≡ true
  pub due : s.own ≡ true → s.checked ≡ true

-- At an abstractor, whose U has n bytes.
pub record AbstractorAt (x : Text) (m : Arrays) (f : FrameRecord) (s : WalkState) (n : ℕ) : Type 0 where
  pub wagon : WagonAt x m f s
  pub high : 0xfe ≤ get_or (cond s.in_term x.term m.work) s.from 0
  pub no_app : get_or (cond s.in_term x.term m.work) s.from 0 ≡ 0xfe → ⊥
  pub domain_size : (t : Term) → Origin x.term (s.origin + 1) t → n ≡ size t

-- The sizes of the term's text are known.
pub record SizesKnown (t sizes : List ℕ) : Type 0 where
  pub sizes_are : (o : ℕ) (X : Term) → Origin t o X → get_or sizes o 0 ≡ size X
  pub long : length t ≤ length sizes

-- And its depths.
pub record DepthsKnown (t depths : List ℕ) : Type 0 where
  pub deep : Depths t depths
  pub long : length t ≤ length depths

pub record Wagons (x : Text) (m m' : Arrays) (f : FrameRecord) (s : WalkState) (a b : List ℕ) (r : Turned) : Type 0 where
  pub keeps : Keeps m m' f.len f.end s.bottom
  pub onward : Onward f s r
  pub all : (R : Frame) (W Q : List Waiting) (B : Term) (p : Progress) → StateAt x m f s R W Q B p
      → Comes x m' f s a b r (states_of (state_of s.own R W Q B)) (finish (rest_of s.own s.place R W Q B) p)

pub record Turns (x : Text) (m m' : Arrays) (f : FrameRecord) (s : WalkState) (a b : List ℕ) (r : Turned) : Type 0 where
  pub keeps : Keeps m m' f.len f.end s.bottom
  pub onward : Onward f s r
  pub all : (R : Frame) (W Q : List Waiting) (B : Term) (p : Progress) → StateAt x m f s R W Q B p
      → Comes x m' f s a b r (states_of (state_of s.own R W Q B)) (finish (agenda_of s.checked s.own s.place R W Q B) p)

-- A turn whose comparison, if it has one, is made.
pub record Settles (x : Text) (m m' : Arrays) (f : FrameRecord) (s : WalkState) (a b : List ℕ) (r : Turned) : Type 0 where
  pub keeps : Keeps m m' f.len f.end s.bottom
  pub onward : Onward f s r
  pub all : (R : Frame) (W Q : List Waiting) (B : Term) (p : Progress) → StateAt x m f s R W Q B p
      → Becomes x m' f s a b r (states_of (state_of s.own R W Q B)) (finish (agenda_of s.checked s.own s.place R W Q B) p)

-- The test of the limits, and whether what stands inside is to be checked first.
pub data TestAs (sizes scopes : List ℕ) (len end : ℕ) (s : WalkState) : Bool → Type 0 where
  test_made : s.checked ≡ true → TestAs sizes scopes len end s true
  test_is : {ok : Bool} → s.checked ≡ false → ok ≡ within (end + (s.size + get_or sizes s.origin 0)) (len + max s.scope (get_or scopes s.origin 0)) → TestAs sizes scopes len end s ok

pub data DueAs (s : WalkState) : Bool → Type 0 where
  due_first : s.own ≡ true → s.checked ≡ false → DueAs s true
  not_due : (s.own ≡ true → s.checked ≡ true) → DueAs s false

-- The rule for a state whose B begins with the byte b.
pub data RuleAt (s : WalkState) (b : ℕ) : Rule → Type 0 where
  inside_first : s.own ≡ true → s.checked ≡ false → 0xfe ≤ b → RuleAt s b InsideFirst
  rule_i : s.own ≡ true → b ≡ 0 → RuleAt s b One
  rule_iii : s.own ≡ true → s.checked ≡ true → b ≡ 0xfe → RuleAt s b Three
  rule_iv : s.own ≡ true → s.checked ≡ true → 0xfe < b → s.bottom ≡ s.top → RuleAt s b Four
  rule_v : s.own ≡ true → s.checked ≡ true → 0xfe < b → (s.bottom ≡ s.top → ⊥) → RuleAt s b Five
  rule_vi : s.own ≡ false → b ≡ 0 → RuleAt s b Six
  rule_vii : s.own ≡ true → 0 < b → b < 0xfe → RuleAt s b Seven
  rule_viii : s.own ≡ false → 0 < b → b < 0xfe → RuleAt s b Eight
  rule_ix : s.own ≡ false → b ≡ 0xfe → RuleAt s b Nine
  rule_x : s.own ≡ false → 0xfe < b → s.bottom ≡ s.top → RuleAt s b Ten
  rule_xi : s.own ≡ false → 0xfe < b → (s.bottom ≡ s.top → ⊥) → s.middle ≡ s.top → RuleAt s b Eleven
  rule_xii : s.own ≡ false → 0xfe < b → (s.middle ≡ s.top → ⊥) → RuleAt s b Twelve

-- (i) and (vi).
pub data TauTurn (q : List ℕ) (s : WalkState) : Turned → Type 0 where
  tau_never : s.middle < s.top → TauTurn q s (Answer (Err (stopped_by NotReached s.place s)))
  tau_passes : s.top ≤ s.middle → s.bottom ≡ s.top → TauTurn q s (Answer (Ok (record { comparisons = s.comparisons; next = s.next })))
  tau_waits : s.top ≤ s.middle → (s.bottom ≡ s.top → ⊥) → TauTurn q s (Answer (Err (stopped_by (StillWaiting (s.top - s.bottom)) (slot_of q (s.top - 1)).place s)))

-- ⟨K⟩, whose K has n bytes and the scope y, waits: (iii) and (ix).
abbrev pub slot_for : (len at : ℕ) → WalkState → Slot
slot_for len at s = record { place = s.origin; at = at; depth = len; shift = s.shift; cut = s.cut; scope = s.scope }

pub record WaitReady (t w q : List ℕ) (len : ℕ) (s : WalkState) (n : ℕ) : Type 0 where
  pub origin_small : s.origin < 65536
  pub from_small : s.from < 65536
  pub len_small : len < 65536
  pub shift_small : s.shift < 65536
  pub cut_small : s.cut < 65536
  pub scope_small : s.scope < 65536
  pub top_small : s.top < 65536
  pub size_small : s.size < 65536
  pub n_small : n < 65536
  pub work_long : length w ≡ longest_state
  pub listed : 6 * s.top ≤ length q
  pub own_room : s.own ≡ true → (s.place + (1 + n) ≤ length t) × (1 + n ≤ low_of q s.top) × (low_of q s.top ≤ longest_state)

-- Where its bytes stand: in copied text, where they stood; those of the term's own text are put to the end of the work array.
pub data PutAside (t w w' q : List ℕ) (s : WalkState) (n at : ℕ) : Type 0 where
  aside_copied : s.own ≡ false → w' ≡ w → at ≡ s.from → PutAside t w w' q s n at
  aside_own : s.own ≡ true → at + (1 + n) ≡ low_of q s.top → Moved t w w' s.place (1 + n) at → PutAside t w w' q s n at

pub data WaitTurn (t w w' q q' : List ℕ) (len : ℕ) (s : WalkState) (n y : ℕ) : Turned → Type 0 where
  wait_full : w' ≡ w → q' ≡ q → length q < 6 * s.top + 6 → WaitTurn t w w' q q' len s n y (Answer (Err ListFull))
  wait_goes : {at : ℕ} → 6 * s.top + 6 ≤ length q → PutAside t w w' q s n at → Noted q q' s.top (slot_for len at s)
      → WaitTurn t w w' q q' len s n y (State (past_of s n s.cut (cond s.own (s.top + 1) s.middle) (s.top + 1) (s.size + (1 + n)) (max s.scope y) s.next s.comparisons) None)

-- THE CHECK OF A TERM, from a state of its own text on
pub record Checks (x : Text) (m m' : Arrays) (f : FrameRecord) (s : WalkState) (a b : List ℕ) (r : Result Passed Stop) : Type 0 where
  pub keeps : Keeps m m' f.len f.end s.bottom
  pub all : (R : Frame) (W Q : List Waiting) (B : Term) (p : Progress) → StateAt x m f s R W Q B p
      → Says x.file (length m.list) a b r (finish (agenda_of s.checked s.own s.place R W Q B) p)

-- A state of the term's own text at an applicator or an abstractor, within the limits.
pub record InnerAt (x : Text) (m : Arrays) (f : FrameRecord) (s : WalkState) : Type 0 where
  pub stated : Stated x m f s
  pub is_own : s.own ≡ true
  pub high : 0xfe ≤ get_or x.term s.from 0

-- The sizes and scopes of the term's text are known.
pub record Known (t sizes scopes : List ℕ) : Type 0 where
  pub sized : Sized t sizes scopes
  pub sizes_long : length t ≤ length sizes
  pub scopes_long : length t ≤ length scopes

-- A term and groups that can be checked.
pub record Walkable (file t : List ℕ) (at : ℕ) : Type 0 where
  pub term : Term
  pub bytes : encode term ≡ t
  pub closed : Closed 0 term
  pub shallow : scope term ≤ most_abstractors
  pub short : size term ≤ longest_term
  pub groups : List GroupAt
  pub stand : Groups file at groups
  pub file_bound : length file ≤ longest_file

-- The answer is the definition's: its number, place and ground, the comparisons, and where the groups left stand.
pub data Answers (file a b : List ℕ) (r : Walked) : Run → Type 0 where
  answer_passed : {q : Progress} (gs : List GroupAt) → r.number ≡ accepted → r.comparisons ≡ q.comparisons → q.left ≡ map (λ g. g.group) gs → Groups file r.next gs → Answers file a b r (passed q)
  answer_stopped : {g : Ground} {q : Progress} → Halts r a b g → r.comparisons ≡ q.comparisons → Answers file a b r (stopped g q)

pub record WalkAnswer (file t : List ℕ) (at : ℕ) (a b : List ℕ) (r : Walked) : Type 0 where
  pub all : (T : Term) (gs : List GroupAt) → encode T ≡ t → Closed 0 T → scope T ≤ most_abstractors → Groups file at gs → Answers file a b r (check_term T (map (λ g. g.group) gs))

-- The same, or the list, of `long` numbers, was full.
pub data WholeAnswer (file t : List ℕ) (at long : ℕ) (a b : List ℕ) : Option (Result Passed Halted) → Type 0 where
  whole_full : long < longest_list → WholeAnswer file t at long a b None
  whole_answer : {r : Result Passed Halted} → WalkAnswer file t at a b (walked_says r) → WholeAnswer file t at long a b (Some r)
