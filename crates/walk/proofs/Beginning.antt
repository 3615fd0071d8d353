-- The walk as a whole.
-- Assumes nothing.
use Prim.Native.Nat.{ℕ, ◌≤◌}
use mathlib.Core.Path.{◌≡◌, refl, ap, sym, ◌∙◌}
use mathlib.Core.List.{List, [], map}
use native.Mathlib.Omega.{arith}
use lib.ListN.{length}
use Rattle.std.specs.Prelude.{Some, None, Result, Ok, Err}
use Rattle.calculus.specs.Terms.{Term, size, Closed}
use Rattle.calculus.specs.Frames.{ε}
use Rattle.calculus.proofs.Lift.{lift_zero}
use Rattle.code.specs.Limits.{longest_state, most_abstractors}
use Rattle.code.specs.Code.{encode, Coded}
use Rattle.code.specs.Claims.{Stands}
use Rattle.code.specs.Scope.{scope}
use Rattle.code.proofs.RoundTrip.{length_encode}
use Rattle.code.proofs.Scope.{closed_coded}
use Rattle.code.proofs.Parts.{stands_start, stands_self}
use Rattle.fields.specs.Fields.{GroupAt, Groups}
use Rattle.frames.specs.Stored.{EmptyRecord}
use Rattle.frames.specs.declared.FrameRecord.{FrameRecord}
use Rattle.compare.specs.Answers.{number_of_ground, ground_says}
use Rattle.compare.specs.declared.Ground.{Ground as Halt}
use Rattle.compare.specs.declared.Ground.TheVariants.{NoType, StillWaiting, NoGroupLeft, StepNotPossible, Outgrown, BodiesDiffer, GroupsLeft, NotReached}
use Rattle.compare.proofs.Grounds.{ground_number}
use Rattle.texts.specs.Texts.{WholeTerm}
use Rattle.texts.proofs.Origins.{origin_own}
use Rattle.verdict.specs.Bounds.{waiting_size, waiting_scope}
use Rattle.verdict.specs.Verdict.{Ground, not_reached, number, place_of, Progress, Run, stopped, check_term_by, check_term}
use Rattle.verdict.proofs.Promises.{never_not_reached}
use Rattle.waiting.specs.Waiting.{terms_of, places, low_of, queue_none}
use Rattle.walk.specs.State.{text_of, Arrays, sound_empty, no_notes, state_of, agenda_of, StateAt, Stated}
use Rattle.walk.specs.Clauses.{Walked, walked_says, start_of, longest_list, Halts, halts_waiting, halts_outgrown, halts_compared, Says, says_passed, says_stopped, says_never, says_full, Checks, Walkable, Answers, answer_passed, answer_stopped, WalkAnswer, WholeAnswer, whole_full, whole_answer}
use Rattle.walk.specs.declared.Walked.{Walked as Passed}
use Rattle.walk.specs.declared.Stopped.{Stopped as Halted}
use Rattle.walk.specs.declared.Stop.{Stop}
use Rattle.walk.specs.declared.Stop.TheVariants.{ListFull, Stopped}
use Rattle.walk.proofs.States.{no_confusion}

stands_whole : {t : List ℕ} {T : Term} → encode T ≡ t → Coded T → Stands t 0 (length t) T
stands_whole {T = T} e c = let n : length (encode T) ≡ size T = length_encode T in rw (← e, n) (stands_self c)

module _ {file t : List ℕ} {at : ℕ} (g : Walkable file t at) where
  size_is : size g.term ≡ length t
  size_is = sym (length_encode g.term) ∙ ap length g.bytes

  pub whole_term : WholeTerm t
  whole_term = record { term = g.term; stands = stands_whole g.bytes (closed_coded g.closed (omega (arith, g.shallow))); short = omega (arith, g.short, size_is); shallow = g.shallow }

  module _ {m : Arrays} {f : FrameRecord} (e : EmptyRecord f) (lw : length m.work ≡ longest_state) (ld : length m.domains ≡ most_abstractors) (lo : length m.origins ≡ most_abstractors) where
    begin : (T : Term) (gs : List GroupAt) → encode T ≡ t → Closed 0 T → scope T ≤ most_abstractors → Groups file at gs
        → StateAt (text_of file t) m f (start_of 0 0 at 0) ε [] [] T (record { left = map (λ g. g.group) gs; comparisons = 0; turns = 0 })
    unfolding waiting_size waiting_scope terms_of low_of
    begin T gs b c d k = let s = stands_whole b (closed_coded c (omega arith)) in record {
      held = record {
        term_short = whole_term.short;
        stored = e.holds m.work lw;
        sound = sound_empty;
        notes = no_notes e.no_entries;
        domains_long = ld;
        origins_long = lo;
        waits = queue_none refl;
        kept = λ j g h. absurd (omega arith);
        copies = queue_none refl;
        listed = omega arith;
        few_waiting = omega arith;
        place_bound = stands_start s;
        size_is = refl;
        scope_is = refl;
        size_bound = omega arith;
        scope_bound = omega arith;
      };
      text = T;
      end = length t;
      stands = s;
      inside = λ i. no_confusion (sym i);
      origin = origin_own s;
      seen = sym (lift_zero 0 T);
      shift_bound = omega arith;
      cut_bound = omega arith;
      closed = rw e.no_entries c;
      own_text = λ i. record { in_term = refl; at_place = refl; itself = refl; unlifted = refl; no_copies = refl; tops = refl; low = omega arith; packed = omega (arith, e.no_bytes) };
      met = λ i. no_confusion (sym i);
      inner = λ i. no_confusion i;
      reached = record { groups = gs; stand = k; left = refl; counted = refl; few = omega arith; file_bound = g.file_bound };
    }

    pub begun : Stated (text_of file t) m f (start_of 0 0 at 0)
    begun = record { frame = ε; ww = []; qq = []; body = g.term; progress = _; at = begin g.term g.groups g.bytes g.closed g.shallow g.stand }

    module _ {m' : Arrays} {a b : List ℕ} where
      says : {r : Result Passed Stop} → Checks (text_of file t) m m' f (start_of 0 0 at 0) a b r → (T : Term) (gs : List GroupAt) → encode T ≡ t → Closed 0 T → scope T ≤ most_abstractors → Groups file at gs
          → Says file (length m.list) a b r (check_term T (map (λ g. g.group) gs))
      unfolding agenda_of state_of terms_of places check_term_by
      says k T gs i c d s = k.all ε [] [] T _ (begin T gs i c d s)

      pub answered_passed : {w : Passed} → Checks (text_of file t) m m' f (start_of 0 0 at 0) a b (Ok w) → WholeAnswer file t at (length m.list) a b (Some (Ok w))
      answered_passed {w} k = whole_answer (record { all = λ T gs i c d s. go (says k T gs i c d s) })
        where
          go : {y : Run} → Says file (length m.list) a b (Ok w) y → Answers file a b (walked_says (Ok w)) y
          go (says_passed j) = answer_passed j.groups refl (sym j.counted) j.left j.stand

      pub answered_stopped : {h : Halted} → Checks (text_of file t) m m' f (start_of 0 0 at 0) a b (Err (Stopped h)) → WholeAnswer file t at (length m.list) a b (Some (Err h))
      answered_stopped {h} k = whole_answer (record { all = λ T gs i c d s. go (check_term T (map (λ g. g.group) gs)) (λ j q o. never_not_reached T (map (λ g. g.group) gs) j q c o) (says k T gs i c d s) })
        where
          go : (y : Run) → ((i : ℕ) (q : Progress) → y ≡ stopped (not_reached i) q → ⊥) → Says file (length m.list) a b (Err (Stopped h)) y → Answers file a b (walked_says (Err h)) y
          go y n (says_stopped i j) = answer_stopped i j
          go y n (says_never {i = i} {q = q} j) = absurd (n i q refl)

      pub answered_full : Checks (text_of file t) m m' f (start_of 0 0 at 0) a b (Err ListFull) → WholeAnswer file t at (length m.list) a b None
      answered_full k = go (says k g.term g.groups g.bytes g.closed g.shallow g.stand)
        where
          go : {y : Run} → Says file (length m.list) a b (Err ListFull) y → WholeAnswer file t at (length m.list) a b None
          go (says_full j) = whole_full j

pub not_full : {file t : List ℕ} {at long : ℕ} {a b : List ℕ} {r : Result Passed Halted} → WholeAnswer file t at long a b (Some r) → WalkAnswer file t at a b (walked_says r)
not_full (whole_answer i) = i

-- the longest list is not full
pub long_enough : {file t : List ℕ} {at : ℕ} {a b : List ℕ} → WholeAnswer file t at longest_list a b None → ⊥
long_enough (whole_full i) = omega arith

-- what an answer shows of a ground
pub halts_answer : {r : Walked} {a b : List ℕ} {g : Ground} → Halts r a b g → (r.number ≡ number g) × (r.number ≡ 0 → ⊥) × (r.place ≡ place_of g)
unfolding number place_of
halts_answer (halts_waiting e f g h i) = (e, (λ z. omega arith), f)
halts_answer (halts_outgrown e f g h i) = (e, (λ z. omega arith), f)
halts_answer (halts_compared c e f g h i) = let n = ground_number c in (e ∙ n.0, (λ z. n.1 (sym e ∙ z)), f)

-- the number of its condition
pub number_told : (h : Halt) → number_of_ground h ≡ (ground_says h).number
number_told NoType = refl
number_told (StillWaiting n) = refl
number_told NoGroupLeft = refl
number_told (StepNotPossible side n why) = refl
number_told Outgrown = refl
number_told (BodiesDiffer n k) = refl
number_told GroupsLeft = refl
number_told NotReached = refl
