-- The contract of `compare`: `same(R,K,U)` with the next group of the file (document 01, 'Sorted by what stops a check').
-- Assumes nothing.
use Rattle.std.specs.Prelude.{ℕ, suc, ◌<◌, ◌≡◌, true, List, [], ◌∷◌, map}
use Rattle.calculus.specs.Terms.{Term, Closed}
use Rattle.calculus.specs.Frames.{Frame, ClosedFrame}
use Rattle.calculus.specs.Steps.{Reason}
use Rattle.code.specs.Refusals.{accepted, no_type, no_group_left, step_not_possible, outgrown, bodies_differ}
use Rattle.code.specs.Claims.{Stands}
use Rattle.code.specs.Scope.{Fits}
use Rattle.fields.specs.Fields.{GroupAt, Groups}
use Rattle.frames.specs.declared.FrameRecord.{FrameRecord}
use Rattle.frames.specs.Stored.{Stored}
use Rattle.letters.specs.Letters.{Lies}
use Rattle.bodies.specs.Reasons.{reason_number}
use Rattle.bodies.specs.Held.{Held, SomeHeld}
use Rattle.verdict.specs.Bounds.{body_fits}
use Rattle.verdict.specs.Verdict.{same_at, Side, Ground, untyped, no_group, step_refused, type_outgrown, domain_outgrown, step_outgrown, different_bodies, place_of, Progress, Run, passed, stopped, Status, done, with_group, to_turn, finish}
unfoldable pub use Rattle.verdict.specs.Verdict.{side_number}
use Rattle.compare.specs.Answers.{Compared}
use Rattle.compare.specs.Replays.{Leads}

-- ⟨K⟩[U] stands at the end of the frame's bytes: K up to m, U up to e; it is no entry yet. The groups left stand from `at` on.
pub record Comparing (file w : List ℕ) (at : ℕ) (f : FrameRecord) (m e : ℕ) : Type 0 where
  pub frame : Frame
  pub stored : Stored w f frame
  pub closed_frame : ClosedFrame frame
  pub applied : Term
  pub domain : Term
  pub applied_closed : Closed f.len applied
  pub applied_fits : Fits f.len applied
  pub domain_closed : Closed f.len domain
  pub applied_stands : Stands w (suc f.end) m applied
  pub domain_stands : Stands w (suc m) e domain
  pub groups : List GroupAt
  pub stand : Groups file at groups

-- The ground of a stop in numbers; a and b are the arrays of the two bodies after it.
pub data GroundIs (r : Compared) (a b : List ℕ) : Ground → Type 0 where
  is_untyped : {i : ℕ} → r.number ≡ no_type → r.first ≡ 0 → r.second ≡ 0 → r.third ≡ 0 → GroundIs r a b (untyped i)
  is_no_group : {i : ℕ} → r.number ≡ no_group_left → r.first ≡ 0 → r.second ≡ 0 → r.third ≡ 0 → GroundIs r a b (no_group i)
  is_refused : {i n : ℕ} {side : Side} {why : Reason} → r.number ≡ step_not_possible → r.first ≡ side_number side → r.second ≡ n → r.third ≡ reason_number why → GroundIs r a b (step_refused i side n why)
  is_type_outgrown : {i : ℕ} → r.number ≡ outgrown → r.first ≡ 0 → r.second ≡ 0 → r.third ≡ 0 → GroundIs r a b (type_outgrown i)
  is_domain_outgrown : {i : ℕ} → r.number ≡ outgrown → r.first ≡ 0 → r.second ≡ 0 → r.third ≡ 0 → GroundIs r a b (domain_outgrown i)
  is_step_outgrown : {i n : ℕ} {side : Side} → r.number ≡ outgrown → r.first ≡ 0 → r.second ≡ 0 → r.third ≡ 0 → GroundIs r a b (step_outgrown i side n)
  is_different : {i : ℕ} {l u : Term} → r.number ≡ bodies_differ → Lies a 0 r.first 0 0 l → Lies b 0 r.second 0 0 u → r.third ≡ 0 → GroundIs r a b (different_bodies i l u)

-- What the answer says of the comparison's run from the progress p.
pub data CompareSays (file : List ℕ) (at : ℕ) (r : Compared) (a b : List ℕ) (place : ℕ) (p : Progress) : Run → Type 0 where
  compare_passed : {q : Progress} (gs : List GroupAt) → r.number ≡ accepted → at < r.next → Groups file r.next gs → q.left ≡ map (λ g. g.group) gs → q.comparisons ≡ suc p.comparisons
      → CompareSays file at r a b place p (passed q)
  compare_stopped : {g : Ground} {q : Progress} → GroundIs r a b g → place_of g ≡ place → q.comparisons ≡ p.comparisons → CompareSays file at r a b place p (stopped g q)

pub record Compares (file w : List ℕ) (at : ℕ) (f : FrameRecord) (m e : ℕ) (r : Compared) (a b : List ℕ) : Type 0 where
  pub all : (R : Frame) (K U : Term) (gs : List GroupAt) → Stored w f R → Stands w (suc f.end) m K → Stands w (suc m) e U → Groups file at gs
      → (place : ℕ) (p : Progress) → p.left ≡ map (λ g. g.group) gs → CompareSays file at r a b place p (finish (same_at place R K U ∷ []) p)

-- A status of the comparison leads to a run of which the answer says so.
pub record Ends (file : List ℕ) (at : ℕ) (r : Compared) (a b : List ℕ) (place : ℕ) (p : Progress) (s : Status) : Type 0 where
  pub run : Run
  pub leads : Leads s (done run)
  pub says : CompareSays file at r a b place p run

-- The type of K, within the limits, is held in c; a and b are the arrays after.
pub record Typing (file w : List ℕ) (at : ℕ) (f : FrameRecord) (m e : ℕ) (c : List ℕ) (n : ℕ) : Type 0 where
  pub comparing : Comparing file w at f m e
  pub typed : SomeHeld w f c n

pub record ComparesType (file w : List ℕ) (at : ℕ) (f : FrameRecord) (m e : ℕ) (c : List ℕ) (n : ℕ) (r : Compared) (a b : List ℕ) : Type 0 where
  pub all : (R : Frame) (T U : Term) (gs : List GroupAt) → Held w f c n R T → body_fits R T ≡ true → Stands w (suc m) e U → Groups file at gs
      → (place : ℕ) (p : Progress) → p.left ≡ map (λ g. g.group) gs → Ends file at r a b place p (with_group place R T U p.left [] (to_turn []) p)
