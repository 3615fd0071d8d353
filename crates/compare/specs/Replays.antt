-- A term brought into an array as letters, and a list of steps replayed there.
-- Assumes nothing.
use Rattle.std.specs.Prelude.{ℕ, suc, ◌-◌, ◌≤◌, ◌≡◌, Bool, true, false, Result, Ok, Err, List, [], length}
use Rattle.calculus.specs.Terms.{Term}
use Rattle.calculus.specs.Frames.{Frame, depth}
use Rattle.calculus.specs.Steps.{Step}
use Rattle.code.specs.Limits.{longest_term, longest_state, most_abstractors}
use Rattle.code.specs.Claims.{Stands}
use Rattle.fields.specs.Fields.{read_steps}
use Rattle.frames.specs.declared.FrameRecord.{FrameRecord}
use Rattle.letters.specs.Letters.{Lies}
use Rattle.bodies.specs.declared.Reason.{Reason}
use Rattle.bodies.specs.Reasons.{said}
use Rattle.bodies.specs.Held.{Held}
use Rattle.verdict.specs.Bounds.{body_fits}
use Rattle.verdict.specs.Verdict.{step_refused, step_outgrown, Progress, turned, stopped, OtherSide, side_of, Configuration, Status, at_turn, done, side_from, to_turn, turn}
use Rattle.compare.specs.declared.Side.{Side}
use Rattle.compare.specs.declared.Ground.{Ground}
use Rattle.compare.specs.declared.Ground.TheVariants.{StepNotPossible, Outgrown}

-- Some term stands in the work array from a place up to another, and there is an array b for its letters.
pub record Loadable (w b : List ℕ) (len from to : ℕ) : Type 0 where
  pub work : length w ≡ longest_state
  pub term : Term
  pub stands : Stands w from to term
  pub few : len ≤ most_abstractors
  pub array : length b ≡ longest_term

-- It is within the limits of a compared body after R, and b holds its letters; or it is not.
pub data LoadedAs (b : List ℕ) (n : ℕ) (R : Frame) (t : Term) : Bool → Type 0 where
  loaded : body_fits R t ≡ true → Lies b 0 n 0 0 t → LoadedAs b n R t true
  too_large : body_fits R t ≡ false → LoadedAs b n R t false

pub record Loads (w b b' : List ℕ) (len from to : ℕ) (answer : Bool) : Type 0 where
  pub all : (R : Frame) (t : Term) → depth R ≡ len → Stands w from to t → LoadedAs b' (to - from) R t answer
  pub same_length : length b' ≡ length b

-- Turns lead from one status to the other.
pub data Leads : Status → Status → Type 0 where
  here : {a : Status} → Leads a a
  by_turn : {c : Configuration} {p : Progress} {b : Status} → Leads (turn c (turned 1 p)) b → Leads (at_turn c p) b

-- A side of a comparison after R, from its first step on: what its steps lead to, whatever the other side is.
pub record Comes (R : Frame) (ss : List Step) (t : Term) (end : ℕ → OtherSide → Progress → Status) : Type 0 where
  pub leads : (place : ℕ) (o : OtherSide) (p : Progress) → Leads (side_from place R o 0 ss t [] (to_turn []) p) (end place o p)

-- What the answer, and the array b after it, say of a side's steps: the form and its length; or 10 and its ground, or 11.
pub data ReplayedAs (side : Side) (w : List ℕ) (f : FrameRecord) (b : List ℕ) (R : Frame) (ss : List Step) (t : Term) : Result ℕ Ground → Type 0 where
  as_form : (n : ℕ) {m : ℕ} {u : Term} → Held w f b m R u → Comes R ss t (λ place o p. side_from place R o n [] u [] (to_turn []) (turned n p)) → ReplayedAs side w f b R ss t (Ok m)
  as_refused : {n : ℕ} {why : Reason} → Comes R ss t (λ place o p. done (stopped (step_refused place (side_of o) n (said why)) (turned (suc n) p)))
      → ReplayedAs side w f b R ss t (Err (StepNotPossible side n why))
  as_outgrown : {n : ℕ} → Comes R ss t (λ place o p. done (stopped (step_outgrown place (side_of o) n) (turned (suc n) p))) → ReplayedAs side w f b R ss t (Err Outgrown)

-- The steps that stand in the file from a place up to another, replayed on the body of n letters in b; b' is the array after.
pub record Replays (file : List ℕ) (from to : ℕ) (side : Side) (w : List ℕ) (f : FrameRecord) (b b' : List ℕ) (n : ℕ) (r : Result ℕ Ground) : Type 0 where
  pub array : length b' ≡ longest_term
  pub all : (R : Frame) (t : Term) → Held w f b n R t → ReplayedAs side w f b' R (read_steps file from to) t r
