-- A body held as letters, after a stored frame, and the form that a step or a type brings it to: the contracts of this crate's calls
-- (document 01, 'A body stands after a frame', 'Steps', 'Terms' and 'Outgrown (11)').
-- Assumes nothing.
use Rattle.std.specs.Prelude.{ℕ, ◌+◌, ◌≤◌, ◌<◌, ◌≡◌, true, false, Ok, Err, Result, List, length}
use Rattle.std.proofs.Math.Option.{none, some}
use Rattle.calculus.specs.Terms.{Term, size, Closed}
use Rattle.calculus.specs.Frames.{Frame, depth, ClosedFrame}
use Rattle.calculus.specs.Types.{type}
use Rattle.calculus.specs.Steps.{Step, step, reached, refused}
use Rattle.code.specs.Limits.{longest_term, most_abstractors}
use Rattle.code.specs.Scope.{scope}
use Rattle.verdict.specs.Bounds.{body_fits}
use Rattle.frames.specs.declared.FrameRecord.{FrameRecord}
use Rattle.frames.specs.Stored.{Stored}
use Rattle.letters.specs.Letters.{Lies}
use Rattle.bodies.specs.declared.Reason.{Reason}
use Rattle.bodies.specs.declared.Reason.TheVariants.{WrongSymbol}
use Rattle.bodies.specs.declared.StepError.{StepError}
use Rattle.bodies.specs.declared.StepError.TheVariants.{NotPossible, Outgrown}
use Rattle.bodies.specs.Reasons.{said}

-- The first n letters of s hold the body t, which stands after the frame R that the record f holds in w.
pub record Held (w : List ℕ) (f : FrameRecord) (s : List ℕ) (n : ℕ) (R : Frame) (t : Term) : Type 0 where
  pub stored : Stored w f R
  pub closed_frame : ClosedFrame R
  pub array : length s ≡ longest_term
  pub lies : Lies s 0 n 0 0 t
  pub closed : Closed (depth R) t
  pub shallow : depth R + scope t ≤ most_abstractors

-- The length of the form reached, or why there is none.
abbrev pub Form : Type 0
Form = Result ℕ StepError

-- Some body is held.
pub record SomeHeld (w : List ℕ) (f : FrameRecord) (s : List ℕ) (n : ℕ) : Type 0 where
  pub frame : Frame
  pub term : Term
  pub held : Held w f s n frame term

-- Place p is in it.
pub record InBody (w : List ℕ) (f : FrameRecord) (s : List ℕ) (n p : ℕ) : Type 0 where
  pub some_held : SomeHeld w f s n
  pub inside : p < n

-- The form u is over the limits, or s holds it.
pub data FormAs (w : List ℕ) (f : FrameRecord) (s : List ℕ) (R : Frame) (u : Term) : Form → Type 0 where
  form_outgrown : body_fits R u ≡ false → FormAs w f s R u (Err Outgrown)
  form_held : {m : ℕ} → body_fits R u ≡ true → m ≡ size u → Held w f s m R u → FormAs w f s R u (Ok m)

-- What an answer says of the step z on the body t after R; s' is the array afterwards.
pub data SteppedAs (w : List ℕ) (f : FrameRecord) (s' : List ℕ) (R : Frame) (z : Step) (t : Term) : Form → Type 0 where
  step_refused : {x : Reason} → step R z t ≡ refused (said x) → SteppedAs w f s' R z t (Err (NotPossible x))
  step_reached : {u : Term} {r : Form} → step R z t ≡ reached u → FormAs w f s' R u r → SteppedAs w f s' R z t r

-- What it says of the body's type: a body that ends in tau has another symbol there than a variable.
pub data TypedAs (w : List ℕ) (f : FrameRecord) (s' : List ℕ) (R : Frame) (t : Term) : Form → Type 0 where
  type_is_none : type R t ≡ none → TypedAs w f s' R t (Err (NotPossible WrongSymbol))
  typed : {u : Term} {r : Form} → type R t ≡ some u → FormAs w f s' R u r → TypedAs w f s' R t r

-- For every body that s holds.
pub record Steps (w : List ℕ) (f : FrameRecord) (s s' : List ℕ) (n : ℕ) (z : Step) (r : Form) : Type 0 where
  pub all : (R : Frame) (t : Term) → Held w f s n R t → SteppedAs w f s' R z t r
  pub same_length : length s' ≡ length s

pub record Types (w : List ℕ) (f : FrameRecord) (s s' : List ℕ) (n : ℕ) (r : Form) : Type 0 where
  pub all : (R : Frame) (t : Term) → Held w f s n R t → TypedAs w f s' R t r
  pub same_length : length s' ≡ length s
