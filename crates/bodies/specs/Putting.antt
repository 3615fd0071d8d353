-- A term takes the place of a variable, lifted: U for a type, K for a local step.
-- Assumes nothing.
use Rattle.std.specs.Prelude.{ℕ, ◌+◌, ◌-◌, ◌≤◌, ◌≡◌, Bool, List, length}
use Rattle.calculus.specs.Terms.{Term, var, Closed, lift}
use Rattle.calculus.specs.Frames.{Frame, depth}
use Rattle.code.specs.Limits.{longest_term, longest_state, most_abstractors}
use Rattle.code.specs.Scope.{scope}
use Rattle.code.specs.Claims.{Stands}
use Rattle.frames.specs.declared.FrameRecord.{FrameRecord}
use Rattle.letters.specs.Letters.{Lies}
use Rattle.letters.specs.Clauses.{ReadAs}
use Rattle.bodies.specs.Ways.{Way, put, depth_at}
use Rattle.bodies.specs.Held.{Held, Form, FormAs}
use Rattle.bodies.specs.declared.Holder.TheVariants.{TheFrame, TheBody}
use Rattle.bodies.specs.declared.Source.{Source}

-- The term for a variable at place p, which has depth d, stands where x says: in the frame's bytes w, or among the letters before p.
pub data SourceIs (w s : List ℕ) (p d : ℕ) (x : Source) (K : Term) : Type 0 where
  in_frame : x.holder ≡ TheFrame → x.lift ≤ most_abstractors → Stands w x.start x.end K → SourceIs w s p d x K
  in_body : {c low : ℕ} → x.holder ≡ TheBody → c + x.lift ≡ d → Lies s x.start x.end c low K → c + scope K ≤ most_abstractors → x.end ≤ p → SourceIs w s p d x K

-- Lifted, with its first letter at depth d and height h, it has room from p on; `room` of its abstractors may be in scope.
pub record Sourced (w s : List ℕ) (p d h room : ℕ) (x : Source) : Type 0 where
  pub work : length w ≡ longest_state
  pub array : length s ≡ longest_term
  pub term : Term
  pub source : SourceIs w s p d x term
  pub deep : d + room ≤ most_abstractors
  pub high : h + x.end ≤ x.start + longest_term
  pub fits : p + (x.end - x.start) ≤ longest_term

pub record SourceWritten (w s s' : List ℕ) (p d h room : ℕ) (x : Source) (answer : Bool) : Type 0 where
  pub all : (K : Term) → SourceIs w s p d x K → ReadAs x.lift d h room s s' p K answer
  pub same_length : length s' ≡ length s

-- A variable stands at place p of a body after the frame, and a term for it where x says.
pub record Puttable (w : List ℕ) (f : FrameRecord) (s : List ℕ) (n p : ℕ) (x : Source) : Type 0 where
  pub frame : Frame
  pub body : Term
  pub k : ℕ
  pub way : Way body p (var k)
  pub held : Held w f s n frame body
  pub term : Term
  pub source : SourceIs w s p (depth_at 0 way) x term

-- The body with that term in its place, which is closed, is over the limits, or s' holds it.
pub record PutsTerm (w : List ℕ) (f : FrameRecord) (s s' : List ℕ) (n p : ℕ) (x : Source) (r : Form) : Type 0 where
  pub all : (R : Frame) (t : Term) (k : ℕ) (way : Way t p (var k)) (K : Term) → Held w f s n R t → SourceIs w s p (depth_at 0 way) x K
      → Closed (depth R) (put way (lift x.lift 0 K)) → FormAs w f s' R (put way (lift x.lift 0 K)) r
  pub same_length : length s' ≡ length s
