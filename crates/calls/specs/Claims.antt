-- What the calculus promises, as promises of the answers of `write_type` and `apply_step`. The function `promises` ensures it.
-- Assumes nothing.
use Rattle.std.specs.Prelude.{ℕ, ◌+◌, ◌≤◌, ◌≡◌, ◌↔◌, List, length, take}
use Rattle.std.proofs.Math.Option.{some}
use Rattle.std.proofs.lemmas.List.Edits.{sets}
use Rattle.calculus.specs.Terms.{Term, size, Closed}
use Rattle.calculus.specs.Frames.{ε}
use Rattle.calculus.specs.Types.{degree, type}
use Rattle.calculus.specs.Steps.{Step, couples, step, replay, reached}
use Rattle.calculus.specs.Whole.{at, whole_steps}
use Rattle.code.specs.Refusals as refusals
use Rattle.code.specs.Code.{Bytes, encode, decode}
use Rattle.code.specs.Scope.{Fits}
use Rattle.examine.specs.Inspect.{accepted, examined}
use Rattle.calls.specs.Answers.{nothing, answer, type_answer, step_written, step_answer}

-- The result u was written to the start of the buffer, and nothing else was: it is closed and within the limits.
pub record Result (out : List ℕ) (u : Term) (place n : ℕ) (out' : List ℕ) : Type 0 where
  pub place_is : place ≡ 0
  pub length_is : n ≡ size u
  pub room : n ≤ length out
  pub buffer : out' ≡ sets out 0 (encode u)
  pub decodes : decode (take n out') ≡ some u
  pub closed : Closed 0 u
  pub fits : Fits 0 u

pub record TypeResult (s out : List ℕ) (place n : ℕ) (out' : List ℕ) : Type 0 where
  pub term : Term
  pub result : Term
  pub accepts : examined s ≡ accepted term
  pub typed : type ε term ≡ some result
  pub one_lower : degree ε result + 1 ≡ degree ε term
  pub written : Result out result place n out'

pub record StepResult (s : List ℕ) (x : Step) (out : List ℕ) (place n : ℕ) (out' : List ℕ) : Type 0 where
  pub term : Term
  pub result : Term
  pub accepts : examined s ≡ accepted term
  pub steps : step ε x term ≡ reached result
  pub written : Result out result place n out'

-- s is a term of degree 1.
pub record DegreeOne (s : List ℕ) : Type 0 where
  pub term : Term
  pub accepts : examined s ≡ accepted term
  pub degree_one : degree ε term ≡ 1

pub record Promises : Type 0 where
  -- what number 0 says
  pub type_result : (s out : List ℕ) {out' : List ℕ} {place n : ℕ} → Bytes s → type_answer s out ≡ answer refusals.accepted place n out' → TypeResult s out place n out'
  pub step_result : (s out : List ℕ) (x : Step) {out' : List ℕ} {place n : ℕ} → Bytes s → step_answer s x out ≡ answer refusals.accepted place n out' → StepResult s x out place n out'
  -- 'none' is for accepted terms of degree 1, and leaves the buffer
  pub type_none : (s out out' : List ℕ) → (type_answer s out ≡ nothing out') ↔ (DegreeOne s × (out' ≡ out))
  -- any other answer leaves the buffer, and says that nothing was written
  pub type_kept : (s out : List ℕ) {out' : List ℕ} {number place n : ℕ} → type_answer s out ≡ answer number place n out' → (number ≡ refusals.accepted → ⊥) → (n ≡ 0) × (out' ≡ out)
  pub step_kept : (s out : List ℕ) (x : Step) {out' : List ℕ} {number place n : ℕ} → step_answer s x out ≡ answer number place n out' → (number ≡ refusals.accepted → ⊥) → (n ≡ 0) × (out' ≡ out)
  -- kind 3 answers as local steps at all uses, from left to right, and then a removal would, if only the last form were measured
  pub step_whole : (s out : List ℕ) (t : Term) (p : ℕ) → examined s ≡ accepted t → step_answer s (at 3 p) out ≡ step_written out (replay ε (whole_steps couples t p) t)
