-- The answers of the calls 'write a term's type' and 'apply one step' (document 01), with what each leaves in the lent buffer.
-- Assumes nothing.
use Rattle.std.specs.Prelude as prelude
use Rattle.std.specs.Prelude.{Some, None, Result, Ok, Err, ℕ, cond, ◌≡◌, List, [], leb, length}
use Rattle.std.proofs.Math.Option.{Option, none, some}
use Rattle.std.proofs.lemmas.List.Edits.{sets}
use Rattle.calculus.specs.Terms.{Term}
use Rattle.calculus.specs.Frames.{ε}
use Rattle.calculus.specs.Types.{type}
use Rattle.calculus.specs.Steps.{Step, Outcome, step}
use Rattle.calculus.specs.Steps as calculus
use Rattle.code.specs.Limits.{longest_term}
use Rattle.code.specs.declared.refusal.Refusal.{Refusal}
use Rattle.code.specs.Refusals.{step_not_possible, outgrown, buffer_too_short, number_of}
use Rattle.code.specs.Refusals as refusals
use Rattle.code.specs.Code.{encode}
use Rattle.examine.specs.Inspect.{Examined, refused, accepted, examined}
use Rattle.frames.specs.declared.FrameRecord.{FrameRecord}
use Rattle.frames.specs.Stored.{Stored}
use Rattle.letters.specs.Letters.{Lies}
use Rattle.bodies.specs.Held.{Held}
use Rattle.verdict.specs.Bounds.{body_fits}
use Rattle.files.specs.File.{FileAnswer}

-- What each case of the answer of `examine_file` says: the part handed back holds the bytes that `bytes` gives, and a refusal hands back none.
abbrev pub file_says : {A : Type 0} → (A → List ℕ) → Result A Refusal → FileAnswer
file_says bytes (Ok part) = record { number = refusals.accepted; place = 0; part = bytes part }
file_says bytes (Err r) = record { number = number_of r.condition; place = r.place; part = [] }

-- An answer and the buffer after it: 'none', or number, place and the length written.
pub data Written : Type 0 where
  nothing : (buffer : List ℕ) → Written
  answer : (number place length : ℕ) (buffer : List ℕ) → Written

-- The bytes v for a lent buffer, which stays as it is where it is shorter (14). Bytes past v keep their values.
unfoldable pub handed : List ℕ → List ℕ → Written
handed out v = cond (leb (length v) (length out)) (answer refusals.accepted 0 (length v) (sets out 0 v)) (answer buffer_too_short 0 0 out)

-- A result: 11, then 14.
unfoldable pub written : List ℕ → Term → Written
unfolding handed
written out t = cond (body_fits ε t) (handed out (encode t)) (answer outgrown 0 0 out)

-- A term's type: term refusals, 'none', 11, 14.
unfoldable pub type_written : List ℕ → Option Term → Written
type_written out none = nothing out
type_written out (some T) = written out T

unfoldable pub type_answer_of : List ℕ → Examined → Written
type_answer_of out (refused n p) = answer n p 0 out
type_answer_of out (accepted t) = type_written out (type ε t)

unfoldable pub type_answer : List ℕ → List ℕ → Written
unfolding type_answer_of type_written written examined
type_answer s out = type_answer_of out (examined s)

-- One step, with an empty frame: term refusals, 10, 11, 14. Its 10 and 11 have place 0.
unfoldable pub step_written : List ℕ → Outcome → Written
step_written out (calculus.refused r) = answer step_not_possible 0 0 out
step_written out (calculus.reached u) = written out u

unfoldable pub step_answer_of : List ℕ → Step → Examined → Written
step_answer_of out x (refused n p) = answer n p 0 out
step_answer_of out x (accepted t) = step_written out (step ε x t)

unfoldable pub step_answer : List ℕ → Step → List ℕ → Written
unfolding step_answer_of step_written written examined
step_answer s x out = step_answer_of out x (examined s)

-- The answers of the code, with the buffer as it is left, as document 01 has them: for `write_type` no length is 'none'.
abbrev pub step_says : Result ℕ Refusal → List ℕ → Written
step_says (Ok n) out = answer refusals.accepted 0 n out
step_says (Err r) out = answer (number_of r.condition) r.place 0 out

abbrev pub type_says : Result (prelude.Option ℕ) Refusal → List ℕ → Written
type_says (Ok None) out = nothing out
type_says (Ok (Some n)) out = answer refusals.accepted 0 n out
type_says (Err r) out = answer (number_of r.condition) r.place 0 out

-- Some term is accepted.
pub record AcceptedTerm (s : List ℕ) : Type 0 where
  pub term : Term
  pub accepts : examined s ≡ accepted term

-- Letters that hold, as a body after the empty frame, the term that s is.
pub record OpenedBody (s b : List ℕ) : Type 0 where
  pub body : {w : List ℕ} {f : FrameRecord} (t : Term) → examined s ≡ accepted t → Stored w f ε → Held w f b (length s) ε t

-- The term t lies in n letters at the start of b.
pub record InLetters (b : List ℕ) (n : ℕ) (t : Term) : Type 0 where
  pub array : length b ≡ longest_term
  pub lies : Lies b 0 n 0 0 t
