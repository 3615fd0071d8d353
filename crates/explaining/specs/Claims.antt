-- What is promised of the answers of `explain`. The function `promises` ensures it.
-- Assumes nothing.
use Rattle.std.specs.Prelude.{ℕ, ◌≤◌, ◌<◌, ◌≡◌, ◌⊎◌, List, ◌++◌, length, take, get_or}
use Rattle.std.proofs.Math.Option.{some}
use Rattle.std.proofs.lemmas.List.Edits.{sets}
use Rattle.calculus.specs.Terms.{Term, size, Closed}
use Rattle.calculus.specs.Steps.{Reason}
use Rattle.calculus.specs.Rules.{Group}
use Rattle.code.specs.Refusals.{still_waiting, step_not_possible, bodies_differ, buffer_too_short}
use Rattle.code.specs.Code.{Bytes, encode, decode}
use Rattle.fields.specs.Files.{write_file}
use Rattle.verdict.specs.Verdict.{Side, Ground, something_waits, step_refused, different_bodies, Progress, side_number, reason_number}
use Rattle.verdict.specs.Claims.{Stopped}
use Rattle.files.specs.Check.{check_file}
use Rattle.explaining.specs.Explain.{Explanation, difference, explain_file}

-- The file holds a term and groups, and the one-pass rules reach this ground after so many comparisons.
pub record Reached (s : List ℕ) (comparisons : ℕ) (g : Ground) : Type 0 where
  pub term : Term
  pub steps : List Group
  pub file : s ≡ write_file (encode term) steps
  pub closed : Closed 0 term
  pub progress : Progress
  pub counted : comparisons ≡ progress.comparisons
  pub stopped : Stopped term steps g progress

-- Two strings differ at the place given: before it they agree, and it is within both, so that neither is a beginning of the other.
pub record Differing (a b : List ℕ) : Type 0 where
  pub in_left : difference a b < length a
  pub in_right : difference a b < length b
  pub differ : get_or a (difference a b) 0 ≡ get_or b (difference a b) 0 → ⊥
  pub agree : (i : ℕ) → i < difference a b → get_or a i 0 ≡ get_or b i 0
  pub left_no_beginning : (rest : List ℕ) → b ≡ a ++ rest → ⊥
  pub right_no_beginning : (rest : List ℕ) → a ≡ b ++ rest → ⊥

-- 12: both bodies, as the file's steps carried them, stand at the starts of the buffers, and nothing else was written.
pub record BodiesTold (s left right : List ℕ) (x : Explanation) : Type 0 where
  pub left_body : Term
  pub right_body : Term
  pub reached : Reached s x.answer.comparisons (different_bodies x.answer.place left_body right_body)
  pub left_length : x.first ≡ size left_body
  pub right_length : x.second ≡ size right_body
  pub left_room : x.first ≤ length left
  pub right_room : x.second ≤ length right
  pub left_buffer : x.left ≡ sets left 0 (encode left_body)
  pub right_buffer : x.right ≡ sets right 0 (encode right_body)
  pub left_decodes : decode (take x.first x.left) ≡ some left_body
  pub right_decodes : decode (take x.second x.right) ≡ some right_body
  pub difference_is : x.third ≡ difference (encode left_body) (encode right_body)
  pub differing : Differing (encode left_body) (encode right_body)

-- 14: so it would have been, but for a buffer that is too short.
pub record TooShort (s left right : List ℕ) (x : Explanation) : Type 0 where
  pub left_body : Term
  pub right_body : Term
  pub reached : Reached s x.answer.comparisons (different_bodies (check_file s).place left_body right_body)
  pub short : (length left < size left_body) ⊎ (length right < size right_body)
  pub check_is : (check_file s).number ≡ bodies_differ
  pub place_is : x.answer.place ≡ 0
  pub comparisons_are : x.answer.comparisons ≡ (check_file s).comparisons
  pub degree_is : x.answer.degree ≡ (check_file s).degree

-- 10: the side, the step's number in its list from 0, and the condition that it fails.
pub record StepTold (s : List ℕ) (x : Explanation) : Type 0 where
  pub side : Side
  pub nth : ℕ
  pub why : Reason
  pub reached : Reached s x.answer.comparisons (step_refused x.answer.place side nth why)
  pub side_is : x.first ≡ side_number side
  pub nth_is : x.second ≡ nth
  pub why_is : x.third ≡ reason_number why

-- 8: how many wait in the state.
pub record WaitingTold (s : List ℕ) (x : Explanation) : Type 0 where
  pub how_many : ℕ
  pub reached : Reached s x.answer.comparisons (something_waits x.answer.place how_many)
  pub how_many_is : x.first ≡ how_many
  pub second_is : x.second ≡ 0
  pub third_is : x.third ≡ 0

-- Nothing more.
pub record NothingTold (x : Explanation) : Type 0 where
  pub first_is : x.first ≡ 0
  pub second_is : x.second ≡ 0
  pub third_is : x.third ≡ 0

pub record Promises : Type 0 where
  -- the first four numbers are the check's, 14 apart
  pub as_checked : (s left right : List ℕ) → Bytes s → ((explain_file s left right).answer.number ≡ buffer_too_short → ⊥) → (explain_file s left right).answer ≡ check_file s
  pub too_short : (s left right : List ℕ) → Bytes s → (explain_file s left right).answer.number ≡ buffer_too_short → TooShort s left right (explain_file s left right)
  -- at every answer but 12 both buffers keep every byte
  pub kept : (s left right : List ℕ) → Bytes s → ((explain_file s left right).answer.number ≡ bodies_differ → ⊥) → ((explain_file s left right).left ≡ left) × ((explain_file s left right).right ≡ right)
  -- what is told
  pub bodies : (s left right : List ℕ) → Bytes s → (explain_file s left right).answer.number ≡ bodies_differ → BodiesTold s left right (explain_file s left right)
  pub step : (s left right : List ℕ) → Bytes s → (explain_file s left right).answer.number ≡ step_not_possible → StepTold s (explain_file s left right)
  pub waiting : (s left right : List ℕ) → Bytes s → (explain_file s left right).answer.number ≡ still_waiting → WaitingTold s (explain_file s left right)
  pub nothing_more : (s left right : List ℕ) → Bytes s → ((explain_file s left right).answer.number ≡ still_waiting → ⊥) → ((explain_file s left right).answer.number ≡ step_not_possible → ⊥)
      → ((explain_file s left right).answer.number ≡ bodies_differ → ⊥) → NothingTold (explain_file s left right)
