-- The answers of the calls as the numbers that a caller in C or Rust is given.
-- Assumes nothing.
use Rattle.std.specs.Prelude.{Result, Ok, Err, ℕ, ◌≡◌, List, [], ◌∷◌, length}
use Rattle.code.specs.Refusals.{accepted, number_of}
use Rattle.code.specs.declared.refusal.Refusal.{Refusal}
use Rattle.examine.specs.Inspect.{TermAnswer}
use Rattle.files.specs.File.{FileAnswer}
use Rattle.files.specs.Check.{CheckAnswer}
use Rattle.calls.specs.Answers.{Written, nothing, answer}
use Rattle.counting.specs.Counts.{CountAnswer}
use Rattle.checker.specs.declared.Refused.{Refused}
use Rattle.sets.specs.Sets.{SetAnswer}
use Rattle.explaining.specs.Explain.{Explanation}

-- Number, place and what was found.
abbrev pub result_numbers : Result ℕ Refusal → List ℕ
result_numbers (Ok n) = accepted ∷ 0 ∷ n ∷ []
result_numbers (Err r) = number_of r.condition ∷ r.place ∷ 0 ∷ []

abbrev pub term_numbers : TermAnswer → List ℕ
term_numbers a = a.number ∷ a.place ∷ a.degree ∷ []

-- The part starts at byte 3, so its length tells it.
abbrev pub file_numbers : FileAnswer → List ℕ
file_numbers a = a.number ∷ a.place ∷ length a.part ∷ []

abbrev pub check_numbers : CheckAnswer → List ℕ
check_numbers a = a.number ∷ a.place ∷ a.comparisons ∷ a.degree ∷ []

abbrev pub numbers_of_refused : Refused → List ℕ
numbers_of_refused r = number_of r.refusal.condition ∷ r.refusal.place ∷ r.comparisons ∷ r.degree ∷ []

abbrev pub count_numbers : CountAnswer → List ℕ
count_numbers a = a.number ∷ a.accepted ∷ a.malformed ∷ a.unbound ∷ []

abbrev pub set_numbers : SetAnswer → List ℕ
set_numbers a = a.file ∷ a.number ∷ a.place ∷ a.comparisons ∷ a.degree ∷ []

-- 1 for 'none'.
abbrev pub none_of : Written → ℕ
none_of (nothing _) = 1
none_of (answer _ _ _ _) = 0

-- The numbers after the call; those before it are kept at 'none'.
abbrev pub numbers_of : List ℕ → Written → List ℕ
numbers_of before (nothing _) = before
numbers_of before (answer n p k _) = n ∷ p ∷ k ∷ []

abbrev pub buffer_of : Written → List ℕ
buffer_of (nothing out) = out
buffer_of (answer _ _ _ out) = out

pub record Given (w : Written) (before after out : List ℕ) : Type 0 where
  pub numbers : after ≡ numbers_of before w
  pub buffer : out ≡ buffer_of w

-- The explaining call: the check's four numbers, three more, and 0; and the two buffers.
abbrev pub explain_numbers : Explanation → List ℕ
explain_numbers x = x.answer.number ∷ x.answer.place ∷ x.answer.comparisons ∷ x.answer.degree ∷ x.first ∷ x.second ∷ x.third ∷ 0 ∷ []

pub record Explains (x : Explanation) (after left right : List ℕ) : Type 0 where
  pub numbers : after ≡ explain_numbers x
  pub left_buffer : left ≡ x.left
  pub right_buffer : right ≡ x.right
