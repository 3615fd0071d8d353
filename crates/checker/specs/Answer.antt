-- The contract of the call 'check a file'.
-- Assumes nothing.
use Rattle.std.specs.Prelude.{ℕ, ◌≡◌, Result, Ok, Err, List}
use Rattle.code.specs.Refusals.{accepted, number_of}
use Rattle.code.specs.declared.refusal.Refusal.{Refusal}
use Rattle.compare.specs.Answers.{number_of_ground}
use Rattle.walk.specs.declared.Stopped.{Stopped}
use Rattle.files.specs.Check as files
use Rattle.files.specs.Check.{check_file}
use Rattle.files.specs.Claims.{Accepted, Refused}
use Rattle.checker.specs.declared.Checked as code_checked
use Rattle.checker.specs.declared.Refused as code_refused

-- Number (0 if accepted), place, comparisons completed, degree.
pub record CheckAnswer : Type 0 where
  pub number : ℕ
  pub place : ℕ
  pub comparisons : ℕ
  pub degree : ℕ

-- What each case of the code's answer says.
abbrev pub check_says : Result code_checked.Checked code_refused.Refused → CheckAnswer
check_says (Ok c) = record { number = accepted; place = 0; comparisons = c.comparisons; degree = c.degree }
check_says (Err r) = record { number = number_of r.refusal.condition; place = r.refusal.place; comparisons = r.comparisons; degree = r.degree }

-- A refusal before the walk, and in the walk of a term of degree d.
abbrev pub before_walk : Refusal → code_refused.Refused
before_walk r = record { refusal = r; comparisons = 0; degree = 0 }

abbrev pub stopped_in_walk : Stopped → (d : ℕ) → CheckAnswer
stopped_in_walk r d = record { number = number_of_ground r.by; place = r.place; comparisons = r.comparisons; degree = d }

-- The four numbers.
pub record CheckedAs (r : CheckAnswer) (a : files.CheckAnswer) : Type 0 where
  pub number_is : r.number ≡ a.number
  pub place_is : r.place ≡ a.place
  pub comparisons_is : r.comparisons ≡ a.comparisons
  pub degree_is : r.degree ≡ a.degree

-- They are those of the definition; and what the acceptance of s means, and its refusal.
pub record Checked (s : List ℕ) (r : CheckAnswer) : Type 0 where
  pub answer : CheckedAs r (check_file s)
  pub acceptance : r.number ≡ accepted → Accepted s r.comparisons r.degree
  pub refusal : (r.number ≡ accepted → ⊥) → Refused s r.number r.comparisons r.degree
