-- The two parts of a check: what is tested before the walk; and the walk, with the test for groups left after it.
-- Assumes nothing.
use Rattle.std.specs.Prelude.{ℕ, ◌≡◌, Result, Ok, Err, List, drop}
use Rattle.calculus.specs.Terms.{Term}
use Rattle.calculus.specs.Frames.{ε}
use Rattle.calculus.specs.Types.{degree}
use Rattle.code.specs.Refusals.{bodies_differ, number_of}
use Rattle.code.specs.declared.refusal.Refusal.{Refusal}
use Rattle.fields.specs.Fields.{GroupAt}
use Rattle.verdict.specs.Verdict.{Ground, Progress, Run, passed, stopped, check_term}
use Rattle.files.specs.File.{Opened, refused, opened, open_file}
use Rattle.files.specs.Check.{groups_of, left_over}
use Rattle.walk.specs.Clauses.{Halts, Walked}
use Rattle.checker.specs.declared.Opened as code

-- What the answer says of an opened file.
pub data OpenedAs : Result code.Opened Refusal → Opened → Type 0 where
  open_refused : {r : Refusal} → OpenedAs (Err r) (refused (number_of r.condition) r.place)
  opened_term : {o : code.Opened} {t : Term} {gs : List GroupAt} → o.degree ≡ degree ε t → OpenedAs (Ok o) (opened t o.end gs)

-- A file that opens, with its term up to e.
pub record Openable (s : List ℕ) (e : ℕ) : Type 0 where
  pub term : Term
  pub groups : List GroupAt
  pub opens : open_file s ≡ opened term e groups

-- What the answer says of a run with the groups gs: the numbers of the check's answer, but for the degree; and the ground of a stop.
pub data RunAs (gs : List GroupAt) (a b : List ℕ) (r : Walked) : Run → Type 0 where
  run_passed : {q : Progress} → ((d : ℕ) → left_over q.comparisons d (drop q.comparisons gs) ≡ record { number = r.number; place = r.place; comparisons = r.comparisons; degree = d })
      → (r.number ≡ bodies_differ → ⊥) → r.first ≡ 0 → r.second ≡ 0 → r.third ≡ 0 → RunAs gs a b r (passed q)
  run_stopped : {g : Ground} {q : Progress} → Halts r a b g → r.comparisons ≡ q.comparisons → RunAs gs a b r (stopped g q)

pub record FileWalked (s : List ℕ) (e : ℕ) (a b : List ℕ) (r : Walked) : Type 0 where
  pub all : (t : Term) (gs : List GroupAt) → open_file s ≡ opened t e gs → RunAs gs a b r (check_term t (groups_of gs))
