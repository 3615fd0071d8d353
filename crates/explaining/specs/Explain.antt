-- The explaining call (document 02, request (g)): what it answers of a file, and what it leaves in the two lent buffers.
-- Assumes nothing.
use Rattle.std.specs.Prelude.{ℕ, Result, Ok, Err, suc, cond, List, [], ◌∷◌, eqb, leb, length}
use Rattle.std.proofs.lemmas.List.Edits.{sets}
use Rattle.calculus.specs.Steps.{latest}
use Rattle.code.specs.Refusals.{accepted, still_waiting, step_not_possible, bodies_differ, buffer_too_short, number_of}
use Rattle.code.specs.declared.refusal.Refusal.{Refusal}
use Rattle.code.specs.Code.{encode}
use Rattle.verdict.specs.Verdict.{Ground, untyped, something_waits, no_group, step_refused, state_outgrown, type_outgrown, domain_outgrown, step_outgrown, different_bodies, not_reached, Run, passed, stopped, check_term, side_number, reason_number}
use Rattle.bodies.specs.Reasons.{said}
use Rattle.compare.specs.Answers.{side_said}
use Rattle.checker.specs.declared.Checked.{Checked}
use Rattle.explaining.specs.declared.Cause.{Cause}
use Rattle.explaining.specs.declared.Cause.TheVariants.{StillWaiting, StepNotPossible, BodiesDiffer, Other}
use Rattle.explaining.specs.declared.Explained.{Explained}
use Rattle.files.specs.File.{Opened, refused, opened, open_file}
use Rattle.files.specs.Check.{CheckAnswer, groups_of, check_opened_by}

-- The check's four numbers, three more, and the two buffers after the call.
pub record Explanation : Type 0 where
  pub answer : CheckAnswer
  pub first : ℕ
  pub second : ℕ
  pub third : ℕ
  pub left : List ℕ
  pub right : List ℕ

-- The place of the first byte at which two bodies differ.
unfoldable pub difference : List ℕ → List ℕ → ℕ
difference [] s = 0
difference (x ∷ r) [] = 0
difference (x ∷ r) (y ∷ s) = let n = suc (difference r s) in cond (eqb x y) n 0

-- The check's answer and three numbers; both buffers stay as they are.
abbrev pub told : CheckAnswer → (left right : List ℕ) → (first second third : ℕ) → Explanation
told a left right x y z = record { answer = a; first = x; second = y; third = z; left = left; right = right }

-- 12: the bytes l and r of the two bodies for the lent buffers, which both stay as they are where either is shorter (14).
unfoldable pub handed_both : CheckAnswer → (left right l r : List ℕ) → Explanation
unfolding difference
handed_both a left right l r =
    let both : Explanation = record { answer = a; first = length l; second = length r; third = difference l r; left = sets left 0 l; right = sets right 0 r } in
    let neither : Explanation = told (record { number = buffer_too_short; place = 0; comparisons = a.comparisons; degree = a.degree }) left right 0 0 0 in
    cond (leb (length l) (length left)) (cond (leb (length r) (length right)) both neither) neither

-- By what stopped the check: for 8 how many wait, for 10 side, step and condition, for 12 the bodies as reached; else nothing more.
unfoldable pub explain_ground : CheckAnswer → (left right : List ℕ) → Ground → Explanation
unfolding handed_both side_number reason_number
explain_ground a left right (something_waits i n) = told a left right n 0 0
explain_ground a left right (step_refused i side n why) = told a left right (side_number side) n (reason_number why)
explain_ground a left right (different_bodies i l r) = handed_both a left right (encode l) (encode r)
explain_ground a left right (untyped i) = told a left right 0 0 0
explain_ground a left right (no_group i) = told a left right 0 0 0
explain_ground a left right (state_outgrown i) = told a left right 0 0 0
explain_ground a left right (type_outgrown i) = told a left right 0 0 0
explain_ground a left right (domain_outgrown i) = told a left right 0 0 0
explain_ground a left right (step_outgrown i side n) = told a left right 0 0 0
explain_ground a left right (not_reached i) = told a left right 0 0 0

unfoldable pub explain_run : CheckAnswer → (left right : List ℕ) → Run → Explanation
unfolding explain_ground
explain_run a left right (passed q) = told a left right 0 0 0
explain_run a left right (stopped g q) = explain_ground a left right g

unfoldable pub explain_opened : (left right : List ℕ) → Opened → Explanation
unfolding explain_run check_opened_by
explain_opened left right (refused n p) = told (check_opened_by latest (refused n p)) left right 0 0 0
explain_opened left right (opened t e gs) = explain_run (check_opened_by latest (opened t e gs)) left right (check_term t (groups_of gs))

unfoldable pub explain_file : (s left right : List ℕ) → Explanation
unfolding explain_opened open_file
explain_file s left right = explain_opened left right (open_file s)

-- What stopped the check, in numbers: its own, and three for what more is told.
abbrev pub cause_number : Cause → ℕ
cause_number (StillWaiting n) = still_waiting
cause_number (StepNotPossible side n why) = step_not_possible
cause_number (BodiesDiffer l r d) = bodies_differ
cause_number (Other c) = number_of c

abbrev pub first_of : Cause → ℕ
first_of (StillWaiting n) = n
first_of (StepNotPossible side n why) = side_number (side_said side)
first_of (BodiesDiffer l r d) = l
first_of (Other c) = 0

abbrev pub second_of : Cause → ℕ
second_of (StillWaiting n) = 0
second_of (StepNotPossible side n why) = n
second_of (BodiesDiffer l r d) = r
second_of (Other c) = 0

abbrev pub third_of : Cause → ℕ
third_of (StillWaiting n) = 0
third_of (StepNotPossible side n why) = reason_number (said why)
third_of (BodiesDiffer l r d) = d
third_of (Other c) = 0

-- What each case of the code's answer says, with the buffers as they are left.
abbrev pub explained_says : Result Checked Explained → (left right : List ℕ) → Explanation
explained_says (Ok c) left right = told (record { number = accepted; place = 0; comparisons = c.comparisons; degree = c.degree }) left right 0 0 0
explained_says (Err e) left right =
    told (record { number = cause_number e.cause; place = e.place; comparisons = e.comparisons; degree = e.degree }) left right (first_of e.cause) (second_of e.cause) (third_of e.cause)

-- A refusal before the walk.
abbrev pub before_the_walk : Refusal → Explained
before_the_walk r = record { cause = Other r.condition; place = r.place; comparisons = 0; degree = 0 }
