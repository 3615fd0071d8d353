-- What stops a check, in numbers (document 01, 'Sorted by what stops a check'; request (c)): the answer of a comparison for each of its cases.
-- Assumes nothing.
use Rattle.std.specs.Prelude.{ℕ, Result, Ok, Err}
use Rattle.code.specs.Refusals.{accepted, no_type, still_waiting, no_group_left, step_not_possible, outgrown, bodies_differ, groups_left, never}
use Rattle.bodies.specs.Reasons.{said, reason_number}
use Rattle.verdict.specs.Verdict.{left_side, right_side}
use Rattle.verdict.specs.Verdict as verdict
unfoldable pub use Rattle.verdict.specs.Verdict.{side_number}
use Rattle.compare.specs.declared.Side.{Side}
use Rattle.compare.specs.declared.Side.TheVariants.{Left, Right}
use Rattle.compare.specs.declared.Ground.{Ground}
use Rattle.compare.specs.declared.Ground.TheVariants.{NoType, StillWaiting, NoGroupLeft, StepNotPossible, Outgrown, BodiesDiffer, GroupsLeft, NotReached}

-- The side that the code names.
abbrev pub side_said : Side → verdict.Side
side_said Left = left_side
side_said Right = right_side

-- The number of a ground.
abbrev pub number_of_ground : Ground → ℕ
number_of_ground NoType = no_type
number_of_ground (StillWaiting waiting) = still_waiting
number_of_ground NoGroupLeft = no_group_left
number_of_ground (StepNotPossible side step reason) = step_not_possible
number_of_ground Outgrown = outgrown
number_of_ground (BodiesDiffer left right) = bodies_differ
number_of_ground GroupsLeft = groups_left
number_of_ground NotReached = never

-- What a comparison comes to: 0 and where the next group stands; or the number of what stops it, and its ground. For 10 the ground is
-- the side (0 left, 1 right), the step's number in its list from 0, and the condition (1 kind, 2 place, 3 byte, 4 no partner, 5 still used);
-- for 12 the lengths of the two bodies; for 8 how many wait; else 0 0 0.
pub record Compared : Type 0 where
  pub number : ℕ
  pub next : ℕ
  pub first : ℕ
  pub second : ℕ
  pub third : ℕ

-- A ground in numbers.
abbrev pub ground_says : Ground → Compared
ground_says (StillWaiting waiting) = record { number = still_waiting; next = 0; first = waiting; second = 0; third = 0 }
ground_says (StepNotPossible side step reason) = record { number = step_not_possible; next = 0; first = side_number (side_said side); second = step; third = reason_number (said reason) }
ground_says (BodiesDiffer left right) = record { number = bodies_differ; next = 0; first = left; second = right; third = 0 }
ground_says NoType = record { number = no_type; next = 0; first = 0; second = 0; third = 0 }
ground_says NoGroupLeft = record { number = no_group_left; next = 0; first = 0; second = 0; third = 0 }
ground_says Outgrown = record { number = outgrown; next = 0; first = 0; second = 0; third = 0 }
ground_says GroupsLeft = record { number = groups_left; next = 0; first = 0; second = 0; third = 0 }
ground_says NotReached = record { number = never; next = 0; first = 0; second = 0; third = 0 }

abbrev pub compared_says : Result ℕ Ground → Compared
compared_says (Ok next) = record { number = accepted; next = next; first = 0; second = 0; third = 0 }
compared_says (Err x) = ground_says x
