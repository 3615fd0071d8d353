-- The number of a ground.
-- Assumes nothing.
use Prim.Native.Nat.{ℕ}
use mathlib.Core.Path.{◌≡◌}
use mathlib.Core.List.{List}
use native.Mathlib.Omega.{arith}
use Rattle.verdict.specs.Verdict.{Ground, number}
use Rattle.compare.specs.Answers.{Compared, ground_says}
use Rattle.compare.specs.declared.Ground as declared
use Rattle.compare.specs.declared.Ground.TheVariants.{NoType, StillWaiting, NoGroupLeft, StepNotPossible, Outgrown, BodiesDiffer, GroupsLeft, NotReached}
use Rattle.compare.specs.Compares.{GroundIs, is_untyped, is_no_group, is_refused, is_type_outgrown, is_domain_outgrown, is_step_outgrown, is_different}

pub ground_number : {r : Compared} {a b : List ℕ} {g : Ground} → GroundIs r a b g → (r.number ≡ number g) × (r.number ≡ 0 → ⊥)
unfolding number
ground_number (is_untyped q i j k) = (q, λ z. omega arith)
ground_number (is_no_group q i j k) = (q, λ z. omega arith)
ground_number (is_refused q i j k) = (q, λ z. omega arith)
ground_number (is_type_outgrown q i j k) = (q, λ z. omega arith)
ground_number (is_domain_outgrown q i j k) = (q, λ z. omega arith)
ground_number (is_step_outgrown q i j k) = (q, λ z. omega arith)
ground_number (is_different q i j k) = (q, λ z. omega arith)

-- A ground has another number than 0.
pub ground_stops : (x : declared.Ground) → (ground_says x).number ≡ 0 → ⊥
ground_stops NoType z = omega arith
ground_stops (StillWaiting n) z = omega arith
ground_stops NoGroupLeft z = omega arith
ground_stops (StepNotPossible side n why) z = omega arith
ground_stops Outgrown z = omega arith
ground_stops (BodiesDiffer n m) z = omega arith
ground_stops GroupsLeft z = omega arith
ground_stops NotReached z = omega arith
