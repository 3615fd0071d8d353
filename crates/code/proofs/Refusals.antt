-- Laws of the conditions.
-- Assumes nothing.
use Prim.Native.Nat.{◌≤◌}
use native.Mathlib.Omega.{arith}
use Rattle.code.specs.Refusals.{number_of}
use Rattle.code.specs.declared.refusal.Condition.{Condition}
use Rattle.code.specs.declared.refusal.Condition.TheVariants.{CutShort, WrongField, NotOneTerm, TooLong, BeyondScope, TooManyInScope, NoType, StillWaiting, NoGroupLeft, StepNotPossible, Outgrown, BodiesDiffer, GroupsLeft, BufferTooShort, TooLongToCount, NotASet, NotReached}

-- No refusal has the number 0.
pub refusal_number : (c : Condition) → 1 ≤ number_of c
refusal_number CutShort = omega arith
refusal_number WrongField = omega arith
refusal_number NotOneTerm = omega arith
refusal_number TooLong = omega arith
refusal_number BeyondScope = omega arith
refusal_number TooManyInScope = omega arith
refusal_number NoType = omega arith
refusal_number StillWaiting = omega arith
refusal_number NoGroupLeft = omega arith
refusal_number StepNotPossible = omega arith
refusal_number Outgrown = omega arith
refusal_number BodiesDiffer = omega arith
refusal_number GroupsLeft = omega arith
refusal_number BufferTooShort = omega arith
refusal_number TooLongToCount = omega arith
refusal_number NotASet = omega arith
refusal_number NotReached = omega arith
