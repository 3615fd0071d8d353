-- What an answer's number says (document 01, 'Sorted by what stops a check'; from 15 on, the requests of document 02), each named once.
-- Assumes nothing.
use Rattle.std.specs.Prelude.{ℕ}
use Rattle.code.specs.declared.refusal.Condition.{Condition}
use Rattle.code.specs.declared.refusal.Condition.TheVariants.{CutShort, WrongField, NotOneTerm, TooLong, BeyondScope, TooManyInScope, NoType, StillWaiting, NoGroupLeft, StepNotPossible, Outgrown, BodiesDiffer, GroupsLeft, BufferTooShort, TooLongToCount, NotASet, NotReached}

abbrev pub accepted : ℕ
accepted = 0

-- a due field's head or body is cut short; empty file
abbrev pub cut_short : ℕ
cut_short = 1

-- tag not the one due, or steps not a multiple of 3 bytes
abbrev pub wrong_field : ℕ
wrong_field = 2

-- not exactly one term
abbrev pub not_one_term : ℕ
not_one_term = 3

-- file or set over 65,535 or term over 4,096 bytes
abbrev pub too_long : ℕ
too_long = 4

-- index beyond scope
abbrev pub beyond_scope : ℕ
beyond_scope = 5

-- over 253 abstractors in scope
abbrev pub too_many_in_scope : ℕ
too_many_in_scope = 6

-- K has no type
abbrev pub no_type : ℕ
no_type = 7

-- τ met, something waiting
abbrev pub still_waiting : ℕ
still_waiting = 8

-- no group left
abbrev pub no_group_left : ℕ
no_group_left = 9

-- unknown kind, place past the body, or step's condition unmet
abbrev pub step_not_possible : ℕ
step_not_possible = 10

-- outgrown
abbrev pub outgrown : ℕ
outgrown = 11

-- bodies differ
abbrev pub bodies_differ : ℕ
bodies_differ = 12

-- groups left
abbrev pub groups_left : ℕ
groups_left = 13

-- buffer shorter than the result
abbrev pub buffer_too_short : ℕ
buffer_too_short = 14

-- length over 7, of strings to be counted (request (c))
abbrev pub too_long_to_count : ℕ
too_long_to_count = 15

-- of a set: no file, a field cut short, or a tag other than 5 (request (e))
abbrev pub not_a_set : ℕ
not_a_set = 16

-- of what stops no check
abbrev pub never : ℕ
never = 255

-- The number of each condition of the code.
abbrev pub number_of : Condition → ℕ
number_of CutShort = cut_short
number_of WrongField = wrong_field
number_of NotOneTerm = not_one_term
number_of TooLong = too_long
number_of BeyondScope = beyond_scope
number_of TooManyInScope = too_many_in_scope
number_of NoType = no_type
number_of StillWaiting = still_waiting
number_of NoGroupLeft = no_group_left
number_of StepNotPossible = step_not_possible
number_of Outgrown = outgrown
number_of BodiesDiffer = bodies_differ
number_of GroupsLeft = groups_left
number_of BufferTooShort = buffer_too_short
number_of TooLongToCount = too_long_to_count
number_of NotASet = not_a_set
number_of NotReached = never
