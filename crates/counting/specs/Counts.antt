-- How many byte strings of a length get each answer from the examining call (document 02, request (c)): the strings are listed, and those
-- with an answer are counted. The list is never computed.
-- Assumes nothing.
use Rattle.std.specs.Prelude.{Result, Ok, Err, ℕ, zero, suc, ◌+◌, Bool, cond, eqb, leb}
use mathlib.Core.List.{List, [], ◌∷◌, map, flat_map}
use Rattle.code.specs.Refusals.{not_one_term, beyond_scope, too_long_to_count, number_of}
use Rattle.code.specs.Refusals as refusals
use Rattle.examine.specs.OneByte.{one_byte_number}
use Rattle.code.specs.declared.refusal.Condition.{Condition}
use Rattle.counting.specs.declared.Counts.{Counts}

-- Condition 15: 'length over 7'.
abbrev pub longest_counted : ℕ
longest_counted = 7

-- The numbers below n.
unfoldable pub below : ℕ → List ℕ
below zero = []
below (suc n) = n ∷ below n

-- All byte strings of a length: each byte before each string that is one byte shorter.
unfoldable pub strings : ℕ → List (List ℕ)
strings zero = [] ∷ []
strings (suc n) = flat_map (λ b. map (λ s. b ∷ s) (strings n)) (below 256)

-- How many of the strings pass a test.
unfoldable pub count : (List ℕ → Bool) → List (List ℕ) → ℕ
count p [] = 0
count p (s ∷ ss) = cond (p s) 1 0 + count p ss

-- How many strings of a length the examining call answers with a number. These counts keep the one-byte code.
unfoldable pub answered : ℕ → ℕ → ℕ
answered number n = count (λ s. eqb (one_byte_number s) number) (strings n)

-- Number, and how many strings are accepted, refused with 3 and refused with 5.
pub record CountAnswer : Type 0 where
  pub number : ℕ
  pub accepted : ℕ
  pub malformed : ℕ
  pub unbound : ℕ

-- The answer of the call `count_strings`: 15, before all else, with 0 for the rest; or the three counts.
unfoldable pub count_answer : ℕ → CountAnswer
count_answer n =
    cond (leb n longest_counted)
    record { number = refusals.accepted; accepted = answered refusals.accepted n; malformed = answered not_one_term n; unbound = answered beyond_scope n }
    record { number = too_long_to_count; accepted = 0; malformed = 0; unbound = 0 }

-- What each case of the code's answer says.
abbrev pub counts_say : Result Counts Condition → CountAnswer
counts_say (Ok c) = record { number = refusals.accepted; accepted = c.accepted; malformed = c.malformed; unbound = c.unbound }
counts_say (Err x) = record { number = number_of x; accepted = 0; malformed = 0; unbound = 0 }
