-- What is promised of the counts. A function of src/lib.rt ensures each numbered record.
-- Assumes nothing.
use Rattle.std.specs.Prelude.{ℕ, ◌+◌, ◌^◌, ◌≤◌, ◌≡◌, Bool, true, false, List, length}
use Rattle.code.specs.Refusals.{not_one_term, beyond_scope}
use Rattle.code.specs.Refusals as refusals
use Rattle.code.specs.Code.{Bytes}
use Rattle.examine.specs.OneByte.{one_byte_number}
use Rattle.counting.specs.Counts.{longest_counted, strings, count, answered, count_answer}

-- 1. Every byte string of a length stands in the list exactly once, and nothing else does.
pub record Listing : Type 0 where
  pub length_strings : (n : ℕ) → length (strings n) ≡ 256 ^ n
  -- one passes a test that this string passes and no other
  pub once : (s : List ℕ) (p : List ℕ → Bool) → Bytes s → p s ≡ true → ((t : List ℕ) → p t ≡ true → t ≡ s) → count p (strings (length s)) ≡ 1
  -- none passes a test that no byte string of the length passes
  pub no_others : (n : ℕ) (p : List ℕ → Bool) → ((s : List ℕ) → Bytes s → length s ≡ n → p s ≡ false) → count p (strings n) ≡ 0

-- The numbers that occur at these lengths: 0, 3 and 5.
pub data Occurs : ℕ → Type 0 where
  occurs_accepted : Occurs refusals.accepted
  occurs_3 : Occurs not_one_term
  occurs_5 : Occurs beyond_scope

-- 2. The counts.
pub record Counting : Type 0 where
  -- no other number occurs, so not 4 and not 6
  pub occurring : (s : List ℕ) → Bytes s → length s ≤ longest_counted → Occurs (one_byte_number s)
  pub no_others : (n number : ℕ) → n ≤ longest_counted → (Occurs number → ⊥) → answered number n ≡ 0
  -- the three add up
  pub adds_up : (n : ℕ) → n ≤ longest_counted → (count_answer n).accepted + (count_answer n).malformed + (count_answer n).unbound ≡ 256 ^ n
