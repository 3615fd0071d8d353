-- What the pass over the heads finds.
-- Assumes nothing.
use Rattle.std.specs.Prelude.{ℕ, ◌≡◌, Result, Ok, Err, List}
use Rattle.code.specs.Refusals.{number_of}
use Rattle.code.specs.declared.refusal.Refusal.{Refusal}
use Rattle.fields.specs.Fields.{Field, Fault, End}
use Rattle.fields.specs.Fields.{Sequence, broken, sequence}
use Rattle.sets.specs.Sets.{files_from}

-- A refusal, or the end n of the set.
unfoldable pub heads_of : ℕ → Sequence (List ℕ) → Field
heads_of n (broken m p) = Fault m p
heads_of n (sequence fs) = End n

-- What the code answers says this.
abbrev pub heads_say : ℕ → Result Unit Refusal → Field
heads_say n (Ok tt) = End n
heads_say n (Err r) = Fault (number_of r.condition) r.place

-- Whole fields stand from a place on.
pub record WholeFrom (s : List ℕ) (at : ℕ) : Type 0 where
  pub files : List (List ℕ)
  pub are : files_from s at ≡ sequence files
