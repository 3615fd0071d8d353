-- A term that stands in a string, and what takes its place.
-- Assumes nothing.
use Rattle.std.specs.Prelude.{ℕ, ◌+◌, ◌≤◌, ◌≡◌, List, length}
use Rattle.std.proofs.lemmas.List.Edits.{sets}
use Rattle.calculus.specs.Terms.{Term}
use Rattle.code.specs.Limits.{longest_term}
use Rattle.code.specs.Code.{encode}
use Rattle.code.specs.Claims.{Stands}

-- A term of at most 4,096 bytes stands in s from a place up to e.
pub record ShortTerm (s : List ℕ) (from e : ℕ) : Type 0 where
  pub term : Term
  pub stands : Stands s from e term
  pub short : e ≤ from + longest_term

-- s' is s with the term that stands there replaced by f of it, and nothing else changed.
pub record Replaced (f : Term → Term) (s s' : List ℕ) (from e : ℕ) : Type 0 where
  pub bytes : (t : Term) → Stands s from e t → s' ≡ sets s from (encode (f t))
  pub same_length : length s' ≡ length s
