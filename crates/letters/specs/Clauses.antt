-- Bytes into letters, letters into bytes, and letters compared.
-- Assumes nothing.
use Rattle.std.specs.Prelude.{ℕ, ◌+◌, ◌-◌, ◌≤◌, ◌<◌, ◌≡◌, Bool, true, false, List, length, get_or}
use Rattle.std.proofs.lemmas.List.Edits.{sets}
use Rattle.calculus.specs.Terms.{Term, lift}
use Rattle.code.specs.Limits.{longest_term, most_abstractors}
use Rattle.code.specs.Code.{encode}
use Rattle.code.specs.Scope.{scope}
use Rattle.code.specs.Claims.{Stands}
use Rattle.indices.specs.Passes.{ShortTerm}
use Rattle.letters.specs.Letters.{depths, letters, Lies}

-- A term stands in s from a place up to e. Lifted by k, its first letter at depth d and height h, it has room in `out` from `at` on; at
-- most `room` of its abstractors may be in scope.
pub record Readable (s : List ℕ) (from e k d h room : ℕ) (out : List ℕ) (at : ℕ) : Type 0 where
  pub standing : ShortTerm s from e
  pub index : k ≤ most_abstractors
  pub deep : d + room < depths
  pub high : h + e ≤ from + longest_term
  pub fits : at + (e - from) ≤ longest_term

pub data ReadAs (k d h room : ℕ) (out out' : List ℕ) (at : ℕ) (t : Term) : Bool → Type 0 where
  read_all : out' ≡ sets out at (letters d h (lift k 0 t)) → scope t ≤ room → ReadAs k d h room out out' at t true
  too_deep : room < scope t → ReadAs k d h room out out' at t false

pub record Reads (s : List ℕ) (from e k d h room : ℕ) (out out' : List ℕ) (at : ℕ) (answer : Bool) : Type 0 where
  pub all : (t : Term) → Stands s from e t → ReadAs k d h room out out' at t answer
  pub same_length : length out' ≡ length out

-- No byte from a place up to e is larger than b.
pub record UpTo (s : List ℕ) (from e b : ℕ) : Type 0 where
  pub bound : (i : ℕ) → from ≤ i → i < e → get_or s i 0 ≤ b

-- Some term lies at the start of s, in n letters, and there is room for its bytes.
pub record BytesWritable (s : List ℕ) (n : ℕ) (out : List ℕ) : Type 0 where
  pub term : Term
  pub lies : Lies s 0 n 0 0 term
  pub fits : n ≤ length out

pub record Writes (s : List ℕ) (n : ℕ) (out out' : List ℕ) : Type 0 where
  pub bytes : (t : Term) → Lies s 0 n 0 0 t → out' ≡ sets out 0 (encode t)
  pub same_length : length out' ≡ length out
