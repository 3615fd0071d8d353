-- Inner contracts: what is added to a text.
-- Assumes nothing.
use Rattle.std.specs.Prelude.{ℕ, ◌+◌, ◌≤◌, ◌≡◌, List, length, take}

-- n bytes stand at the start of a text.
abbrev pub IsPrefixLen : ℕ → List ℕ → Type 0
IsPrefixLen n text = (n ≤ length text) × (n ≡ length (take n text))

-- A number of so many digits at most, and a byte after it.
abbrev pub number_room : ℕ → ℕ
number_room digits = digits + 1

-- At most so many bytes were put into a text, from a place on. They end within it, and it keeps its length.
pub record Added (at room : ℕ) (text : List ℕ) (end : ℕ) (text' : List ℕ) : Type 0 where
  pub within : end ≤ at + room
  pub counts : IsPrefixLen end text'
  pub same_length : length text' ≡ length text
