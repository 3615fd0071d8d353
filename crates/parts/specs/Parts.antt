-- A part of a string; a string after a part is copied into it; the start of two strings compared.
-- Assumes nothing.
use Rattle.std.specs.Prelude.{ℕ, ◌-◌, ◌≡◌, Bool, true, List, length, take, drop}
use Rattle.std.proofs.lemmas.List.Edits.{sets}

-- The bytes of s from a place up to another.
abbrev pub part : List ℕ → ℕ → ℕ → List ℕ
part s from to = take (to - from) (drop from s)

-- s' is s with the bytes of r from a place up to another stored from `at` on, and nothing else changed.
pub record Copied (r : List ℕ) (from to : ℕ) (s s' : List ℕ) (at : ℕ) : Type 0 where
  pub bytes : s' ≡ sets s at (part r from to)
  pub same_length : length s' ≡ length s

-- Whether the first n bytes of a and b are the same.
pub record Compared (a b : List ℕ) (n : ℕ) (answer : Bool) : Type 0 where
  pub same : answer ≡ true → take n a ≡ take n b
  pub found : take n a ≡ take n b → answer ≡ true
