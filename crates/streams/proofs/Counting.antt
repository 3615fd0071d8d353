-- From a bound on a count to what the contracts and `&s[..n]` ask.
-- Assumes nothing.
use Prim.Native.Nat.{ℕ, ◌≤◌}
use mathlib.Core.Path.{sym}
use mathlib.Core.List.{List}
use lib.ListN.{length}
use lib.Seq.{length-take-le}
use Rattle.streams.specs.Clauses.{IsPrefixLen}

pub prefix_len_of_le : (n : ℕ) (text : List ℕ) → n ≤ length text → IsPrefixLen n text
prefix_len_of_le n text h = (h, sym (length-take-le n text h))
