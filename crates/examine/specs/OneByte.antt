-- Examining under document 01's own code, in which every symbol is one byte, 01 to fd are the indices and at most 253 abstractors are
-- in scope. Request (j) adds long indices to examining and leaves this one as it is: the counts of strings (request (c)) cite it.
-- Until then it is the one that there is.
-- Assumes nothing.
use Rattle.std.specs.Prelude.{ℕ, List}
use Rattle.examine.specs.Inspect.{term_answer}

-- The number that a string is answered with.
abbrev pub one_byte_number : List ℕ → ℕ
one_byte_number s = (term_answer s).number
