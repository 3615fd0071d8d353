-- A term on a printed page, 72 columns wide (document 02, request (b)), and the answer of the call that prints it.
-- Assumes nothing.
use Rattle.std.specs.Prelude.{ℕ, zero, suc, ◌+◌, ◌*◌, ◌-◌, ◌/◌, ◌%◌, cond, List, [], ◌∷◌, ◌++◌, eqb, ltb}
use Rattle.calculus.specs.Terms.{Term, tau, var, app, abs}
use Rattle.examine.specs.Inspect.{Examined, refused, accepted, examined}
use Rattle.calls.specs.Answers.{Written, answer, handed}

-- Bytes of a page: blank, line feed, the digit 0, and the letters t, A and T.
abbrev pub blank : ℕ
blank = 0x20

abbrev pub line_feed : ℕ
line_feed = 0x0a

abbrev pub digit_zero : ℕ
digit_zero = 0x30

abbrev pub letter_tau : ℕ
letter_tau = 0x74

abbrev pub letter_applicator : ℕ
letter_applicator = 0x41

abbrev pub letter_abstractor : ℕ
letter_abstractor = 0x54

-- 'A line has 18 cells and a line feed'; the longest page, for callers that lend a buffer.
abbrev pub cells_in_line : ℕ
cells_in_line = 18

abbrev pub line_length : ℕ
line_length = 73

abbrev pub longest_page : ℕ
longest_page = 16644

-- A cell of four columns.
pub record Cell : Type 0 where
  pub first : ℕ
  pub second : ℕ
  pub third : ℕ
  pub fourth : ℕ

-- Right-aligned in it: one letter,
unfoldable pub letter_cell : ℕ → Cell
letter_cell x = record { first = blank; second = blank; third = blank; fourth = x }

-- or an index in decimal; a digit is left blank where the index is below what it is worth.
unfoldable pub digit : ℕ → ℕ → ℕ
digit k worth = cond (ltb k worth) blank (digit_zero + k / worth % 10)

unfoldable pub index_cell : ℕ → Cell
unfolding digit
index_cell k = record { first = digit k 1000; second = digit k 100; third = digit k 10; fourth = digit_zero + k % 10 }

-- The cells of a term, one for each symbol: 't for τ, A for fe, T for ff, or the index in decimal'.
unfoldable pub cells : Term → List Cell
unfolding letter_cell index_cell
cells tau = letter_cell letter_tau ∷ []
cells (var k) = index_cell k ∷ []
cells (app K B) = letter_cell letter_applicator ∷ (cells K ++ cells B)
cells (abs U B) = letter_cell letter_abstractor ∷ (cells U ++ cells B)

-- The four columns of a cell, and then what follows.
abbrev pub columns : Cell → List ℕ → List ℕ
columns c s = c.first ∷ c.second ∷ c.third ∷ c.fourth ∷ s

-- The end of a line: n cells of blanks, and the line feed.
unfoldable pub filled : ℕ → List ℕ
unfolding letter_cell
filled zero = line_feed ∷ []
filled (suc n) = columns (letter_cell blank) (filled n)

-- The cells that are still to come, where the line has room for n. A full line ends where another cell comes; 'the last is filled
-- with blanks'.
unfoldable pub lines : ℕ → List Cell → List ℕ
unfolding filled
lines n [] = filled n
lines n (c ∷ cs) = cond (eqb n 0) (line_feed ∷ columns c (lines (cells_in_line - 1) cs)) (columns c (lines (n - 1) cs))

unfoldable pub page : Term → List ℕ
unfolding cells lines
page t = lines cells_in_line (cells t)

-- The length of a page of n cells: 73 for each started line.
abbrev pub page_length : ℕ → ℕ
page_length n = line_length * ((n + (cells_in_line - 1)) / cells_in_line)

-- Printing: term refusals, then 14. There is no 11.
unfoldable pub print_answer_of : List ℕ → Examined → Written
unfolding handed page
print_answer_of out (refused n p) = answer n p 0 out
print_answer_of out (accepted t) = handed out (page t)

unfoldable pub print_answer : List ℕ → List ℕ → Written
unfolding print_answer_of examined
print_answer s out = print_answer_of out (examined s)
