-- Inner contracts: a cell put into a line, the bytes of a term as cells, and a mark below a cell.
-- Assumes nothing.
use Rattle.std.specs.Prelude.{ℕ, ◌+◌, ◌≤◌, ◌≡◌, List, ◌∷◌, map, length}
use Rattle.std.proofs.lemmas.List.Edits.{sets}
use Rattle.code.specs.Code.{Symbol, symbol, symbol_tau, symbol_var, symbol_app, symbol_abs}
use Rattle.printing.specs.Page.{Cell, cells_in_line, letter_tau, letter_applicator, letter_abstractor, letter_cell, index_cell, lines}

-- The byte that marks a cell.
abbrev pub mark : ℕ
mark = 0x5e

-- The cell of a byte.
unfoldable pub cell_of_symbol : Symbol → ℕ → Cell
cell_of_symbol symbol_tau b = letter_cell letter_tau
cell_of_symbol symbol_var b = index_cell b
cell_of_symbol symbol_app b = letter_cell letter_applicator
cell_of_symbol symbol_abs b = letter_cell letter_abstractor

unfoldable pub cell_of : ℕ → Cell
unfolding symbol cell_of_symbol
cell_of b = cell_of_symbol (symbol b) b

-- The cells of the bytes s.
abbrev pub cells_of : List ℕ → List Cell
cells_of s = map cell_of s

-- `todo` was to be written to `out` from a place on. Some of it has been: what is left, `todo'`, written to `out'` from its own place on,
-- gives the same bytes.
pub record Onward (out : List ℕ) (at : ℕ) (todo : List ℕ) (out' : List ℕ) (at' : ℕ) (todo' : List ℕ) : Type 0 where
  pub same_length : length out' ≡ length out
  pub same_end : at' + length todo' ≡ at + length todo
  pub same_result : sets out' at' todo' ≡ sets out at todo

-- A cell was put where the line has room for n, so that the next stands at at', where it has room for n'.
pub record PutsCell (c : Cell) (out : List ℕ) (at n : ℕ) (out' : List ℕ) (at' n' : ℕ) : Type 0 where
  pub onward : (cs : List Cell) → Onward out at (lines n (c ∷ cs)) out' at' (lines n' cs)
  pub room : n' ≤ cells_in_line
