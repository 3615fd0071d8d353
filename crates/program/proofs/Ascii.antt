-- A page is ASCII text.
-- Assumes nothing.
use Prim.Native.Nat.{ℕ, zero, suc, ◌+◌, ◌/◌, ◌%◌, ◌<◌}
use mathlib.Core.Bool.{Bool, true, false, cond}
use mathlib.Core.List.{List, [], ◌∷◌}
use native.Mathlib.Omega.{arith}
use lib.Dec.{ltb}
use lib.ListN.{set, take}
use lib.Seq.{sets}
use Rattle.std.specs.Prelude.{replicate}
use Rattle.std.specs.Str.{IsAscii, IsUtf8}
use Rattle.std.proofs.lemmas.Str.{IsAscii-take, IsUtf8-from_ascii}
use Rattle.std.proofs.lemmas.Str.Ascii.{IsAscii-nil, IsAscii-cons, IsAscii-set}
use Rattle.code.specs.Code.{Symbol, symbol, symbol_tau, symbol_var, symbol_app, symbol_abs}
use Rattle.printing.specs.Page.{Cell, blank, digit_zero, letter_cell, digit, index_cell, cells_in_line, columns, filled, lines}
use Rattle.printing.specs.Clauses.{mark, cell_of_symbol, cell_of, cells_of}
use Rattle.printing.proofs.Lines.{lines_full, lines_room}

ascii_zeros : (n : ℕ) → IsAscii (replicate n 0)
ascii_zeros zero = IsAscii-nil
ascii_zeros (suc n) = IsAscii-cons 0 (replicate n 0) (omega arith) (ascii_zeros n)

ascii_sets : (v s : List ℕ) (at : ℕ) → IsAscii v → IsAscii s → IsAscii (sets s at v)
ascii_sets [] s at a b = b
ascii_sets (x ∷ v) s at a b = ascii_sets v (set s at x) (suc at) (λ i. a (suc i)) (IsAscii-set s at x b (a 0))

-- ---- A cell.
record AsciiCell (c : Cell) : Type 0 where
  first : c.first < 128
  second : c.second < 128
  third : c.third < 128
  fourth : c.fourth < 128

ascii_letter : (x : ℕ) → x < 128 → AsciiCell (letter_cell x)
unfolding letter_cell
ascii_letter x h = record { first = omega arith; second = omega arith; third = omega arith; fourth = h }

either_below : (b : Bool) (x y : ℕ) → x < 128 → y < 128 → cond b x y < 128
either_below true x y h l = h
either_below false x y h l = l

ascii_digit : (k worth n : ℕ) → n < 10 → cond (ltb k worth) blank (digit_zero + n) < 128
ascii_digit k worth n h = either_below (ltb k worth) blank (digit_zero + n) (omega arith) (omega arith)

ascii_index : (k : ℕ) → AsciiCell (index_cell k)
unfolding index_cell digit
ascii_index k = record {
  first = ascii_digit k 1000 (k / 1000 % 10) (omega arith);
  second = ascii_digit k 100 (k / 100 % 10) (omega arith);
  third = ascii_digit k 10 (k / 10 % 10) (omega arith);
  fourth = omega arith;
}

ascii_symbol : (y : Symbol) (b : ℕ) → AsciiCell (cell_of_symbol y b)
unfolding cell_of_symbol
ascii_symbol symbol_tau b = ascii_letter _ (omega arith)
ascii_symbol symbol_var b = ascii_index b
ascii_symbol symbol_app b = ascii_letter _ (omega arith)
ascii_symbol symbol_abs b = ascii_letter _ (omega arith)

ascii_cell : (b : ℕ) → AsciiCell (cell_of b)
unfolding cell_of
ascii_cell b = ascii_symbol (symbol b) b

ascii_columns : (c : Cell) (s : List ℕ) → AsciiCell c → IsAscii s → IsAscii (columns c s)
ascii_columns c s w a =
    let third = IsAscii-cons c.third (c.fourth ∷ s) w.third (IsAscii-cons c.fourth s w.fourth a) in
    IsAscii-cons c.first (c.second ∷ c.third ∷ c.fourth ∷ s) w.first (IsAscii-cons c.second (c.third ∷ c.fourth ∷ s) w.second third)

-- ---- A page.
ascii_filled : (n : ℕ) → IsAscii (filled n)
unfolding filled
ascii_filled zero = IsAscii-cons 10 [] (omega arith) IsAscii-nil
ascii_filled (suc n) = ascii_columns (letter_cell blank) (filled n) (ascii_letter blank (omega arith)) (ascii_filled n)

ascii_empty : (n : ℕ) → IsAscii (lines n [])
unfolding lines
ascii_empty n = ascii_filled n

ascii_lines : (n : ℕ) (s : List ℕ) → IsAscii (lines n (cells_of s))
ascii_lines n [] = ascii_empty n
ascii_lines zero (b ∷ s) = rw (lines_full (cell_of b) (cells_of s)) (IsAscii-cons 10 (columns (cell_of b) (lines 17 (cells_of s))) (omega arith) (ascii_columns (cell_of b) (lines 17 (cells_of s)) (ascii_cell b) (ascii_lines 17 s)))
ascii_lines (suc n) (b ∷ s) = rw (lines_room n (cell_of b) (cells_of s)) (ascii_columns (cell_of b) (lines n (cells_of s)) (ascii_cell b) (ascii_lines n s))

-- ---- As they stand in an array.
pub page_text : (s : List ℕ) (room n : ℕ) → IsUtf8 (take n (sets (replicate room 0) 0 (lines cells_in_line (cells_of s))))
page_text s room n = IsUtf8-from_ascii _ (IsAscii-take _ n (ascii_sets _ _ 0 (ascii_lines cells_in_line s) (ascii_zeros room)))

pub mark_text : (room at : ℕ) → IsUtf8 (set (sets (replicate room 0) 0 (filled cells_in_line)) at mark)
mark_text room at = IsUtf8-from_ascii _ (IsAscii-set _ at mark (ascii_sets _ _ 0 (ascii_filled cells_in_line) (ascii_zeros room)) (omega arith))
