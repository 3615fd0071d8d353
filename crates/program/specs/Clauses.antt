-- Inner contracts: how long the parts of an answer may be, in bytes. What is added to a text has room there, so that nothing is cut short.
-- Assumes nothing.
use Rattle.std.specs.Prelude.{ℕ, ◌+◌, ◌-◌, ◌≤◌, ◌<◌, ◌≡◌, List, length}
use Rattle.arrayvec.specs.ArrayString.{ArrayString, array_string_len}
use Rattle.code.specs.Limits.{longest_term}
use Rattle.printing.specs.Page.{page_length}

-- The four numbers of an answer.
abbrev pub answer_room : ℕ
answer_room = 84

-- What a place counts in; 'At place', the place, and that; the words for a side; why a step is not possible; a sentence.
abbrev pub whole_room : ℕ
whole_room = 12

abbrev pub place_room : ℕ
place_room = 42

abbrev pub side_room : ℕ
side_room = 30

abbrev pub condition_room : ℕ
condition_room = 125

abbrev pub sentence_room : ℕ
sentence_room = 320

-- A body, with its head and its mark; all that is said of a file.
abbrev pub body_room : ℕ
body_room = 16790

abbrev pub explanation_room : ℕ
explanation_room = 34000

-- An explanation has room for so many more bytes.
abbrev pub HasRoom : ArrayString → ℕ → Type 0
HasRoom text room = array_string_len text + room ≤ explanation_room

-- A text goes on by at most so many bytes.
abbrev pub Added : ℕ → ArrayString → ArrayString → Type 0
Added room text text' = array_string_len text' ≤ array_string_len text + room

-- The page of s is cut at the end of the line that has a cell.
pub record LineEnd (s : List ℕ) (cell end : ℕ) : Type 0 where
  pub past : cell < end
  pub within : end ≤ length s
  pub lines : page_length end + page_length (length s - end) ≡ page_length (length s)

-- Two bodies stand at the starts of two buffers, and differ at a place in both.
pub record BodiesAt (left : List ℕ) (n : ℕ) (right : List ℕ) (k difference : ℕ) : Type 0 where
  pub left_counts : n ≤ length left
  pub right_counts : k ≤ length right
  pub left_short : n ≤ longest_term
  pub right_short : k ≤ longest_term
  pub in_left : difference < n
  pub in_right : difference < k
