-- What is promised of pages, and of the answers of `print_term`. The functions `pages` and `promises` ensure it.
-- Assumes nothing.
use Rattle.std.specs.Prelude.{ℕ, ◌+◌, ◌*◌, ◌/◌, ◌%◌, ◌≤◌, ◌<◌, ◌≡◌, ◌↔◌, List, [], ◌∷◌, ◌++◌, length, take, drop, get_or}
use Rattle.calculus.specs.Terms.{Term, size, Closed}
use Rattle.code.specs.Limits.{longest_term}
use Rattle.code.specs.Refusals.{not_one_term, too_many_in_scope, buffer_too_short}
use Rattle.code.specs.Refusals as refusals
use Rattle.code.specs.Code.{Bytes}
use Rattle.code.specs.Scope.{scope}
use Rattle.examine.specs.Inspect.{accepted, examined}
use Rattle.calls.specs.Answers.{answer}
use Rattle.printing.specs.Page.{Cell, line_feed, cells_in_line, line_length, longest_page, cells, columns, page, page_length, print_answer}

-- p consists of lines of 72 columns and a line feed: its line feeds are the last bytes of the lines, and no others.
pub record InLines (p : List ℕ) : Type 0 where
  pub lines_are : length p % line_length ≡ 0
  pub line_feeds : (i : ℕ) → i < length p → (get_or p i 0 ≡ line_feed) ↔ (i % line_length ≡ 72)

-- 1. The page of a term.
pub record Pages : Type 0 where
  pub in_lines : (t : Term) → InLines (page t)
  -- the cell after n others stands in line n / 18, from column 4 (n % 18) on, both from 0
  pub cell_at : (t : Term) (xs : List Cell) (c : Cell) (ys : List Cell) → cells t ≡ xs ++ c ∷ ys → take 4 (drop (line_length * (length xs / cells_in_line) + 4 * (length xs % cells_in_line)) (page t)) ≡ columns c []
  pub length_page : (t : Term) → length (page t) ≡ page_length (size t)
  pub longest : (t : Term) → size t ≤ longest_term → length (page t) ≤ longest_page
  -- two closed terms print alike only if they are equal: as long as no index outgrows its four columns
  pub alike : (t u : Term) → Closed 0 t → scope t < 10000 → Closed 0 u → scope u < 10000 → page t ≡ page u → t ≡ u

-- The term s was printed: a page of n bytes stands at the start of the buffer, and nothing else was written.
pub record Printed (s out : List ℕ) (place n : ℕ) (out' : List ℕ) : Type 0 where
  pub term : Term
  pub accepts : examined s ≡ accepted term
  pub place_is : place ≡ 0
  pub length_is : n ≡ page_length (size term)
  pub longest : n ≤ longest_page
  pub room : n ≤ length out
  pub page_is : take n out' ≡ page term
  pub past : drop n out' ≡ drop n out
  pub in_lines : InLines (take n out')

-- The numbers that refuse: 3 to 6, and 14.
pub data Refuses : ℕ → Type 0 where
  term_refused : {n : ℕ} → not_one_term ≤ n → n ≤ too_many_in_scope → Refuses n
  too_short : Refuses buffer_too_short

-- What any number but 0 says: the buffer keeps every byte.
pub record NotPrinted (number n : ℕ) (out out' : List ℕ) : Type 0 where
  pub refuses : Refuses number
  pub nothing_written : n ≡ 0
  pub kept : out' ≡ out

-- 2. The call.
pub record Promises : Type 0 where
  pub print_result : (s out : List ℕ) {out' : List ℕ} {place n : ℕ} → Bytes s → print_answer s out ≡ answer refusals.accepted place n out' → Printed s out place n out'
  pub print_kept : (s out : List ℕ) {out' : List ℕ} {number place n : ℕ} → print_answer s out ≡ answer number place n out' → (number ≡ refusals.accepted → ⊥) → NotPrinted number n out out'
  -- pages as written, in two buffers: if their lengths and their bytes are equal, so are the terms
  pub print_alike : (s u out₁ out₂ : List ℕ) {out₁' out₂' : List ℕ} {place₁ place₂ n₁ n₂ : ℕ} → Bytes s → Bytes u
      → print_answer s out₁ ≡ answer refusals.accepted place₁ n₁ out₁'
      → print_answer u out₂ ≡ answer refusals.accepted place₂ n₂ out₂'
      → n₁ ≡ n₂ → ((i : ℕ) → i < n₁ → get_or out₁' i 0 ≡ get_or out₂' i 0) → s ≡ u
