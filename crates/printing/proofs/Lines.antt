-- The lines of cells: how long they are, where their line feeds stand, and that they tell the cells.
-- Assumes nothing.
use Prim.Native.Nat.{ℕ, zero, suc, ◌+◌, ◌*◌, ◌-◌, ◌/◌, ◌%◌, ◌≤◌, ◌<◌}
use mathlib.Core.Path.{◌≡◌, refl, ap, sym, ◌∙◌}
use mathlib.Core.Logic.{◌↔◌}
use mathlib.Core.List.{List, [], ◌∷◌, ◌++◌}
use native.Mathlib.Omega.{arith}
use lib.ListN.{length, get_or, take, drop}
use borrow.Author.Tests.{ne_eqb}
use Rattle.printing.specs.Page.{Cell, blank, line_feed, cells_in_line, line_length, letter_cell, columns, filled, lines, page_length}
use Rattle.printing.proofs.Cells.{Shown, AllShown, no_cells, more}

-- ---- One cell more: the line is full, or has room.
pub lines_full : (c : Cell) (cs : List Cell) → lines 0 (c ∷ cs) ≡ line_feed ∷ columns c (lines 17 cs)
unfolding lines
lines_full c cs = refl

pub lines_room : (n : ℕ) (c : Cell) (cs : List Cell) → lines (suc n) (c ∷ cs) ≡ columns c (lines n cs)
unfolding lines
lines_room n c cs = let p : suc n - 1 ≡ n = omega arith in rw (ne_eqb (suc n) 0 (λ z. omega arith), p)

-- ---- How long they are.
pub length_filled : (n : ℕ) → length (filled n) ≡ n * 4 + 1
unfolding filled
length_filled zero = refl
length_filled (suc n) = omega (arith, length_filled n)

pub length_lines : (n : ℕ) (cs : List Cell) → n ≤ cells_in_line → length (lines n cs) ≡ n * 4 + 1 + line_length * ((length cs + 17 - n) / cells_in_line)
unfolding lines
length_lines n [] h = omega (arith, length_filled n)
length_lines zero (c ∷ cs) h = omega (arith, length_lines 17 cs (omega arith))
length_lines (suc n) (c ∷ cs) h = rw (lines_room n c cs) (omega (arith, length_lines n cs (omega arith)))

pub length_page_lines : (cs : List Cell) → 1 ≤ length cs → length (lines cells_in_line cs) ≡ page_length (length cs)
length_page_lines cs h = omega (arith, length_lines 18 cs (omega arith))

pub five : (n : ℕ) (c : Cell) (cs : List Cell) → n ≤ cells_in_line → 5 ≤ length (lines n (c ∷ cs))
five zero c cs h = omega (arith, length_lines 0 (c ∷ cs) h)
five (suc n) c cs h = omega (arith, length_lines (suc n) (c ∷ cs) h)

-- ---- The bytes p stand from place k of a page on: its line feeds are where lines end.
record Feeds (p : List ℕ) (k : ℕ) : Type 0 where
  fed : (i : ℕ) → i < length p → (get_or p i 0 ≡ line_feed) ↔ ((i + k) % line_length ≡ 72)

feeds_none : (k : ℕ) → Feeds [] k
feeds_none k = record { fed = λ i h. absurd (omega arith) }

feeds_cons : (x : ℕ) {p : List ℕ} {k : ℕ} → (x ≡ line_feed) ↔ (k % line_length ≡ 72) → Feeds p (suc k) → Feeds (x ∷ p) k
feeds_cons x {p} {k} h f = record { fed = go }
  where
    go : (i : ℕ) → i < suc (length p) → (get_or (x ∷ p) i 0 ≡ line_feed) ↔ ((i + k) % line_length ≡ 72)
    go zero l = let e : 0 + k ≡ k = omega arith in rw e h
    go (suc i) l = let e : suc i + k ≡ i + suc k = omega arith in rw e (f.fed i (omega arith))

-- A column that prints, and so is no line feed.
feeds_column : (x : ℕ) {p : List ℕ} {k : ℕ} → blank ≤ x → k % line_length < 72 → Feeds p (suc k) → Feeds (x ∷ p) k
feeds_column x {p} {k} h l f = feeds_cons x {p = p} {k = k} (λ e. absurd (omega arith), λ e. absurd (omega arith)) f

feeds_feed : {p : List ℕ} {k : ℕ} → k % line_length ≡ 72 → Feeds p (suc k) → Feeds (line_feed ∷ p) k
feeds_feed {p} {k} h f = feeds_cons line_feed {p = p} {k = k} (λ e. h, λ e. refl) f

feeds_columns : (c : Cell) {p : List ℕ} (k : ℕ) → blank ≤ c.first → blank ≤ c.second → blank ≤ c.third → blank ≤ c.fourth → k % line_length ≤ 68
    → Feeds p (suc (suc (suc (suc k)))) → Feeds (columns c p) k
feeds_columns c k h₁ h₂ h₃ h₄ l f =
    feeds_column c.first {k = k} h₁ (omega arith)
    (feeds_column c.second {k = suc k} h₂ (omega arith)
    (feeds_column c.third {k = suc (suc k)} h₃ (omega arith)
    (feeds_column c.fourth {k = suc (suc (suc k))} h₄ (omega arith) f)))

feeds_filled : (n k : ℕ) → n ≤ cells_in_line → k % line_length + n * 4 ≡ 72 → Feeds (filled n) k
unfolding filled letter_cell
feeds_filled zero k h e = feeds_feed (omega arith) (feeds_none (suc k))
feeds_filled (suc n) k h e = feeds_columns (letter_cell blank) k (omega arith) (omega arith) (omega arith) (omega arith) (omega arith) (feeds_filled n (suc (suc (suc (suc k)))) (omega arith) (omega arith))

feeds_shown : {c : Cell} {p : List ℕ} (k : ℕ) → Shown c → k % line_length ≤ 68 → Feeds p (suc (suc (suc (suc k)))) → Feeds (columns c p) k
feeds_shown {c} k s l f = feeds_columns c k s.first_prints s.second_prints s.third_prints (omega (arith, s.fourth_shows)) l f

feeds_lines : (n : ℕ) {cs : List Cell} (k : ℕ) → AllShown cs → n ≤ cells_in_line → k % line_length + n * 4 ≡ 72 → Feeds (lines n cs) k
unfolding lines
feeds_lines n k no_cells h e = feeds_filled n k h e
feeds_lines zero k (more s x) h e = feeds_feed (omega arith) (feeds_shown (suc k) s (omega arith) (feeds_lines 17 (suc (suc (suc (suc (suc k))))) x (omega arith) (omega arith)))
feeds_lines (suc n) k (more {c} {cs} s x) h e = rw (lines_room n c cs) (feeds_shown k s (omega arith) (feeds_lines n (suc (suc (suc (suc k)))) x (omega arith) (omega arith)))

pub page_feeds : {cs : List Cell} → AllShown cs → (i : ℕ) → i < length (lines cells_in_line cs) → (get_or (lines cells_in_line cs) i 0 ≡ line_feed) ↔ (i % line_length ≡ 72)
page_feeds x i h = let e : i + 0 ≡ i = omega arith in rw e at ((feeds_lines cells_in_line 0 x (omega arith) (omega arith)).fed i h)

-- ---- Where a cell stands: cells with room for n more stand from the place of the j-th line where its other cells end.
columns_at : ℕ → List ℕ → List ℕ
columns_at d p = take 4 (drop d p)

module _ (c : Cell) (ys : List Cell) where
  cell_first : (n d : ℕ) → (n ≡ 0 → d ≡ 1) → ((n ≡ 0 → ⊥) → d ≡ 0) → columns_at d (lines n (c ∷ ys)) ≡ columns c []
  unfolding columns_at
  cell_first zero d h z = rw (lines_full c ys, h refl)
  cell_first (suc n) d h z = rw (lines_room n c ys, z (λ e. omega arith))

  cell_later : (x : Cell) (xs : List Cell) (n d : ℕ) → columns_at d (lines n (xs ++ c ∷ ys)) ≡ columns c [] → columns_at (d + 4) (lines (suc n) (x ∷ (xs ++ c ∷ ys))) ≡ columns c []
  unfolding columns_at
  cell_later x xs n d e = let q : d + 4 ≡ suc (suc (suc (suc d))) = omega arith in rw (lines_room n x (xs ++ c ∷ ys), q) e

  cell_after_feed : (x : Cell) (xs : List Cell) (d : ℕ) → columns_at d (lines 17 (xs ++ c ∷ ys)) ≡ columns c [] → columns_at (d + 5) (lines 0 (x ∷ (xs ++ c ∷ ys))) ≡ columns c []
  unfolding columns_at
  cell_after_feed x xs d e = let q : d + 5 ≡ suc (suc (suc (suc (suc d)))) = omega arith in rw (lines_full x (xs ++ c ∷ ys), q) e

  -- q is the place of the cell with the number m, and j lines and 18 - n cells stand before.
  lines_cell : (xs : List Cell) (n j m q : ℕ) → n ≤ cells_in_line → m + n ≡ j * 18 + 18 + length xs → q ≡ line_length * (m / cells_in_line) + 4 * (m % cells_in_line)
      → columns_at (q - (j * 73 + (18 - n) * 4)) (lines n (xs ++ c ∷ ys)) ≡ columns c []
  lines_cell [] n j m q h e r = cell_first n (q - (j * 73 + (18 - n) * 4)) (λ z. omega arith) (λ z. omega (arith, positive n z))
    where
      positive : (n : ℕ) → (n ≡ 0 → ⊥) → 1 ≤ n
      positive zero z = absurd (z refl)
      positive (suc n) z = omega arith
  lines_cell (x ∷ xs) zero j m q h e r =
      let p : q - (j * 73 + (18 - 0) * 4) ≡ q - ((j + 1) * 73 + (18 - 17) * 4) + 5 = omega arith in
      rw p (cell_after_feed x xs (q - ((j + 1) * 73 + (18 - 17) * 4)) (lines_cell xs 17 (j + 1) m q (omega arith) (omega arith) r))
  lines_cell (x ∷ xs) (suc n) j m q h e r =
      let p : q - (j * 73 + (18 - suc n) * 4) ≡ q - (j * 73 + (18 - n) * 4) + 4 = omega arith in
      rw p (cell_later x xs n (q - (j * 73 + (18 - n) * 4)) (lines_cell xs n j m q (omega arith) (omega arith) r))

pub page_cell : (xs : List Cell) (c : Cell) (ys : List Cell) → take 4 (drop (line_length * (length xs / cells_in_line) + 4 * (length xs % cells_in_line)) (lines cells_in_line (xs ++ c ∷ ys))) ≡ columns c []
unfolding columns_at
page_cell xs c ys =
    let q = line_length * (length xs / cells_in_line) + 4 * (length xs % cells_in_line) in
    let z : q - (0 * 73 + (18 - 18) * 4) ≡ q = omega arith in
    rw z at (lines_cell c ys xs 18 0 (length xs) q (omega arith) (omega arith) refl)

-- ---- They tell the cells.
cell : ℕ → ℕ → ℕ → ℕ → Cell
cell a b d e = record { first = a; second = b; third = d; fourth = e }

same_cell : (c d : Cell) → c.first ≡ d.first → c.second ≡ d.second → c.third ≡ d.third → c.fourth ≡ d.fourth → c ≡ d
unfolding cell
same_cell c d p q r s = let z : cell c.first c.second c.third c.fourth ≡ cell d.first d.second d.third d.fourth = cc in z

same_columns : (c d : Cell) (p q : List ℕ) → columns c p ≡ columns d q → (c ≡ d) × (p ≡ q)
same_columns c d p q e = (same_cell c d (cc) (cc) (cc) (cc), cc)

filled_not_more : (n : ℕ) (c : Cell) (cs : List Cell) → Shown c → filled n ≡ lines n (c ∷ cs) → ⊥
unfolding filled lines letter_cell
filled_not_more zero c cs s e = let z = ap length e in omega arith
filled_not_more (suc n) c cs s e = let z : blank ≡ c.fourth = ap (λ (x : Cell). x.fourth) (same_columns (letter_cell blank) c (filled n) (lines n cs) (e ∙ lines_room n c cs)).0 in omega (arith, s.fourth_shows)

pub lines_alike : (n : ℕ) {cs ds : List Cell} → AllShown cs → AllShown ds → lines n cs ≡ lines n ds → cs ≡ ds
unfolding lines
lines_alike n no_cells no_cells e = refl
lines_alike n no_cells (more {c = d} {cs = ds} s y) e = absurd (filled_not_more n d ds s e)
lines_alike n (more {c} {cs} s x) no_cells e = absurd (filled_not_more n c cs s (sym e))
lines_alike zero (more {c} {cs} s x) (more {c = d} {cs = ds} r y) e =
    let z : columns c (lines 17 cs) ≡ columns d (lines 17 ds) = cc in
    let p = same_columns c d (lines 17 cs) (lines 17 ds) z in
    let q = lines_alike 17 x y p.1 in cc
lines_alike (suc n) (more {c} {cs} s x) (more {c = d} {cs = ds} r y) e =
    let p = same_columns c d (lines n cs) (lines n ds) (sym (lines_room n c cs) ∙ e ∙ lines_room n d ds) in
    let q = lines_alike n x y p.1 in cc
