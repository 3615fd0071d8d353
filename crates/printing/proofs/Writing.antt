-- Cells put one after the other: what is stored, with what is still to come, is the whole page.
-- Assumes nothing.
use Prim.Native.Nat.{ℕ, zero, suc, ◌+◌, ◌*◌, ◌-◌, ◌≤◌, ◌<◌}
use mathlib.Core.Path.{◌≡◌, refl, ap, sym, ◌∙◌}
use mathlib.Core.List.{List, [], ◌∷◌, append_assoc}
use native.Mathlib.Omega.{arith}
use lib.ListN.{length, replicate, get_or, drop, set, length-map, drop_of_length-le}
use lib.Seq.{sets, sets-eq, length-sets, drop-drop, drop-cons}
use Rattle.std.proofs.lemmas.List.{length-replicate}
use borrow.Rule.Slice.PartMut.{put_mid}
use borrow.Author.Tests.{le-leb, lt-leb}
use Rattle.calculus.specs.Terms.{Term, size}
use Rattle.code.specs.Limits.{longest_term}
use Rattle.code.specs.Code.{Bytes}
use Rattle.code.proofs.RoundTrip.{odd}
use Rattle.examine.specs.Inspect.{refused, examined}
use Rattle.examine.specs.Claims.{WellFormed}
use Rattle.calls.specs.Answers.{answer, handed, AcceptedTerm}
use Rattle.calls.proofs.Writing.{accepts, encodes, whole_size}
use Rattle.printing.specs.Page.{Cell, blank, line_feed, cells_in_line, letter_cell, cells, columns, filled, lines, page, page_length, print_answer_of, print_answer}
use Rattle.printing.specs.Clauses.{cell_of, cells_of, Onward, PutsCell}
use Rattle.printing.proofs.Cells.{cells_of_bytes, length_cells}
use Rattle.printing.proofs.Lines.{lines_full, lines_room, length_filled, length_page_lines, five}

-- ---- A part that the library's methods have written.
put_part : (s v : List ℕ) (at k : ℕ) → length v ≡ k → at + k ≤ length s → put_mid at k s v ≡ sets s at v
put_part s v at k q l = rw (sets-eq v s at (omega arith), q, append_assoc, drop-drop) refl

-- ---- Four columns.
pub columns_stored : {c : Cell} (out : List ℕ) {v : List ℕ} (at : ℕ) {k : ℕ} → at + 4 ≤ length out → k ≡ 4 → v ≡ columns c [] → (put_mid at k out v ≡ sets out at (columns c [])) × (length (put_mid at k out v) ≡ length out)
columns_stored {c} out {v} at {k} l q e =
    let p : put_mid at k out v ≡ sets out at (columns c []) = rw (q, e) (put_part out (columns c []) at 4 refl l) in
    (p, ap length p ∙ length-sets out at (columns c []))

columns_then : (c : Cell) (out : List ℕ) (at : ℕ) (v : List ℕ) → sets (sets out at (columns c [])) (at + 4) v ≡ sets out at (columns c v)
columns_then c out at v = let p : at + 4 ≡ suc (suc (suc (suc at))) = omega arith in rw p

-- ---- Onward.
pub onward_here : (out : List ℕ) (at : ℕ) (v : List ℕ) → Onward out at v out at v
onward_here out at v = record { same_length = refl; same_end = refl; same_result = refl }

pub onward_then : {out out₁ out₂ v v₁ v₂ : List ℕ} {at at₁ at₂ : ℕ} → Onward out at v out₁ at₁ v₁ → Onward out₁ at₁ v₁ out₂ at₂ v₂ → Onward out at v out₂ at₂ v₂
onward_then f g = record { same_length = g.same_length ∙ f.same_length; same_end = g.same_end ∙ f.same_end; same_result = g.same_result ∙ f.same_result }

module _ {c : Cell} {out out' : List ℕ} {at : ℕ} (same : length out' ≡ length out) where
  columns_onward : out' ≡ sets out at (columns c []) → (v : List ℕ) → Onward out at (columns c v) out' (at + 4) v
  columns_onward e v = record { same_length = same; same_end = omega arith; same_result = rw e (columns_then c out at v) }

  pub room_put : {n : ℕ} → n ≤ cells_in_line → (n ≡ 0 → ⊥) → out' ≡ sets out at (columns c []) → PutsCell c out at n out' (at + 4) (n - 1)
  room_put {n} h z e = go n h z
    where
      go : (n : ℕ) → n ≤ cells_in_line → (n ≡ 0 → ⊥) → PutsCell c out at n out' (at + 4) (n - 1)
      go zero h z = absurd (z refl)
      go (suc n) h z =
          let p : suc n - 1 ≡ n = omega arith in
          rw p (record { onward = λ cs. rw (lines_room n c cs) (columns_onward e (lines n cs)); room = omega arith })

  pub full_put : {n : ℕ} → n ≡ 0 → out' ≡ sets (set out at line_feed) (at + 1) (columns c []) → PutsCell c out at n out' (at + 5) 17
  full_put z e = rw z (record { onward = onto; room = omega arith })
    where
      onto : (cs : List Cell) → Onward out at (lines 0 (c ∷ cs)) out' (at + 5) (lines 17 cs)
      onto cs =
          let p : at + 5 ≡ at + 1 + 4 = omega arith in
          let q : at + 1 ≡ suc at = omega arith in
          rw (lines_full c cs) (record { same_length = same; same_end = omega arith; same_result = rw (e, p, columns_then c (set out at line_feed) (at + 1) (lines 17 cs), q) })

-- ---- The last line: blanks, and then the line feed.
blanks_then : (n : ℕ) (s : List ℕ) (at e : ℕ) → e ≡ at + n * 4 → set (sets s at (replicate (n * 4) blank)) e line_feed ≡ sets s at (filled n)
unfolding filled letter_cell
blanks_then zero s at e q = let p : e ≡ at = omega arith in rw p refl
blanks_then (suc n) s at e q =
    let p : suc n * 4 ≡ suc (suc (suc (suc (n * 4)))) = omega arith in
    rw p (blanks_then n (set (set (set (set s at blank) (suc at) blank) (suc (suc at)) blank) (suc (suc (suc at))) blank) (suc (suc (suc (suc at)))) e (omega arith))

pub line_filled : (out : List ℕ) {v : List ℕ} (at n : ℕ) {e k m : ℕ} → at + length (filled n) ≤ length out → e ≡ at + 4 * n → k ≡ e - at → m ≡ k → v ≡ replicate m blank
    → (set (put_mid at k out v) e line_feed ≡ sets out at (filled n)) × (length (set (put_mid at k out v) e line_feed) ≡ length out)
line_filled out {v} at n {e} {k} {m} l x y z w =
    let q : m ≡ n * 4 = omega arith in
    let p : put_mid at k out v ≡ sets out at (replicate (n * 4) blank) = rw (w, q) (put_part out (replicate (n * 4) blank) at k (omega (arith, length-replicate {A = ℕ} (n * 4) blank)) (omega (arith, length_filled n))) in
    let r : set (put_mid at k out v) e line_feed ≡ sets out at (filled n) = rw p (blanks_then n out at e (omega arith)) in
    (r, ap length r ∙ length-sets out at (filled n))

-- ---- The page of the bytes s, from byte i on.
pub record Paging (s out₀ out : List ℕ) (at n i : ℕ) : Type 0 where
  pub onward : Onward out₀ 0 (lines cells_in_line (cells_of s)) out at (lines n (cells_of (drop i s)))
  pub room : n ≤ cells_in_line

module _ {s out₀ out : List ℕ} {at n i : ℕ} (w : Paging s out₀ out at n i) (fits : length (lines cells_in_line (cells_of s)) ≤ length out₀) where
  next_cell : i < length s → cells_of (drop i s) ≡ cell_of (get_or s i 0) ∷ cells_of (drop (i + 1) s)
  next_cell h = let p : i + 1 ≡ suc i = omega arith in rw p (ap cells_of (drop-cons s i 0 h))

  pub room_for_cell : i < length s → (at + 5 ≤ length out) × (n ≤ cells_in_line)
  room_for_cell h =
      let e : 5 ≤ length (lines n (cells_of (drop i s))) = rw (next_cell h) (five n (cell_of (get_or s i 0)) (cells_of (drop (i + 1) s)) w.room) in
      (omega (arith, w.onward.same_end, w.onward.same_length), w.room)

  pub paging_next : {c : Cell} {out' : List ℕ} {at' n' : ℕ} → i < length s → c ≡ cell_of (get_or s i 0) → PutsCell c out at n out' at' n' → Paging s out₀ out' at' n' (i + 1)
  paging_next {out' = out'} {at'} {n'} h q d =
      let f = rw q at (d.onward (cells_of (drop (i + 1) s))) in
      record { onward = onward_then (rw (next_cell h) at w.onward) f; room = d.room }

  past_cells : length s ≤ i → Onward out₀ 0 (lines cells_in_line (cells_of s)) out at (filled n)
  unfolding lines
  past_cells h = rw (drop_of_length-le s h) at w.onward

  pub room_to_fill : length s ≤ i → at + length (filled n) ≤ length out
  room_to_fill h = let f = past_cells h in omega (arith, f.same_end, f.same_length)

  pub paging_end : {out' : List ℕ} → length s ≤ i → out' ≡ sets out at (filled n) → length out' ≡ length out → (out' ≡ sets out₀ 0 (lines cells_in_line (cells_of s))) × (length out' ≡ length out₀)
  paging_end h e l = let f = past_cells h in (e ∙ f.same_result, l ∙ f.same_length)

-- ---- The answer.
pub print_refused : (s out : List ℕ) {n p : ℕ} → examined s ≡ refused n p → answer n p 0 out ≡ print_answer s out
unfolding print_answer print_answer_of
print_refused s out h = sym (ap (print_answer_of out) h)

pub page_of_bytes : {s : List ℕ} {t : Term} → Bytes s → WellFormed s t → lines cells_in_line (cells_of s) ≡ page t
unfolding page
page_of_bytes y a = ap (lines cells_in_line) (ap cells_of (sym (encodes y a).bytes) ∙ cells_of_bytes (encodes y a).coded)

pub length_page_bytes : (s : List ℕ) → 1 ≤ length s → length (lines cells_in_line (cells_of s)) ≡ page_length (length s)
length_page_bytes s h = length_page_lines (cells_of s) (omega (arith, length-map s cell_of)) ∙ ap page_length (length-map s cell_of)

pub length_page : (t : Term) → length (page t) ≡ page_length (size t)
unfolding page
length_page t = length_page_lines (cells t) (omega (arith, length_cells t, odd t)) ∙ ap page_length (length_cells t)

module _ (s : List ℕ) (y : Bytes s) (a : AcceptedTerm s) where
  pub short_term : length s ≤ longest_term
  short_term = omega (arith, whole_size y (accepts y a.accepts), (accepts y a.accepts).short)

  module _ {n : ℕ} (e : n ≡ page_length (length s)) where
    length_is : length (page a.term) ≡ n
    length_is = length_page a.term ∙ ap page_length (sym (whole_size y (accepts y a.accepts))) ∙ sym e

    pub page_fits : {m : ℕ} → n ≤ m → length (lines cells_in_line (cells_of s)) ≤ m
    page_fits h = rw (page_of_bytes y (accepts y a.accepts), length_is) h

    handing : (out : List ℕ) → handed out (page a.term) ≡ print_answer s out
    unfolding print_answer print_answer_of
    handing out = sym (ap (print_answer_of out) a.accepts)

    pub print_short : (out : List ℕ) → length out < n → answer 14 0 0 out ≡ print_answer s out
    unfolding handed
    print_short out h = rw (length_is, lt-leb n (length out) h) at (handing out)

    pub print_written : (out : List ℕ) {out' : List ℕ} → n ≤ length out → out' ≡ sets out 0 (lines cells_in_line (cells_of s)) → answer 0 0 n out' ≡ print_answer s out
    unfolding handed
    print_written out h q = rw (q, page_of_bytes y (accepts y a.accepts)) (rw (length_is, le-leb n (length out) h) at (handing out))
