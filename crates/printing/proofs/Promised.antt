-- What is promised of pages and of `print_term`.
-- Assumes nothing.
use Prim.Native.Nat.{ℕ, ◌+◌, ◌*◌, ◌/◌, ◌%◌, ◌≤◌, ◌<◌}
use mathlib.Core.Path.{◌≡◌, refl, ap, sym, ◌∙◌}
use mathlib.Core.Bool.{Bool, true, false, cond}
use mathlib.Core.List.{List, [], ◌∷◌, ◌++◌}
use native.Mathlib.Omega.{arith}
use lib.Dec.{leb}
use lib.ListN.{length, take, drop, get_or}
use lib.Seq.{sets, get_or-take, ext_get_or}
use borrow.Author.Tests.{leb-true}
use Rattle.calculus.specs.Terms.{Term, size, Closed}
use Rattle.code.specs.Code.{Bytes, encode}
use Rattle.code.specs.Limits.{longest_term}
use Rattle.code.specs.Scope.{scope}
use Rattle.code.proofs.RoundTrip.{odd}
use Rattle.parts.proofs.Stores.{take_sets_end, drop_sets}
use Rattle.examine.specs.Inspect.{Examined, refused, accepted, examined}
use Rattle.examine.proofs.Laws.{examining_holds}
use Rattle.calls.specs.Answers.{Written, answer, handed}
use Rattle.calls.proofs.Writing.{accepts, encodes}
use Rattle.calls.proofs.Promised.{refusal_number}
use Rattle.printing.specs.Page.{Cell, cells_in_line, line_length, longest_page, cells, columns, page, print_answer_of, print_answer}
use Rattle.printing.specs.Claims.{InLines, Pages, Printed, term_refused, too_short, NotPrinted, Promises}
use Rattle.printing.proofs.Cells.{shown_cells, cells_alike}
use Rattle.printing.proofs.Lines.{page_feeds, page_cell, lines_alike}
use Rattle.printing.proofs.Writing.{length_page}

-- ---- The page of a term.
pub in_lines : (t : Term) → InLines (page t)
unfolding page
in_lines t = record { lines_are = rw (length_page t) (omega arith); line_feeds = page_feeds (shown_cells t) }

cell_at : (t : Term) (xs : List Cell) (c : Cell) (ys : List Cell) → cells t ≡ xs ++ c ∷ ys → take 4 (drop (line_length * (length xs / cells_in_line) + 4 * (length xs % cells_in_line)) (page t)) ≡ columns c []
unfolding page
cell_at t xs c ys e = rw e (page_cell xs c ys)

pub longest : (t : Term) → size t ≤ longest_term → length (page t) ≤ longest_page
longest t h = rw (length_page t) (omega (arith, odd t))

pub alike : (t u : Term) → Closed 0 t → scope t < 10000 → Closed 0 u → scope u < 10000 → page t ≡ page u → t ≡ u
unfolding page
alike t u c g d h e = cells_alike t u c g d h (lines_alike cells_in_line (shown_cells t) (shown_cells u) e)

pub paged : Pages
paged = record { in_lines = in_lines; cell_at = cell_at; length_page = length_page; longest = longest; alike = alike }

-- ---- The ways to answer.
data Ways (s out : List ℕ) : Written → Type 0 where
  at_refusal : {n p : ℕ} → examined s ≡ refused n p → Ways s out (answer n p 0 out)
  at_short : Ways s out (answer 14 0 0 out)
  at_page : {t : Term} → examined s ≡ accepted t → length (page t) ≤ length out → Ways s out (answer 0 0 (length (page t)) (sets out 0 (page t)))

ways : (s out : List ℕ) → Ways s out (print_answer s out)
unfolding print_answer print_answer_of handed
ways s out = go (examined s) refl
  where
    fits : (t : Term) → examined s ≡ accepted t → (b : Bool) → leb (length (page t)) (length out) ≡ b → Ways s out (cond b (answer 0 0 (length (page t)) (sets out 0 (page t))) (answer 14 0 0 out))
    fits t h true e = at_page h (leb-true (length (page t)) (length out) e)
    fits t h false e = at_short

    go : (x : Examined) → examined s ≡ x → Ways s out (print_answer_of out x)
    go (refused n p) h = at_refusal h
    go (accepted t) h = fits t h (leb (length (page t)) (length out)) refl

print_result : (s out : List ℕ) {out' : List ℕ} {place n : ℕ} → Bytes s → print_answer s out ≡ answer 0 place n out' → Printed s out place n out'
print_result s out {out'} {place} {n} y e = go (ways s out) e
  where
    go : {x : Written} → Ways s out x → x ≡ answer 0 place n out' → Printed s out place n out'
    go (at_refusal h) e = absurd (refusal_number s h (cc))
    go at_short e = let w : ◌≡◌ {A = ℕ} 14 0 = cc in absurd (omega arith)
    go (at_page {t} h r) e =
        let p : place ≡ 0 = cc in
        let l : n ≡ length (page t) = cc in
        let b : out' ≡ sets out 0 (page t) = cc in
        let z : 0 + length (page t) ≡ length (page t) = omega arith in
        let q : take n out' ≡ page t = rw (l, b) (rw z at (take_sets_end (page t) out 0 (omega (arith, r)))) in
        record {
          term = t;
          accepts = h;
          place_is = p;
          length_is = l ∙ length_page t;
          longest = rw l (longest t (accepts y h).short);
          room = rw l r;
          page_is = q;
          past = rw (l, b) (drop_sets (page t) out 0 (length (page t)) (omega arith));
          in_lines = rw q (in_lines t);
        }

print_kept : (s out : List ℕ) {out' : List ℕ} {number place n : ℕ} → print_answer s out ≡ answer number place n out' → (number ≡ 0 → ⊥) → NotPrinted number n out out'
print_kept s out {out'} {number} {place} {n} e z = go (ways s out) e
  where
    go : {x : Written} → Ways s out x → x ≡ answer number place n out' → NotPrinted number n out out'
    go (at_refusal {n = m} h) e =
        let q : number ≡ m = cc in
        let b = examining_holds.numbers s h in
        record { refuses = term_refused {n = number} (omega (arith, b.0)) (omega (arith, b.1)); nothing_written = cc; kept = cc }
    go at_short e = let q : number ≡ 14 = cc in record { refuses = rw q too_short; nothing_written = cc; kept = cc }
    go (at_page h r) e = absurd (z (cc))

-- Whatever the answer, its length lies within the buffer.
pub within_buffer : (s out : List ℕ) {out' : List ℕ} {number place n : ℕ} → answer number place n out' ≡ print_answer s out → n ≤ length out
within_buffer s out {out'} {number} {place} {n} e = go (ways s out) e
  where
    go : {x : Written} → Ways s out x → answer number place n out' ≡ x → n ≤ length out
    go (at_refusal h) e = let q : n ≡ 0 = cc in omega arith
    go at_short e = let q : n ≡ 0 = cc in omega arith
    go (at_page {t} h r) e = let q : n ≡ length (page t) = cc in omega (arith, r)

print_alike : (s u out₁ out₂ : List ℕ) {out₁' out₂' : List ℕ} {place₁ place₂ n₁ n₂ : ℕ} → Bytes s → Bytes u
    → print_answer s out₁ ≡ answer 0 place₁ n₁ out₁' → print_answer u out₂ ≡ answer 0 place₂ n₂ out₂'
    → n₁ ≡ n₂ → ((i : ℕ) → i < n₁ → get_or out₁' i 0 ≡ get_or out₂' i 0) → s ≡ u
print_alike s u out₁ out₂ {out₁'} {out₂'} {n₁ = n₁} {n₂} y z e f q h =
    let a = print_result s out₁ y e in
    let b = print_result u out₂ z f in
    let v = accepts y a.accepts in
    let w = accepts z b.accepts in
    let k : length (page a.term) ≡ n₁ = length_page a.term ∙ sym a.length_is in
    let l : length (page b.term) ≡ n₂ = length_page b.term ∙ sym b.length_is in
    let same : (i : ℕ) → i < length (page a.term) → get_or (page a.term) i 0 ≡ get_or (page b.term) i 0 = λ i m.
    ap (λ v. get_or v i 0) (sym a.page_is) ∙ get_or-take n₁ out₁' i 0 (omega arith) ∙ h i (omega arith) ∙ sym (get_or-take n₂ out₂' i 0 (omega arith)) ∙ ap (λ v. get_or v i 0) b.page_is in
    let p = ext_get_or 0 (page a.term) (page b.term) (k ∙ q ∙ sym l) same in
    let t = alike a.term b.term v.closed (omega (arith, v.shallow)) w.closed (omega (arith, w.shallow)) p in
    sym (encodes y v).bytes ∙ ap encode t ∙ (encodes z w).bytes

pub promised : Promises
promised = record { print_result = print_result; print_kept = print_kept; print_alike = print_alike }
