-- The cells of a term: they are those of its bytes, and tell the term.
-- Assumes nothing.
use Prim.Native.Nat.{ℕ, ◌+◌, ◌*◌, ◌-◌, ◌/◌, ◌%◌, ◌≤◌, ◌<◌}
use mathlib.Core.Path.{◌≡◌, refl, ap, ap₂, sym, ◌∙◌}
use mathlib.Core.Bool.{Bool, true, false, cond}
use mathlib.Core.List.{List, [], ◌∷◌, ◌++◌, map-append, append_assoc}
use native.Mathlib.Omega.{arith}
use native.Mathlib.Nat.{mod-add-div', mod-eq_of_lt}
use lib.Dec.{ltb}
use lib.ListN.{length, length-append}
use borrow.Author.Tests.{ltb-true, ltb-false, ne_eqb}
use Rattle.calculus.specs.Terms.{Term, tau, var, app, abs, size, Closed, closed_tau, closed_var, closed_app, closed_abs}
use Rattle.code.specs.Code.{symbol, encode, Coded, coded_tau, coded_var, coded_app, coded_abs}
use Rattle.code.specs.Scope.{scope}
use Rattle.code.proofs.RoundTrip.{symbol_index}
use Rattle.printing.specs.Page.{Cell, blank, digit_zero, letter_tau, letter_applicator, letter_abstractor, letter_cell, digit, index_cell, cells}
use Rattle.printing.specs.Clauses.{cell_of_symbol, cell_of, cells_of}

-- ---- The cells of a term's bytes.
pub cells_of_bytes : {t : Term} → Coded t → cells_of (encode t) ≡ cells t
unfolding cell_of cell_of_symbol encode cells
cells_of_bytes coded_tau = refl
cells_of_bytes (coded_var {k} p q) = rw (symbol_index p q)
cells_of_bytes (coded_app {K} {B} f g) = ap (letter_cell letter_applicator ∷◌) (map-append cell_of (encode K) (encode B) ∙ ap₂ ◌++◌ (cells_of_bytes f) (cells_of_bytes g))
cells_of_bytes (coded_abs {U} {B} f g) = ap (letter_cell letter_abstractor ∷◌) (map-append cell_of (encode U) (encode B) ∙ ap₂ ◌++◌ (cells_of_bytes f) (cells_of_bytes g))

pub length_cells : (t : Term) → length (cells t) ≡ size t
unfolding cells size
length_cells tau = refl
length_cells (var k) = refl
length_cells (app K B) = simp length-append (omega (arith, length_cells K, length_cells B))
length_cells (abs U B) = simp length-append (omega (arith, length_cells U, length_cells B))

-- ---- A byte's cell, by what the code tests.
module _ {b : ℕ} {c : Cell} where
  pub cell_of_tau : b ≡ 0x00 → c ≡ letter_cell letter_tau → c ≡ cell_of b
  unfolding cell_of cell_of_symbol
  cell_of_tau h q = rw h q

  pub cell_of_app : b ≡ 0xfe → c ≡ letter_cell letter_applicator → c ≡ cell_of b
  unfolding cell_of cell_of_symbol
  cell_of_app h q = rw h q

  pub cell_of_abs : b ≡ 0xff → c ≡ letter_cell letter_abstractor → c ≡ cell_of b
  unfolding cell_of cell_of_symbol
  cell_of_abs h q = rw h q

  pub cell_of_index : (b ≡ 0xff → ⊥) → (b ≡ 0xfe → ⊥) → (b ≡ 0x00 → ⊥) → c ≡ index_cell b → c ≡ cell_of b
  unfolding cell_of cell_of_symbol symbol
  cell_of_index x y z q = rw (ne_eqb b 0x00 z, ne_eqb b 0xfe y, ne_eqb b 0xff x) q

pub index_cell_is : (k : ℕ) {x y z w : ℕ} → x ≡ digit k 1000 → y ≡ digit k 100 → z ≡ digit k 10 → w ≡ digit_zero + k % 10 → record { first = x; second = y; third = z; fourth = w } ≡ index_cell k
unfolding index_cell
index_cell_is k p q r s = rw (p, q, r, s) refl

-- ---- What a digit is.
data Digit (k worth : ℕ) : ℕ → Type 0 where
  not_shown : k < worth → Digit k worth blank
  digit_shown : worth ≤ k → Digit k worth (digit_zero + k / worth % 10)

digit_is : (k worth : ℕ) → Digit k worth (digit k worth)
unfolding digit
digit_is k worth = go (ltb k worth) refl
  where
    go : (x : Bool) → ltb k worth ≡ x → Digit k worth (cond x blank (digit_zero + k / worth % 10))
    go true e = not_shown (ltb-true k worth e)
    go false e = digit_shown (ltb-false k worth e)

digit_printable : {k worth x : ℕ} → Digit k worth x → blank ≤ x
digit_printable (not_shown h) = omega arith
digit_printable (digit_shown h) = omega arith

-- ---- A cell that shows something: four columns that print, and the last is not blank.
pub record Shown (c : Cell) : Type 0 where
  pub first_prints : blank ≤ c.first
  pub second_prints : blank ≤ c.second
  pub third_prints : blank ≤ c.third
  pub fourth_shows : blank < c.fourth

pub data AllShown : List Cell → Type 0 where
  no_cells : AllShown []
  more : {c : Cell} {cs : List Cell} → Shown c → AllShown cs → AllShown (c ∷ cs)

shown_append : {cs ds : List Cell} → AllShown cs → AllShown ds → AllShown (cs ++ ds)
shown_append no_cells y = y
shown_append (more h x) y = more h (shown_append x y)

shown_letter : (x : ℕ) → blank < x → Shown (letter_cell x)
unfolding letter_cell
shown_letter x h = record { first_prints = omega arith; second_prints = omega arith; third_prints = omega arith; fourth_shows = h }

shown_index : (k : ℕ) → Shown (index_cell k)
unfolding index_cell
shown_index k = record { first_prints = digit_printable (digit_is k 1000); second_prints = digit_printable (digit_is k 100); third_prints = digit_printable (digit_is k 10); fourth_shows = omega arith }

pub shown_cells : (t : Term) → AllShown (cells t)
unfolding cells
shown_cells tau = more (shown_letter letter_tau (omega arith)) no_cells
shown_cells (var k) = more (shown_index k) no_cells
shown_cells (app K B) = more (shown_letter letter_applicator (omega arith)) (shown_append (shown_cells K) (shown_cells B))
shown_cells (abs U B) = more (shown_letter letter_abstractor (omega arith)) (shown_append (shown_cells U) (shown_cells B))

-- ---- The number that the digits of an index make.
number : Cell → ℕ
number c = (c.first - digit_zero) * 1000 + (c.second - digit_zero) * 100 + (c.third - digit_zero) * 10 + (c.fourth - digit_zero)

digit_value : {k worth x : ℕ} → Digit k worth x → (k < worth → k / worth % 10 ≡ 0) → x - digit_zero ≡ k / worth % 10
digit_value (not_shown h) z = sym (z h)
digit_value (digit_shown h) z = omega arith

tens : (k a b d x y z : ℕ) → a * 10 + x ≡ k → b * 10 + y ≡ a → d * 10 + z ≡ b → d * 1000 + z * 100 + y * 10 + x ≡ k
tens k a b d x y z p q r = omega arith

ten : (k : ℕ) → k / 10 * 10 + k % 10 ≡ k
ten k = omega (arith, mod-add-div' k 10)

decimal : (k : ℕ) → k < 10000 → k / 1000 % 10 * 1000 + k / 100 % 10 * 100 + k / 10 % 10 * 10 + k % 10 ≡ k
decimal k h =
    let p : k / 100 ≡ k / 10 / 10 = omega arith in
    let q : k / 1000 ≡ k / 10 / 10 / 10 = omega arith in
    let r : k / 10 / 10 / 10 < 10 = rw q at (the_last k h) in
    rw (p, q, mod-eq_of_lt r) (tens _ _ _ _ _ _ _ (ten k) (ten (k / 10)) (ten (k / 10 / 10)))
  where
    the_last : (k : ℕ) → k < 10000 → k / 1000 < 10
    the_last k h = omega arith

number_index : (k : ℕ) → k < 10000 → number (index_cell k) ≡ k
unfolding number index_cell
number_index k h =
    let a : digit k 1000 - digit_zero ≡ k / 1000 % 10 = digit_value (digit_is k 1000) (λ l. omega arith) in
    let b : digit k 100 - digit_zero ≡ k / 100 % 10 = digit_value (digit_is k 100) (λ l. omega arith) in
    let e : digit k 10 - digit_zero ≡ k / 10 % 10 = digit_value (digit_is k 10) (λ l. omega arith) in
    rw (a, b, e) (omega (arith, decimal k h))

same_index : (k l : ℕ) → k < 10000 → l < 10000 → index_cell k ≡ index_cell l → k ≡ l
same_index k l g h e = sym (number_index k g) ∙ ap number e ∙ number_index l h

-- ---- The cells tell the term: no term's cells begin another's.
last_column : {c d : Cell} {x y : List Cell} → c ∷ x ≡ d ∷ y → c.fourth ≡ d.fourth
last_column {c} {d} e = let h : c ≡ d = cc in ap (λ (z : Cell). z.fourth) h

other_letter : {A : Type 0} (x y : ℕ) {cs ds : List Cell} → (x ≡ y → ⊥) → letter_cell x ∷ cs ≡ letter_cell y ∷ ds → A
unfolding letter_cell
other_letter x y z e = absurd (z (last_column e))

no_letter : {A : Type 0} (x k : ℕ) {cs ds : List Cell} → (x ≡ digit_zero + k % 10 → ⊥) → letter_cell x ∷ cs ≡ index_cell k ∷ ds → A
unfolding letter_cell index_cell
no_letter x k z e = absurd (z (last_column e))

parts_alike : (x : ℕ) (F : Term → Term → Term) (K B L C : Term) (xs ys : List Cell)
    → ((xs ys : List Cell) → cells K ++ xs ≡ cells L ++ ys → (K ≡ L) × (xs ≡ ys))
    → ((xs ys : List Cell) → cells B ++ xs ≡ cells C ++ ys → (B ≡ C) × (xs ≡ ys))
    → letter_cell x ∷ ((cells K ++ cells B) ++ xs) ≡ letter_cell x ∷ ((cells L ++ cells C) ++ ys) → (F K B ≡ F L C) × (xs ≡ ys)
parts_alike x F K B L C xs ys f g e =
    let h : (cells K ++ cells B) ++ xs ≡ (cells L ++ cells C) ++ ys = cc in
    let p = f (cells B ++ xs) (cells C ++ ys) (sym (append_assoc (cells K) (cells B) xs) ∙ h ∙ append_assoc (cells L) (cells C) ys) in
    let q = g xs ys p.1 in
    (ap₂ F p.0 q.0, q.1)

cells_prefix : {n m : ℕ} {t u : Term} → Closed n t → n + scope t < 10000 → Closed m u → m + scope u < 10000 → (xs ys : List Cell) → cells t ++ xs ≡ cells u ++ ys → (t ≡ u) × (xs ≡ ys)
unfolding cells scope
cells_prefix closed_tau g closed_tau h xs ys e = (refl, cc)
cells_prefix closed_tau g (closed_var {k} p q) h xs ys e = no_letter letter_tau k (λ z. omega arith) e
cells_prefix closed_tau g (closed_app c d) h xs ys e = other_letter letter_tau letter_applicator (λ z. omega arith) e
cells_prefix closed_tau g (closed_abs c d) h xs ys e = other_letter letter_tau letter_abstractor (λ z. omega arith) e
cells_prefix (closed_var {k} p q) g closed_tau h xs ys e = no_letter letter_tau k (λ z. omega arith) (sym e)
cells_prefix (closed_var {k} p q) g (closed_var {k = l} r s) h xs ys e =
    let z : index_cell k ≡ index_cell l = cc in
    let w = same_index k l (omega arith) (omega arith) z in
    (ap var w, cc)
cells_prefix (closed_var {k} p q) g (closed_app c d) h xs ys e = no_letter letter_applicator k (λ z. omega arith) (sym e)
cells_prefix (closed_var {k} p q) g (closed_abs c d) h xs ys e = no_letter letter_abstractor k (λ z. omega arith) (sym e)
cells_prefix (closed_app a b) g closed_tau h xs ys e = other_letter letter_applicator letter_tau (λ z. omega arith) e
cells_prefix (closed_app a b) g (closed_var {k} p q) h xs ys e = no_letter letter_applicator k (λ z. omega arith) e
cells_prefix (closed_app {K} {B} a b) g (closed_app {K = L} {B = C} c d) h xs ys e = parts_alike letter_applicator app K B L C xs ys (cells_prefix a (omega arith) c (omega arith)) (cells_prefix b (omega arith) d (omega arith)) e
cells_prefix (closed_app a b) g (closed_abs c d) h xs ys e = other_letter letter_applicator letter_abstractor (λ z. omega arith) e
cells_prefix (closed_abs a b) g closed_tau h xs ys e = other_letter letter_abstractor letter_tau (λ z. omega arith) e
cells_prefix (closed_abs a b) g (closed_var {k} p q) h xs ys e = no_letter letter_abstractor k (λ z. omega arith) e
cells_prefix (closed_abs a b) g (closed_app c d) h xs ys e = other_letter letter_abstractor letter_applicator (λ z. omega arith) e
cells_prefix (closed_abs {U} {B} a b) g (closed_abs {U = L} {B = C} c d) h xs ys e = parts_alike letter_abstractor abs U B L C xs ys (cells_prefix a (omega arith) c (omega arith)) (cells_prefix b (omega arith) d (omega arith)) e

pub cells_alike : (t u : Term) → Closed 0 t → scope t < 10000 → Closed 0 u → scope u < 10000 → cells t ≡ cells u → t ≡ u
cells_alike t u c g d h e = (cells_prefix c (omega arith) d (omega arith) [] [] (ap (◌++ []) e)).0
