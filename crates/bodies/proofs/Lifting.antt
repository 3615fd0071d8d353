-- The letters of a lifted term, and the deepest letter of a term.
-- Assumes nothing.
use Prim.Native.Nat.{ℕ, suc, ◌+◌, ◌-◌, ◌*◌, ◌≤◌, ◌<◌, max}
use mathlib.Core.Path.{◌≡◌, refl, ap, ap₂, sym, ◌∙◌}
use mathlib.Core.Logic.{◌⊎◌, inl, inr}
use mathlib.Core.List.{List, [], ◌∷◌, ◌++◌, map, map-append, append-nil}
use native.Mathlib.Omega.{arith}
use native.Mathlib.Nat.{add-zero, add-suc, suc-add}
use lib.ListN.{length, get_or}
use Rattle.std.proofs.lemmas.List.{take_rest}
use borrow.Author.Tests.{lt-ltb, le-ltb}
use Rattle.calculus.specs.Terms.{Term, lift}
use Rattle.calculus.proofs.Lift.{lo, hi, cmp, index_low, index_high}
use Rattle.code.specs.Code.{Coded, coded_tau, coded_var, coded_app, coded_abs}
use Rattle.code.specs.Scope.{scope}
use Rattle.code.specs.Limits.{most_abstractors}
use Rattle.parts.specs.Parts.{part}
use Rattle.parts.proofs.Cut.{length_part}
use Rattle.letters.specs.Letters.{letter, letters, applicator, abstractor, symbol_of, depth_of, height_of, Lies}
use Rattle.letters.proofs.Letters.{letter_parts, symbol_letter, depth_letter, height_letter, lies_taken}
use Rattle.bodies.specs.Moving.{lifted_symbol, lifted_letter, LiftableLetter, LettersLiftable, LettersLifted, DeepestIs}
use Rattle.bodies.proofs.Extents.{above, under, scope_under, first_height}

-- ---- The letters of a term.
module _ (c k h low : ℕ) where
  lifted_letter_lem : (x e z : ℕ) → x < 1024 → c + e < 1024 → lifted_letter c k h low (letter x (c + e) (low + z)) ≡ letter (lifted_symbol k e x) (c + e + k) (h + z)
  unfolding lifted_letter
  lifted_letter_lem x e z a b =
      let d : c + e - c ≡ e = omega arith in
      let y : low + z + h - low ≡ h + z = omega arith in
      rw (symbol_letter x (c + e) (low + z) a, depth_letter x (c + e) (low + z) a b, height_letter x (c + e) (low + z) a b, d, y) refl

  lifted_letters : (e z : ℕ) {t : Term} → Coded t → c + e + scope t < 1024 → map (lifted_letter c k h low) (letters (c + e) (low + z) t) ≡ letters (c + e + k) (h + z) (lift k e t)
  unfolding letters lift scope lifted_symbol
  lifted_letters e z coded_tau b = ap (◌∷ []) (lifted_letter_lem 0 e z (omega arith) (omega arith) ∙ ap (λ y. letter y (c + e + k) (h + z)) (index_low k e 0 (omega arith)))
  lifted_letters e z (coded_var {k = j} p q) b = ap (◌∷ []) (lifted_letter_lem j e z (omega arith) (omega arith) ∙ rw (lt-ltb j applicator (omega arith)) refl)
  lifted_letters e z (coded_app {K} {B} f g) b =
      ap₂ ◌∷◌ (lifted_letter_lem applicator e z (omega arith) (omega arith))
      (map-append (lifted_letter c k h low) (letters (c + e) (suc (low + z)) K) (letters (c + e) (low + z) B)
      ∙ ap₂ ◌++◌ (rw (add-suc low z, add-suc h z) at (lifted_letters e (suc z) f (omega arith))) (lifted_letters e z g (omega arith)))
  lifted_letters e z (coded_abs {U} {B} f g) b =
      ap₂ ◌∷◌ (lifted_letter_lem abstractor e z (omega arith) (omega arith))
      (map-append (lifted_letter c k h low) (letters (c + e) (suc (low + z)) U) (letters (suc (c + e)) (low + z) B)
      ∙ ap₂ ◌++◌ (rw (add-suc low z, add-suc h z) at (lifted_letters e (suc z) f (omega arith))) (rw (add-suc c e, suc-add (c + e) k) at (lifted_letters (suc e) z g (omega arith))))

pub lifted_whole : {t : Term} (c low k h : ℕ) → Coded t → c + scope t < 1024 → map (lifted_letter c k h low) (letters c low t) ≡ letters (c + k) h (lift k 0 t)
lifted_whole c low k h f b = rw (add-zero c, add-zero low, add-zero h) at (lifted_letters c k h low 0 0 f (omega arith))

pub lifted_lies : {s : List ℕ} {from e c low : ℕ} {t : Term} (k h : ℕ) → Lies s from e c low t → c + scope t < 1024 → map (lifted_letter c k h low) (part s from e) ≡ letters (c + k) h (lift k 0 t)
lifted_lies {c = c} {low} k h l b = ap (map (lifted_letter c k h low)) (lies_taken l) ∙ lifted_whole c low k h l.coded b

-- ---- A letter, by the code's tests: the symbol stays, or rises by k too.
module _ (c k h low x : ℕ) (l : LiftableLetter c k h low x) where
  pub lifted_kept : (applicator ≤ symbol_of x) ⊎ ((symbol_of x < applicator) × (symbol_of x ≤ depth_of x - c)) → x - low * 1048576 + (k * 1024 + h * 1048576) ≡ lifted_letter c k h low x
  unfolding lifted_letter lifted_symbol letter
  lifted_kept (inl b) = rw (le-ltb (symbol_of x) applicator b) (omega (arith, letter_parts x, l.low_enough))
  lifted_kept (inr (a, b)) = rw (lt-ltb (symbol_of x) applicator a, index_low k (depth_of x - c) (symbol_of x) b) (omega (arith, letter_parts x, l.low_enough))

  pub lifted_raised : symbol_of x < applicator → depth_of x - c < symbol_of x → x - low * 1048576 + (k * 1024 + h * 1048576) + k ≡ lifted_letter c k h low x
  unfolding lifted_letter lifted_symbol letter
  lifted_raised a b = rw (lt-ltb (symbol_of x) applicator a, index_high k (depth_of x - c) (symbol_of x) b) (omega (arith, letter_parts x, l.low_enough))

-- A term that lies in an array lies in its part alone.
pub lies_part : {s : List ℕ} {from e d h : ℕ} {t : Term} → Lies s from e d h t → e ≤ length s → Lies (part s from e) 0 (length (part s from e)) d h t
lies_part {s} {from} {e} {d} {h} {t} l m = record {
  rest = [];
  letters_there = lies_taken l ∙ sym (append-nil (letters d h t));
  coded = l.coded;
  place = omega (arith, length_part s from e m, l.place);
}

pub liftable_here : {s : List ℕ} {c k h low : ℕ} → LettersLiftable s c k h → low ≡ height_of (get_or s 0 0) → (i : ℕ) → i < length s → LiftableLetter c k h low (get_or s i 0)
liftable_here g w i n =
    let v = first_height g.lies (omega (arith, g.few)) in
    let a = above g.term (omega (arith, g.few)) g.lies i (omega arith) n in
    let u = under g.term (omega (arith, g.few)) g.lies i (omega arith) n in
    record {
      index = λ y. omega (arith, u.index y, g.few);
      least = a.deep;
      deep = omega (arith, u.deep, g.few);
      low_enough = omega (arith, a.high);
      high = omega (arith, u.high, g.high);
    }

pub letters_lifted : {s s' : List ℕ} {c k h low : ℕ} → low ≡ height_of (get_or s 0 0) → s' ≡ map (lifted_letter c k h low) s → LettersLifted s s' c k h
letters_lifted {s} {s'} {c} {k} {h} q m = record { all = λ low t l b. m ∙ ap (λ x. map (lifted_letter c k h x) s) (q ∙ first_height l (omega arith)) }

-- As the letters of the lifted term.
pub lifted_term : {s s' : List ℕ} {c low k h : ℕ} {t : Term} → LettersLifted s s' c k h → Lies s 0 (length s) c low t → c + scope t + k ≤ most_abstractors → s' ≡ letters (c + k) h (lift k 0 t)
lifted_term {s} {s'} {c} {low} {k} {h} j l f = j.all low _ l f ∙ ap (map (lifted_letter c k h low)) (sym (take_rest s 0) ∙ lies_taken l) ∙ lifted_whole c low k h l.coded (omega arith)

-- ---- The deepest letter: `most` is the least that none of the first i letters is deeper than.
pub record Deepening (s : List ℕ) (i most : ℕ) : Type 0 where
  pub passed : (j : ℕ) → j < i → depth_of (get_or s j 0) ≤ most
  pub least : (x : ℕ) → ((j : ℕ) → j < i → depth_of (get_or s j 0) ≤ x) → most ≤ x

pub deepening_next : {s : List ℕ} {i most most' : ℕ} → Deepening s i most → most' ≡ max most (depth_of (get_or s i 0)) → Deepening s (i + 1) most'
deepening_next {s} {i} {most} {most'} w q = record {
  passed = λ j x. elim (cmp i j) [
    | lo u ↦ let e : j ≡ i = omega arith in rw e (omega arith)
    | hi u ↦ omega (arith, w.passed j u)
  ];
  least = λ x f. omega (arith, w.least x (λ j u. f j (omega arith)), f i (omega arith));
}

pub deepest_is : {s : List ℕ} {i most : ℕ} → Deepening s i most → i ≡ length s → DeepestIs s most
deepest_is w q = record {
  all = λ c low t l b. let n : c + scope t < 1024 = omega arith in
      omega (arith, scope_under t n l (λ j x y. w.passed j (omega arith)), w.least (c + scope t) (λ j x. (under t n l j (omega arith) (omega arith)).deep));
}
