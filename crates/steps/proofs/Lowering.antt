-- The letters of a lowered term, and whether it uses the dropped variable.
-- Assumes nothing.
use Prim.Native.Nat.{ℕ, suc, ◌+◌, ◌-◌, ◌≤◌, ◌<◌}
use mathlib.Core.Path.{◌≡◌, refl, ap, ap₂, sym, ◌∙◌}
use mathlib.Core.Bool.{Bool, true, false, cond}
use mathlib.Core.Logic.{◌⊎◌, inl, inr}
use mathlib.Core.Option.{Option, none, some}
use mathlib.Core.List.{List, [], ◌∷◌, ◌++◌, map, map-append}
use native.Mathlib.Omega.{arith}
use native.Mathlib.Nat.{add-suc, add-zero, zero-add}
use native.Mathlib.Numerals.{add-one}
use lib.Dec.{eqb}
use lib.ListN.{length, get_or, drop}
use mir.Val.{bool_byte}
use Rattle.std.proofs.lemmas.List.{drop_more, drop_all}
use borrow.Author.Tests.{lt-ltb, le-ltb, le-leb, lt-leb, eq-eqb, ne_eqb}
use Rattle.calculus.specs.Terms.{Term, tau, var, app, abs, size, lift, lift_index}
use Rattle.calculus.specs.Steps.{lower, lower_var, both}
use Rattle.calculus.proofs.Lift.{lo, hi, cmp, index_low, index_high, size_lift}
use Rattle.calculus.proofs.Ren.{lower_sound}
use Rattle.code.specs.Code.{Coded, coded_tau, coded_var, coded_app, coded_abs}
use Rattle.code.specs.Scope.{scope}
use Rattle.code.proofs.Scope.{scope_lift}
use Rattle.parts.specs.Parts.{part}
use Rattle.letters.specs.Letters.{letter, letters, applicator, abstractor, symbol_of, depth_of, Lies}
use Rattle.letters.proofs.Letters.{letter_parts, symbol_letter, depth_letter, height_letter, lies_taken}
use Rattle.steps.specs.Lowering.{lowered_symbol, lowered_letter, is_use, use_of, uses_of}

-- ---- What lowering keeps.
module _ (c : ℕ) (t u : Term) (e : lower c t ≡ some u) where
  pub lower_size : size u ≡ size t
  lower_size = rw (lower_sound c t u e) (sym (size_lift 1 c u))

  pub lower_scope : scope u ≡ scope t
  lower_scope = rw (lower_sound c t u e) (sym (scope_lift 1 c u))

-- ---- A symbol.
pub lowered_zero : (r : ℕ) → lowered_symbol (suc r) 0 ≡ 0
unfolding lowered_symbol
lowered_zero r = rw (lt-ltb 0 (suc r) (omega arith))

lowered_index : (r k : ℕ) → lift_index 1 r k < applicator → lowered_symbol (suc r) (lift_index 1 r k) ≡ k
unfolding lowered_symbol
lowered_index r k l = rw (lt-ltb (lift_index 1 r k) applicator l) (elim (cmp k r) [
  | lo h ↦ rw (index_low 1 r k h, lt-ltb k (suc r) (omega arith))
  | hi h ↦ rw (index_high 1 r k h, le-ltb (k + 1) (suc r) (omega arith)) (omega arith)
])

-- ---- The letters of a term: lowering undoes a lift by 1.
module _ (c : ℕ) where
  pub lowered_letter_lem : (x r z : ℕ) {y : ℕ} → x < 1024 → c + suc r < 1024 → lowered_symbol (suc r) x ≡ y → lowered_letter c (letter x (c + suc r) z) ≡ letter y (c + r) z
  unfolding lowered_letter
  lowered_letter_lem x r z a b q =
      let d : c + suc r - c ≡ suc r = omega arith in
      let e : c + suc r - 1 ≡ c + r = omega arith in
      rw (symbol_letter x (c + suc r) z a, depth_letter x (c + suc r) z a b, height_letter x (c + suc r) z a b, d, e, q) refl

  lowered_letters : (r z : ℕ) (u : Term) → Coded (lift 1 r u) → c + suc r + scope u < 1022 → map (lowered_letter c) (letters (c + suc r) z (lift 1 r u)) ≡ letters (c + r) z u
  unfolding letters lift scope lowered_symbol
  lowered_letters r z tau f b = ap (◌∷ []) (lowered_letter_lem 0 r z (omega arith) (omega arith) (lowered_zero r))
  lowered_letters r z (var k) (coded_var p q) b = ap (◌∷ []) (lowered_letter_lem (lift_index 1 r k) r z (omega arith) (omega arith) (lowered_index r k (omega arith)))
  lowered_letters r z (app K B) (coded_app f g) b =
      ap₂ ◌∷◌ (lowered_letter_lem applicator r z (omega arith) (omega arith) refl)
      (map-append (lowered_letter c) (letters (c + suc r) (suc z) (lift 1 r K)) (letters (c + suc r) z (lift 1 r B)) ∙ ap₂ ◌++◌ (lowered_letters r (suc z) K f (omega arith)) (lowered_letters r z B g (omega arith)))
  lowered_letters r z (abs U B) (coded_abs f g) b =
      ap₂ ◌∷◌ (lowered_letter_lem abstractor r z (omega arith) (omega arith) refl)
      (map-append (lowered_letter c) (letters (c + suc r) (suc z) (lift 1 r U)) (letters (suc (c + suc r)) z (lift 1 (suc r) B))
      ∙ ap₂ ◌++◌ (lowered_letters r (suc z) U f (omega arith)) (simp add-suc (simp add-suc at (lowered_letters (suc r) z B g (omega arith)))))

-- ---- How often the dropped variable is used, and whether lowering succeeds.
data Counted : ℕ → Option Term → Type 0 where
  unused : {u : Term} → Counted 0 (some u)
  used : (n : ℕ) → 0 < n → Counted n none

counted_both : {m n : ℕ} {x y : Option Term} (f : Term → Term → Term) → Counted m x → Counted n y → Counted (m + n) (both f x y)
unfolding both
counted_both f unused unused = unused
counted_both f unused (used n l) = used (0 + n) (omega arith)
counted_both {n = n} f (used m l) v = used (m + n) (omega arith)

uses_append : (c : ℕ) (x y : List ℕ) → uses_of c (x ++ y) ≡ uses_of c x + uses_of c y
unfolding uses_of
uses_append c [] y = omega arith
uses_append c (a ∷ x) y = omega (arith, uses_append c x y)

counted_index : (r k : ℕ) → Counted (cond (eqb k (suc r)) 1 0) (lower_var r k)
unfolding lower_var
counted_index r k = elim (cmp k r) [
  | lo h ↦ rw (le-leb k r h, ne_eqb k (suc r) (λ e. omega arith)) unused
  | hi h ↦ elim (cmp k (suc r)) [
    | lo g ↦ rw (lt-leb k r h, le-leb k (suc r) g, eq-eqb k (suc r) (omega arith)) (used 1 (omega arith))
    | hi g ↦ rw (lt-leb k r h, lt-leb k (suc r) g, ne_eqb k (suc r) (λ e. omega arith)) unused
  ]
]

module _ (c : ℕ) where
  use_letter : (x r z : ℕ) → x < 1024 → c + suc r < 1024 → use_of c (letter x (c + suc r) z) ≡ cond (eqb x (suc r)) 1 0
  unfolding use_of
  use_letter x r z a b = let d : c + suc r - c ≡ suc r = omega arith in rw (symbol_letter x (c + suc r) z a, depth_letter x (c + suc r) z a b, d) refl

  no_use : (x r z : ℕ) → x < 1024 → c + suc r < 1024 → (x ≡ suc r → ⊥) → use_of c (letter x (c + suc r) z) ≡ 0
  no_use x r z a b n = use_letter x r z a b ∙ rw (ne_eqb x (suc r) n)

  counted : (r z : ℕ) {t : Term} → Coded t → c + suc r + scope t < 1022 → Counted (uses_of c (letters (c + suc r) z t)) (lower r t)
  unfolding letters lower scope uses_of
  counted r z coded_tau b = rw (no_use 0 r z (omega arith) (omega arith) (λ e. omega arith)) unused
  counted r z (coded_var {k = j} p q) b = rw (use_letter j r z (omega arith) (omega arith), add-zero (cond (eqb j (suc r)) 1 0)) (counted_index r j)
  counted r z (coded_app {K} {B} f g) b =
      rw (no_use applicator r z (omega arith) (omega arith) (λ e. omega arith), zero-add (uses_of c (letters (c + suc r) (suc z) K ++ letters (c + suc r) z B)), uses_append c (letters (c + suc r) (suc z) K) (letters (c + suc r) z B))
      (counted_both app (counted r (suc z) f (omega arith)) (counted r z g (omega arith)))
  counted r z (coded_abs {U} {B} f g) b =
      rw (no_use abstractor r z (omega arith) (omega arith) (λ e. omega arith), zero-add (uses_of c (letters (c + suc r) (suc z) U ++ letters (suc (c + suc r)) z B)), uses_append c (letters (c + suc r) (suc z) U) (letters (suc (c + suc r)) z B))
      (counted_both abs (counted r (suc z) f (omega arith)) (rw (add-suc c (suc r)) at (counted (suc r) z g (omega arith))))

none_used : {n : ℕ} {o : Option Term} → Counted n o → n ≡ 0 → (u : Term) × (o ≡ some u)
none_used (unused {u}) e = (u, refl)
none_used (used n l) e = absurd (omega arith)

some_used : {n : ℕ} {o : Option Term} → Counted n o → (n ≡ 0 → ⊥) → o ≡ none
some_used unused f = absurd (f refl)
some_used (used n l) f = refl

-- ---- A term that lies in s, in the scope of an abstractor of depth c.
module _ {s : List ℕ} {from e c h : ℕ} {t : Term} (l : Lies s from e (suc c) h t) (b : suc c + scope t < 1022) where
  one : c + 1 ≡ suc c
  one = add-one c

  pub lowered_lies : {u : Term} → lower 0 t ≡ some u → map (lowered_letter c) (part s from e) ≡ letters c h u
  lowered_lies {u} q = let f = lower_sound 0 t u q in
      ap (map (lowered_letter c)) (lies_taken l ∙ ap (letters (suc c) h) f) ∙ rw (one, add-zero c) at (lowered_letters c 0 h u (rw f at l.coded) (omega (arith, lower_scope 0 t u q)))

  uses_are : Counted (uses_of c (part s from e)) (lower 0 t)
  uses_are = rw (lies_taken l) (rw one at (counted c 0 h l.coded (omega arith)))

  pub uses_none : uses_of c (part s from e) ≡ 0 → (u : Term) × (lower 0 t ≡ some u)
  uses_none q = none_used uses_are q

  pub uses_some : (uses_of c (part s from e) ≡ 0 → ⊥) → lower 0 t ≡ none
  uses_some f = some_used uses_are f

-- ---- A letter, by the code's tests: the symbol stays, or falls by 1 too.
module _ (c x : ℕ) (a : c < depth_of x) where
  pub lowered_kept : (applicator ≤ symbol_of x) ⊎ ((symbol_of x < applicator) × (symbol_of x < depth_of x - c)) → x - 1024 ≡ lowered_letter c x
  unfolding lowered_letter lowered_symbol letter
  lowered_kept (inl b) = rw (le-ltb (symbol_of x) applicator b) (omega (arith, letter_parts x))
  lowered_kept (inr (b, d)) = rw (lt-ltb (symbol_of x) applicator b, lt-ltb (symbol_of x) (depth_of x - c) d) (omega (arith, letter_parts x))

  pub lowered_fallen : symbol_of x < applicator → depth_of x - c ≤ symbol_of x → x - 1025 ≡ lowered_letter c x
  unfolding lowered_letter lowered_symbol letter
  lowered_fallen b d = rw (lt-ltb (symbol_of x) applicator b, le-ltb (symbol_of x) (depth_of x - c) d) (omega (arith, letter_parts x))

-- The loop that counts: the first i letters are counted.
pub record Counting (s : List ℕ) (c i count : ℕ) : Type 0 where
  pub few : count ≤ i
  pub sum : count + uses_of c (drop i s) ≡ uses_of c s

module _ {s : List ℕ} {c i count : ℕ} (w : Counting s c i count) where
  pub counting_next : {b : Bool} {x : ℕ} → i < length s → b ≡ is_use c (get_or s i 0) → x ≡ bool_byte b → Counting s c (i + 1) (count + x)
  unfolding uses_of use_of
  counting_next {x = x} l q r = let o = one_use (get_or s i 0) q r in record { few = omega (arith, w.few, o); sum = omega (arith, w.sum, o, ap (uses_of c) (drop_more s i 0 l)) }
    where
      one_use : (y : ℕ) {b : Bool} → b ≡ is_use c y → x ≡ bool_byte b → (x ≤ 1) × (x ≡ use_of c y)
      one_use y {b} q = rw (← q) (go b)
        where
          go : (b : Bool) → x ≡ bool_byte b → (x ≤ 1) × (x ≡ cond b 1 0)
          go true r = (omega arith, r)
          go false r = (omega arith, r)

  pub counting_end : length s ≤ i → count ≡ uses_of c s
  unfolding uses_of
  counting_end l = omega (arith, w.sum, ap (uses_of c) (drop_all i s l))
