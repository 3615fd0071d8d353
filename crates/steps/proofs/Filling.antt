-- The rest of a couple with K for each use: the letters of the substitution, their number and their scope.
-- Assumes nothing.
use Prim.Native.Nat.{ℕ, suc, ◌+◌, ◌-◌, ◌*◌, ◌≤◌, ◌<◌, max}
use mathlib.Core.Path.{◌≡◌, refl, ap, ap₂, sym, ◌∙◌}
use mathlib.Core.Bool.{Bool, true, false, cond}
use mathlib.Core.List.{List, [], ◌∷◌, ◌++◌, map, append_assoc, append-nil}
use native.Mathlib.Omega.{arith}
use native.Mathlib.Nat.{add-zero, add-suc, add-mul, zero-mul, one-mul}
use native.Mathlib.Numerals.{add-one}
use lib.Dec.{eqb}
use lib.ListN.{length, length-append, length-map}
use borrow.Author.Tests.{lt-ltb, le-ltb, eq-eqb, ne_eqb}
use Rattle.calculus.specs.Terms.{Term, var, lift}
use Rattle.calculus.specs.Steps.{substitute_var, substitute}
use Rattle.calculus.proofs.Lift.{lo, hi, cmp, lift_fusion}
use Rattle.calculus.proofs.Substitute.{below, used, above, use_of_lem, var_below, var_used, var_above}
use Rattle.code.specs.Code.{Coded, coded_tau, coded_var, coded_app, coded_abs}
use Rattle.code.specs.Scope.{scope}
use Rattle.code.proofs.Scope.{scope_lift}
use Rattle.letters.specs.Letters.{letter, letters, applicator, abstractor, symbol_of, depth_of, height_of}
use Rattle.letters.proofs.Letters.{symbol_letter, depth_letter, height_letter}
use Rattle.bodies.specs.Moving.{lifted_letter}
use Rattle.bodies.proofs.Lifting.{lifted_whole}
use Rattle.steps.specs.Lowering.{lowered_symbol, lowered_letter, use_of, uses_of}
use Rattle.steps.specs.Filling.{filled_letter, filled, use_depth, deepest_use}
use Rattle.steps.proofs.Lowering.{lowered_zero, lowered_letter_lem}

-- ---- A letter that is no use, and one that is.
module _ (a c low : ℕ) (v : List ℕ) where
  other_letter : (x r z : ℕ) {y : ℕ} → x < 1024 → a + suc r < 1024 → (x ≡ suc r → ⊥) → lowered_symbol (suc r) x ≡ y → filled_letter a c low v (letter x (a + suc r) z) ≡ letter y (a + r) z ∷ []
  unfolding filled_letter
  other_letter x r z e b n q =
      let d : a + suc r - a ≡ suc r = omega arith in
      rw (symbol_letter x (a + suc r) z e, depth_letter x (a + suc r) z e b, d, ne_eqb x (suc r) n) (ap (◌∷ []) (lowered_letter_lem a x r z e b q))

  lifted_by : (k r z : ℕ) → k ≡ r → map (lifted_letter c k z low) v ≡ map (lifted_letter c r z low) v
  lifted_by k r z e = ap (λ i. map (lifted_letter c i z low) v) e

  use_letter : (k r z : ℕ) → k + suc c ≡ a + suc r → suc r < 1024 → a + suc r < 1024 → filled_letter a c low v (letter (suc r) (a + suc r) z) ≡ map (lifted_letter c k z low) v
  unfolding filled_letter
  use_letter k r z f e b =
      let d : a + suc r - a ≡ suc r = omega arith in
      rw (symbol_letter (suc r) (a + suc r) z e, depth_letter (suc r) (a + suc r) z e b, height_letter (suc r) (a + suc r) z e b, d, eq-eqb (suc r) (suc r) refl) (lifted_by _ k z (omega arith))

  filled_append : (x y : List ℕ) → filled a c low v (x ++ y) ≡ filled a c low v x ++ filled a c low v y
  unfolding filled
  filled_append [] y = refl
  filled_append (z ∷ x) y = ap (filled_letter a c low v z ++◌) (filled_append x y) ∙ sym (append_assoc (filled_letter a c low v z) (filled a c low v x) (filled a c low v y))

-- ---- The letters of a term with K for its variable, where K, which lies at depth c, is meant lifted past j abstractors.
module _ (c j low : ℕ) {K : Term} (f : Coded K) (l : c + scope K < 1024) where
  abbrev a : ℕ
  a = c + j

  abbrev v : List ℕ
  v = letters c low K

  abbrev J : Term
  J = lift j 0 K

  lifted_use : (r z : ℕ) → map (lifted_letter c (j + r) z low) v ≡ letters (a + r) z (lift r 0 J)
  lifted_use r z = lifted_whole c low (j + r) z f l ∙ ap₂ (λ d t. letters d z t) (omega arith) (sym (lift_fusion r 0 j 0 K (omega arith) (omega arith)))

  filled_index : (r z k : ℕ) → k < 1022 → a + suc r < 1022 → filled_letter a c low v (letter k (a + suc r) z) ++ [] ≡ letters (a + r) z (substitute_var r J k)
  unfolding letters lowered_symbol
  filled_index r z k g b = elim (use_of_lem r k) [
    | below h ↦ rw (var_below r J k h) (ap (◌++ []) (other_letter a c low v k r z (omega arith) (omega arith) (λ e. omega arith) (rw (lt-ltb k applicator g, lt-ltb k (suc r) (omega arith)))))
    | used h ↦ rw (var_used r J k h, h) (append-nil (filled_letter a c low v (letter (suc r) (a + suc r) z)) ∙ use_letter a c low v (j + r) r z (omega arith) (omega arith) (omega arith) ∙ lifted_use r z)
    | above h ↦
        let e : k ≡ suc (k - 1) = omega arith in
        let q : substitute_var r J k ≡ var (k - 1) = ap (substitute_var r J) e ∙ var_above r J (k - 1) (omega arith) in
        rw q (ap (◌++ []) (other_letter a c low v k r z (omega arith) (omega arith) (λ e. omega arith) (rw (lt-ltb k applicator g, le-ltb k (suc r) (omega arith)))))
  ]

  filled_letters : (r z : ℕ) {t : Term} → Coded t → a + suc r + scope t < 1022 → filled a c low v (letters (a + suc r) z t) ≡ letters (a + r) z (substitute r J t)
  unfolding letters scope substitute filled lowered_symbol
  filled_letters r z coded_tau b = ap (◌++ []) (other_letter a c low v 0 r z (omega arith) (omega arith) (λ e. omega arith) (lowered_zero r))
  filled_letters r z (coded_var {k = i} p q) b = filled_index r z i (omega arith) (omega arith)
  filled_letters r z (coded_app {K = L} {B} g h) b =
      ap₂ ◌++◌ (other_letter a c low v applicator r z (omega arith) (omega arith) (λ e. omega arith) refl)
      (filled_append a c low v (letters (a + suc r) (suc z) L) (letters (a + suc r) z B)
      ∙ ap₂ ◌++◌ (filled_letters r (suc z) g (omega arith)) (filled_letters r z h (omega arith)))
  filled_letters r z (coded_abs {U} {B} g h) b =
      ap₂ ◌++◌ (other_letter a c low v abstractor r z (omega arith) (omega arith) (λ e. omega arith) refl)
      (filled_append a c low v (letters (a + suc r) (suc z) U) (letters (suc (a + suc r)) z B)
      ∙ ap₂ ◌++◌ (filled_letters r (suc z) g (omega arith)) (simp add-suc (simp add-suc at (filled_letters (suc r) z h (omega arith)))))

  -- from the scope of the abstractor itself
  pub filled_rest : (z : ℕ) {t : Term} → Coded t → suc a + scope t < 1022 → filled a c low v (letters (suc a) z t) ≡ letters a z (substitute 0 J t)
  filled_rest z g b = rw (add-one a, add-zero a) at (filled_letters 0 z g (omega arith))

-- ---- Their number.
module _ (a c low : ℕ) (v : List ℕ) (l : 1 ≤ length v) where
  pub length_letter : (x : ℕ) → length (filled_letter a c low v x) ≡ 1 + use_of a x * (length v - 1)
  unfolding filled_letter use_of
  length_letter x = go (eqb (symbol_of x) (depth_of x - a))
    where
      go : (b : Bool) → length (cond b (map (lifted_letter c (depth_of x - 1 - c) (height_of x) low) v) (lowered_letter a x ∷ [])) ≡ 1 + cond b 1 0 * (length v - 1)
      go true = length-map v (lifted_letter c (depth_of x - 1 - c) (height_of x) low) ∙ omega (arith, one-mul (length v - 1))
      go false = omega (arith, zero-mul (length v - 1))

  pub filled_length : (s : List ℕ) → length (filled a c low v s) ≡ length s + uses_of a s * (length v - 1)
  unfolding filled uses_of
  filled_length [] = omega (arith, zero-mul (length v - 1))
  filled_length (x ∷ s) = length-append (filled_letter a c low v x) (filled a c low v s) ∙ omega (arith, length_letter x, filled_length s, add-mul (use_of a x) (uses_of a s) (length v - 1))

-- ---- Their scope: by the deepest use.
module _ (c : ℕ) where
  deepest_append : (a b : List ℕ) → deepest_use c (a ++ b) ≡ max (deepest_use c a) (deepest_use c b)
  unfolding deepest_use
  deepest_append [] b = omega arith
  deepest_append (x ∷ a) b = omega (arith, deepest_append a b)

  depth_letter_of : (x r z : ℕ) → x < 1024 → c + suc r < 1024 → use_depth c (letter x (c + suc r) z) ≡ cond (eqb x (suc r)) (c + suc r) 0
  unfolding use_depth
  depth_letter_of x r z a b = let d : c + suc r - c ≡ suc r = omega arith in rw (symbol_letter x (c + suc r) z a, depth_letter x (c + suc r) z a b, d) refl

  no_use : (x r z : ℕ) → x < 1024 → c + suc r < 1024 → (x ≡ suc r → ⊥) → use_depth c (letter x (c + suc r) z) ≡ 0
  no_use x r z a b n = depth_letter_of x r z a b ∙ rw (ne_eqb x (suc r) n)

  one_use : (x r z : ℕ) → x < 1024 → c + suc r < 1024 → x ≡ suc r → use_depth c (letter x (c + suc r) z) ≡ c + suc r
  one_use x r z a b e = depth_letter_of x r z a b ∙ rw (eq-eqb x (suc r) e)

  -- an applicator or abstractor, and its two parts
  deepest_parts : (x r z : ℕ) → 1022 ≤ x → x < 1024 → c + suc r < 1022 → (a b : List ℕ) → deepest_use c (letter x (c + suc r) z ∷ (a ++ b)) ≡ max (deepest_use c a) (deepest_use c b)
  unfolding deepest_use
  deepest_parts x r z g h l a b = omega (arith, no_use x r z h (omega arith) (λ e. omega arith), deepest_append a b)

  module _ (K : Term) where
    -- What the scope of K and the deepest use allow, where X abstractors are allowed.
    index_most : (r z k X : ℕ) → k < 1022 → c + suc r < 1022 → r ≤ X → use_depth c (letter k (c + suc r) z) + scope K ≤ X + suc c → r + scope (substitute_var r K k) ≤ X
    unfolding scope
    index_most r z k X a b l h = elim (use_of_lem r k) [
      | below g ↦ rw (var_below r K k g) (omega arith)
      | used g ↦ rw (var_used r K k g, scope_lift r 0 K) (omega (arith, one_use k r z (omega arith) (omega arith) g))
      | above g ↦
          let e : k ≡ suc (k - 1) = omega arith in
          let q : substitute_var r K k ≡ var (k - 1) = ap (substitute_var r K) e ∙ var_above r K (k - 1) (omega arith) in
          rw q (omega arith)
    ]

    scope_most : (r z X : ℕ) {t : Term} → Coded t → c + suc r + scope t < 1022 → r + scope t ≤ X → deepest_use c (letters (c + suc r) z t) + scope K ≤ X + suc c → r + scope (substitute r K t) ≤ X
    unfolding letters scope substitute deepest_use
    scope_most r z X coded_tau b l h = l
    scope_most r z X (coded_var {k = j} p q) b l h = index_most r z j X (omega arith) (omega arith) (omega arith) (omega arith)
    scope_most r z X (coded_app {K = L} {B} f g) b l h =
        let e = deepest_parts applicator r z (omega arith) (omega arith) (omega arith) (letters (c + suc r) (suc z) L) (letters (c + suc r) z B) in
        let i = scope_most r (suc z) X f (omega arith) (omega arith) (omega arith) in
        let j = scope_most r z X g (omega arith) (omega arith) (omega arith) in
        omega arith
    scope_most r z X (coded_abs {U} {B} f g) b l h =
        let e = deepest_parts abstractor r z (omega arith) (omega arith) (omega arith) (letters (c + suc r) (suc z) U) (letters (suc (c + suc r)) z B) in
        let w : deepest_use c (letters (c + suc (suc r)) z B) ≡ deepest_use c (letters (suc (c + suc r)) z B) = rw (add-suc c (suc r)) refl in
        let i = scope_most r (suc z) X f (omega arith) (omega arith) (omega arith) in
        let j = scope_most (suc r) z X g (omega arith) (omega arith) (omega arith) in
        omega arith

    -- What they reach, where there is a use.
    index_least : (r z k : ℕ) → k < 1022 → c + suc r < 1022 → 1 ≤ use_depth c (letter k (c + suc r) z) → use_depth c (letter k (c + suc r) z) + scope K ≤ suc c + (r + scope (substitute_var r K k))
    index_least r z k a b l = elim (use_of_lem r k) [
      | below g ↦ absurd (omega (arith, no_use k r z (omega arith) (omega arith) (λ e. omega arith)))
      | used g ↦ rw (var_used r K k g, scope_lift r 0 K) (omega (arith, one_use k r z (omega arith) (omega arith) g))
      | above g ↦ absurd (omega (arith, no_use k r z (omega arith) (omega arith) (λ e. omega arith)))
    ]

    scope_least : (r z : ℕ) {t : Term} → Coded t → c + suc r + scope t < 1022 → 1 ≤ deepest_use c (letters (c + suc r) z t) → deepest_use c (letters (c + suc r) z t) + scope K ≤ suc c + (r + scope (substitute r K t))
    unfolding letters scope substitute deepest_use
    scope_least r z coded_tau b l = absurd (omega (arith, no_use 0 r z (omega arith) (omega arith) (λ e. omega arith)))
    scope_least r z (coded_var {k = j} p q) b l = omega (arith, index_least r z j (omega arith) (omega arith) (omega arith))
    scope_least r z (coded_app {K = L} {B} f g) b l =
        let e = deepest_parts applicator r z (omega arith) (omega arith) (omega arith) (letters (c + suc r) (suc z) L) (letters (c + suc r) z B) in
        elim (cmp (deepest_use c (letters (c + suc r) z B)) (deepest_use c (letters (c + suc r) (suc z) L))) [
          | lo h ↦ omega (arith, scope_least r (suc z) f (omega arith) (omega arith))
          | hi h ↦ omega (arith, scope_least r z g (omega arith) (omega arith))
        ]
    scope_least r z (coded_abs {U} {B} f g) b l =
        let e = deepest_parts abstractor r z (omega arith) (omega arith) (omega arith) (letters (c + suc r) (suc z) U) (letters (suc (c + suc r)) z B) in
        let w : deepest_use c (letters (c + suc (suc r)) z B) ≡ deepest_use c (letters (suc (c + suc r)) z B) = rw (add-suc c (suc r)) refl in
        elim (cmp (deepest_use c (letters (suc (c + suc r)) z B)) (deepest_use c (letters (c + suc r) (suc z) U))) [
          | lo h ↦ omega (arith, scope_least r (suc z) f (omega arith) (omega arith))
          | hi h ↦ omega (arith, scope_least (suc r) z g (omega arith) (omega arith))
        ]

    -- from the scope of the abstractor itself
    pub rest_most : (z X : ℕ) {t : Term} → Coded t → suc c + scope t < 1022 → scope t ≤ X → deepest_use c (letters (suc c) z t) + scope K ≤ X + suc c → scope (substitute 0 K t) ≤ X
    rest_most z X f b l h = omega (arith, scope_most 0 z X f (omega arith) (omega arith) (rw (add-one c) h))

    pub rest_least : (z : ℕ) {t : Term} → Coded t → suc c + scope t < 1022 → 1 ≤ deepest_use c (letters (suc c) z t) → deepest_use c (letters (suc c) z t) + scope K ≤ suc c + scope (substitute 0 K t)
    rest_least z f b l = omega (arith, rw (add-one c) at (scope_least 0 z f (omega arith) (rw (add-one c) l)))
