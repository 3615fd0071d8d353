-- The loops that find a variable's abstractor and the applicator that matches it.
-- Assumes nothing.
use Prim.Native.Nat.{ℕ, zero, suc, ◌+◌, ◌-◌, ◌≤◌, ◌<◌}
use mathlib.Core.Path.{◌≡◌, ap, sym, ◌∙◌}
use mathlib.Core.List.{List}
use native.Mathlib.Omega.{arith}
use native.Mathlib.Nat.{add-zero, add-suc}
use native.Mathlib.Numerals.{add-one}
use lib.ListN.{get_or}
use borrow.Author.Tests.{lt-ltb, le-ltb, eq-eqb, ne_eqb}
use Rattle.std.specs.Prelude.{Option, Some, None}
use Rattle.calculus.proofs.Lift.{lo, hi, cmp}
use Rattle.letters.specs.Letters.{letter, applicator, abstractor, symbol_of, depth_of, height_of}
use Rattle.letters.proofs.Letters.{depth_letter, height_letter}
use Rattle.bodies.specs.declared.Part.{Part}
use Rattle.bodies.specs.Finding.{BinderAt, Found, partner_from}

-- ---- The abstractor: m is the least height from place q up to p.
pub record Scanning (s : List ℕ) (p d q m : ℕ) : Type 0 where
  pub left : q ≤ p
  pub all : (h rest at : ℕ) → BinderAt s p d h rest at → (at < q) × (h ≤ m) × (q ≤ rest → m ≡ h)

pub scan_start : {s : List ℕ} {p d m : ℕ} → m ≡ height_of (get_or s p 0) → Scanning s p d p m
scan_start {s} {p} e = record {
  left = omega arith;
  all = λ h rest at b. (omega (arith, b.ordered, b.before), omega (arith, b.high p b.before (omega arith)), λ l. e ∙ ap (λ j. height_of (get_or s j 0)) (omega (arith, b.before)) ∙ b.rest_height);
}

module _ {s : List ℕ} {p d q m : ℕ} (c : Scanning s p d q m) (l : 0 < q) where
  -- The letter before q is the sought one: it is the abstractor.
  pub scan_found : d < 1024 → get_or s (q - 1) 0 ≡ letter abstractor d m → Found s p d (q - 1)
  scan_found i e = record { all = λ h rest at b. go h rest at b (c.all h rest at b) }
    where
      go : (h rest at : ℕ) → BinderAt s p d h rest at → (at < q) × (h ≤ m) × (q ≤ rest → m ≡ h) → q - 1 ≡ at
      go h rest at b (x, y, z) = elim (cmp (q - 1) at) [
        | lo u ↦ omega arith
        | hi u ↦ elim (cmp rest (q - 1)) [
          | lo v ↦ absurd (omega (arith, b.deep (q - 1) v (omega (arith, c.left)), ap depth_of e, depth_letter abstractor d m (omega arith) i))
          | hi v ↦ absurd (omega (arith, b.inner (q - 1) u v, z (omega arith), ap height_of e, height_letter abstractor d m (omega arith) i))
        ]
      ]

  -- It is not: the abstractor is farther left. m' is the less of m and the letter's height.
  pub scan_next : {m' : ℕ} → (get_or s (q - 1) 0 ≡ letter abstractor d m → ⊥) → m' ≤ m → m' ≤ height_of (get_or s (q - 1) 0) → ((x : ℕ) → x ≤ m → x ≤ height_of (get_or s (q - 1) 0) → x ≤ m') → Scanning s p d (q - 1) m'
  scan_next {m'} n f g o = record { left = omega (arith, c.left); all = λ h rest at b. go h rest at b (c.all h rest at b) }
    where
      go : (h rest at : ℕ) → BinderAt s p d h rest at → (at < q) × (h ≤ m) × (q ≤ rest → m ≡ h) → (at < q - 1) × (h ≤ m') × (q - 1 ≤ rest → m' ≡ h)
      go h rest at b (x, y, z) = elim (cmp (q - 1) at) [
        | lo u ↦ absurd (n (ap (λ j. get_or s j 0) (omega arith) ∙ b.letter_there ∙ ap (letter abstractor d) (sym (z (omega (arith, b.ordered))))))
        | hi u ↦ elim (cmp rest (q - 1)) [
          | lo v ↦ let r : h ≤ m' = o h y (b.high (q - 1) v (omega (arith, c.left))) in
              (u, r, λ w. let e : height_of (get_or s (q - 1) 0) ≡ h = ap (λ j. height_of (get_or s j 0)) (omega arith) ∙ b.rest_height in omega arith)
          | hi v ↦ let e : m ≡ h = z (omega arith) in let r : h ≤ m' = o h y (omega (arith, b.inner (q - 1) u v)) in (u, r, λ w. omega arith)
        ]
      ]

-- ---- The applicator: what the letter before place suc i says.
module _ (s : List ℕ) (h i n next : ℕ) where
  pub less_high : height_of (get_or s i 0) < h → partner_from s h (suc i) n next ≡ None
  unfolding partner_from
  less_high l = rw (lt-ltb (height_of (get_or s i 0)) h l)

  higher : h < height_of (get_or s i 0) → partner_from s h (suc i) n next ≡ partner_from s h i n next
  unfolding partner_from
  higher l = rw (le-ltb (height_of (get_or s i 0)) h (omega arith), ne_eqb (height_of (get_or s i 0)) h (λ e. omega arith))

  module _ (e : height_of (get_or s i 0) ≡ h) where
    pub at_abstractor : (symbol_of (get_or s i 0) ≡ applicator → ⊥) → partner_from s h (suc i) n next ≡ partner_from s h i (suc n) i
    unfolding partner_from
    at_abstractor z = rw (le-ltb (height_of (get_or s i 0)) h (omega arith), eq-eqb (height_of (get_or s i 0)) h e, ne_eqb (symbol_of (get_or s i 0)) applicator z)

    module _ (a : symbol_of (get_or s i 0) ≡ applicator) where
      pub at_partner_lem : n ≡ 0 → partner_from s h (suc i) n next ≡ Some (record { start = suc i; end = next })
      unfolding partner_from
      at_partner_lem z = rw (le-ltb (height_of (get_or s i 0)) h (omega arith), eq-eqb (height_of (get_or s i 0)) h e, eq-eqb (symbol_of (get_or s i 0)) applicator a, eq-eqb n 0 z)

      pub at_applicator : (n ≡ 0 → ⊥) → partner_from s h (suc i) n next ≡ partner_from s h i (n - 1) i
      unfolding partner_from
      at_applicator z = rw (le-ltb (height_of (get_or s i 0)) h (omega arith), eq-eqb (height_of (get_or s i 0)) h e, eq-eqb (symbol_of (get_or s i 0)) applicator a, ne_eqb n 0 z)

-- Past the letters inside a wagon.
pub all_higher : (s : List ℕ) (h from j n next : ℕ) → ((k : ℕ) → from ≤ k → k < from + j → h < height_of (get_or s k 0)) → partner_from s h (from + j) n next ≡ partner_from s h from n next
all_higher s h from zero n next f = ap (λ x. partner_from s h x n next) (add-zero from)
all_higher s h from (suc j) n next f = ap (λ x. partner_from s h x n next) (add-suc from j) ∙ higher s h (from + j) n next (f (from + j) (omega arith) (omega arith)) ∙ all_higher s h from j n next (λ k a b. f k a (omega arith))

-- The loop: what is found from place i on is what is found from q on.
pub record Searching (s : List ℕ) (q h i n next : ℕ) : Type 0 where
  pub here : h ≡ height_of (get_or s q 0)
  pub left : n + i ≤ q
  pub same : partner_from s h i n next ≡ partner_from s h q 0 q

module _ {s : List ℕ} {q h i n next : ℕ} (c : Searching s q h i n next) where
  found_now : {r : Option Part} → partner_from s h i n next ≡ r → r ≡ partner_from s (height_of (get_or s q 0)) q 0 q
  found_now z = sym z ∙ c.same ∙ ap (λ x. partner_from s x q 0 q) c.here

  pub search_end : i ≤ 0 → None ≡ partner_from s (height_of (get_or s q 0)) q 0 q
  unfolding partner_from
  search_end l = let z : i ≡ 0 = omega arith in found_now (ap (λ x. partner_from s h x n next) z)

  -- A turn, at the letter before.
  module _ (l : 0 < i) where
    before_i : {r : Option Part} → partner_from s h (suc (i - 1)) n next ≡ r → partner_from s h i n next ≡ r
    before_i z = ap (λ x. partner_from s h x n next) (omega arith) ∙ z

    pub search_outside : height_of (get_or s (i - 1) 0) < h → None ≡ partner_from s (height_of (get_or s q 0)) q 0 q
    search_outside g = found_now (before_i (less_high s h (i - 1) n next g))

    pub search_inside : h < height_of (get_or s (i - 1) 0) → Searching s q h (i - 1) n next
    search_inside g = record { here = c.here; left = omega (arith, c.left); same = sym (before_i (higher s h (i - 1) n next g)) ∙ c.same }

    module _ (e : height_of (get_or s (i - 1) 0) ≡ h) where
      pub search_abstractor : (symbol_of (get_or s (i - 1) 0) ≡ applicator → ⊥) → Searching s q h (i - 1) (n + 1) (i - 1)
      search_abstractor z = record { here = c.here; left = omega (arith, c.left); same = ap (λ x. partner_from s h (i - 1) x (i - 1)) (add-one n) ∙ sym (before_i (at_abstractor s h (i - 1) n next e z)) ∙ c.same }

      module _ (a : symbol_of (get_or s (i - 1) 0) ≡ applicator) where
        pub search_partner : n ≡ 0 → Some (record { start = i - 1 + 1; end = next }) ≡ partner_from s (height_of (get_or s q 0)) q 0 q
        search_partner z = found_now (before_i (at_partner_lem s h (i - 1) n next e a z) ∙ ap (λ x. Some (record { start = x; end = next })) (sym (add-one (i - 1))))

        pub search_applicator : (n ≡ 0 → ⊥) → Searching s q h (i - 1) (n - 1) (i - 1)
        search_applicator z = record { here = c.here; left = omega (arith, c.left); same = sym (before_i (at_applicator s h (i - 1) n next e a z)) ∙ c.same }
