-- The recurrence: how many strings are one term, over the ways to split them.
-- Assumes nothing.
use Prim.Native.Nat.{ℕ, zero, suc, ◌+◌, ◌-◌, ◌*◌, ◌^◌, ◌≤◌, ◌<◌, min}
use mathlib.Core.Path.{◌≡◌, refl, ap, ap₂, sym, ◌∙◌}
use mathlib.Core.Bool.{Bool, true, false, cond}
use mathlib.Core.List.{List, [], ◌∷◌, ◌++◌}
use native.Mathlib.Nat.{zero-mul, one-mul, mul-zero, suc-mul, mul-add, add-mul, mul_assoc, suc-sub-suc, sub-zero, sub_self, min-zero, zero-add, mul-one, mul-le-mul, mul_left_comm, pow-le-pow_right}
use native.Mathlib.Numerals.{add-one}
use native.Mathlib.Omega.{arith}
use lib.Dec.{leb, leb-zero}
use lib.Pow.{pow-add}
use borrow.Author.Tests.{leb-true, leb-false}
use Rattle.code.specs.Code.{Symbol, symbol, symbol_tau, symbol_var, symbol_app, symbol_abs}
use Rattle.code.proofs.RoundTrip.{symbol_index}
use Rattle.counting.specs.Counts.{strings, count}
use Rattle.counting.specs.Clauses.{holds_after, holds, holding, terms_in, terminals_in}
use Rattle.counting.proofs.Sums.{sum_below, sum_ext, sum_none, sum_add, sum_times, sum_first, sum_last_two, count_suc, count_ext, count_none, count_le, length_strings}

-- ---- No byte, or one more.
pub none_in_none : holding 0 [] ≡ 1
unfolding holding holds count strings
none_in_none = refl

pub some_in_none : (d : ℕ) (ds : List ℕ) → holding 0 (d ∷ ds) ≡ 0
unfolding holding holds count strings
some_in_none d ds = refl

after_none : (x : Symbol) (b : ℕ) (rest : List ℕ → Bool) → holds_after x b [] rest ≡ false
unfolding holds_after
after_none symbol_tau b rest = refl
after_none symbol_var b rest = refl
after_none symbol_app b rest = refl
after_none symbol_abs b rest = refl

pub none_in_some : (n : ℕ) → holding (suc n) [] ≡ 0
unfolding holding holds
none_in_some n =
    count_suc (λ s. holds s []) n
    ∙ sum_none 256 (λ b l. count_ext n (λ s. holds (b ∷ s) []) (λ s. false) (λ s w e. after_none (symbol b) b (holds s)) ∙ count_none (strings n))

module _ (n d : ℕ) (ds : List ℕ) where
  -- The strings that begin with a byte.
  abbrev first : ℕ → ℕ
  first b = count (λ s. holds_after (symbol b) b (d ∷ ds) (holds s)) (strings n)

  first_abs : first 0xff ≡ holding n (d ∷ suc d ∷ ds)
  unfolding holding holds_after symbol
  first_abs = refl

  first_app : first 0xfe ≡ holding n (d ∷ d ∷ ds)
  unfolding holding holds_after symbol
  first_app = refl

  tested : (x : Bool) → count (λ s. cond x (holds s ds) false) (strings n) ≡ cond x (holding n ds) 0
  unfolding holding
  tested true = refl
  tested false = count_none (strings n)

  first_terminal : (b : ℕ) → b < 254 → first b ≡ cond (leb b d) (holding n ds) 0
  unfolding holding holds_after symbol
  first_terminal zero l = rw (leb-zero d)
  first_terminal (suc b) l = rw (symbol_index {k = suc b} (omega arith) (omega arith)) (tested (leb (suc b) d))

  add_terminal : (b : ℕ) (x : Bool) → leb b d ≡ x → cond x (holding n ds) 0 + min (suc d) b * holding n ds ≡ min (suc d) (suc b) * holding n ds
  add_terminal b true e =
      let l = leb-true b d e in
      let m : min (suc d) (suc b) ≡ suc (min (suc d) b) = omega arith in
      omega (arith, ap (λ (k : ℕ). k * holding n ds) m, suc-mul (min (suc d) b) (holding n ds))
  add_terminal b false e =
      let l = leb-false b d e in
      let m : min (suc d) (suc b) ≡ min (suc d) b = omega arith in
      omega (arith, ap (λ (k : ℕ). k * holding n ds) m)

  terminals : (m : ℕ) → m ≤ 254 → sum_below m first ≡ min (suc d) m * holding n ds
  unfolding sum_below
  terminals zero l = sym (ap (λ (k : ℕ). k * holding n ds) (min-zero (suc d)) ∙ zero-mul (holding n ds))
  terminals (suc b) l = ap₂ ◌+◌ (first_terminal b (omega arith)) (terminals b (omega arith)) ∙ add_terminal b (leb b d) refl

  pub one_more : holding (suc n) (d ∷ ds) ≡ terminals_in d * holding n ds + (holding n (d ∷ d ∷ ds) + holding n (d ∷ suc d ∷ ds))
  unfolding holding holds
  one_more =
      count_suc (λ s. holds s (d ∷ ds)) n
      ∙ sum_last_two 254 first
      ∙ omega (arith, first_abs, first_app, terminals 254 (omega arith))

-- ---- Terms one after the other: over the length of the first ones.
each_product : (t a b c g : ℕ) → (t * a + (b + c)) * g ≡ t * (a * g) + (b * g + c * g)
each_product t a b c g = omega (arith, add-mul (t * a) (b + c) g, add-mul b c g, mul_assoc t a g)

joined : (n : ℕ) (ds es : List ℕ) → holding n (ds ++ es) ≡ sum_below (suc n) (λ i. holding i ds * holding (n - i) es)
unfolding sum_below
joined zero [] es = sym (omega (arith, ap (λ (k : ℕ). k * holding 0 es) none_in_none, one-mul (holding 0 es)))
joined zero (d ∷ ds) es = some_in_none d (ds ++ es) ∙ sym (omega (arith, ap (λ (k : ℕ). k * holding 0 es) (some_in_none d ds), zero-mul (holding 0 es)))
joined (suc n) [] es =
    let z = sum_none (suc n) {f = λ i. holding (suc i) [] * holding (suc n - suc i) es} (λ i l. ap (λ (k : ℕ). k * holding (suc n - suc i) es) (none_in_some i) ∙ zero-mul (holding (suc n - suc i) es)) in
    sym
    (sum_first (suc n) (λ i. holding i [] * holding (suc n - i) es)
    ∙ omega (arith, z, ap (λ (k : ℕ). k * holding (suc n - 0) es) none_in_none, one-mul (holding (suc n - 0) es), ap (λ (k : ℕ). holding k es) (sub-zero (suc n))))
joined (suc n) (d ∷ ds) es =
    let t = terminals_in d in
    let g : ℕ → ℕ = λ i. holding (n - i) es in
    let a : ℕ → ℕ = λ i. holding i ds * g i in
    let b : ℕ → ℕ = λ i. holding i (d ∷ d ∷ ds) * g i in
    let c : ℕ → ℕ = λ i. holding i (d ∷ suc d ∷ ds) * g i in
    let each : (i : ℕ) → i < suc n → holding (suc i) (d ∷ ds) * holding (suc n - suc i) es ≡ t * a i + (b i + c i) =
    λ i l.
    ap₂ (λ (x y : ℕ). x * holding y es) (one_more i d ds) (suc-sub-suc n i)
    ∙ each_product t (holding i ds) (holding i (d ∷ d ∷ ds)) (holding i (d ∷ suc d ∷ ds)) (g i) in
    one_more n d (ds ++ es)
    ∙ ap₂ ◌+◌ (ap (λ (k : ℕ). t * k) (joined n ds es)) (ap₂ ◌+◌ (joined n (d ∷ d ∷ ds) es) (joined n (d ∷ suc d ∷ ds) es))
    ∙ sym
    (sum_first (suc n) (λ i. holding i (d ∷ ds) * holding (suc n - i) es)
    ∙ ap₂ ◌+◌ (ap (λ (k : ℕ). k * holding (suc n - 0) es) (some_in_none d ds) ∙ zero-mul (holding (suc n - 0) es)) (sum_ext (suc n) each)
    ∙ zero-add (sum_below (suc n) (λ i. t * a i + (b i + c i)))
    ∙ sum_add (suc n) (λ i. t * a i) (λ i. b i + c i)
    ∙ ap₂ ◌+◌ (sum_times (suc n) t a) (sum_add (suc n) b c))

-- ---- One term.
-- The terms whose first part has fewer than k bytes, where the parts have `rest` in all.
unfoldable pub splits : ℕ → ℕ → ℕ → ℕ
splits d rest k = sum_below k (λ i. terms_in i d * (terms_in (rest - i) d + terms_in (rest - i) (suc d)))

pub no_term : (d : ℕ) → terms_in 0 d ≡ 0
no_term d = some_in_none d []

pub one_terminal : (d : ℕ) → terms_in 1 d ≡ terminals_in d
one_terminal d = omega (arith, one_more 0 d [], some_in_none d (d ∷ []), some_in_none d (suc d ∷ []), ap (λ (k : ℕ). terminals_in d * k) none_in_none, mul-one (terminals_in d))

pub splits_start : (d rest : ℕ) → splits d rest 1 ≡ 0
unfolding splits sum_below
splits_start d rest = omega (arith, ap (λ (k : ℕ). k * (terms_in (rest - 0) d + terms_in (rest - 0) (suc d))) (no_term d), zero-mul (terms_in (rest - 0) d + terms_in (rest - 0) (suc d)))

splits_next : (d rest k : ℕ) → splits d rest (suc k) ≡ terms_in k d * (terms_in (rest - k) d + terms_in (rest - k) (suc d)) + splits d rest k
unfolding splits sum_below
splits_next d rest k = refl

splits_last : (d rest : ℕ) → splits d rest (suc rest) ≡ splits d rest rest
splits_last d rest =
    splits_next d rest rest
    ∙ omega (arith, ap (λ (k : ℕ). terms_in rest d * (terms_in k d + terms_in k (suc d))) (sub_self rest), ap₂ (λ (x y : ℕ). terms_in rest d * (x + y)) (no_term d) (no_term (suc d)), mul-zero (terms_in rest d))

splits_end : (d rest : ℕ) → terms_in (suc (suc rest)) d ≡ splits d (suc rest) (suc rest)
unfolding splits
splits_end d rest =
    let n = suc rest in
    let f : ℕ → ℕ = λ i. terms_in i d * terms_in (n - i) d in
    let g : ℕ → ℕ = λ i. terms_in i d * terms_in (n - i) (suc d) in
    let e : terminals_in d * holding n [] ≡ 0 = ap (λ (k : ℕ). terminals_in d * k) (none_in_some rest) ∙ mul-zero (terminals_in d) in
    one_more n d []
    ∙ ap₂ ◌+◌ e (ap₂ ◌+◌ (joined n (d ∷ []) (d ∷ [])) (joined n (d ∷ []) (suc d ∷ [])))
    ∙ zero-add (sum_below (suc n) f + sum_below (suc n) g)
    ∙ sym (sum_add (suc n) f g)
    ∙ sum_ext (suc n) (λ i l. sym (mul-add (terms_in i d) (terms_in (n - i) d) (terms_in (n - i) (suc d))))
    ∙ splits_last d n

-- ---- Within 64 bits.
terms_le : (n d : ℕ) → terms_in n d ≤ 256 ^ n
unfolding holding
terms_le n d = omega (arith, count_le (λ s. holds s (d ∷ [])) (strings n), length_strings n)

-- 256 to the power 6.
pub terms_small : {n : ℕ} (d : ℕ) → n ≤ 6 → terms_in n d ≤ 281474976710656
terms_small {n} d l = omega (arith, terms_le n d, pow-le-pow_right {n = 256} (omega arith) l)

product_small : (d i j : ℕ) → i + j ≤ 6 → terms_in i d * (terms_in j d + terms_in j (suc d)) ≤ 562949953421312
product_small d i j l =
    let a : terms_in j d + terms_in j (suc d) ≤ 2 * 256 ^ j = omega (arith, terms_le j d, terms_le j (suc d)) in
    let b = mul-le-mul (terms_le i d) a in
    omega (arith, b, mul_left_comm (256 ^ i) 2 (256 ^ j), pow-add 256 i j, pow-le-pow_right {n = 256} (omega arith) l)

pub splits_small : (d rest k : ℕ) → k ≤ rest → rest ≤ 6 → splits d rest k ≤ k * 562949953421312
unfolding splits sum_below
splits_small d rest zero l m = omega arith
splits_small d rest (suc k) l m =
    omega (arith, product_small d k (rest - k) (omega arith), splits_small d rest k (omega arith) m)

-- ---- A turn of the code's loop.
module _ (d rest i : ℕ) {x y z : ℕ} (p : x ≡ terms_in i d) (q : y ≡ terms_in (rest - i) d) (r : z ≡ terms_in (rest - i) (d + 1)) where
  product_is : x * (y + z) ≡ terms_in i d * (terms_in (rest - i) d + terms_in (rest - i) (suc d))
  product_is = ap₂ ◌*◌ p (ap₂ ◌+◌ q (r ∙ ap (terms_in (rest - i)) (add-one d)))

  pub turn_small : i < rest → rest ≤ 6 → x * (y + z) ≤ 562949953421312
  turn_small l m = omega (arith, product_is, product_small d i (rest - i) (omega arith))

  pub turn_next : {sum : ℕ} → sum ≡ splits d rest i → sum + x * (y + z) ≡ splits d rest (i + 1)
  turn_next e = omega (arith, e, product_is, splits_next d rest i, ap (splits d rest) (add-one i))

pub splits_whole : (d : ℕ) {n i sum : ℕ} → sum ≡ splits d (n - 1) i → i ≡ n - 1 → 2 ≤ n → sum ≡ terms_in n d
splits_whole d {n = zero} e l h = absurd (omega arith)
splits_whole d {n = suc zero} e l h = absurd (omega arith)
splits_whole d {n = suc (suc n)} {i} e l h = e ∙ ap₂ (splits d) (omega arith) (l ∙ omega arith) ∙ sym (splits_end d n)
