-- Sums, and strings counted by their first byte.
-- Assumes nothing.
use Prim.Native.Nat.{ℕ, zero, suc, ◌+◌, ◌*◌, ◌^◌, ◌≤◌, ◌<◌}
use mathlib.Core.Path.{◌≡◌, refl, ap, ap₂, sym, ◌∙◌}
use mathlib.Core.Bool.{Bool, true, false, cond}
use mathlib.Core.List.{List, [], ◌∷◌, ◌++◌, map, flat_map, head-eq_of_cons-eq, tail-eq_of_cons-eq}
use native.Mathlib.Nat.{zero-mul, suc-mul, mul-zero, mul-add, pow-succ'}
use native.Mathlib.Omega.{arith}
use lib.Dec.{eqb}
use lib.ListN.{length}
use borrow.Author.Tests.{eqb-true, eqb-false}
use Rattle.code.specs.Code.{Bytes}
use Rattle.code.proofs.RoundTrip.{bytes_cons}
use Rattle.counting.specs.Counts.{below, strings, count}

-- ---- f 0 + f 1 + .. + f (n - 1).
unfoldable pub sum_below : ℕ → (ℕ → ℕ) → ℕ
sum_below zero f = 0
sum_below (suc n) f = f n + sum_below n f

pub sum_ext : (n : ℕ) {f g : ℕ → ℕ} → ((i : ℕ) → i < n → f i ≡ g i) → sum_below n f ≡ sum_below n g
unfolding sum_below
sum_ext zero h = refl
sum_ext (suc n) h = ap₂ ◌+◌ (h n (omega arith)) (sum_ext n (λ i l. h i (omega arith)))

pub sum_none : (n : ℕ) {f : ℕ → ℕ} → ((i : ℕ) → i < n → f i ≡ 0) → sum_below n f ≡ 0
unfolding sum_below
sum_none zero h = refl
sum_none (suc n) h = omega (arith, h n (omega arith), sum_none n (λ i l. h i (omega arith)))

sum_same : (n c : ℕ) → sum_below n (λ i. c) ≡ n * c
unfolding sum_below
sum_same zero c = sym (zero-mul c)
sum_same (suc n) c = omega (arith, sum_same n c, suc-mul n c)

pub sum_add : (n : ℕ) (f g : ℕ → ℕ) → sum_below n (λ i. f i + g i) ≡ sum_below n f + sum_below n g
unfolding sum_below
sum_add zero f g = refl
sum_add (suc n) f g = omega (arith, sum_add n f g)

pub sum_times : (n c : ℕ) (f : ℕ → ℕ) → sum_below n (λ i. c * f i) ≡ c * sum_below n f
unfolding sum_below
sum_times zero c f = sym (mul-zero c)
sum_times (suc n) c f = omega (arith, sum_times n c f, mul-add c (f n) (sum_below n f))

pub sum_first : (n : ℕ) (f : ℕ → ℕ) → sum_below (suc n) f ≡ f 0 + sum_below n (λ i. f (suc i))
unfolding sum_below
sum_first zero f = refl
sum_first (suc n) f = omega (arith, sum_first n f)

pub sum_last_two : (n : ℕ) (f : ℕ → ℕ) → sum_below (suc (suc n)) f ≡ f (suc n) + (f n + sum_below n f)
unfolding sum_below
sum_last_two n f = refl

sum_one : (n a : ℕ) {f : ℕ → ℕ} → a < n → f a ≡ 1 → ((i : ℕ) → (i ≡ a → ⊥) → f i ≡ 0) → sum_below n f ≡ 1
unfolding sum_below
sum_one zero a l e h = absurd (omega arith)
sum_one (suc n) a {f} l e h = go (eqb n a) refl (λ m. sum_one n a {f = f} m e h)
  where
    go : (x : Bool) → eqb n a ≡ x → (a < n → sum_below n f ≡ 1) → f n + sum_below n f ≡ 1
    go true q k = let z = eqb-true n a q in omega (arith, ap f z, e, sum_none n {f = f} (λ i m. h i (λ y. omega arith)))
    go false q k = let z = eqb-false n a q in omega (arith, h n z, k (omega arith))

-- ---- Counting.
pub not-true : (x : Bool) → (x ≡ true → ⊥) → x ≡ false
not-true true n = absurd (n refl)
not-true false n = refl

bit_le : (b : Bool) → cond b 1 0 ≤ 1
bit_le true = omega arith
bit_le false = omega arith

module _ (p : List ℕ → Bool) where
  count_append : (ss ts : List (List ℕ)) → count p (ss ++ ts) ≡ count p ss + count p ts
  unfolding count
  count_append [] ts = omega arith
  count_append (s ∷ ss) ts = omega (arith, count_append ss ts)

  count_map : (f : List ℕ → List ℕ) (ss : List (List ℕ)) → count p (map f ss) ≡ count (λ s. p (f s)) ss
  unfolding count
  count_map f [] = refl
  count_map f (s ∷ ss) = ap (λ (n : ℕ). cond (p (f s)) 1 0 + n) (count_map f ss)

  count_each : (m : ℕ) (ss : List (List ℕ)) → count p (flat_map (λ b. map (λ s. b ∷ s) ss) (below m)) ≡ sum_below m (λ b. count (λ s. p (b ∷ s)) ss)
  unfolding count flat_map below sum_below
  count_each zero ss = refl
  count_each (suc m) ss = count_append (map (λ s. m ∷ s) ss) (flat_map (λ b. map (λ s. b ∷ s) ss) (below m)) ∙ ap₂ ◌+◌ (count_map (λ s. m ∷ s) ss) (count_each m ss)

  pub count_le : (ss : List (List ℕ)) → count p ss ≤ length ss
  unfolding count
  count_le [] = omega arith
  count_le (s ∷ ss) = omega (arith, bit_le (p s), count_le ss)

  -- By the first byte.
  pub count_suc : (n : ℕ) → count p (strings (suc n)) ≡ sum_below 256 (λ b. count (λ s. p (b ∷ s)) (strings n))
  unfolding strings
  count_suc n = count_each 256 (strings n)

pub count_none : (ss : List (List ℕ)) → count (λ s. false) ss ≡ 0
unfolding count
count_none [] = refl
count_none (s ∷ ss) = omega (arith, count_none ss)

pub count_ext : (n : ℕ) (p q : List ℕ → Bool) → ((s : List ℕ) → Bytes s → length s ≡ n → p s ≡ q s) → count p (strings n) ≡ count q (strings n)
unfolding count strings
count_ext zero p q h = ap (λ (b : Bool). cond b 1 0 + 0) (h [] (λ i. omega arith) refl)
count_ext (suc n) p q h =
    count_suc p n
    ∙ sum_ext 256 (λ b l. count_ext n (λ s. p (b ∷ s)) (λ s. q (b ∷ s)) (λ s w e. h (b ∷ s) (bytes_cons s l w) (ap suc e)))
    ∙ sym (count_suc q n)

-- What passes r passes either p or q.
pub count_split : (n : ℕ) (p q r : List ℕ → Bool) → ((s : List ℕ) → Bytes s → length s ≡ n → cond (p s) 1 0 + cond (q s) 1 0 ≡ cond (r s) 1 0) → count p (strings n) + count q (strings n) ≡ count r (strings n)
unfolding count strings
count_split zero p q r h = omega (arith, h [] (λ i. omega arith) refl)
count_split (suc n) p q r h =
    ap₂ ◌+◌ (count_suc p n) (count_suc q n)
    ∙ sym (sum_add 256 (λ b. count (λ s. p (b ∷ s)) (strings n)) (λ b. count (λ s. q (b ∷ s)) (strings n)))
    ∙ sum_ext 256 (λ b l. count_split n (λ s. p (b ∷ s)) (λ s. q (b ∷ s)) (λ s. r (b ∷ s)) (λ s w e. h (b ∷ s) (bytes_cons s l w) (ap suc e)))
    ∙ sym (count_suc r n)

pub count_no_others : (n : ℕ) (p : List ℕ → Bool) → ((s : List ℕ) → Bytes s → length s ≡ n → p s ≡ false) → count p (strings n) ≡ 0
count_no_others n p h = count_ext n p (λ s. false) h ∙ count_none (strings n)

pub count_once : (s : List ℕ) (p : List ℕ → Bool) → Bytes s → p s ≡ true → ((t : List ℕ) → p t ≡ true → t ≡ s) → count p (strings (length s)) ≡ 1
unfolding count strings
count_once [] p w e h = rw e
count_once (a ∷ s) p w e h =
    let here = count_once s (λ t. p (a ∷ t)) (λ i. w (suc i)) e (λ t q. tail-eq_of_cons-eq (h (a ∷ t) q)) in
    let elsewhere : (b : ℕ) → (b ≡ a → ⊥) → count (λ t. p (b ∷ t)) (strings (length s)) ≡ 0 =
    λ b n. count_no_others (length s) (λ t. p (b ∷ t)) (λ t v m. not-true (p (b ∷ t)) (λ q. n (head-eq_of_cons-eq (h (b ∷ t) q)))) in
    count_suc p (length s) ∙ sum_one 256 a (w 0) here elsewhere

count_all : (ss : List (List ℕ)) → count (λ s. true) ss ≡ length ss
unfolding count
count_all [] = refl
count_all (s ∷ ss) = omega (arith, count_all ss)

pub all_strings : (n : ℕ) → count (λ s. true) (strings n) ≡ 256 ^ n
unfolding count strings
all_strings zero = refl
all_strings (suc n) = count_suc (λ s. true) n ∙ sum_same 256 (count (λ s. true) (strings n)) ∙ ap (λ (k : ℕ). 256 * k) (all_strings n) ∙ sym (pow-succ' 256 n)

pub length_strings : (n : ℕ) → length (strings n) ≡ 256 ^ n
length_strings n = sym (count_all (strings n)) ∙ all_strings n
