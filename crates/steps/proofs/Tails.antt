-- Tails of terms: what stands behind some applicators and abstractors, the letters of those, and the loop along them.
-- Assumes nothing.
use Prim.Native.Nat.{ℕ, suc, ◌+◌, ◌-◌, ◌≤◌, ◌<◌, max}
use mathlib.Core.Path.{◌≡◌, refl, ap, ap₂, sym, subst, ◌∙◌}
use mathlib.Core.Logic.{◌⊎◌, inl, inr}
use mathlib.Core.List.{List, ◌∷◌, ◌++◌, append_assoc}
use native.Mathlib.Omega.{arith}
use native.Mathlib.Nat.{add-zero, add-suc}
use native.Mathlib.Numerals.{add-one}
use lib.ListN.{length, get_or, take, length-append}
use lib.Seq.{take_at}
use Rattle.std.specs.Prelude.{None, Some}
use Rattle.calculus.specs.Terms.{Term, tau, var, app, abs, size, lift}
use Rattle.calculus.specs.Steps.{no_partner, couples, Outcome, refused, map_outcome, if_far, at_partner}
use Rattle.calculus.proofs.Lift.{lift_zero, lift_suc}
use Rattle.calculus.proofs.Matching.{map_none, map_map}
use Rattle.code.specs.Limits.{longest_term}
use Rattle.code.specs.Code.{Coded}
use Rattle.code.specs.Scope.{scope}
use Rattle.parts.specs.Parts.{part}
use Rattle.letters.specs.Letters.{letter, letters, applicator, abstractor, symbol_of, Lies}
use Rattle.letters.proofs.Letters.{first, first_small, length_letters, symbol_letter, head_of, lies_end}
use Rattle.bodies.specs.Moving.{Ending}
use Rattle.bodies.proofs.Extents.{Parts, app_parts, abs_parts, above}
use Rattle.bodies.proofs.Endings.{ending_is}
use Rattle.bodies.proofs.Splitting.{head_height}
use Rattle.bodies.proofs.Meaning.{index_small}
use Rattle.steps.specs.Couples.{Tail, at_start, past_applicator, past_abstractor, instead, passed, TailLies, SomeTail, PartnerIs, nobody, somebody, Partnered}

-- ---- The search for a partner goes on behind the wagons.
pub partner_along : {C D : Term} {q n j : ℕ} (f : Term → Term → Outcome) (K : Term) (w : Tail C q n j D) → at_partner couples f K C 0 ≡ map_outcome (instead w) (at_partner couples f (lift j 0 K) D n)
unfolding instead at_partner if_far
partner_along {C} f K at_start = rw (lift_zero 0 K) (sym (map_none (at_partner couples f K C 0)))
partner_along f K (past_applicator {L = L} {B = B} {n = n} {j = j} w) = partner_along f K w ∙ map_map (instead w) (app L) (at_partner couples f (lift j 0 K) B (suc n))
partner_along f K (past_abstractor {U = U} {B = B} {n = n} {j = j} w) =
    partner_along f K w ∙ map_map (instead w) (abs U) (at_partner couples f (lift 1 0 (lift j 0 K)) B n) ∙ ap (λ L. map_outcome (λ X. instead w (abs U X)) (at_partner couples f L B n)) (sym (lift_suc j K))

-- ---- Sizes, scopes and letters.
tail_count : {C D : Term} {q n j : ℕ} → Tail C q n j D → n ≤ q
tail_count at_start = omega arith
tail_count (past_applicator w) = omega (arith, tail_count w)
tail_count (past_abstractor w) = omega (arith, tail_count w)

pub tail_scope : {C D : Term} {q n j : ℕ} → Tail C q n j D → j + scope D ≤ scope C
unfolding scope
tail_scope at_start = omega arith
tail_scope (past_applicator w) = omega (arith, tail_scope w)
tail_scope (past_abstractor w) = omega (arith, tail_scope w)

pub instead_size : {C D : Term} {q n j : ℕ} (w : Tail C q n j D) (X : Term) → size (instead w X) + size D ≡ size C + size X
unfolding instead size
instead_size at_start X = omega arith
instead_size (past_applicator {L = L} w) X = omega (arith, instead_size w (app L X))
instead_size (past_abstractor {U = U} w) X = omega (arith, instead_size w (abs U X))

pub instead_scope : {C D : Term} {q n j : ℕ} (w : Tail C q n j D) (X : Term) → (j + scope X ≤ scope (instead w X)) × (scope (instead w X) ≤ max (scope C) (j + scope X))
unfolding instead scope
instead_scope at_start X = (omega arith, omega arith)
instead_scope (past_applicator {L = L} w) X = let r = instead_scope w (app L X) in let s = tail_scope w in (omega arith, omega arith)
instead_scope (past_abstractor {U = U} w) X = let r = instead_scope w (abs U X) in let s = tail_scope w in (omega arith, omega arith)

instead_same : {C D : Term} {q n j : ℕ} (w : Tail C q n j D) → instead w D ≡ C
unfolding instead
instead_same at_start = refl
instead_same (past_applicator w) = instead_same w
instead_same (past_abstractor w) = instead_same w

pub instead_letters : {C D : Term} {q n j : ℕ} (d h : ℕ) (w : Tail C q n j D) (X : Term) → letters d h (instead w X) ≡ passed d h w ++ letters (d + j) h X
unfolding instead passed letters
instead_letters d h at_start X = rw (add-zero d)
instead_letters d h (past_applicator {L = L} {j = j} w) X =
    instead_letters d h w (app L X) ∙ sym (append_assoc (passed d h w) (letter applicator (d + j) h ∷ letters (d + j) (suc h) L) (letters (d + j) h X))
instead_letters d h (past_abstractor {U = U} {j = j} w) X =
    instead_letters d h w (abs U X) ∙ sym (append_assoc (passed d h w) (letter abstractor (d + j) h ∷ letters (d + j) (suc h) U) (letters (suc (d + j)) h X))
    ∙ ap (λ e. (passed d h w ++ (letter abstractor (d + j) h ∷ letters (d + j) (suc h) U)) ++ letters e h X) (sym (add-suc d j))

passed_length : {C D : Term} {q n j : ℕ} (d h : ℕ) (w : Tail C q n j D) → length (passed d h w) ≡ q
unfolding passed
passed_length d h at_start = refl
passed_length d h (past_applicator {L = L} {j = j} w) = simp length-append (ap₂ ◌+◌ (passed_length d h w) (ap suc (length_letters (d + j) (suc h) L)))
passed_length d h (past_abstractor {U = U} {j = j} w) = simp length-append (ap₂ ◌+◌ (passed_length d h w) (ap suc (length_letters (d + j) (suc h) U)))

pub passed_lie : {s : List ℕ} {m e d h q n j : ℕ} {C D : Term} → Lies s m e d h C → (w : Tail C q n j D) → passed d h w ≡ part s m (m + q)
passed_lie {s} {m} {e} {d} {h} {q} {n} {j} {C} {D} l w =
    let count : length (passed d h w) ≡ m + q - m = passed_length d h w ∙ omega arith in
    sym (ap (take (m + q - m)) (l.letters_there ∙ ap (λ X. letters d h X ++ l.rest) (sym (instead_same w)) ∙ ap (◌++ l.rest) (instead_letters d h w D) ∙ append_assoc (passed d h w) (letters (d + j) h D) l.rest)
    ∙ take_at (passed d h w) (letters (d + j) h D ++ l.rest) (m + q - m) count)

-- ---- What stands behind them lies there.
pub tail_lies : {s : List ℕ} {m e d h q n j : ℕ} {C D : Term} → Lies s m e d h C → (w : Tail C q n j D) → Lies s (m + q) e (d + j) h D
tail_lies {s} {m} {e} {d} {h} {C = C} l at_start = rw (add-zero m, add-zero d) l
tail_lies {s} {m} {e} {d} {h} l (past_applicator {B = B} {q = q} {j = j} w) = let P = app_parts (tail_lies l w) in
    subst (λ a. Lies s a e (d + j) h B) (omega (arith, P.inner.place)) P.rest
tail_lies {s} {m} {e} {d} {h} l (past_abstractor {B = B} {q = q} {j = j} w) = let P = abs_parts (tail_lies l w) in
    subst (λ a. Lies s a e (d + suc j) h B) (omega (arith, P.inner.place)) (subst (λ b. Lies s P.middle e b h B) (sym (add-suc d j)) P.rest)

-- The end of a wagon.
pub item_end : {s : List ℕ} {n q e d h d_b x r : ℕ} {L B : Term} (P : Parts s q e d h d_b x L B) → d + scope L < 1024 → d_b < 1024 → e ≤ n → Ending s n (q + 1) (h + 1) r → r ≡ P.middle
item_end {L = L} P a b i o = ending_is o (record {
  after = omega (arith, lies_end P.inner);
  inside = omega (arith, lies_end P.rest);
  high = λ j u v. let r = (above L a P.inner j (omega arith) v).high in omega arith;
  low = λ l. omega (arith, head_height b P.rest);
})

-- ---- A wagon, by its symbol.
symbol_there : {s : List ℕ} {q e d h : ℕ} {D : Term} → Lies s q e d h D → symbol_of (get_or s q 0) ≡ first D
symbol_there {d = d} {h} {D} l = rw (head_of l) (symbol_letter (first D) d h (first_small l.coded))

pub application_is : (u : Term) → Coded u → first u ≡ applicator → (K : Term) × (B : Term) × (u ≡ app K B)
unfolding first
application_is tau c e = absurd (omega arith)
application_is (var k) c e = absurd (omega (arith, index_small c))
application_is (app K B) c e = (K, B, refl)
application_is (abs U B) c e = absurd (omega arith)

abstraction_is : (u : Term) → Coded u → applicator < first u → (U : Term) × (B : Term) × (u ≡ abs U B)
unfolding first
abstraction_is tau c e = absurd (omega arith)
abstraction_is (var k) c e = absurd (omega (arith, index_small c))
abstraction_is (app K B) c e = absurd (omega arith)
abstraction_is (abs U B) c e = (U, B, refl)

no_item : (f : Term → Term → Outcome) (K u : Term) (n : ℕ) → first u < applicator → at_partner couples f K u n ≡ refused no_partner
unfolding first at_partner
no_item f K tau n l = refl
no_item f K (var k) n l = refl
no_item f K (app L B) n l = absurd (omega arith)
no_item f K (abs U B) n l = absurd (omega arith)

-- ---- The loop: at q stands a part of the train, where so many applicators are not yet matched.
pub record Along (m : ℕ) (C : Term) (q unmatched : ℕ) : Type 0 where
  pub place : ℕ
  pub j : ℕ
  pub D : Term
  pub q_is : q ≡ m + place
  pub tail : Tail C place unmatched j D

pub record Passing (s : List ℕ) (n m h q unmatched : ℕ) : Type 0 where
  pub all : (e c : ℕ) (C : Term) → TailLies s n m h e c C → Along m C q unmatched

pub passing_start : {s : List ℕ} {n m h : ℕ} → Passing s n m h m 0
passing_start {m = m} = record { all = λ e c C t. record { place = 0; j = 0; D = C; q_is = sym (add-zero m); tail = at_start } }

module _ {s : List ℕ} {n m h q e c : ℕ} {C : Term} (t : TailLies s n m h e c C) where
  rest_lies : {p u j : ℕ} {D : Term} → q ≡ m + p → Tail C p u j D → Lies s q e (c + j) h D
  rest_lies {j = j} {D} f v = subst (λ x. Lies s x e (c + j) h D) (sym f) (tail_lies t.lies v)

  module _ {r p u j : ℕ} {L B : Term} (f : q ≡ m + p) (i : Ending s n (q + 1) (h + 1) r) where
    advance_applicator : Tail C p u j (app L B) → Along m C r (suc u)
    unfolding scope
    advance_applicator v =
        let P = app_parts (rest_lies f v) in
        let k = item_end P (omega (arith, tail_scope v, t.few)) (omega (arith, tail_scope v, t.few)) t.inside i in
        record { place = p + suc (size L); j = j; D = B; q_is = omega (arith, k, P.inner.place); tail = past_applicator v }

    advance_abstractor : Tail C p (suc u) j (abs L B) → Along m C r u
    unfolding scope
    advance_abstractor v =
        let P = abs_parts (rest_lies f v) in
        let k = item_end P (omega (arith, tail_scope v, t.few)) (omega (arith, tail_scope v, t.few)) t.inside i in
        record { place = p + suc (size L); j = suc j; D = B; q_is = omega (arith, k, P.inner.place); tail = past_abstractor v }

module _ {s : List ℕ} {n m h q unmatched : ℕ} (g : SomeTail s n m h) (w : Passing s n m h q unmatched) where
  pub passing_bounds : (q < n) × (unmatched + m ≤ q) × (n ≤ longest_term) × (length s ≡ longest_term) × (h ≤ m)
  passing_bounds = let a = w.all g.e g.c g.C g.tail in
      (omega (arith, lies_end (rest_lies g.tail a.q_is a.tail), g.tail.inside), omega (arith, a.q_is, tail_count a.tail), g.most, g.array, g.low)

  module _ {x : ℕ} (i : x ≡ symbol_of (get_or s q 0)) where
    first_is : {e c : ℕ} {C : Term} (t : TailLies s n m h e c C) (a : Along m C q unmatched) → x ≡ first a.D
    first_is t a = i ∙ symbol_there (rest_lies t a.q_is a.tail)

    coded : {e c : ℕ} {C : Term} (t : TailLies s n m h e c C) (a : Along m C q unmatched) → Coded a.D
    coded t a = (rest_lies t a.q_is a.tail).coded

    pub passed_all : x < applicator → Partnered s n m h None
    unfolding map_outcome
    passed_all l = record {
      all = λ e c C t. let a = w.all e c C t in
          nobody (λ f K. partner_along f K a.tail ∙ ap (map_outcome (instead a.tail)) (no_item f (lift a.j 0 K) a.D unmatched (omega (arith, first_is t a))));
    }

    pass_applicator : {r : ℕ} → x ≡ applicator → Ending s n (q + 1) (h + 1) r → Passing s n m h r (unmatched + 1)
    pass_applicator {r} k o = record { all = λ e c C t. let a = w.all e c C t in go t a (application_is a.D (coded t a) (sym (first_is t a) ∙ k)) }
      where
        go : {e c : ℕ} {C : Term} (t : TailLies s n m h e c C) (a : Along m C q unmatched) → (L : Term) × (B : Term) × (a.D ≡ app L B) → Along m C r (unmatched + 1)
        go {C = C} t a (L, B, y) = subst (Along m C r) (sym (add-one unmatched)) (advance_applicator t a.q_is o (subst (Tail C a.place unmatched a.j) y a.tail))

    module _ (k : applicator ≤ x) (b : x ≡ applicator → ⊥) where
      abstraction : {e c : ℕ} {C : Term} (t : TailLies s n m h e c C) (a : Along m C q unmatched) → (U : Term) × (B : Term) × (a.D ≡ abs U B)
      abstraction t a = abstraction_is a.D (coded t a) (omega (arith, first_is t a))

      pub passed_partner : unmatched ≡ 0 → Partnered s n m h (Some q)
      passed_partner z = record { all = λ e c C t. let a = w.all e c C t in go a (abstraction t a) }
        where
          go : {C : Term} (a : Along m C q unmatched) → (U : Term) × (B : Term) × (a.D ≡ abs U B) → PartnerIs m C (Some q)
          go {C} a (U, B, y) = somebody a.q_is (subst (λ u. Tail C a.place u a.j (abs U B)) z (subst (Tail C a.place unmatched a.j) y a.tail))

      pass_abstractor : {r : ℕ} → (unmatched ≡ 0 → ⊥) → Ending s n (q + 1) (h + 1) r → Passing s n m h r (unmatched - 1)
      pass_abstractor {r} z o = record { all = λ e c C t. let a = w.all e c C t in go t a (abstraction t a) }
        where
          more : unmatched ≡ suc (unmatched - 1)
          more = omega arith

          go : {e c : ℕ} {C : Term} (t : TailLies s n m h e c C) (a : Along m C q unmatched) → (U : Term) × (B : Term) × (a.D ≡ abs U B) → Along m C r (unmatched - 1)
          go {C = C} t a (U, B, y) = advance_abstractor t a.q_is o (subst (λ u. Tail C a.place u a.j (abs U B)) more (subst (Tail C a.place unmatched a.j) y a.tail))

    -- a wagon, whichever it is
    pub pass_item : {r u : ℕ} → applicator ≤ x → ((x ≡ applicator) × (u ≡ unmatched + 1)) ⊎ ((x ≡ applicator → ⊥) × (unmatched ≡ 0 → ⊥) × (u ≡ unmatched - 1)) → Ending s n (q + 1) (h + 1) r → Passing s n m h r u
    pass_item {r} k (inl (y, z)) o = subst (Passing s n m h r) (sym z) (pass_applicator y o)
    pass_item {r} k (inr (y, v, z)) o = subst (Passing s n m h r) (sym z) (pass_abstractor k y v o)
