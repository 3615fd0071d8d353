-- Couples are what brackets match.
-- Assumes nothing.
use Prim.Native.Nat.{ℕ, zero, suc, ◌+◌}
use mathlib.Core.Path.{◌≡◌, refl, ap, ap₂, sym, subst, ◌∙◌}
use mathlib.Core.List.{List, [], ◌∷◌, ◌++◌, append_assoc, append-nil}
use native.Mathlib.Omega.{arith}
use native.Mathlib.Nat.{add-zero}
use Rattle.calculus.specs.Terms.{Term, tau, var, app, abs, lift, lift_all}
use Rattle.calculus.specs.Frames.{pair, Frame, ◌▹◌}
use Rattle.calculus.specs.Steps.{Kind, local, couples, reach_of, kind_in, Outcome, reached, refused, map_outcome, if_far, at_partner, entry_of, unmatched, step_at, step_of, step_by, step}
use Rattle.calculus.specs.Whole.{at}
use Rattle.calculus.specs.Couples.{Item, applicator, abstractor, items, binders, Matched, matched_none, matched_couple, past_all, frame_after, unmatched_after, lift_all_by, Couple, CoupleAfter, Coupling}
use Rattle.calculus.proofs.Lift.{lift_zero, lift_fusion}
use Rattle.calculus.proofs.Weaken.{refused_reached}
use Rattle.calculus.proofs.Whole.{map_reached, app_lo, abs_lo, app_behind, abs_behind}

-- TRAINS
items_append : (s r : List Item) (B : Term) → items (s ++ r) B ≡ items s (items r B)
unfolding items
items_append [] r B = refl
items_append (applicator K ∷ s) r B = ap (app K) (items_append s r B)
items_append (abstractor U ∷ s) r B = ap (abs U) (items_append s r B)

binders_append : (s r : List Item) → binders (s ++ r) ≡ binders s + binders r
unfolding binders
binders_append [] r = omega arith
binders_append (applicator K ∷ s) r = binders_append s r
binders_append (abstractor U ∷ s) r = omega (arith, binders_append s r)

pub map_none : (o : Outcome) → map_outcome (λ t. t) o ≡ o
unfolding map_outcome
map_none (reached t) = refl
map_none (refused r) = refl

lift_lift : (n m : ℕ) (t : Term) → lift n 0 (lift m 0 t) ≡ lift (m + n) 0 t
lift_lift n m t = lift_fusion n 0 m 0 t (omega arith) (omega arith)

pub map_map : (f g : Term → Term) (o : Outcome) → map_outcome f (map_outcome g o) ≡ map_outcome (λ t. f (g t)) o
unfolding map_outcome
map_map f g (reached t) = refl
map_map f g (refused r) = refl

wrapped : (L U : Term) (s r : List Item) (o : Outcome)
    → map_outcome (app L) (map_outcome (items s) (map_outcome (abs U) (map_outcome (items r) o))) ≡ map_outcome (items (applicator L ∷ (s ++ (abstractor U ∷ r)))) o
unfolding map_outcome items
wrapped L U s r (reached t) = ap (λ (x : Term). reached (app L x)) (sym (items_append s (abstractor U ∷ r) t))
wrapped L U s r (refused e) = refl

lifts : (s r : List Item) (U K : Term) → lift (binders r) 0 (lift 1 0 (lift (binders s) 0 K)) ≡ lift (binders (s ++ (abstractor U ∷ r))) 0 K
unfolding binders
lifts s r U K = rw (lift_lift 1 (binders s) K, lift_lift (binders r) (binders s + 1) K, binders_append s (abstractor U ∷ r))
    (ap (λ (n : ℕ). lift n 0 K) (omega arith))

-- THE PARTNER past matched wagons
past_matched : {s : List Item} (f : Term → Term → Outcome) (K C : Term) (n : ℕ) → Matched s
    → at_partner couples f K (items s C) n ≡ map_outcome (items s) (at_partner couples f (lift (binders s) 0 K) C n)
unfolding items binders at_partner if_far
past_matched f K C n matched_none = rw (lift_zero 0 K) (sym (map_none (at_partner couples f K C n)))
past_matched f K C n (matched_couple {K = L} {s = s} {r = r} U a b) =
    ap (λ (x : Term). map_outcome (app L) (at_partner couples f K x (suc n))) (items_append s (abstractor U ∷ r) C)
    ∙ ap (map_outcome (app L)) (past_matched f K (abs U (items r C)) (suc n) a)
    ∙ ap (λ (x : Outcome). map_outcome (app L) (map_outcome (items s) (map_outcome (abs U) x))) (past_matched f (lift 1 0 (lift (binders s) 0 K)) C n b)
    ∙ wrapped L U s r (at_partner couples f (lift (binders r) 0 (lift 1 0 (lift (binders s) 0 K))) C n)
    ∙ ap (λ (x : Term). map_outcome (items (applicator L ∷ (s ++ (abstractor U ∷ r)))) (at_partner couples f x C n)) (lifts s r U K)

taken : {s : List Item} (f : Term → Term → Outcome) (K U B : Term) → Matched s
    → at_partner couples f K (items s (abs U B)) 0 ≡ map_outcome (items s) (f (lift (binders s) 0 K) B)
unfolding at_partner
taken f K U B m = past_matched f K (abs U B) 0 m

-- NO OTHER: n abstractors, with matched wagons before, between and behind them
data Closing : ℕ → List Item → Type 0 where
  closing_none : {s : List Item} → Matched s → Closing 0 s
  closing_one : {n : ℕ} {s r : List Item} (U : Term) → Matched s → Closing n r → Closing (suc n) (s ++ (abstractor U ∷ r))

closing_more : {n : ℕ} {s r : List Item} (L U : Term) → Matched s → Closing n r → Closing n (applicator L ∷ (s ++ (abstractor U ∷ r)))
closing_more L U m (closing_none a) = closing_none (matched_couple U m a)
closing_more {s = s} L U m (closing_one {s = p} {r = q} T a c) =
    rw (append_assoc s (abstractor U ∷ p) (abstractor T ∷ q)) at (closing_one T (matched_couple {K = L} U m a) c)

opened : {n : ℕ} {s : List Item} (L : Term) → Closing (suc n) s → Closing n (applicator L ∷ s)
opened L (closing_one U m c) = closing_more L U m c

record Ahead (n : ℕ) (C : Term) : Type 0 where
  found : List Item
  closing : Closing n found
  dom : Term
  rest : Term
  stands : C ≡ items found (abs dom rest)

ahead : (f : Term → Term → Outcome) (K C : Term) (n : ℕ) (u : Term) → at_partner couples f K C n ≡ reached u → Ahead n C
unfolding at_partner if_far items
ahead f K tau n u e = refused_reached e
ahead f K (var k) n u e = refused_reached e
ahead f K (app L B) n u e =
    let i = map_reached (app L) (at_partner couples f K B (suc n)) u e in
    let a = ahead f K B (suc n) i.0 i.1 in
    record { found = applicator L ∷ a.found; closing = opened L a.closing; dom = a.dom; rest = a.rest; stands = ap (app L) a.stands }
ahead f K (abs U B) zero u e = record { found = []; closing = closing_none matched_none; dom = U; rest = B; stands = refl }
ahead f K (abs U B) (suc n) u e =
    let i = map_reached (abs U) (at_partner couples f (lift 1 0 K) B n) u e in
    let a = ahead f (lift 1 0 K) B n i.0 i.1 in
    record { found = abstractor U ∷ a.found; closing = closing_one U matched_none a.closing; dom = a.dom; rest = a.rest; stands = ap (abs U) a.stands }

closed_off : {s : List Item} → Closing 0 s → Matched s
closed_off (closing_none m) = m

only : {u : Term} (f : Term → Term → Outcome) (K C : Term) → at_partner couples f K C 0 ≡ reached u → Couple C
only {u} f K C e =
    let a = ahead f K C 0 u e in
    record { between = a.found; matched = closed_off a.closing; domain = a.dom; scope = a.rest; stands = a.stands }

-- A STEP past some wagons
behind : (s : List Item) (κ : Kind) (R : Frame) (M : List Term) (B : Term) (p : ℕ)
    → step_at couples κ R M (items s B) (past_all s p) ≡ map_outcome (items s) (step_at couples κ (frame_after R M s) (unmatched_after M s) B p)
unfolding items past_all frame_after unmatched_after
behind [] κ R M B p = sym (map_none (step_at couples κ R M B p))
behind (applicator K ∷ s) κ R M B p = app_behind couples κ R M K (items s B) (past_all s p) ∙ ap (map_outcome (app K)) (behind s κ R (K ∷ M) B p) ∙ map_map (app K) (items s) _
behind (abstractor U ∷ s) κ R M B p =
    abs_behind couples κ R M U (items s B) (past_all s p) ∙ ap (map_outcome (abs U)) (behind s κ (R ▹ entry_of M U) (unmatched couples M) B p) ∙ map_map (abs U) (items s) _

after_append : (M : List Term) (s r : List Item) → unmatched_after M (s ++ r) ≡ unmatched_after (unmatched_after M s) r
unfolding unmatched_after
after_append M [] r = refl
after_append M (applicator K ∷ s) r = after_append (K ∷ M) s r
after_append M (abstractor U ∷ s) r = after_append (unmatched couples M) s r

lift_all_zero : (M : List Term) → lift_all_by 0 M ≡ M
unfolding lift_all_by
lift_all_zero [] = refl
lift_all_zero (K ∷ M) = ap₂ ◌∷◌ (lift_zero 0 K) (lift_all_zero M)

lift_all_lifts : (s r : List Item) (U : Term) (M : List Term) → lift_all_by (binders r) (lift_all (lift_all_by (binders s) M)) ≡ lift_all_by (binders (s ++ (abstractor U ∷ r))) M
unfolding lift_all_by lift_all
lift_all_lifts s r U [] = refl
lift_all_lifts s r U (K ∷ M) = ap₂ ◌∷◌ (lifts s r U K) (lift_all_lifts s r U M)

waiting : {s : List Item} (M : List Term) → Matched s → unmatched_after M s ≡ lift_all_by (binders s) M
unfolding unmatched_after binders unmatched lift_all_by
waiting M matched_none = sym (lift_all_zero M)
waiting M (matched_couple {K = L} {s = s} {r = r} U a b) =
    after_append (L ∷ M) s (abstractor U ∷ r)
    ∙ ap (λ (N : List Term). unmatched_after (unmatched couples N) r) (waiting (L ∷ M) a)
    ∙ waiting (lift_all (lift_all_by (binders s) M)) b
    ∙ lift_all_lifts s r U M

known : {s : List Item} (M : List Term) (K U : Term) → Matched s → entry_of (unmatched_after (K ∷ M) s) U ≡ pair (lift (binders s) 0 K) U
unfolding lift_all_by entry_of
known M K U m = rw (waiting (K ∷ M) m) refl

in_body : (s : List Item) (R : Frame) (B : Term) (p : ℕ) → step R (at 1 (past_all s p)) (items s B) ≡ map_outcome (items s) (step_at couples local (frame_after R [] s) (unmatched_after [] s) B p)
unfolding step_by step_of reach_of kind_in
in_body s R B p = behind s local R [] B p

-- AND NO OTHER: n applicators that are not matched, with matched wagons before, between and behind them
matched_append : {s r : List Item} → Matched s → Matched r → Matched (s ++ r)
matched_append matched_none b = b
matched_append {r = q} (matched_couple {K = K} {s = s} {r = r} U a c) b = subst (λ w. Matched (applicator K ∷ w)) (sym (append_assoc s (abstractor U ∷ r) q)) (matched_couple U a (matched_append c b))

data Opening : ℕ → List Item → Type 0 where
  opening_none : {s : List Item} → Matched s → Opening 0 s
  opening_one : {n : ℕ} {s r : List Item} (L : Term) → Opening n s → Matched r → Opening (suc n) (s ++ (applicator L ∷ r))

opening_append : {n : ℕ} {s r : List Item} → Opening n s → Matched r → Opening n (s ++ r)
opening_append (opening_none a) b = opening_none (matched_append a b)
opening_append {r = q} (opening_one {s = s} {r = r} L o a) b = subst (Opening _) (sym (append_assoc s (applicator L ∷ r) q)) (opening_one L o (matched_append a b))

-- one more wagon behind them
opening_applicator : {n : ℕ} {s : List Item} (L : Term) → Opening n s → Opening (suc n) (s ++ (applicator L ∷ []))
opening_applicator L o = opening_one L o matched_none

opening_abstractor : {n : ℕ} {s : List Item} (U : Term) → Opening (suc n) s → Opening n (s ++ (abstractor U ∷ []))
opening_abstractor U (opening_one {s = s} {r = r} L o a) = subst (Opening _) (sym (append_assoc s (applicator L ∷ r) (abstractor U ∷ []))) (opening_append o (matched_couple {K = L} {s = r} U a matched_none))

-- the n-th of M stands somewhere in p, lifted past what follows it there
record Stands (p : List Item) (K : Term) (n : ℕ) : Type 0 where
  first : List Item
  applied : Term
  between : List Item
  opening : Opening n between
  stands : p ≡ first ++ (applicator applied ∷ between)
  lifted : K ≡ lift (binders between) 0 applied

longer : {p : List Item} {K K' : Term} {n n' : ℕ} (w : Item) (o : Stands p K n) → Opening n' (o.between ++ (w ∷ [])) → K' ≡ lift (binders (o.between ++ (w ∷ []))) 0 o.applied → Stands (p ++ (w ∷ [])) K' n'
longer w o a e = record {
  first = o.first;
  applied = o.applied;
  between = o.between ++ (w ∷ []);
  opening = a;
  stands = ap (◌++ (w ∷ [])) o.stands ∙ append_assoc o.first (applicator o.applied ∷ o.between) (w ∷ []);
  lifted = e;
}

-- the list M of those not yet matched behind p, each where it stands
data Listed (p : List Item) : ℕ → List Term → Type 0 where
  listed_none : {n : ℕ} → Listed p n []
  listed_one : {n : ℕ} {K : Term} {M : List Term} → Stands p K n → Listed p (suc n) M → Listed p n (K ∷ M)

behind_applicator : {p : List Item} {n : ℕ} {M : List Term} (L : Term) → Listed p n M → Listed (p ++ (applicator L ∷ [])) (suc n) M
unfolding binders
behind_applicator L listed_none = listed_none
behind_applicator L (listed_one o l) =
    listed_one (longer (applicator L) o (opening_applicator L o.opening) (o.lifted ∙ ap (λ i. lift i 0 o.applied) (sym (binders_append o.between (applicator L ∷ []) ∙ add-zero (binders o.between))))) (behind_applicator L l)

behind_abstractor : {p : List Item} {n : ℕ} {M : List Term} (U : Term) → Listed p (suc n) M → Listed (p ++ (abstractor U ∷ [])) n (lift_all M)
unfolding lift_all binders
behind_abstractor U listed_none = listed_none
behind_abstractor U (listed_one o l) =
    listed_one (longer (abstractor U) o (opening_abstractor U o.opening) (ap (lift 1 0) o.lifted ∙ lift_lift 1 (binders o.between) o.applied ∙ ap (λ i. lift i 0 o.applied) (sym (binders_append o.between (abstractor U ∷ [])))))
    (behind_abstractor U l)

listed : {p : List Item} {M : List Term} (s : List Item) → Listed p 0 M → Listed (p ++ s) 0 (unmatched_after M s)
unfolding unmatched_after unmatched binders
listed {p} {M} [] l = subst (λ w. Listed w 0 M) (sym (append-nil p)) l
listed {p} {M} (applicator K ∷ s) l = subst (λ w. Listed w 0 (unmatched_after (K ∷ M) s)) (append_assoc p (applicator K ∷ []) s) (listed s (listed_one
    (record { first = p; applied = K; between = []; opening = opening_none matched_none; stands = refl; lifted = sym (lift_zero 0 K) }) (behind_applicator K l)))
listed {p} {M = []} (abstractor U ∷ s) listed_none = subst (λ w. Listed w 0 (unmatched_after [] s)) (append_assoc p (abstractor U ∷ []) s) (listed {p = p ++ (abstractor U ∷ [])} s listed_none)
listed {p} {M = K ∷ M} (abstractor U ∷ s) (listed_one o l) = subst (λ w. Listed w 0 (unmatched_after (lift_all M) s)) (append_assoc p (abstractor U ∷ []) s) (listed s (behind_abstractor U l))

all_matched : {s : List Item} → Opening 0 s → Matched s
all_matched (opening_none m) = m

known_only : (s : List Item) (K U : Term) → entry_of (unmatched_after [] s) U ≡ pair K U → CoupleAfter s K
unfolding entry_of
known_only s K U e = go (unmatched_after [] s) e (listed {p = []} s listed_none)
  where
    go : (M : List Term) → entry_of M U ≡ pair K U → Listed s 0 M → CoupleAfter s K
    go [] e l = let z : ◌≡◌ {A = ℕ} 0 1 = cc in absurd (omega arith)
    go (L ∷ M) e (listed_one o l) = let z : L ≡ K = cc in record { first = o.first; applied = o.applied; between = o.between; matched = all_matched o.opening; stands = o.stands; lifted = sym z ∙ o.lifted }

pub coupling : Coupling
coupling = record {
  taken = taken;
  only = only;
  in_body = in_body;
  in_applicator = λ κ R M K B p h. app_lo couples κ R M K B p h;
  in_abstractor = λ κ R M U B p h. abs_lo couples κ R M U B p h;
  waiting = waiting;
  known = known;
  known_only = known_only;
}
