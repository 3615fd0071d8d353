-- Kind 3 spelled out in local steps and a removal.
-- Assumes nothing.
use Prim.Native.Nat.{ℕ, zero, suc, ◌+◌, ◌-◌, ◌≤◌, ◌<◌}
use mathlib.Core.Path.{◌≡◌, refl, ap, sym, ◌∙◌, fun_ext}
use mathlib.Core.Bool.{Bool, true, false, cond}
use mathlib.Core.Option.{some}
use mathlib.Core.List.{List, [], ◌∷◌, ◌++◌, map}
use native.Mathlib.Omega.{arith}
use native.Mathlib.Numerals.{add-one}
use lib.Dec.{eqb}
use borrow.Author.Tests.{le-leb, lt-leb, lt-ltb, le-ltb, eqb-true, eqb-false}
use Rattle.calculus.specs.Terms.{Term, tau, var, app, abs, size, lift, lift_all}
use Rattle.calculus.specs.Frames.{pair, Frame, ◌▹◌, entry_at}
use Rattle.calculus.specs.Steps.{Step, Kind, local, removal, whole, Reach, pairs, couples, full, reach_of, kind_in, Reason, wrong_symbol, past_end, no_partner, Outcome, reached, refused, map_outcome, then_outcome, reduce_var, unused, remove, substitute, fill, if_far, at_partner, step_here, entry_of, unmatched, step_at, step_of, step_by, replay_by}
use Rattle.calculus.specs.Whole.{past, uses, uses_if_far, partner_uses, uses_at, at, whole_steps, spell_step, afterwards, spell, NoWhole, none_left, one_more}
use Rattle.calculus.specs.Claims.{Spelling}
use Rattle.calculus.proofs.Lift.{lo, hi, cmp, index_low, index_high, lift_fusion, size_lift}
use Rattle.calculus.proofs.Ren.{lower_lift}
use Rattle.calculus.proofs.Substitute.{Use, below, used, above, use_of_lem, var_below, var_used, var_above}
use Rattle.calculus.proofs.Weaken.{refused_reached, reached_inj}

pub map_reached : (f : Term → Term) (o : Outcome) (u : Term) → map_outcome f o ≡ reached u → (v : Term) × (o ≡ reached v) × (f v ≡ u)
unfolding map_outcome
map_reached f (reached v) u e = (v, refl, reached_inj e)
map_reached f (refused r) u e = refused_reached e

-- A STEP INSIDE A WAGON, AND PAST IT
module _ (x : Reach) (κ : Kind) (R : Frame) (M : List Term) where
  pub app_lo : (K B : Term) (p : ℕ) → p < size K → step_at x κ R M (app K B) (suc p) ≡ map_outcome (λ X. app X B) (step_at x κ R [] K p)
  unfolding step_at
  app_lo K B p h = rw (lt-ltb p (size K) h)

  app_hi : (K B : Term) (p : ℕ) → size K ≤ p → step_at x κ R M (app K B) (suc p) ≡ map_outcome (app K) (step_at x κ R (K ∷ M) B (p - size K))
  unfolding step_at
  app_hi K B p h = rw (le-ltb p (size K) h)

  pub abs_lo : (U B : Term) (p : ℕ) → p < size U → step_at x κ R M (abs U B) (suc p) ≡ map_outcome (λ X. abs X B) (step_at x κ R [] U p)
  unfolding step_at
  abs_lo U B p h = rw (lt-ltb p (size U) h)

  abs_hi : (U B : Term) (p : ℕ) → size U ≤ p → step_at x κ R M (abs U B) (suc p) ≡ map_outcome (abs U) (step_at x κ (R ▹ entry_of M U) (unmatched x M) B (p - size U))
  unfolding step_at
  abs_hi U B p h = rw (le-ltb p (size U) h)

less : (n p : ℕ) → n + p - n ≡ p
less n p = omega arith

module _ (x : Reach) (κ : Kind) (R : Frame) (M : List Term) where
  pub app_behind : (K B : Term) (p : ℕ) → step_at x κ R M (app K B) (past K p) ≡ map_outcome (app K) (step_at x κ R (K ∷ M) B p)
  unfolding past
  app_behind K B p = app_hi x κ R M K B (size K + p) (omega arith) ∙ rw (less (size K) p) refl

  pub abs_behind : (U B : Term) (p : ℕ) → step_at x κ R M (abs U B) (past U p) ≡ map_outcome (abs U) (step_at x κ (R ▹ entry_of M U) (unmatched x M) B p)
  unfolding past
  abs_behind U B p = abs_hi x κ R M U B (size U + p) (omega arith) ∙ rw (less (size U) p) refl

-- a step that is not refused has its place in the body
in_range : (x : Reach) (κ : Kind) (R : Frame) (M : List Term) (t : Term) (p : ℕ) (u : Term) → step_at x κ R M t p ≡ reached u → p < size t
unfolding step_at size
in_range x κ R M tau zero u e = omega arith
in_range x κ R M tau (suc p) u e = refused_reached e
in_range x κ R M (var k) zero u e = omega arith
in_range x κ R M (var k) (suc p) u e = refused_reached e
in_range x κ R M (app K B) zero u e = omega arith
in_range x κ R M (app K B) (suc p) u e = elim (cmp (suc p) (size K)) [
  | lo h ↦ omega arith
  | hi h ↦
      let s = map_reached (app K) (step_at x κ R (K ∷ M) B (p - size K)) u (sym (app_hi x κ R M K B p (omega arith)) ∙ e) in
      let i = in_range x κ R (K ∷ M) B (p - size K) s.0 s.1 in
      omega arith
]
in_range x κ R M (abs U B) zero u e = omega arith
in_range x κ R M (abs U B) (suc p) u e = elim (cmp (suc p) (size U)) [
  | lo h ↦ omega arith
  | hi h ↦
      let s = map_reached (abs U) (step_at x κ (R ▹ entry_of M U) (unmatched x M) B (p - size U)) u (sym (abs_hi x κ R M U B p (omega arith)) ∙ e) in
      let i = in_range x κ (R ▹ entry_of M U) (unmatched x M) B (p - size U) s.0 s.1 in
      omega arith
]

-- a step and what it reaches
record Moves (x : Reach) (κ : Kind) (R : Frame) (M : List Term) (t : Term) (p : ℕ) (u : Term) : Type 0 where
  moves : step_at x κ R M t p ≡ reached u

module _ {x : Reach} {κ : Kind} {R : Frame} {M : List Term} where
  app_in : {K L B : Term} {p : ℕ} → Moves x κ R [] K p L → Moves x κ R M (app K B) (suc p) (app L B)
  unfolding map_outcome
  app_in {K} {L} {B} {p} e = record { moves = app_lo x κ R M K B p (in_range x κ R [] K p L e.moves) ∙ ap (map_outcome (λ X. app X B)) e.moves }

  app_past : {K B C : Term} (p : ℕ) → Moves x κ R (K ∷ M) B p C → Moves x κ R M (app K B) (past K p) (app K C)
  unfolding map_outcome
  app_past {K} {B} p e = record { moves = app_behind x κ R M K B p ∙ ap (map_outcome (app K)) e.moves }

  abs_in : {U T B : Term} {p : ℕ} → Moves x κ R [] U p T → Moves x κ R M (abs U B) (suc p) (abs T B)
  unfolding map_outcome
  abs_in {U} {T} {B} {p} e = record { moves = abs_lo x κ R M U B p (in_range x κ R [] U p T e.moves) ∙ ap (map_outcome (λ X. abs X B)) e.moves }

  abs_past : {U B C : Term} (p : ℕ) → Moves x κ (R ▹ entry_of M U) (unmatched x M) B p C → Moves x κ R M (abs U B) (past U p) (abs U C)
  unfolding map_outcome
  abs_past {U} {B} p e = record { moves = abs_behind x κ R M U B p ∙ ap (map_outcome (abs U)) e.moves }

-- LOCAL STEPS, ONE AFTER THE OTHER
data Runs (x : Reach) (R : Frame) (M : List Term) : List ℕ → Term → Term → Type 0 where
  runs_none : {t : Term} → Runs x R M [] t t
  runs_more : {p : ℕ} {ps : List ℕ} {t u v : Term} → Moves x local R M t p u → Runs x R M ps u v → Runs x R M (p ∷ ps) t v

module _ {x : Reach} {R : Frame} {M : List Term} where
  runs_append : {ps qs : List ℕ} {t u v : Term} → Runs x R M ps t u → Runs x R M qs u v → Runs x R M (ps ++ qs) t v
  runs_append runs_none b = b
  runs_append (runs_more e a) b = runs_more e (runs_append a b)

  runs_in_app : {ps : List ℕ} {K L : Term} (B : Term) → Runs x R [] ps K L → Runs x R M (map suc ps) (app K B) (app L B)
  runs_in_app B runs_none = runs_none
  runs_in_app B (runs_more e a) = runs_more (app_in e) (runs_in_app B a)

  runs_past_app : (K : Term) {ps : List ℕ} {B C : Term} → Runs x R (K ∷ M) ps B C → Runs x R M (map (past K) ps) (app K B) (app K C)
  runs_past_app K runs_none = runs_none
  runs_past_app K (runs_more {p} e a) = runs_more (app_past p e) (runs_past_app K a)

  runs_in_abs : {ps : List ℕ} {U T : Term} (B : Term) → Runs x R [] ps U T → Runs x R M (map suc ps) (abs U B) (abs T B)
  runs_in_abs B runs_none = runs_none
  runs_in_abs B (runs_more e a) = runs_more (abs_in e) (runs_in_abs B a)

  runs_past_abs : (U : Term) {ps : List ℕ} {B C : Term} → Runs x (R ▹ entry_of M U) (unmatched x M) ps B C → Runs x R M (map (past U) ps) (abs U B) (abs U C)
  runs_past_abs U runs_none = runs_none
  runs_past_abs U (runs_more {p} e a) = runs_more (abs_past p e) (runs_past_abs U a)

past_lift : (n c : ℕ) (L : Term) → past (lift n c L) ≡ past L
unfolding past
past_lift n c L = fun_ext (λ q. ap (λ (i : ℕ). suc (i + q)) (size_lift n c L))

-- AT ALL USES: what is reached is the substitution, with room left for the variable
runs_var : (x : Reach) (R : Frame) (M : List Term) (c : ℕ) (K U : Term) (k : ℕ) → entry_at R (suc c) ≡ some (pair K U)
    → Use c k → Runs x R M (uses c K (var k)) (var k) (lift 1 c (substitute c K (var k)))
unfolding uses substitute lift step_at step_here reduce_var
runs_var x R M c K U k h (below b) = rw (var_below c K k b, le-leb k c b, index_low 1 c k b) runs_none
runs_var x R M c K U k h (used b) =
    let e : Moves x local R M (var (suc c)) 0 (lift (suc c) 0 K) = record { moves = rw h refl } in
    rw (var_used c K k b, lt-leb k c (omega arith), le-leb k (suc c) (omega arith), lift_fusion 1 c c 0 K (omega arith) (omega arith), b, add-one c)
    (runs_more e runs_none)
runs_var x R M c K U zero h (above b) = let z : ⊥ = omega arith in absurd z
runs_var x R M c K U (suc k) h (above b) =
    rw (var_above c K k (omega arith), lt-leb (suc k) c (omega arith), lt-leb (suc k) (suc c) b, index_high 1 c k (omega arith), add-one k) runs_none

runs_uses : (x : Reach) (R : Frame) (M : List Term) (c : ℕ) (K U t : Term) → entry_at R (suc c) ≡ some (pair K U)
    → Runs x R M (uses c K t) t (lift 1 c (substitute c K t))
unfolding uses substitute lift entry_at
runs_uses x R M c K U tau h = runs_none
runs_uses x R M c K U (var k) h = runs_var x R M c K U k h (use_of_lem c k)
runs_uses x R M c K U (app L B) h =
    runs_append (runs_in_app B (runs_uses x R [] c K U L h))
    (rw (past_lift 1 c (substitute c K L)) at (runs_past_app {M = M} _ (runs_uses x R (lift 1 c (substitute c K L) ∷ M) c K U B h)))
runs_uses x R M c K U (abs T B) h =
    runs_append (runs_in_abs B (runs_uses x R [] c K U T h))
    (rw (past_lift 1 c (substitute c K T)) at (runs_past_abs {M = M} _ (runs_uses x (R ▹ entry_of M (lift 1 c (substitute c K T))) (unmatched x M) (suc c) K U B h)))

-- KIND 3 AT A PLACE: either kind 2 is refused there for the same reason, or it is the local steps and kind 2
data Whole (x : Reach) (R : Frame) (M : List Term) (t : Term) (p : ℕ) : Type 0 where
  refuses : (r : Reason) → uses_at x t p ≡ [] → step_at x whole R M t p ≡ refused r → step_at x removal R M t p ≡ refused r → Whole x R M t p
  goes : {u v : Term} → Runs x R M (uses_at x t p) t u → Moves x removal R M u p v → Moves x whole R M t p v → Whole x R M t p

-- the same from the applicator on, in the train that follows it
data Found (x : Reach) (R : Frame) (M : List Term) (K B : Term) (n : ℕ) : Type 0 where
  lost : partner_uses x K B n ≡ [] → at_partner x fill K B n ≡ refused no_partner → at_partner x remove K B n ≡ refused no_partner → Found x R M K B n
  found : {u v : Term} → Runs x R M (partner_uses x K B n) B u → at_partner x remove K u n ≡ reached v → at_partner x fill K B n ≡ reached v → Found x R M K B n

-- K is the one before which n others are to be matched; over pairs it must be the first
data Open : Reach → List Term → ℕ → Term → Type 0 where
  open_first : {x : Reach} {K : Term} {M : List Term} → Open x (K ∷ M) 0 K
  open_next : {K L : Term} {M : List Term} {n : ℕ} → Open couples M n K → Open couples (L ∷ M) (suc n) K

open_lift : {K : Term} {M : List Term} {n : ℕ} → Open couples M n K → Open couples (lift_all M) n (lift 1 0 K)
unfolding lift_all
open_lift open_first = open_first
open_lift (open_next o) = open_next (open_lift o)

module _ {R : Frame} {M : List Term} {K B : Term} {n : ℕ} where
  found_app : (L : Term) → Found couples R (L ∷ M) K B (suc n) → Found couples R M K (app L B) n
  unfolding partner_uses at_partner if_far uses_if_far map_outcome
  found_app L (lost a b c) = lost (ap (map (past L)) a) (ap (map_outcome (app L)) b) (ap (map_outcome (app L)) c)
  found_app L (found {u} {v} a b c) = found {u = app L u} {v = app L v} (runs_past_app L a) (ap (map_outcome (app L)) b) (ap (map_outcome (app L)) c)

  found_abs : (L U : Term) → Found couples (R ▹ pair L U) (lift_all M) (lift 1 0 K) B n → Found couples R (L ∷ M) K (abs U B) (suc n)
  unfolding partner_uses at_partner map_outcome entry_of unmatched
  found_abs L U (lost a b c) = lost (ap (map (past U)) a) (ap (map_outcome (abs U)) b) (ap (map_outcome (abs U)) c)
  found_abs L U (found {u} {v} a b c) = found {u = abs U u} {v = abs U v} (runs_past_abs U a) (ap (map_outcome (abs U)) b) (ap (map_outcome (abs U)) c)

partner_at : {x : Reach} {M : List Term} {K : Term} {n : ℕ} (R : Frame) (B : Term) → Open x M n K → Found x R M K B n
unfolding partner_uses at_partner if_far uses_if_far remove fill unused entry_of entry_at
partner_at R tau o = lost refl refl refl
partner_at R (var k) o = lost refl refl refl
partner_at {x = pairs} R (app L B) o = lost refl refl refl
partner_at {x = couples} {M = M} R (app L B) o = found_app L (partner_at {M = L ∷ M} R B (open_next o))
partner_at R (abs U B) (open_first {x} {K} {M}) = found {v = substitute 0 K B}
    (runs_past_abs U (runs_uses x (R ▹ pair K U) (unmatched x (K ∷ M)) 0 K U B refl)) (rw (lower_lift 0 (substitute 0 K B)) refl) refl
partner_at R (abs U B) (open_next {L = L} o) = found_abs L U (partner_at (R ▹ pair L U) B (open_lift o))

whole_pair : (x : Reach) (R : Frame) (M : List Term) (K B : Term) → Whole x R M (app K B) 0
unfolding uses_at step_at step_here
whole_pair x R M K B = go (partner_at R B open_first)
  where
    go : Found x R (K ∷ M) K B 0 → Whole x R M (app K B) 0
    go (lost a b c) = refuses no_partner (ap (map (past K)) a) b c
    go (found {u} {v} a b c) = goes {u = app K u} {v = v} (runs_past_app K a) (record { moves = b }) (record { moves = c })

module _ {x : Reach} {R : Frame} {M : List Term} {p : ℕ} where
  whole_in_app : {K : Term} (B : Term) → p < size K → Whole x R [] K p → Whole x R M (app K B) (suc p)
  unfolding uses_at map_outcome
  whole_in_app {K} B h (refuses r a b c) = refuses r (rw (lt-ltb p (size K) h, a) refl)
      (app_lo x whole R M K B p h ∙ ap (map_outcome (λ X. app X B)) b) (app_lo x removal R M K B p h ∙ ap (map_outcome (λ X. app X B)) c)
  whole_in_app {K} B h (goes {u} a b c) = goes {u = app u B} (rw (lt-ltb p (size K) h) (runs_in_app B a)) (app_in b) (app_in c)

  whole_in_abs : {U : Term} (B : Term) → p < size U → Whole x R [] U p → Whole x R M (abs U B) (suc p)
  unfolding uses_at map_outcome
  whole_in_abs {U} B h (refuses r a b c) = refuses r (rw (lt-ltb p (size U) h, a) refl)
      (abs_lo x whole R M U B p h ∙ ap (map_outcome (λ X. abs X B)) b) (abs_lo x removal R M U B p h ∙ ap (map_outcome (λ X. abs X B)) c)
  whole_in_abs {U} B h (goes {u} a b c) = goes {u = abs u B} (rw (lt-ltb p (size U) h) (runs_in_abs B a)) (abs_in b) (abs_in c)

back : (L : Term) (p : ℕ) → size L ≤ p → past L (p - size L) ≡ suc p
unfolding past
back L p h = omega arith

module _ {x : Reach} {R : Frame} {M : List Term} where
  whole_past_app : {B : Term} (K : Term) (p : ℕ) → size K ≤ p → Whole x R (K ∷ M) B (p - size K) → Whole x R M (app K B) (suc p)
  unfolding uses_at map_outcome
  whole_past_app {B} K p h (refuses r a b c) = refuses r (rw (le-ltb p (size K) h, a) refl)
      (app_hi x whole R M K B p h ∙ ap (map_outcome (app K)) b) (app_hi x removal R M K B p h ∙ ap (map_outcome (app K)) c)
  whole_past_app K p h (goes {u} {v} a b c) = goes {u = app K u} (rw (le-ltb p (size K) h) (runs_past_app K a))
      (rw (back K p h) at (app_past {M = M} (p - size K) b)) (rw (back K p h) at (app_past {M = M} (p - size K) c))

  whole_past_abs : {B : Term} (U : Term) (p : ℕ) → size U ≤ p → Whole x (R ▹ entry_of M U) (unmatched x M) B (p - size U) → Whole x R M (abs U B) (suc p)
  unfolding uses_at map_outcome
  whole_past_abs {B} U p h (refuses r a b c) = refuses r (rw (le-ltb p (size U) h, a) refl)
      (abs_hi x whole R M U B p h ∙ ap (map_outcome (abs U)) b) (abs_hi x removal R M U B p h ∙ ap (map_outcome (abs U)) c)
  whole_past_abs U p h (goes {u} {v} a b c) = goes {u = abs U u} (rw (le-ltb p (size U) h) (runs_past_abs U a))
      (rw (back U p h) at (abs_past {M = M} (p - size U) b)) (rw (back U p h) at (abs_past {M = M} (p - size U) c))

whole_at : (x : Reach) (R : Frame) (M : List Term) (t : Term) (p : ℕ) → Whole x R M t p
unfolding uses_at step_at step_here
whole_at x R M tau zero = refuses wrong_symbol refl refl refl
whole_at x R M tau (suc p) = refuses past_end refl refl refl
whole_at x R M (var k) zero = refuses wrong_symbol refl refl refl
whole_at x R M (var k) (suc p) = refuses past_end refl refl refl
whole_at x R M (app K B) zero = whole_pair x R M K B
whole_at x R M (app K B) (suc p) = elim (cmp (suc p) (size K)) [
  | lo h ↦ whole_in_app B (omega arith) (whole_at x R [] K p)
  | hi h ↦ whole_past_app K p (omega arith) (whole_at x R (K ∷ M) B (p - size K))
]
whole_at x R M (abs U B) zero = refuses wrong_symbol refl refl refl
whole_at x R M (abs U B) (suc p) = elim (cmp (suc p) (size U)) [
  | lo h ↦ whole_in_abs B (omega arith) (whole_at x R [] U p)
  | hi h ↦ whole_past_abs U p (omega arith) (whole_at x (R ▹ entry_of M U) (unmatched x M) B (p - size U))
]

-- LISTS OF STEPS
replay_runs : {x : Reach} {R : Frame} {ps : List ℕ} {t u : Term} (ss : List Step) → Runs x R [] ps t u → replay_by (full x) R (map (at 1) ps ++ ss) t ≡ replay_by (full x) R ss u
unfolding replay_by step_by step_of reach_of kind_in then_outcome
replay_runs ss runs_none = refl
replay_runs ss (runs_more e a) = rw e.moves (replay_runs ss a)

as_steps : (x : Reach) (R : Frame) (t : Term) (p : ℕ) → step_by (full x) R (at 3 p) t ≡ replay_by (full x) R (whole_steps x t p) t
unfolding whole_steps replay_by step_by step_of reach_of kind_in then_outcome
as_steps x R t p = go (whole_at x R [] t p)
  where
    go : Whole x R [] t p → step_at x whole R [] t p ≡ replay_by (full x) R (map (at 1) (uses_at x t p) ++ (at 2 p ∷ [])) t
    go (refuses r a b c) = rw (a, b, c) refl
    go (goes a b c) = rw (replay_runs (at 2 p ∷ []) a, b.moves, c.moves) refl

then_assoc : (o : Outcome) (f g : Term → Outcome) → then_outcome (then_outcome o f) g ≡ then_outcome o (λ t. then_outcome (f t) g)
unfolding then_outcome
then_assoc (reached t) f g = refl
then_assoc (refused r) f g = refl

replay_append : (x : Reach) (R : Frame) (ss ts : List Step) (t : Term) → replay_by (full x) R (ss ++ ts) t ≡ then_outcome (replay_by (full x) R ss t) (replay_by (full x) R ts)
unfolding replay_by then_outcome
replay_append x R [] ts t = refl
replay_append x R (s ∷ ss) ts t = ap (then_outcome (step_by (full x) R s t)) (fun_ext (replay_append x R ss ts)) ∙ sym (then_assoc (step_by (full x) R s t) (replay_by (full x) R ss) (replay_by (full x) R ts))

kind_step : (x : Reach) (k p : ℕ) (R : Frame) (t : Term) → k ≡ 3 → step_by (full x) R (at k p) t ≡ replay_by (full x) R (whole_steps x t p) t
kind_step x k p R t h = rw h (as_steps x R t p)

spell_step_lem : (x : Reach) (R : Frame) (s : Step) (t : Term) → replay_by (full x) R (spell_step x s t) t ≡ step_by (full x) R s t
unfolding spell_step replay_by then_outcome
spell_step_lem x R s t = go (eqb s.kind 3) refl
  where
    end : (o : Outcome) → then_outcome o (replay_by (full x) R []) ≡ o
    end (reached u) = refl
    end (refused r) = refl

    go : (b : Bool) → eqb s.kind 3 ≡ b → replay_by (full x) R (cond b (whole_steps x t s.place) (s ∷ [])) t ≡ step_by (full x) R s t
    go true e = sym (kind_step x s.kind s.place R t (eqb-true s.kind 3 e))
    go false e = end (step_by (full x) R s t)

pub spelled : (x : Reach) (R : Frame) (ss : List Step) (t : Term) → replay_by (full x) R (spell x R ss t) t ≡ replay_by (full x) R ss t
unfolding spell afterwards replay_by then_outcome
spelled x R [] t = refl
spelled x R (s ∷ ss) t =
    replay_append x R (spell_step x s t) (afterwards (step_by (full x) R s t) (spell x R ss)) t
    ∙ ap (λ (o : Outcome). then_outcome o (replay_by (full x) R (afterwards (step_by (full x) R s t) (spell x R ss)))) (spell_step_lem x R s t)
    ∙ go (step_by (full x) R s t) (spelled x R ss)
  where
    go : (o : Outcome) → ((u : Term) → replay_by (full x) R (spell x R ss u) u ≡ replay_by (full x) R ss u) → then_outcome o (replay_by (full x) R (afterwards o (spell x R ss))) ≡ then_outcome o (replay_by (full x) R ss)
    go (reached u) h = h u
    go (refused r) h = refl

-- WITHOUT KIND 3
no_whole_append : {ss ts : List Step} → NoWhole ss → NoWhole ts → NoWhole (ss ++ ts)
no_whole_append none_left b = b
no_whole_append (one_more n a) b = one_more n (no_whole_append a b)

not_three : (n : ℕ) → n < 3 → n ≡ 3 → ⊥
not_three n l h = omega arith

no_whole_locals : (ps : List ℕ) → NoWhole (map (at 1) ps)
no_whole_locals [] = none_left
no_whole_locals (p ∷ ps) = one_more (not_three 1 (omega arith)) (no_whole_locals ps)

no_whole_steps : (x : Reach) (t : Term) (p : ℕ) → NoWhole (whole_steps x t p)
unfolding whole_steps
no_whole_steps x t p = no_whole_append (no_whole_locals (uses_at x t p)) (one_more (not_three 2 (omega arith)) none_left)

no_whole_step : (x : Reach) (s : Step) (t : Term) → NoWhole (spell_step x s t)
unfolding spell_step
no_whole_step x s t = go (eqb s.kind 3) refl
  where
    go : (b : Bool) → eqb s.kind 3 ≡ b → NoWhole (cond b (whole_steps x t s.place) (s ∷ []))
    go true e = no_whole_steps x t s.place
    go false e = one_more (eqb-false s.kind 3 e) none_left

pub no_whole : (x : Reach) (R : Frame) (ss : List Step) (t : Term) → NoWhole (spell x R ss t)
unfolding spell afterwards
no_whole x R [] t = none_left
no_whole x R (s ∷ ss) t = no_whole_append (no_whole_step x s t) (go (step_by (full x) R s t) (no_whole x R ss))
  where
    go : (o : Outcome) → ((u : Term) → NoWhole (spell x R ss u)) → NoWhole (afterwards o (spell x R ss))
    go (reached u) h = h u
    go (refused r) h = none_left

pub spelling : Spelling
spelling = record { as_steps = as_steps; spelled = spelled; no_whole = no_whole }
