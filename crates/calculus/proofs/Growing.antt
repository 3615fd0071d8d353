-- Each rule follows a frame that grows: so do derivations, with their groups, and walks, with what they demand.
-- Assumes nothing.
use Prim.Native.Nat.{ℕ, zero, suc}
use mathlib.Core.Path.{◌≡◌, refl, ap, ap₂, sym, ◌∙◌}
use mathlib.Core.Option.{Option, none, some}
use mathlib.Core.List.{List, [], ◌∷◌, ◌++◌, map}
use Rattle.calculus.specs.Terms.{Term, tau, var, app, abs, lift}
use Rattle.calculus.specs.Frames.{Entry, single, pair, domain, Frame, ◌▹◌, entry_at, map_entry}
use Rattle.calculus.specs.Rules.{Group, lift_all, State, own, copied, Comparison, Question, holds, same, Stop, unbound, Next, asks, stops, typed, plain_next, one_pass_next, Holds, nothing_left, met, by_rule, groups, With}
use Rattle.calculus.specs.Walks.{End, Walk, walk_end, walk_same, walk_asks, walk_stops, WalkFrom}
use Rattle.calculus.specs.Growth.{up, rename, Grown, as_it_was, inserted, kept, paired, Onward, here, further, GrownState, grown_own, grown_copied, GrownComparison, grown_compare, GrownComparisons, grown_none, grown_more, GrownWalk}
use Rattle.calculus.proofs.Ren.{no_some}
use Rattle.calculus.proofs.Weaken.{Ren, under, grow_refl, at_domain, entry_at_zero, unchanged, same_ren, all_lift}
use Rattle.calculus.proofs.Frames.{grown_ren}
use Rattle.calculus.proofs.Demand.{asks_inj, asks_stops}

-- THE FRAMES: what R has stands renamed in R'; and, where A asks for it, what means nothing in R means nothing in R'
pub record Unbound (ρ : ℕ → ℕ) (R R' : Frame) : Type 0 where
  unbound_at : (j : ℕ) → entry_at R (suc j) ≡ none → entry_at R' (suc (ρ j)) ≡ none

pub record Follow (A : Type 0) (ρ : ℕ → ℕ) (R R' : Frame) : Type 0 where
  pub image : Ren ρ R R'
  pub none_there : A → Unbound ρ R R'

unbound_past : {ρ : ℕ → ℕ} {R R' : Frame} (e e' : Entry) → Unbound ρ R R' → Unbound (up ρ) (R ▹ e) (R' ▹ e')
unfolding entry_at up
unbound_past {ρ} {R} {R'} e e' u = record { unbound_at = go }
  where
    go : (j : ℕ) → entry_at (R ▹ e) (suc j) ≡ none → entry_at (R' ▹ e') (suc (up ρ j)) ≡ none
    go zero h = no_some (sym h)
    go (suc j) h = u.unbound_at j h

onward : {A : Type 0} {ρ σ : ℕ → ℕ} {R R' S S' : Frame} → Follow A ρ R R' → Onward ρ R R' σ S S' → Follow A σ S S'
onward b here = b
onward b (further {σ = σ} e o) =
    let c = onward b o in
    let e' = map_entry (rename σ) e in
    record { image = under e e' c.image (grow_refl _); none_there = λ a. unbound_past e e' (c.none_there a) }

unbound_grown : {ρ : ℕ → ℕ} {R R' : Frame} → Grown ρ R R' → Unbound ρ R R'
unfolding entry_at
unbound_grown as_it_was = record { unbound_at = λ j h. h }
unbound_grown (inserted e g) = record { unbound_at = λ j h. (unbound_grown g).unbound_at j h }
unbound_grown (kept {ρ} e g) = unbound_past e (map_entry (rename ρ) e) (unbound_grown g)
unbound_grown (paired {ρ} K U g) = unbound_past (single U) (pair K (rename ρ U)) (unbound_grown g)

pub by_growth : {ρ : ℕ → ℕ} {R R' : Frame} → Grown ρ R R' → Follow (Unit {0}) ρ R R'
by_growth g = record { image = grown_ren g; none_there = λ a. unbound_grown g }

-- WHAT TAKES A STATE'S PLACE
data Questions (ρ : ℕ → ℕ) (R R' : Frame) : List Question → List Question → Type 0 where
  q_none : Questions ρ R R' [] []
  q_holds : {s s' : State} {qs qs' : List Question} → GrownState ρ R R' s s' → Questions ρ R R' qs qs' → Questions ρ R R' (holds s ∷ qs) (holds s' ∷ qs')
  q_same : {c c' : Comparison} {qs qs' : List Question} → GrownComparison ρ R R' c c' → Questions ρ R R' qs qs' → Questions ρ R R' (same c ∷ qs) (same c' ∷ qs')

data Nexts (A : Type 0) (ρ : ℕ → ℕ) (R R' : Frame) : Next → Next → Type 0 where
  n_asks : {qs qs' : List Question} → Questions ρ R R' qs qs' → Nexts A ρ R R' (asks qs) (asks qs')
  n_stops : {x : Stop} {n : Next} → (A → n ≡ stops x) → Nexts A ρ R R' (stops x) n

q_append : {ρ : ℕ → ℕ} {R R' : Frame} {ps ps' qs qs' : List Question} → Questions ρ R R' ps ps' → Questions ρ R R' qs qs' → Questions ρ R R' (ps ++ qs) (ps' ++ qs')
q_append q_none q = q
q_append (q_holds s p) q = q_holds s (q_append p q)
q_append (q_same c p) q = q_same c (q_append p q)

-- a set of rules that follows
pub record Follows (next : State → Next) : Type 1 where
  follows : {A : Type 0} {ρ : ℕ → ℕ} {R R' : Frame} {s s' : State} → Follow A ρ R R' → GrownState ρ R R' s s' → Nexts A ρ R R' (next s) (next s')

typed_none : (o : Option Entry) (f : Entry → State) → o ≡ none → typed o f ≡ stops unbound
unfolding typed
typed_none o f h = rw h

module _ {A : Type 0} {ρ : ℕ → ℕ} {R R' : Frame} (b : Follow A ρ R R') where
  -- a variable: its type grows with the frame
  typed_grown : {σ : ℕ → ℕ} {S S' : Frame} → Onward ρ R R' σ S S' → (f f' : Term → State) → ((t : Term) → GrownState ρ R R' (f t) (f' (rename σ t))) → (j : ℕ)
      → Nexts A ρ R R' (typed (entry_at S (suc j)) (λ e. f (lift (suc j) 0 (domain e)))) (typed (entry_at S' (suc (σ j))) (λ e. f' (lift (suc (σ j)) 0 (domain e))))
  unfolding typed
  typed_grown {σ} {S} {S'} o f f' s j = go (entry_at S (suc j)) refl
    where
      go : (x : Option Entry) → entry_at S (suc j) ≡ x → Nexts A ρ R R' (typed x (λ e. f (lift (suc j) 0 (domain e)))) (typed (entry_at S' (suc (σ j))) (λ e. f' (lift (suc (σ j)) 0 (domain e))))
      go none h = n_stops (λ a. typed_none (entry_at S' (suc (σ j))) _ (((onward b o).none_there a).unbound_at j h))
      go (some e) h = let i = (onward b o).image.image j e h in rw (i.there, at_domain i) (n_asks (q_holds (s (lift (suc j) 0 (domain e))) q_none))

  typed_zero : (S S' : Frame) (f f' : Entry → State) → Nexts A ρ R R' (typed (entry_at S 0) f) (typed (entry_at S' 0) f')
  unfolding typed
  typed_zero S S' f f' = rw (entry_at_zero S, entry_at_zero S') (n_stops (λ a. refl))

  -- past an abstractor
  own_past : {S S' : Frame} {B : Term} (σ : ℕ → ℕ) (W : List Term) → Onward ρ R R' (up σ) S S' → GrownState ρ R R' (own S (lift_all W) B) (own S' (lift_all (map (rename σ) W)) (rename (up σ) B))
  own_past σ W o = rw (← all_lift σ W) (grown_own o)

  copied_past : {S S' : Frame} {B : Term} (σ : ℕ → ℕ) (W Y : List Term) → Onward ρ R R' (up σ) S S'
      → GrownState ρ R R' (copied S (lift_all W) (lift_all Y) B) (copied S' (lift_all (map (rename σ) W)) (lift_all (map (rename σ) Y)) (rename (up σ) B))
  copied_past σ W Y o = rw (← all_lift σ W, ← all_lift σ Y) (grown_copied o)

  -- THE RULES
  plain_own : {σ : ℕ → ℕ} {S S' : Frame} → Onward ρ R R' σ S S' → (W : List Term) (B : Term) → Nexts A ρ R R' (plain_next (own S W B)) (plain_next (own S' (map (rename σ) W) (rename σ B)))
  unfolding plain_next rename map_entry
  plain_own o [] tau = n_asks q_none
  plain_own o (K ∷ W) tau = n_stops (λ a. refl)
  plain_own {S = S} {S' = S'} o W (var zero) = typed_zero S S' _ _
  plain_own {σ} {S} {S'} o W (var (suc j)) = typed_grown o (own S W) (own S' (map (rename σ) W)) (λ t. grown_own o) j
  plain_own o W (app K B) = n_asks (q_holds (grown_own o) (q_holds (grown_own o) q_none))
  plain_own o [] (abs U B) = n_asks (q_holds (grown_own o) (q_holds (grown_own (further (single U) o)) q_none))
  plain_own {σ} o (K ∷ W) (abs U B) = n_asks (q_holds (grown_own o) (q_same (grown_compare o) (q_holds (own_past σ W (further (pair K U) o)) q_none)))

  one_pass_own : {σ : ℕ → ℕ} {S S' : Frame} → Onward ρ R R' σ S S' → (W : List Term) (B : Term) → Nexts A ρ R R' (one_pass_next (own S W B)) (one_pass_next (own S' (map (rename σ) W) (rename σ B)))
  unfolding one_pass_next rename
  one_pass_own o W tau = plain_own o W tau
  one_pass_own o W (app K B) = plain_own o W (app K B)
  one_pass_own o [] (abs U B) = plain_own o [] (abs U B)
  one_pass_own o (K ∷ W) (abs U B) = plain_own o (K ∷ W) (abs U B)
  one_pass_own o W (var zero) = n_asks (q_holds (grown_copied o) q_none)
  one_pass_own o W (var (suc j)) = n_asks (q_holds (grown_copied o) q_none)

  one_pass_copied : {σ : ℕ → ℕ} {S S' : Frame} → Onward ρ R R' σ S S' → (W Y : List Term) (B : Term)
      → Nexts A ρ R R' (one_pass_next (copied S W Y B)) (one_pass_next (copied S' (map (rename σ) W) (map (rename σ) Y) (rename σ B)))
  unfolding one_pass_next rename map_entry lift_all
  one_pass_copied o [] [] tau = n_asks q_none
  one_pass_copied o (K ∷ W) [] tau = n_stops (λ a. refl)
  one_pass_copied o W (K ∷ Y) tau = n_stops (λ a. refl)
  one_pass_copied {S = S} {S' = S'} o W Y (var zero) = typed_zero S S' _ _
  one_pass_copied {σ} {S} {S'} o W Y (var (suc j)) = typed_grown o (copied S W Y) (copied S' (map (rename σ) W) (map (rename σ) Y)) (λ t. grown_copied o) j
  one_pass_copied o W Y (app K B) = n_asks (q_holds (grown_copied o) q_none)
  one_pass_copied o [] [] (abs U B) = n_asks (q_holds (grown_copied (further (single U) o)) q_none)
  one_pass_copied {σ} o (K ∷ W) [] (abs U B) = n_asks (q_same (grown_compare o) (q_holds (copied_past σ W [] (further (pair K U) o)) q_none))
  one_pass_copied {σ} o W (K ∷ Y) (abs U B) = n_asks (q_holds (copied_past σ W Y (further (pair K U) o)) q_none)

plain_state : {A : Type 0} {ρ : ℕ → ℕ} {R R' : Frame} {s s' : State} → Follow A ρ R R' → GrownState ρ R R' s s' → Nexts A ρ R R' (plain_next s) (plain_next s')
unfolding plain_next
plain_state b (grown_own {W = W} {B = B} o) = plain_own b o W B
plain_state b (grown_copied o) = n_stops (λ a. refl)

one_pass_state : {A : Type 0} {ρ : ℕ → ℕ} {R R' : Frame} {s s' : State} → Follow A ρ R R' → GrownState ρ R R' s s' → Nexts A ρ R R' (one_pass_next s) (one_pass_next s')
one_pass_state b (grown_own {W = W} {B = B} o) = one_pass_own b o W B
one_pass_state b (grown_copied {W = W} {Y = Y} {B = B} o) = one_pass_copied b o W Y B

pub plain_follows : Follows plain_next
plain_follows = record { follows = plain_state }

pub one_pass_follows : Follows one_pass_next
one_pass_follows = record { follows = one_pass_state }

-- DERIVATIONS
holds_grown : {next : State → Next} {A : Type 0} {ρ : ℕ → ℕ} {R R' : Frame} {n n' : Next} → Follows next → Follow A ρ R R' → (d : Holds next n) → Nexts A ρ R R' n n' → (d' : Holds next n') × (groups d' ≡ groups d)
unfolding groups same_ren
holds_grown f b nothing_left (n_asks q_none) = (nothing_left, refl)
holds_grown f b (met s d) (n_asks (q_same (grown_compare o) q)) =
    let r = holds_grown f b d (n_asks q) in
    (met (same_ren unchanged (onward b o).image s) r.0, ap (λ (l : List Group). s.group ∷ l) r.1)
holds_grown f b (by_rule c d) (n_asks (q_holds s q)) =
    let p = holds_grown f b c (f.follows b s) in
    let r = holds_grown f b d (n_asks q) in
    (by_rule p.0 r.0, ap₂ ◌++◌ p.1 r.1)

pub grow : {next : State → Next} {ρ : ℕ → ℕ} {R R' : Frame} {s s' : State} → Follows next → Grown ρ R R' → GrownState ρ R R' s s' → Holds next (next s) → Holds next (next s')
grow f g s d = let b = by_growth g in (holds_grown f b d (f.follows b s)).0

pub stays : {next : State → Next} {A : Type 0} {ρ : ℕ → ℕ} {R R' : Frame} {s s' : State} {gs : List Group} → Follows next → Follow A ρ R R' → GrownState ρ R R' s s' → With next s gs → With next s' gs
stays f b s w = let r = holds_grown f b w.derivation (f.follows b s) in record { derivation = r.0; same_groups = r.1 ∙ w.same_groups }

-- WALKS
record Walked (ρ : ℕ → ℕ) (R R' : Frame) (next : State → Next) (qs : List Question) (cs : List Comparison) (e : End) : Type 0 where
  comparisons : List Comparison
  grown : GrownComparisons ρ R R' cs comparisons
  walk : Walk next qs comparisons e

asked : {A : Type 0} {ρ : ℕ → ℕ} {R R' : Frame} {n n' : Next} {ps : List Question} → Nexts A ρ R R' n n' → n ≡ asks ps → (ps' : List Question) × (n' ≡ asks ps') × Questions ρ R R' ps ps'
asked (n_asks {qs' = qs'} q) h = (qs', refl, rw (asks_inj h) at q)
asked (n_stops e) h = asks_stops (sym h)

stopped_too : {ρ : ℕ → ℕ} {R R' : Frame} {n n' : Next} {x : Stop} → Nexts (Unit {0}) ρ R R' n n' → n ≡ stops x → n' ≡ stops x
stopped_too (n_asks q) h = asks_stops h
stopped_too (n_stops e) h = e tt ∙ h

walk_grown : {next : State → Next} {ρ : ℕ → ℕ} {R R' : Frame} {qs qs' : List Question} {cs : List Comparison} {e : End} → Follows next → Follow (Unit {0}) ρ R R'
    → Walk next qs cs e → Questions ρ R R' qs qs' → Walked ρ R R' next qs' cs e
walk_grown f b walk_end q_none = record { comparisons = []; grown = grown_none; walk = walk_end }
walk_grown f b (walk_same w) (q_same {c' = c'} c q) =
    let r = walk_grown f b w q in
    record { comparisons = c' ∷ r.comparisons; grown = grown_more c r.grown; walk = walk_same r.walk }
walk_grown f b (walk_asks h w) (q_holds s q) =
    let a = asked (f.follows b s) h in
    let r = walk_grown f b w (q_append a.2 q) in
    record { comparisons = r.comparisons; grown = r.grown; walk = walk_asks a.1 r.walk }
walk_grown f b (walk_stops h) (q_holds s q) = record { comparisons = []; grown = grown_none; walk = walk_stops (stopped_too (f.follows b s) h) }

pub demands : {next : State → Next} {ρ : ℕ → ℕ} {R R' : Frame} {s s' : State} {cs : List Comparison} {e : End} → Follows next → Grown ρ R R' → GrownState ρ R R' s s'
    → WalkFrom next s cs e → GrownWalk ρ R R' next s' cs e
demands f g s w = let r = walk_grown f (by_growth g) w (q_holds s q_none) in record { comparisons = r.comparisons; grown = r.grown; walk = r.walk }
