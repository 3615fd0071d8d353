-- Without kind 3 every turn is that of the check with kinds 1 and 2, over either reach.
-- Assumes nothing.
use Prim.Native.Nat.{ℕ, zero, suc, ◌+◌}
use mathlib.Core.Path.{◌≡◌, refl, ap, ◌∙◌}
use mathlib.Core.Bool.{Bool, true, false, cond}
use mathlib.Core.Option.{Option, none, some}
use mathlib.Core.List.{List, [], ◌∷◌, ◌++◌}
use lib.ListN.{drop}
use Rattle.calculus.specs.Terms.{Term}
use Rattle.calculus.specs.Frames.{Frame}
use Rattle.calculus.specs.Types.{type}
use Rattle.calculus.specs.Steps.{Step, Reach, couples, base, full, Reason, Outcome, reached, refused, step_by}
use Rattle.calculus.specs.Rules.{Group, State, Next, asks, stops, one_pass_next}
use Rattle.calculus.specs.Whole.{NoWhole, one_more, NoWholes, no_groups, one_group}
use Rattle.calculus.proofs.Later.{same_step}
use Rattle.verdict.specs.Bounds.{state_fits, body_fits}
use Rattle.verdict.specs.Verdict.{Item, state_at, same_at, placed, Ground, Progress, turned, completed, Run, OtherSide, right_next, left_reached, Configuration, on_state, on_step, Status, at_turn, done, identical, forms_meet, side_from, with_group, with_type, to_turn, replaced, stepped, turn_by, turn, onward, run_by, states, steps, finish_by, asked, begun, start, check_term_by}
use Rattle.verdict.specs.Claims.{after_turns, FormerTurn, for_state, for_step, FormerRuns}

abbrev ClearSide : OtherSide → Type 0
ClearSide (right_next rs r) = NoWhole rs
ClearSide (left_reached l) = Unit {0}

-- no step of kind 3 is left
data Clear : Status → Type 0 where
  clear_state : {place : ℕ} {ws : List ℕ} {s : State} {rest : List Item} {p : Progress} → NoWholes p.left → Clear (at_turn (on_state place ws s rest) p)
  clear_step : {place n : ℕ} {R : Frame} {o : OtherSide} {s : Step} {ss : List Step} {t : Term} {rest : List Item} {p : Progress}
      → ClearSide o → (s.kind ≡ 3 → ⊥) → NoWhole ss → NoWholes p.left → Clear (at_turn (on_step place R o n s ss t rest) p)
  clear_done : {x : Run} → Clear (done x)

clear_cond : (b : Bool) {a c : Status} → Clear a → Clear c → Clear (cond b a c)
clear_cond true x y = x
clear_cond false x y = y

fewer : {gs : List Group} → NoWholes gs → NoWholes (drop 1 gs)
fewer no_groups = no_groups
fewer (one_group g h) = h

abbrev Goes : (Progress → Status) → Type 0
Goes more = (q : Progress) → NoWholes q.left → Clear (more q)

clear_forms : (place : ℕ) (l r : Term) (more : Progress → Status) (p : Progress) → Goes more → NoWholes p.left → Clear (forms_meet place l r more p)
unfolding forms_meet completed
clear_forms place l r more p g n = clear_cond (identical l r) (g _ (fewer n)) clear_done

clear_side : (place : ℕ) (R : Frame) (o : OtherSide) (n : ℕ) (ss : List Step) (t : Term) (rest : List Item) (more : Progress → Status) (p : Progress)
    → ClearSide o → NoWhole ss → Goes more → NoWholes p.left → Clear (side_from place R o n ss t rest more p)
unfolding side_from
clear_side place R o n (s ∷ ss) t rest more p c (one_more h k) g w = clear_step c h k w
clear_side place R (right_next (s ∷ ss) r) n [] t rest more p (one_more h k) m g w = clear_step tt h k w
clear_side place R (right_next [] r) n [] t rest more p c m g w = clear_forms place t r more p g w
clear_side place R (left_reached l) n [] t rest more p c m g w = clear_forms place l t more p g w

clear_group : (place : ℕ) (R : Frame) (T U : Term) (gs : List Group) (rest : List Item) (more : Progress → Status) (p : Progress)
    → NoWholes gs → Goes more → NoWholes p.left → Clear (with_group place R T U gs rest more p)
unfolding with_group
clear_group place R T U [] rest more p n g w = clear_done
clear_group place R T U (h ∷ hs) rest more p (one_group k n) g w =
    clear_cond (body_fits R T) (clear_cond (body_fits R U) (clear_side place R (right_next h.right U) 0 h.left T rest more p k.right_side k.left_side g w) clear_done) clear_done

clear_type : (place : ℕ) (R : Frame) (U : Term) (o : Option Term) (rest : List Item) (more : Progress → Status) (p : Progress) → Goes more → NoWholes p.left → Clear (with_type place R U o rest more p)
unfolding with_type
clear_type place R U none rest more p g w = clear_done
clear_type place R U (some T) rest more p g w = clear_group place R T U p.left rest more p w g w

clear_items : (is : List Item) → Goes (to_turn is)
unfolding to_turn
clear_items [] p w = clear_done
clear_items (state_at place ws s ∷ rest) p w = clear_state w
clear_items (same_at place R K U ∷ rest) p w = clear_type place R U (type R K) rest (to_turn rest) p (clear_items rest) w

clear_replaced : (place : ℕ) (ws : List ℕ) (n : Next) (rest : List Item) (p : Progress) → NoWholes p.left → Clear (replaced place ws n rest p)
unfolding replaced
clear_replaced place ws (asks qs) rest p w = clear_items (placed place (suc place) ws qs ++ rest) p w
clear_replaced place ws (stops x) rest p w = clear_done

clear_stepped : (R : Frame) (f : Reason → Ground) (g : Ground) (more : Term → Progress → Status) (o : Outcome) (p : Progress) → ((u : Term) → Clear (more u p)) → Clear (stepped R f g more o p)
unfolding stepped
clear_stepped R f g more (refused why) p h = clear_done
clear_stepped R f g more (reached u) p h = clear_cond (body_fits R u) (h u) clear_done

clear_turn : {c : Configuration} {p : Progress} (x : Reach) → Clear (at_turn c p) → Clear (turn_by (full x) c (turned 1 p))
unfolding turn_by turned
clear_turn x (clear_state {place} {ws} {s} {rest} w) = clear_cond (state_fits s) (clear_replaced place ws (one_pass_next s) rest _ w) clear_done
clear_turn x (clear_step {place} {n} {R} {o} {s} {ss} {t} {rest} c h k w) =
    clear_stepped R _ _ _ (step_by (full x) R s t) _ (λ u. clear_side place R o (suc n) ss u rest (to_turn rest) _ c k (clear_items rest) w)

same_turn : {c : Configuration} {p : Progress} (x : Reach) → Clear (at_turn c p) → turn_by (base x) c (turned 1 p) ≡ turn_by (full x) c (turned 1 p)
unfolding turn_by
same_turn x (clear_state w) = refl
same_turn x (clear_step {R = R} {s = s} {t = t} c h k w) = rw (same_step x R s t h) refl

same_run : (x : Reach) (n : ℕ) (a : Status) → Clear a → run_by (base x) n a ≡ run_by (full x) n a
unfolding run_by onward
same_run x zero (at_turn c p) h = refl
same_run x zero (done r) h = refl
same_run x (suc n) (at_turn c p) h = ap (run_by (base x) n) (same_turn x h) ∙ same_run x n (turn_by (full x) c (turned 1 p)) (clear_turn x h)
same_run x (suc n) (done r) h = refl

as_before : (x : Reach) (t : Term) (gs : List Group) → NoWholes gs → check_term_by (base x) t gs ≡ check_term_by (full x) t gs
unfolding check_term_by finish_by
as_before x t gs w = same_run x (states (asked t) + steps gs) (to_turn (asked t) (begun gs)) (clear_items (asked t) (begun gs) w)

later_clear : (n : ℕ) (a : Status) → Clear a → Clear (after_turns n a)
unfolding after_turns
later_clear zero a x = x
later_clear (suc n) (at_turn c p) x = later_clear n (turn c (turned 1 p)) (clear_turn couples x)
later_clear (suc n) (done r) x = clear_done

former_turn : {c : Configuration} {p : Progress} → Clear (at_turn c p) → FormerTurn c
former_turn (clear_state w) = for_state
former_turn (clear_step c h k w) = for_step h

turns : (t : Term) (gs : List Group) (n : ℕ) (c : Configuration) (p : Progress) → NoWholes gs → after_turns n (start t gs) ≡ at_turn c p → FormerTurn c
unfolding start
turns t gs n c p w e = former_turn (rw e at (later_clear n (to_turn (asked t) (begun gs)) (clear_items (asked t) (begun gs) w)))

pub former_runs : FormerRuns
former_runs = record { turns = turns; as_before = as_before }
