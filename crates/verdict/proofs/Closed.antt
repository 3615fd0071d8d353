-- The one-pass rules lead from closed questions to closed ones, so that two forms that differ have bytes of their own.
-- Assumes nothing.
use Prim.Native.Nat.{ℕ, ◌+◌}
use mathlib.Core.Path.{◌≡◌, refl}
use mathlib.Core.Bool.{true}
use mathlib.Core.Option.{Option, none, some}
use mathlib.Core.List.{List, [], ◌∷◌, ◌++◌}
use native.Mathlib.Omega.{arith}
use lib.Dec.{leb}
use borrow.Author.Tests.{leb-true}
use Rattle.calculus.specs.Terms.{Term, tau, var, app, abs, size, lift, Closed, closed_app, closed_abs}
use Rattle.calculus.specs.Frames.{Entry, domain, Frame, depth, entry_at, ClosedFrame, closed_empty, closed_entry, closed_single, closed_pair}
use Rattle.calculus.specs.Steps.{Step}
use Rattle.calculus.specs.Rules.{Group, State, own, copied, compare, Question, holds, same, Next, asks, stops, typed, one_pass_next}
use Rattle.calculus.proofs.Closed.{Before, no_before, before, before_lift, closedness}
use Rattle.calculus.proofs.End.{domains, domain_at}
use Rattle.code.specs.Limits.{longest_term, most_abstractors}
use Rattle.code.specs.Code.{Coded}
use Rattle.code.specs.Scope.{scope}
use Rattle.code.proofs.Scope.{closed_coded}
use Rattle.verdict.specs.Bounds.{body_fits}
use Rattle.verdict.specs.Verdict.{Side, Ground, untyped, something_waits, no_group, step_refused, state_outgrown, type_outgrown, domain_outgrown, step_outgrown, different_bodies, not_reached, Progress}
use Rattle.verdict.specs.Claims.{Until, until_here, until_met, until_asks, SideStops, stops_refused, stops_outgrown, stops_later, StopsAt, outgrown_state, waiting_state, type_is_none, group_missing, outgrown_type, outgrown_domain, left_stops, right_stops, forms_differ, Stopped}
use Rattle.verdict.proofs.Runs.{cond_both}

data ClosedState : State → Type 0 where
  closed_own : {R : Frame} {W : List Term} {B : Term} → ClosedFrame R → Before (depth R) W → Closed (depth R) B → ClosedState (own R W B)
  closed_copied : {R : Frame} {W Y : List Term} {B : Term} → ClosedFrame R → Before (depth R) W → Before (depth R) Y → Closed (depth R) B → ClosedState (copied R W Y B)

data ClosedAll : List Question → Type 0 where
  closed_none : ClosedAll []
  closed_holds : {s : State} {qs : List Question} → ClosedState s → ClosedAll qs → ClosedAll (holds s ∷ qs)
  closed_same : {R : Frame} {K U : Term} {qs : List Question} → ClosedFrame R → Closed (depth R) K → Closed (depth R) U → ClosedAll qs → ClosedAll (same (compare R K U) ∷ qs)

abbrev ClosedNext : Next → Type 0
ClosedNext (asks qs) = ClosedAll qs
ClosedNext (stops x) = Unit {0}

closed_typed : (R : Frame) (W Y : List Term) (k : ℕ) → ClosedFrame R → Before (depth R) W → Before (depth R) Y → (o : Option Entry) → entry_at R k ≡ o → ClosedNext (typed o (λ e. copied R W Y (lift k 0 (domain e))))
unfolding typed
closed_typed R W Y k r w y none h = tt
closed_typed R W Y k r w y (some e) h = closed_holds (closed_copied r w y (domain_at k (domains r) h)) closed_none

rule_closed : (s : State) → ClosedState s → ClosedNext (one_pass_next s)
unfolding one_pass_next depth
rule_closed (own R [] tau) c = closed_none
rule_closed (own R (K ∷ W) tau) c = tt
rule_closed (own R W (app K B)) (closed_own r w (closed_app k b)) = closed_holds (closed_own r no_before k) (closed_holds (closed_own r (before k w) b) closed_none)
rule_closed (own R [] (abs U B)) (closed_own r w (closed_abs u b)) = closed_holds (closed_own r no_before u) (closed_holds (closed_own (closed_entry r (closed_single u)) no_before b) closed_none)
rule_closed (own R (K ∷ W) (abs U B)) (closed_own r (before k w) (closed_abs u b)) =
    closed_holds (closed_own r no_before u) (closed_same r k u (closed_holds (closed_own (closed_entry r (closed_pair k u)) (before_lift w) b) closed_none))
rule_closed (own R W (var k)) (closed_own r w v) = closed_holds (closed_copied r w no_before v) closed_none
rule_closed (copied R [] [] tau) c = closed_none
rule_closed (copied R (K ∷ W) [] tau) c = tt
rule_closed (copied R W (K ∷ Y) tau) c = tt
rule_closed (copied R W Y (var k)) (closed_copied r w y v) = closed_typed R W Y k r w y (entry_at R k) refl
rule_closed (copied R W Y (app K B)) (closed_copied r w y (closed_app k b)) = closed_holds (closed_copied r w (before k y) b) closed_none
rule_closed (copied R [] [] (abs U B)) (closed_copied r w y (closed_abs u b)) = closed_holds (closed_copied (closed_entry r (closed_single u)) no_before no_before b) closed_none
rule_closed (copied R (K ∷ W) [] (abs U B)) (closed_copied r (before k w) y (closed_abs u b)) =
    closed_same r k u (closed_holds (closed_copied (closed_entry r (closed_pair k u)) (before_lift w) no_before b) closed_none)
rule_closed (copied R W (K ∷ Y) (abs U B)) (closed_copied r w (before k y) (closed_abs u b)) = closed_holds (closed_copied (closed_entry r (closed_pair k u)) (before_lift w) (before_lift y) b) closed_none

closed_append : {ps qs : List Question} → ClosedAll ps → ClosedAll qs → ClosedAll (ps ++ qs)
closed_append closed_none d = d
closed_append (closed_holds s c) d = closed_holds s (closed_append c d)
closed_append (closed_same r k u c) d = closed_same r k u (closed_append c d)

until_closed : {qs due : List Question} {gs : List Group} → Until one_pass_next qs gs due → ClosedAll qs → ClosedAll due
until_closed until_here c = c
until_closed (until_met s w) (closed_same r k u c) = until_closed w c
until_closed (until_asks {s = s} e w) (closed_holds c d) = until_closed w (closed_append (rw e at (rule_closed s c)) d)

-- what is known of two forms that differ
pub record Forms (l r : Term) : Type 0 where
  pub left_coded : Coded l
  pub right_coded : Coded r
  pub differ : l ≡ r → ⊥

abbrev FormsOf : Ground → Type 0
FormsOf (untyped i) = Unit {0}
FormsOf (something_waits i n) = Unit {0}
FormsOf (no_group i) = Unit {0}
FormsOf (step_refused i side n why) = Unit {0}
FormsOf (state_outgrown i) = Unit {0}
FormsOf (type_outgrown i) = Unit {0}
FormsOf (domain_outgrown i) = Unit {0}
FormsOf (step_outgrown i side n) = Unit {0}
FormsOf (different_bodies i l r) = Forms l r
FormsOf (not_reached i) = Unit {0}

fits_coded : (R : Frame) {t : Term} → Closed (depth R) t → body_fits R t ≡ true → Coded t
unfolding body_fits
fits_coded R {t} c f = closed_coded c (omega (arith, leb-true (depth R + scope t) most_abstractors (cond_both (leb (size t) longest_term) (leb (depth R + scope t) most_abstractors) f).1))

side_forms : {place : ℕ} {side : Side} {R : Frame} {n : ℕ} {ss : List Step} {t : Term} {g : Ground} → SideStops place side R n ss t g → FormsOf g
side_forms (stops_refused e) = tt
side_forms (stops_outgrown e b) = tt
side_forms (stops_later e d) = side_forms d

forms : {qs : List Question} {gs : List Group} {g : Ground} → StopsAt qs gs g → ClosedAll qs → FormsOf g
forms (outgrown_state e) c = tt
forms (waiting_state e) c = tt
forms (type_is_none e) c = tt
forms (group_missing e) c = tt
forms (outgrown_type e b) c = tt
forms (outgrown_domain e b) c = tt
forms (left_stops e d) c = side_forms d
forms (right_stops e l d) c = side_forms d
forms (forms_differ {R = R} {g = g} t x y a b n) (closed_same r k u c) =
    record { left_coded = fits_coded R (closedness.replay_closed g.left r (closedness.type_closed r k t) x) a; right_coded = fits_coded R (closedness.replay_closed g.right r u y) b; differ = n }

pub stopped_forms : {t : Term} {gs : List Group} {g : Ground} {q : Progress} → Closed 0 t → Stopped t gs g q → FormsOf g
unfolding depth
stopped_forms c s = forms s.stops_at (until_closed s.walk (closed_holds (closed_own closed_empty no_before c) closed_none))
