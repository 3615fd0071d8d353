-- Under a later reading a turn is the same turn, unless its step was refused; and that ends the run.
-- Assumes nothing.
use Prim.Native.Nat.{ℕ, zero, suc, ◌+◌}
use mathlib.Core.Path.{◌≡◌, refl, ap, ◌∙◌}
use mathlib.Core.List.{List}
use Rattle.calculus.specs.Terms.{Term}
use Rattle.calculus.specs.Steps.{Reading, Outcome, reached, refused, step_by}
use Rattle.calculus.specs.Rules.{Group}
use Rattle.calculus.specs.Whole.{Later}
use Rattle.calculus.proofs.Later.{steps_stay}
use Rattle.verdict.specs.Verdict.{Progress, turned, Run, Configuration, on_state, on_step, Status, at_turn, done, to_turn, stepped, turn_by, onward, run_by, states, steps, finish_by, asked, begun, check_term_by}
use Rattle.verdict.specs.Claims.{RefusedStep, refused_step, LaterRuns}

run_done : (y : Reading) (n : ℕ) (r : Run) → run_by y n (done r) ≡ r
unfolding run_by onward
run_done y zero r = refl
run_done y (suc n) r = refl

module _ {y z : Reading} (l : Later y z) where
  -- n turns are left
  same_turn : (n : ℕ) (c : Configuration) (p : Progress) → (RefusedStep (run_by y n (turn_by y c p)) → ⊥) → turn_by z c p ≡ turn_by y c p
  unfolding turn_by stepped
  same_turn n (on_state place ws s rest) p h = refl
  same_turn n (on_step place R o m s ss t rest) p h = go (step_by y R s t) refl
    where
      go : (x : Outcome) → step_by y R s t ≡ x → turn_by z (on_step place R o m s ss t rest) p ≡ turn_by y (on_step place R o m s ss t rest) p
      go (refused why) q = absurd (h (rw (q, run_done y n _) refused_step))
      go (reached u) q = rw (q, steps_stay l R s t u q) refl

  same_run : (n : ℕ) (a : Status) → (RefusedStep (run_by y n a) → ⊥) → run_by z n a ≡ run_by y n a
  unfolding run_by onward
  same_run zero (at_turn c p) h = refl
  same_run zero (done r) h = refl
  same_run (suc n) (at_turn c p) h = ap (run_by z n) (same_turn n c (turned 1 p) h) ∙ same_run n (turn_by y c (turned 1 p)) h
  same_run (suc n) (done r) h = refl

  stays : (t : Term) (gs : List Group) → (RefusedStep (check_term_by y t gs) → ⊥) → check_term_by z t gs ≡ check_term_by y t gs
  unfolding check_term_by finish_by
  stays t gs h = same_run (states (asked t) + steps gs) (to_turn (asked t) (begun gs)) h

pub later_runs : LaterRuns
later_runs = record { stays = stays }
