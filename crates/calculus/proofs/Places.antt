-- Steps at places of a term.
-- Assumes nothing.
use Prim.Native.Nat.{ℕ, zero, suc, ◌-◌, ◌≤◌}
use mathlib.Core.Path.{◌≡◌, refl}
use mathlib.Core.List.{List, ◌∷◌}
use native.Mathlib.Omega.{arith}
use borrow.Author.Tests.{le-ltb}
use Rattle.calculus.specs.Terms.{Term, tau, var, app, abs, size}
use Rattle.calculus.specs.Frames.{Frame, ◌▹◌}
use Rattle.calculus.specs.Steps.{Reach, Kind, refused, past_end, map_outcome, entry_of, unmatched, step_at}

pub step_past : (x : Reach) (κ : Kind) (R : Frame) (M : List Term) (t : Term) (p : ℕ) → size t ≤ p → step_at x κ R M t p ≡ refused past_end
unfolding step_at size map_outcome
step_past x κ R M tau zero h = absurd (omega arith)
step_past x κ R M tau (suc p) h = refl
step_past x κ R M (var k) zero h = absurd (omega arith)
step_past x κ R M (var k) (suc p) h = refl
step_past x κ R M (app K B) zero h = absurd (omega arith)
step_past x κ R M (app K B) (suc p) h = rw (le-ltb p (size K) (omega arith), step_past x κ R (K ∷ M) B (p - size K) (omega arith))
step_past x κ R M (abs U B) zero h = absurd (omega arith)
step_past x κ R M (abs U B) (suc p) h = rw (le-ltb p (size U) (omega arith), step_past x κ (R ▹ entry_of M U) (unmatched x M) B (p - size U) (omega arith))
