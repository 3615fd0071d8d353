-- The way to a place of a term, counted in symbols from 0, along which a step descends; and what stands along it.
-- Assumes nothing.
use Rattle.std.specs.Prelude.{ℕ, suc, ◌+◌, ◌<◌, List, [], ◌∷◌}
use Rattle.calculus.specs.Terms.{Term, app, abs, size}
use Rattle.calculus.specs.Frames.{Frame, ◌▹◌}
use Rattle.calculus.specs.Steps.{couples, entry_of, unmatched}

-- The subterm u stands at place p of t: at its start, inside its K, after ⟨K⟩, inside its U, or after [U].
pub data Way : Term → ℕ → Term → Type 0 where
  here : {t : Term} → Way t 0 t
  in_argument : {K B u : Term} {p : ℕ} → p < size K → Way K p u → Way (app K B) (suc p) u
  past_argument : {K B u : Term} {p : ℕ} → Way B p u → Way (app K B) (suc (size K + p)) u
  in_domain : {U B u : Term} {p : ℕ} → p < size U → Way U p u → Way (abs U B) (suc p) u
  past_domain : {U B u : Term} {p : ℕ} → Way B p u → Way (abs U B) (suc (size U + p)) u

-- The term with x in the place of that subterm.
unfoldable pub put : {t u : Term} {p : ℕ} → Way t p u → Term → Term
put here x = x
put (in_argument {B = B} l w) x = app (put w x) B
put (past_argument {K = K} w) x = app K (put w x)
put (in_domain {B = B} l w) x = abs (put w x) B
put (past_domain {U = U} w) x = abs U (put w x)

-- The frame there, as `step_at` has it: t stands after R, and M are the applicators before t in its train that are not yet matched.
unfoldable pub frame_at : {t u : Term} {p : ℕ} → Frame → List Term → Way t p u → Frame
frame_at R M here = R
frame_at R M (in_argument l w) = frame_at R [] w
frame_at R M (past_argument {K = K} w) = frame_at R (K ∷ M) w
frame_at R M (in_domain l w) = frame_at R [] w
frame_at R M (past_domain {U = U} w) = frame_at (R ▹ entry_of M U) (unmatched couples M) w

-- The depth and the height there, where t has d and h.
unfoldable pub depth_at : {t u : Term} {p : ℕ} → ℕ → Way t p u → ℕ
depth_at d here = d
depth_at d (in_argument l w) = depth_at d w
depth_at d (past_argument w) = depth_at d w
depth_at d (in_domain l w) = depth_at d w
depth_at d (past_domain w) = depth_at (suc d) w

unfoldable pub height_at : {t u : Term} {p : ℕ} → ℕ → Way t p u → ℕ
height_at h here = h
height_at h (in_argument l w) = height_at (suc h) w
height_at h (past_argument w) = height_at h w
height_at h (in_domain l w) = height_at (suc h) w
height_at h (past_domain w) = height_at h w
