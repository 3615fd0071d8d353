-- Laws of the way to a place of a term: the step there, sizes, scopes, closed terms, and the type at the last place.
-- Assumes nothing.
use Prim.Native.Nat.{ℕ, zero, suc, ◌+◌, ◌-◌, ◌≤◌, ◌<◌, max}
use mathlib.Core.Path.{◌≡◌, refl, ap, sym, subst, ◌∙◌}
use mathlib.Core.Option.{Option, none, some, map}
use mathlib.Core.List.{List, [], ◌∷◌}
use native.Mathlib.Omega.{arith}
use borrow.Author.Tests.{lt-ltb, le-ltb}
use Rattle.calculus.specs.Terms.{Term, tau, var, app, abs, size, Closed, closed_app, closed_abs}
use Rattle.calculus.specs.Frames.{Entry, single, domain, Frame, ◌▹◌, depth, entry_at, ClosedFrame, closed_entry}
use Rattle.calculus.specs.Types.{type_of_var, type}
use Rattle.calculus.specs.Steps.{Kind, couples, map_outcome, step_here, entry_of, unmatched, step_at}
use Rattle.calculus.proofs.Lift.{lo, hi, cmp}
use Rattle.calculus.proofs.Matching.{map_none, map_map}
use Rattle.calculus.proofs.Closed.{Before, no_before, before, before_past, entry_of_closed}
use Rattle.code.specs.Scope.{scope}
use Rattle.code.proofs.RoundTrip.{odd}
use Rattle.bodies.specs.Ways.{Way, here, in_argument, past_argument, in_domain, past_domain, put, frame_at, depth_at, height_at}

-- ---- A way leads to each place.
beyond : {p n : ℕ} → n ≤ p → p ≡ n + (p - n)
beyond h = omega arith

argument_beyond : {K B u : Term} {p : ℕ} → size K ≤ p → Way B (p - size K) u → Way (app K B) (suc p) u
argument_beyond h w = rw (beyond h) (past_argument w)

domain_beyond : {U B u : Term} {p : ℕ} → size U ≤ p → Way B (p - size U) u → Way (abs U B) (suc p) u
domain_beyond h w = rw (beyond h) (past_domain w)

pub place_way : (t : Term) (p : ℕ) → p < size t → (u : Term) × Way t p u
unfolding size
place_way tau zero h = (tau, here)
place_way tau (suc p) h = absurd (omega arith)
place_way (var k) zero h = (var k, here)
place_way (var k) (suc p) h = absurd (omega arith)
place_way (app K B) zero h = (app K B, here)
place_way (app K B) (suc p) h = elim (cmp (size K) p) [
  | lo a ↦ let r = place_way B (p - size K) (omega arith) in (r.0, argument_beyond a r.1)
  | hi a ↦ let r = place_way K p a in (r.0, in_argument a r.1)
]
place_way (abs U B) zero h = (abs U B, here)
place_way (abs U B) (suc p) h = elim (cmp (size U) p) [
  | lo a ↦ let r = place_way B (p - size U) (omega arith) in (r.0, domain_beyond a r.1)
  | hi a ↦ let r = place_way U p a in (r.0, in_domain a r.1)
]

-- ---- Sizes, and the term itself.
pub way_within : {t u : Term} {p : ℕ} → Way t p u → p + size u ≤ size t
unfolding size
way_within here = omega arith
way_within (in_argument h w) = omega (arith, way_within w)
way_within (past_argument w) = omega (arith, way_within w)
way_within (in_domain h w) = omega (arith, way_within w)
way_within (past_domain w) = omega (arith, way_within w)

pub put_same : {t u : Term} {p : ℕ} (w : Way t p u) → put w u ≡ t
unfolding put
put_same here = refl
put_same (in_argument {B = B} h w) = ap (λ x. app x B) (put_same w)
put_same (past_argument {K = K} w) = ap (app K) (put_same w)
put_same (in_domain {B = B} h w) = ap (λ x. abs x B) (put_same w)
put_same (past_domain {U = U} w) = ap (abs U) (put_same w)

pub put_size : {t u : Term} {p : ℕ} (w : Way t p u) (x : Term) → size (put w x) + size u ≡ size t + size x
unfolding size put
put_size here x = omega arith
put_size (in_argument h w) x = omega (arith, put_size w x)
put_size (past_argument w) x = omega (arith, put_size w x)
put_size (in_domain h w) x = omega (arith, put_size w x)
put_size (past_domain w) x = omega (arith, put_size w x)

-- ---- A step at a place is the step at the start of what stands there, after the frame there.
step_start : (κ : Kind) (R : Frame) (M : List Term) (t : Term) → step_at couples κ R M t 0 ≡ step_here couples κ R t
unfolding step_at
step_start κ R M tau = refl
step_start κ R M (var k) = refl
step_start κ R M (app K B) = refl
step_start κ R M (abs U B) = refl

less : (n p : ℕ) → n + p - n ≡ p
less n p = omega arith

pub step_along : {t u : Term} {p : ℕ} (κ : Kind) (R : Frame) (M : List Term) (w : Way t p u) → step_at couples κ R M t p ≡ map_outcome (put w) (step_here couples κ (frame_at R M w) u)
unfolding step_at put frame_at
step_along κ R M (here {t}) = step_start κ R M t ∙ sym (map_none (step_here couples κ R t))
step_along κ R M (in_argument {K} {B} {u} {p} h w) = rw (lt-ltb p (size K) h, step_along κ R [] w) (map_map (λ X. app X B) (put w) (step_here couples κ (frame_at R [] w) u))
step_along κ R M (past_argument {K} {B} {u} {p} w) =
    rw (le-ltb (size K + p) (size K) (omega arith), less (size K) p, step_along κ R (K ∷ M) w) (map_map (app K) (put w) (step_here couples κ (frame_at R (K ∷ M) w) u))
step_along κ R M (in_domain {U} {B} {u} {p} h w) = rw (lt-ltb p (size U) h, step_along κ R [] w) (map_map (λ X. abs X B) (put w) (step_here couples κ (frame_at R [] w) u))
step_along κ R M (past_domain {U} {B} {u} {p} w) =
    rw (le-ltb (size U + p) (size U) (omega arith), less (size U) p, step_along κ (R ▹ entry_of M U) (unmatched couples M) w)
    (map_map (abs U) (put w) (step_here couples κ (frame_at (R ▹ entry_of M U) (unmatched couples M) w) u))

-- ---- Depths and scopes.
frame_depth : {t u : Term} {p : ℕ} (d : ℕ) (R : Frame) (M : List Term) (w : Way t p u) → depth (frame_at R M w) + d ≡ depth R + depth_at d w
unfolding depth_at frame_at depth
frame_depth d R M here = refl
frame_depth d R M (in_argument h w) = frame_depth d R [] w
frame_depth d R M (past_argument {K = K} w) = frame_depth d R (K ∷ M) w
frame_depth d R M (in_domain h w) = frame_depth d R [] w
frame_depth d R M (past_domain {U = U} w) = omega (arith, frame_depth (suc d) (R ▹ entry_of M U) (unmatched couples M) w)

pub way_scope : {t u : Term} {p : ℕ} (d : ℕ) (w : Way t p u) → (d ≤ depth_at d w) × (depth_at d w + scope u ≤ d + scope t)
unfolding depth_at scope
way_scope d here = (omega arith, omega arith)
way_scope d (in_argument h w) = let r = way_scope d w in (omega arith, omega arith)
way_scope d (past_argument w) = let r = way_scope d w in (omega arith, omega arith)
way_scope d (in_domain h w) = let r = way_scope d w in (omega arith, omega arith)
way_scope d (past_domain w) = let r = way_scope (suc d) w in (omega arith, omega arith)

pub put_scope : {t u : Term} {p : ℕ} (d : ℕ) (w : Way t p u) (x : Term) → (depth_at d w + scope x ≤ d + scope (put w x)) × (d + scope (put w x) ≤ max (d + scope t) (depth_at d w + scope x))
unfolding depth_at scope put
put_scope d here x = (omega arith, omega arith)
put_scope d (in_argument h w) x = let r = put_scope d w x in (omega arith, omega arith)
put_scope d (past_argument w) x = let r = put_scope d w x in (omega arith, omega arith)
put_scope d (in_domain h w) x = let r = put_scope d w x in (omega arith, omega arith)
put_scope d (past_domain w) x = let r = put_scope (suc d) w x in (omega arith, omega arith)

pub height_least : {t u : Term} {p : ℕ} (h : ℕ) (w : Way t p u) → (h ≤ height_at h w) × (height_at h w ≤ h + p)
unfolding height_at
height_least h here = (omega arith, omega arith)
height_least h (in_argument l w) = let r = height_least (suc h) w in (omega arith, omega arith)
height_least h (past_argument w) = let r = height_least h w in (omega arith, omega arith)
height_least h (in_domain l w) = let r = height_least (suc h) w in (omega arith, omega arith)
height_least h (past_domain w) = let r = height_least h w in (omega arith, omega arith)

-- An index above the depth means an entry of the frame outside.
farther : (R : Frame) (e : Entry) (j : ℕ) → 0 < j → entry_at (R ▹ e) (suc j) ≡ entry_at R j
unfolding entry_at
farther R e zero h = absurd (omega arith)
farther R e (suc j) h = refl

past : {o : Option Entry} (R : Frame) (e : Entry) (k d y : ℕ) → y < k + d → o ≡ entry_at (R ▹ e) (k + suc d - y) → o ≡ entry_at R (k + d - y)
past R e k d y l q = q ∙ ap (entry_at (R ▹ e)) (omega arith) ∙ farther R e (k + d - y) (omega arith)

same_place : (k d : ℕ) → k ≡ k + d - d
same_place k d = omega arith

pub means_outside : {t u : Term} {p : ℕ} (d : ℕ) (w : Way t p u) (R : Frame) (M : List Term) (k : ℕ) → depth_at d w < k + d → entry_at (frame_at R M w) k ≡ entry_at R (k + d - depth_at d w)
unfolding depth_at frame_at
means_outside d here R M k l = ap (entry_at R) (same_place k d)
means_outside d (in_argument h w) R M k l = means_outside d w R [] k l
means_outside d (past_argument {K = K} w) R M k l = means_outside d w R (K ∷ M) k l
means_outside d (in_domain h w) R M k l = means_outside d w R [] k l
means_outside d (past_domain {U = U} w) R M k l = past R (entry_of M U) k d (depth_at (suc d) w) l (means_outside (suc d) w (R ▹ entry_of M U) (unmatched couples M) k (omega arith))

-- ---- Closed terms.
closed_along : {R : Frame} {M : List Term} {t u : Term} {p : ℕ} (n : ℕ) → depth R ≡ n → ClosedFrame R → Before n M → Closed n t → (w : Way t p u) → Closed (depth (frame_at R M w)) u
unfolding depth frame_at
closed_along n q r c d here = rw q d
closed_along {R = R} n q r c (closed_app d b) (in_argument h w) = closed_along {R = R} {M = []} n q r no_before d w
closed_along {R = R} {M = M} n q r c (closed_app d b) (past_argument {K = K} w) = closed_along {R = R} {M = K ∷ M} n q r (before d c) b w
closed_along {R = R} n q r c (closed_abs d b) (in_domain h w) = closed_along {R = R} {M = []} n q r no_before d w
closed_along {R = R} {M = M} n q r c (closed_abs d b) (past_domain {U = U} w) = closed_along {R = R ▹ entry_of M U} {M = unmatched couples M} (suc n) (ap suc q) (closed_entry r (rw q (entry_of_closed c d))) (before_past couples c) b w

pub way_closed : {R : Frame} {t u : Term} {p : ℕ} → ClosedFrame R → Closed (depth R) t → (w : Way t p u) → Closed (depth R + depth_at 0 w) u
way_closed {R} {u = u} r c w = subst (λ n. Closed n u) (omega (arith, frame_depth 0 R [] w)) (closed_along (depth R) refl r no_before c w)

-- ---- The last terminal and the type. `type` makes every entry single, which changes no U.
pub data SameDomains : Frame → Frame → Type 0 where
  same_frame : {R : Frame} → SameDomains R R
  same_entry : {F G : Frame} {d e : Entry} → SameDomains F G → domain d ≡ domain e → SameDomains (F ▹ d) (G ▹ e)

pub domain_entry : (M : List Term) (U : Term) → domain (single U) ≡ domain (entry_of M U)
unfolding domain entry_of
domain_entry [] U = refl
domain_entry (K ∷ M) U = refl

same_at : {F G : Frame} (j k : ℕ) → SameDomains F G → type_of_var j (entry_at F k) ≡ type_of_var j (entry_at G k)
unfolding type_of_var entry_at
same_at j k same_frame = refl
same_at j zero (same_entry f q) = refl
same_at j (suc zero) (same_entry f q) = rw q
same_at j (suc (suc k)) (same_entry f q) = same_at j (suc k) f

-- Its last symbol, at place q, is tau, and the term has no type; or a variable, and its type is put there.
pub data LastIs (t : Term) (q : ℕ) : Type 0 where
  ends_tau : Way t q tau → ((R : Frame) → type R t ≡ none) → LastIs t q
  ends_variable : {k : ℕ} (w : Way t q (var k)) → ((F G : Frame) (M : List Term) → SameDomains F G → type F t ≡ map (put w) (type_of_var k (entry_at (frame_at G M w) k))) → LastIs t q

option_id : (o : Option Term) → o ≡ map (λ x. x) o
option_id none = refl
option_id (some x) = refl

option_map : (f g : Term → Term) (o : Option Term) → map f (map g o) ≡ map (λ x. f (g x)) o
option_map f g none = refl
option_map f g (some x) = refl

module _ (B : Term) where
  last_argument : (K : Term) {q : ℕ} → LastIs B q → LastIs (app K B) (suc (size K + q))
  unfolding type put frame_at
  last_argument K (ends_tau w f) = ends_tau (past_argument w) (λ R. ap (map (app K)) (f R))
  last_argument K (ends_variable {k} w f) = ends_variable (past_argument w)
      (λ F G M s. ap (map (app K)) (f F G (K ∷ M) s) ∙ option_map (app K) (put w) (type_of_var k (entry_at (frame_at G (K ∷ M) w) k)))

  last_domain : (U : Term) {q : ℕ} → LastIs B q → LastIs (abs U B) (suc (size U + q))
  unfolding type put frame_at
  last_domain U (ends_tau w f) = ends_tau (past_domain w) (λ R. ap (map (abs U)) (f (R ▹ single U)))
  last_domain U (ends_variable {k} w f) = ends_variable (past_domain w)
      (λ F G M s. ap (map (abs U)) (f (F ▹ single U) (G ▹ entry_of M U) (unmatched couples M) (same_entry {d = single U} {e = entry_of M U} s (domain_entry M U)))
      ∙ option_map (abs U) (put w) (type_of_var k (entry_at (frame_at (G ▹ entry_of M U) (unmatched couples M) w) k)))

final : (n : ℕ) (t : Term) → suc (n + (size t - 1)) ≡ suc (n + size t) - 1
final n t = omega (arith, odd t)

pub last_is : (t : Term) → LastIs t (size t - 1)
unfolding size type put frame_at
last_is tau = ends_tau here (λ R. refl)
last_is (var k) = ends_variable here (λ F G M s. same_at k k s ∙ option_id (type_of_var k (entry_at G k)))
last_is (app K B) = subst (LastIs (app K B)) (final (size K) B) (last_argument B K (last_is B))
last_is (abs U B) = subst (LastIs (abs U B)) (final (size U) B) (last_domain B U (last_is B))
