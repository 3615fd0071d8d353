-- Earlier and later readings: what stays, and what kinds 1 and 2 do alone.
-- Assumes nothing.
use Prim.Native.Nat.{ℕ}
use mathlib.Core.Path.{◌≡◌, refl, ap, ap₂, sym, ◌∙◌, fun_ext}
use mathlib.Core.List.{List, [], ◌∷◌, ◌++◌}
use borrow.Author.Tests.{ne_eqb}
use Rattle.calculus.specs.Terms.{Term}
use Rattle.calculus.specs.Frames.{Frame}
use Rattle.calculus.specs.Steps.{Step, Reach, Reading, base, full, reach_of, kind_in, reached, then_outcome, step_of, step_by, replay_by}
use Rattle.calculus.specs.Rules.{Group, SameBy, State, Next, HoldsBy, nothing_left, met, by_rule, groups}
use Rattle.calculus.specs.Whole.{spell, NoWhole, none_left, one_more, Joins, as_wide, Later, base_full}
use Rattle.calculus.specs.Claims.{Readings, LaterReadings}
use Rattle.calculus.proofs.Weaken.{step_ren, replay_ren}
use Rattle.calculus.proofs.Frames.{ren_id, in_place}
use Rattle.calculus.proofs.Whole.{spelled, no_whole}

-- WHAT IS REACHED, is reached later too: weakening in the frame itself
pub steps_stay : {y z : Reading} → Later y z → (R : Frame) (s : Step) (t u : Term) → step_by y R s t ≡ reached u → step_by z R s t ≡ reached u
steps_stay l R s t u e = rw (ren_id t, ren_id u) at ((step_ren l (in_place R) s t).carry u e)

replays_stay : {y z : Reading} → Later y z → (R : Frame) (ss : List Step) (t u : Term) → replay_by y R ss t ≡ reached u → replay_by z R ss t ≡ reached u
replays_stay l R ss t u e = rw (ren_id t, ren_id u) at ((replay_ren l (in_place R) ss t).carry u e)

-- WITHOUT KIND 3 the readings with and without it are one
same_kind : (x : Reach) (n : ℕ) → (n ≡ 3 → ⊥) → kind_in (full x) n ≡ kind_in (base x) n
unfolding kind_in
same_kind x n h = rw (ne_eqb n 3 h) refl

pub same_step : (x : Reach) (R : Frame) (s : Step) (t : Term) → (s.kind ≡ 3 → ⊥) → step_by (base x) R s t ≡ step_by (full x) R s t
unfolding step_by reach_of
same_step x R s t h = ap (λ κ. step_of x κ R t s.place) (sym (same_kind x s.kind h))

as_before : (x : Reach) (R : Frame) (ss : List Step) (t : Term) → NoWhole ss → replay_by (base x) R ss t ≡ replay_by (full x) R ss t
unfolding replay_by
as_before x R [] t none_left = refl
as_before x R (s ∷ ss) t (one_more h n) = rw (same_step x R s t h) (ap (then_outcome (step_by (full x) R s t)) (fun_ext (λ u. as_before x R ss u n)))

-- and what steps reach, kinds 1 and 2 reach
replay_spelled : (x : Reach) (R : Frame) (ss : List Step) (t u : Term) → replay_by (full x) R ss t ≡ reached u → replay_by (base x) R (spell x R ss t) t ≡ reached u
replay_spelled x R ss t u e = as_before x R (spell x R ss t) t (no_whole x R ss t) ∙ spelled x R ss t ∙ e

joins_forth : {y z : Reading} → Later y z → (R : Frame) (t u : Term) → Joins y R t u → Joins z R t u
joins_forth l R t u j = record { left = j.left; right = j.right; form = j.form; left_reaches = replays_stay l R j.left t j.form j.left_reaches; right_reaches = replays_stay l R j.right u j.form j.right_reaches }

joins_back : (x : Reach) (R : Frame) (t u : Term) → Joins (full x) R t u → Joins (base x) R t u
joins_back x R t u j = record {
  left = spell x R j.left t;
  right = spell x R j.right u;
  form = j.form;
  left_reaches = replay_spelled x R j.left t j.form j.left_reaches;
  right_reaches = replay_spelled x R j.right u j.form j.right_reaches;
}

unfoldable same_forth : {y z : Reading} → Later y z → (R : Frame) (K U : Term) → SameBy y R K U → SameBy z R K U
same_forth l R K U s = record {
  typ = s.typ;
  typed = s.typed;
  group = s.group;
  form = s.form;
  left_reaches = replays_stay l R s.group.left s.typ s.form s.left_reaches;
  right_reaches = replays_stay l R s.group.right U s.form s.right_reaches;
}

same_back : (x : Reach) (R : Frame) (K U : Term) → SameBy (full x) R K U → SameBy (base x) R K U
same_back x R K U s = record {
  typ = s.typ;
  typed = s.typed;
  group = record { left = spell x R s.group.left s.typ; right = spell x R s.group.right U };
  form = s.form;
  left_reaches = replay_spelled x R s.group.left s.typ s.form s.left_reaches;
  right_reaches = replay_spelled x R s.group.right U s.form s.right_reaches;
}

-- derivations, comparison by comparison
module _ {next : State → Next} where
  holds_forth : {y z : Reading} {n : Next} → Later y z → (d : HoldsBy y next n) → (e : HoldsBy z next n) × (groups e ≡ groups d)
  unfolding groups same_forth
  holds_forth l nothing_left = (nothing_left, refl)
  holds_forth l (met {R} {K} {U} s d) = let r = holds_forth l d in (met (same_forth l R K U s) r.0, ap (λ (l : List Group). s.group ∷ l) r.1)
  holds_forth l (by_rule c d) = let q = holds_forth l c in let r = holds_forth l d in (by_rule q.0 r.0, ap₂ ◌++◌ q.1 r.1)

  holds_back : (x : Reach) {n : Next} → HoldsBy (full x) next n → HoldsBy (base x) next n
  holds_back x nothing_left = nothing_left
  holds_back x (met {R} {K} {U} s d) = met (same_back x R K U s) (holds_back x d)
  holds_back x (by_rule c d) = by_rule (holds_back x c) (holds_back x d)

pub readings : Readings
readings = record {
  as_before = as_before;
  joins = λ x R t u. (joins_forth (base_full as_wide) R t u, joins_back x R t u);
  same = λ x R K U. (same_forth (base_full as_wide) R K U, same_back x R K U);
  plain = λ x s. (λ d. (holds_forth (base_full as_wide) d).0, holds_back x);
  one_pass = λ x s. (λ d. (holds_forth (base_full as_wide) d).0, holds_back x);
}

pub later_readings : LaterReadings
later_readings = record {
  steps_stay = steps_stay;
  replays_stay = replays_stay;
  same_groups = λ l next s d. let r = holds_forth l d in record { derivation = r.0; same_groups = r.1 };
}
