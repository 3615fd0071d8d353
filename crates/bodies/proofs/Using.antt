-- What a form says to whoever asked for it: of a type and of a step.
-- Assumes nothing.
use Prim.Native.Nat.{ℕ}
use mathlib.Core.Path.{◌≡◌}
use mathlib.Core.Bool.{true, false}
use mathlib.Core.Option.{none, some}
use mathlib.Core.List.{List}
use Rattle.std.specs.Prelude.{Ok, Err}
use Rattle.calculus.specs.Terms.{Term, size}
use Rattle.calculus.specs.Frames.{Frame}
use Rattle.calculus.specs.Types.{type}
use Rattle.calculus.specs.Steps.{Step, step, reached}
use Rattle.verdict.specs.Bounds.{body_fits}
use Rattle.frames.specs.declared.FrameRecord.{FrameRecord}
use Rattle.bodies.specs.Held.{Held, FormAs, form_outgrown, form_held, SteppedAs, step_reached, TypedAs, type_is_none, typed}
use Rattle.bodies.specs.declared.Reason.{Reason}
use Rattle.bodies.specs.declared.StepError.TheVariants.{NotPossible, Outgrown}

-- A form that is held.
pub record Reached (w : List ℕ) (f : FrameRecord) (s : List ℕ) (R : Frame) (m : ℕ) (u : Term) : Type 0 where
  pub fits : body_fits R u ≡ true
  pub length_is : m ≡ size u
  pub held : Held w f s m R u

module _ {w : List ℕ} {f : FrameRecord} {s : List ℕ} {R : Frame} where
  no_form : {A : Type 0} {u : Term} {y : Reason} → FormAs w f s R u (Err (NotPossible y)) → A
  no_form x = elim x [ ]

  outgrown_form : {u : Term} → FormAs w f s R u (Err Outgrown) → body_fits R u ≡ false
  outgrown_form (form_outgrown h) = h

  held_form : {u : Term} {m : ℕ} → FormAs w f s R u (Ok m) → Reached w f s R m u
  held_form (form_held h l y) = record { fits = h; length_is = l; held = y }

  pub refused_type : {t : Term} {y : Reason} → TypedAs w f s R t (Err (NotPossible y)) → type R t ≡ none
  refused_type (type_is_none e) = e
  refused_type (typed e x) = no_form x

  pub outgrown_type : {t : Term} → TypedAs w f s R t (Err Outgrown) → (u : Term) × (type R t ≡ some u) × (body_fits R u ≡ false)
  outgrown_type (typed {u} e x) = (u, e, outgrown_form x)

  pub held_type : {t : Term} {m : ℕ} → TypedAs w f s R t (Ok m) → (u : Term) × (type R t ≡ some u) × Reached w f s R m u
  held_type (typed {u} e x) = (u, e, held_form x)

  pub outgrown_step : {z : Step} {t : Term} → SteppedAs w f s R z t (Err Outgrown) → (u : Term) × (step R z t ≡ reached u) × (body_fits R u ≡ false)
  outgrown_step (step_reached {u} e x) = (u, e, outgrown_form x)

  pub held_step : {z : Step} {t : Term} {m : ℕ} → SteppedAs w f s R z t (Ok m) → (u : Term) × (step R z t ≡ reached u) × Reached w f s R m u
  held_step (step_reached {u} e x) = (u, e, held_form x)
