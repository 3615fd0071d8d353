-- `steps::step_in_place` meets its contract: by its kind, and by its place.
-- Assumes nothing.
use native.Mathlib.Omega.{arith}
use mathlib.Core.Path.{refl}
use Rattle.steps.proofs.Substituting.{past_refused, kind_refused, as_kind}
use Rattle.steps.proofs.step_in_place.Goals as goal

pub returns-in-1-to-3 : goal.returns-in-1-to-3
returns-in-1-to-3 c = past_refused (omega arith) (omega arith) c.if-place-n.true

pub returns-in-2 : goal.returns-in-2
returns-in-2 c = as_kind c.in-2.is (c.removal.ensures _ _)

pub whole-requires : goal.whole-requires
whole-requires c = record { some_body = record { work = _; frames = _; in_body = record { some_held = c.requires; inside = c.if-place-n.false } }; entries = refl }

pub returns-in-3 : goal.returns-in-3
returns-in-3 c = as_kind c.in-3.is (c.whole.ensures _ _ refl)

pub returns-in_default : goal.returns-in_default
returns-in_default c = kind_refused (λ e. omega arith) (λ e. omega arith) (λ e. omega arith)

pub returns-in_default-3 : goal.returns-in_default-3
returns-in_default-3 c = kind_refused (λ e. omega arith) (λ e. omega arith) (λ e. omega arith)
