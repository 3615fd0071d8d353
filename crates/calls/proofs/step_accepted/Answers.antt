-- `calls::step_accepted` meets its contract.
-- Assumes nothing.
use mathlib.Core.Path.{refl}
use mathlib.Core.List.{[]}
use Rattle.std.proofs.Common.{◌∙◌, ap, Err}
use Rattle.calls.proofs.Writing.{some_held, step_answers, answers_unmet, answers_large, answers_letters, answers_done}
use Rattle.calls.proofs.step_accepted.Goals as goal

pub open_body-requires : goal.open_body-requires
open_body-requires c = (c.requires, refl)

pub step_in_place-stepped-requires : goal.step_in_place-stepped-requires
step_in_place-stepped-requires c = some_held c.requires c.open_body.ensures c.empty_frame-f.ensures refl

pub deliver-requires : goal.deliver-requires
deliver-requires c = let u = answers_letters (step_answers c.requires c.open_body.ensures c.empty_frame-f.ensures refl [] c.step_in_place-stepped.ensures) c.in-Ok.is in (u.0, u.1)

pub returns-in-Err-NotPossible : goal.returns-in-Err-NotPossible
returns-in-Err-NotPossible c = rw c.at.ensures (answers_unmet (step_answers c.requires c.open_body.ensures c.empty_frame-f.ensures refl _ c.step_in_place-stepped.ensures) (let w = c.in-Err-NotPossible in w.is ∙ ap Err (rw w.is at w.field-0-is)))

pub returns-in-Err-Outgrown : goal.returns-in-Err-Outgrown
returns-in-Err-Outgrown c = rw c.at-in-Err-Outgrown.ensures (answers_large (step_answers c.requires c.open_body.ensures c.empty_frame-f.ensures refl _ c.step_in_place-stepped.ensures) (let w = c.in-Err-Outgrown in w.is ∙ ap Err (rw w.is at w.field-0-is)))

pub returns-in-Ok : goal.returns-in-Ok
returns-in-Ok c = answers_done (step_answers c.requires c.open_body.ensures c.empty_frame-f.ensures refl _ c.step_in_place-stepped.ensures) c.in-Ok.is c.deliver.ensures
