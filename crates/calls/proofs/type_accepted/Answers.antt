-- `calls::type_accepted` meets its contract.
-- Assumes nothing.
use mathlib.Core.Path.{refl}
use mathlib.Core.List.{[]}
use Rattle.std.proofs.Common.{◌∙◌, ap, Err}
use Rattle.std.proofs.lemmas.Result.{err_from_is_err_and}
use Rattle.calls.proofs.Writing.{some_held, type_answers, answers_unmet, answers_large, answers_letters, answers_done}
use Rattle.calls.proofs.type_accepted.Goals as goal

pub open_body-requires : goal.open_body-requires
open_body-requires c = (c.requires, refl)

pub type_in_place-typed-requires : goal.type_in_place-typed-requires
type_in_place-typed-requires c = some_held c.requires c.open_body.ensures c.empty_frame-f.ensures refl

pub deliver-requires : goal.deliver-requires
deliver-requires c = let u = answers_letters (type_answers c.requires c.open_body.ensures c.empty_frame-f.ensures refl [] c.type_in_place-typed.ensures) c.in-Ok.is in (u.0, u.1)

pub returns-in-Err-NotPossible : goal.returns-in-Err-NotPossible
returns-in-Err-NotPossible c = answers_unmet (type_answers c.requires c.open_body.ensures c.empty_frame-f.ensures refl _ c.type_in_place-typed.ensures) (let w = c.in-Err-NotPossible in w.is ∙ ap Err (rw w.is at w.field-0-is))

pub returns-in-Err-Outgrown : goal.returns-in-Err-Outgrown
returns-in-Err-Outgrown c = rw c.at.ensures (answers_large (type_answers c.requires c.open_body.ensures c.empty_frame-f.ensures refl _ c.type_in_place-typed.ensures) (let w = c.in-Err-Outgrown in w.is ∙ ap Err (rw w.is at w.field-0-is)))

pub returns-in_err-length-in-Ok : goal.returns-in_err-length-in-Ok
returns-in_err-length-in-Ok c =
    let p = err_from_is_err_and c.from_residual.result c.from_residual.ensures.1 in
    rw (p.1, p.2) (answers_done (type_answers c.requires c.open_body.ensures c.empty_frame-f.ensures refl _ c.type_in_place-typed.ensures) c.in-Ok.is (λ t h. rw c.in_err-length-in-Ok.was at (c.deliver.ensures t h)))

pub returns-in_ok-length-in-Ok : goal.returns-in_ok-length-in-Ok
returns-in_ok-length-in-Ok c = answers_done (type_answers c.requires c.open_body.ensures c.empty_frame-f.ensures refl _ c.type_in_place-typed.ensures) c.in-Ok.is (λ t h. rw c.in_ok-length-in-Ok.was at (c.deliver.ensures t h))
