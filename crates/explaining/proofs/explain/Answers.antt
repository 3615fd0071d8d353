-- `explaining::explain` meets its contract: what the code tells of each ground.
-- Assumes nothing.
use mathlib.Core.Path.{◌≡◌}
use Rattle.code.specs.Refusals.{number_of}
use Rattle.compare.specs.Answers.{number_of_ground}
use Rattle.explaining.proofs.Telling.{told_stopped, told_bodies, tells_waiting, tells_step, tells_other}
use Rattle.explaining.proofs.explain.Goals as goal

pub returns-in-StillWaiting : goal.returns-in-StillWaiting
returns-in-StillWaiting c = told_stopped _ _ _ _ c.in_ok-opened.ensures c.in-Err.ensures.0 _ (tells_waiting c.in-StillWaiting.is)

pub returns-in-StepNotPossible : goal.returns-in-StepNotPossible
returns-in-StepNotPossible c = told_stopped _ _ _ _ c.in_ok-opened.ensures c.in-Err.ensures.0 _ (tells_step c.in-StepNotPossible.is)

pub returns-in-Some : goal.returns-in-Some
returns-in-Some c = told_bodies _ _ _ _ c.in_ok-opened.ensures c.in-Err.ensures.0 (λ i. (c.type_inv.s i).fits) c.in-BodiesDiffer.is c.in-Some.ensures

pub returns-in-None : goal.returns-in-None
returns-in-None c = told_bodies _ _ _ _ c.in_ok-opened.ensures c.in-Err.ensures.0 (λ i. (c.type_inv.s i).fits) c.in-BodiesDiffer.is c.in-None.ensures

pub returns-in_default : goal.returns-in_default
returns-in_default c =
    let d = c.in_default in
    let e : number_of c.from.result ≡ number_of_ground c.in-Err.stopped.by = cc in
    told_stopped _ _ _ _ c.in_ok-opened.ensures c.in-Err.ensures.0 _ (tells_other _ e d.not-BodiesDiffer d.not-StillWaiting d.not-StepNotPossible)
