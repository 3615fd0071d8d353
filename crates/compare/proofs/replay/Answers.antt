-- `compare::replay` meets its contract: the loop is `Replaying` of Replaying.antt.
-- Assumes nothing.
use native.Mathlib.Omega.{arith}
use native.Mathlib.Nat.{add-zero}
use Rattle.std.proofs.Common.{◌∙◌, ap, Err}
use Rattle.compare.proofs.Replaying.{replaying_start, replaying_refused, replaying_outgrown, replaying_next, replaying_end}
use Rattle.compare.proofs.replay.Goals as goal

pub loop-step-init : goal.loop-step-init
loop-step-init c = rw add-zero (replaying_start c.requires.0 c.requires.1)

pub returns-in-Err-NotPossible : goal.returns-in-Err-NotPossible
returns-in-Err-NotPossible c = rw c.in-Err-NotPossible.field-0-is (replaying_refused c.loop-step.invariant (omega (arith, c.requires.0)) c.step_at-s.ensures.0 c.step_in_place.ensures (let w = c.in-Err-NotPossible in w.is ∙ ap Err w.field-0-is))

pub returns-in-Err-Outgrown : goal.returns-in-Err-Outgrown
returns-in-Err-Outgrown c = replaying_outgrown c.loop-step.invariant (omega (arith, c.requires.0)) c.step_at-s.ensures.0 c.step_in_place.ensures (let w = c.in-Err-Outgrown in w.is ∙ ap Err w.field-0-is)

pub loop-step-preserved : goal.loop-step-preserved
loop-step-preserved c = replaying_next c.loop-step.invariant (omega (arith, c.requires.0)) c.step_at-s.ensures.0 c.step_in_place.ensures c.in-Ok.is (omega arith)

pub returns : goal.returns
returns c = replaying_end c.loop-step.invariant (omega (arith, c.requires.0))
