-- `steps::lower_part` meets its contract: by the laws of Storing.antt.
-- Assumes nothing.
use native.Mathlib.Omega.{arith}
use Rattle.steps.specs.Lowering.{lowered_letter}
use Rattle.steps.proofs.Storing.{changing_next}
use Rattle.steps.proofs.lower_part.Goals as goal

pub loop-x-preserved : goal.loop-x-preserved
loop-x-preserved c = changing_next (lowered_letter c.args.c) c.args.rest.now c.loop-x.x-index (omega arith) c.loop-x.invariant c.lowered_letter.ensures
