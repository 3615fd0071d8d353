-- `waiting::copy_in` meets its contract.
-- Assumes nothing.
use native.Mathlib.Omega.{arith}
use mathlib.Core.Path.{◌≡◌}
use mathlib.Core.Logic.{⊎_elim}
use Rattle.waiting.proofs.Bytes.{moved_none, moved_more}
use Rattle.waiting.proofs.copy_in.Goals as goal

pub loop-i-init : goal.loop-i-init
loop-i-init c = moved_none _ _ _ _

pub loop-i-preserved : goal.loop-i-preserved
loop-i-preserved c = let m = c.loop-i.invariant in moved_more _ (omega (arith, c.requires.2)) (⊎_elim (λ l. m.below.same _ (omega arith) (omega arith)) (λ l. m.above.same _ (omega arith) (omega arith)) c.requires.0) m

pub returns : goal.returns
returns c = let q : c.loop-i.i ≡ c.args.n = omega (arith, c.loop-i-test.false) in rw q at c.loop-i.invariant
