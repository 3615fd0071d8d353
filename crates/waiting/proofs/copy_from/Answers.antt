-- `waiting::copy_from` meets its contract.
-- Assumes nothing.
use native.Mathlib.Omega.{arith}
use mathlib.Core.Path.{◌≡◌, refl}
use Rattle.waiting.proofs.Bytes.{moved_none, moved_more}
use Rattle.waiting.proofs.copy_from.Goals as goal

pub loop-i-init : goal.loop-i-init
loop-i-init c = moved_none _ _ _ _

pub loop-i-preserved : goal.loop-i-preserved
loop-i-preserved c = moved_more _ (omega (arith, c.requires.1)) refl c.loop-i.invariant

pub returns : goal.returns
returns c = let q : c.loop-i.i ≡ c.args.n = omega (arith, c.loop-i-test.false) in rw q at c.loop-i.invariant
