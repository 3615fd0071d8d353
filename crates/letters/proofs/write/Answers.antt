-- `letters::write` meets its contract: the loop is `Writing` of Writing.antt.
-- Assumes nothing.
use mathlib.Core.Path.{refl}
use native.Mathlib.Omega.{arith}
use Rattle.letters.proofs.Letters.{lies_end}
use Rattle.letters.proofs.Writing.{writing_next, writing_end}
use Rattle.letters.proofs.write.Goals as goal

pub offset_bounds-s-i : goal.offset_bounds-s-i
offset_bounds-s-i c = omega (arith, lies_end c.requires.lies)

pub bounds-s-i : goal.bounds-s-i
bounds-s-i c = omega (arith, lies_end c.requires.lies)

pub loop-i-preserved : goal.loop-i-preserved
loop-i-preserved c = writing_next c.loop-i.invariant c.loop-i-test.true (lies_end c.requires.lies).1 refl

pub returns : goal.returns
returns c = writing_end c.loop-i.invariant c.loop-i-test.false
