-- `waiting::lift_copy` meets its contract: the loop is `Lifting` of Copies.antt.
-- Assumes nothing.
use native.Mathlib.Omega.{arith}
use Rattle.indices.proofs.Replace.{lifted_zero}
use Rattle.waiting.proofs.Copies.{ends, lifting_start, place_in, lifting_fits, lifting_next, lifting_end}
use Rattle.waiting.proofs.lift_copy.Goals as goal

pub returns-then-n-eq0 : goal.returns-then-n-eq0
returns-then-n-eq0 c = lifted_zero _ _ c.if-n-eq0.true

pub bounds-depths-o : goal.bounds-depths-o
bounds-depths-o c = omega (arith, (ends c.requires.2).1)

pub loop-i-init : goal.loop-i-init
loop-i-init c = (c.requires.2, lifting_start c.requires.2)

pub bounds-work-from : goal.bounds-work-from
bounds-work-from c = omega (arith, (place_in c.loop-i.invariant.0 c.loop-i.invariant.1 c.loop-i-test.true).0)

pub raised-requires : goal.raised-requires
raised-requires c = lifting_fits c.loop-i.invariant.0 c.loop-i.invariant.1 c.loop-i-test.true

pub bounds-work-from-in-loop-i : goal.bounds-work-from-in-loop-i
bounds-work-from-in-loop-i c = omega (arith, (place_in c.loop-i.invariant.0 c.loop-i.invariant.1 c.loop-i-test.true).0)

pub loop-i-preserved : goal.loop-i-preserved
loop-i-preserved c = (c.loop-i.invariant.0, lifting_next c.loop-i.invariant.0 c.loop-i.invariant.1 c.loop-i-test.true c.raised.ensures)

pub returns : goal.returns
returns c = lifting_end c.loop-i.invariant.0 c.loop-i.invariant.1 c.loop-i-test.false
