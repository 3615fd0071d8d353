-- `examine::walk` meets its contract: the loop's invariant and its turns are those of Running.antt.
-- Assumes nothing.
use native.Mathlib.Omega.{arith}
use Rattle.std.proofs.lemmas.Result.{err_from_is_err_and}
use Rattle.examine.proofs.Pending.{tested_index}
use Rattle.examine.proofs.Running.{starts, ends, some_left, depth_small, stops, degrees_set_small, goes_on}
use Rattle.examine.proofs.walk.Goals as goal

pub loop-i-init : goal.loop-i-init
loop-i-init c = starts _ (λ i. omega (arith, c.shared_slice_known-1.given i)) c.requires.0 c.requires.1

pub overflow_sub-top : goal.overflow_sub-top
overflow_sub-top c = some_left c.loop-i.invariant c.loop-i-test.true

pub bounds-outside-top : goal.bounds-outside-top
bounds-outside-top c = omega arith

pub offset_bounds-degrees-at : goal.offset_bounds-degrees-at
offset_bounds-degrees-at c = omega (arith, depth_small c.loop-i.invariant c.loop-i-test.true, c.from-at.ensures)

pub bounds-degrees-at : goal.bounds-degrees-at
bounds-degrees-at c = omega (arith, depth_small c.loop-i.invariant c.loop-i-test.true, c.from-at.ensures)

pub bounds-opens-top : goal.bounds-opens-top
bounds-opens-top c = omega arith

pub overflow_add-d : goal.overflow_add-d
overflow_add-d c = omega (arith, depth_small c.loop-i.invariant c.loop-i-test.true)

pub returns-in_err-test : goal.returns-in_err-test
returns-in_err-test c = let p = err_from_is_err_and c.from_residual.result c.from_residual.ensures.1 in rw (p.1, p.2) (stops c.loop-i.invariant c.loop-i-test.true c.test.ensures c.in_err-test.was)

pub degree_after-last-requires : goal.degree_after-last-requires
degree_after-last-requires c = (tested_index c.test.ensures c.in_ok-test.was, (depth_small c.loop-i.invariant c.loop-i-test.true, λ k. omega (arith, degrees_set_small c.loop-i.invariant c.loop-i-test.true c.from-at.ensures k)))

pub bounds-outside-top-in-loop-i : goal.bounds-outside-top-in-loop-i
bounds-outside-top-in-loop-i c = omega arith

pub bounds-outside-sp : goal.bounds-outside-sp
bounds-outside-sp c = omega arith

pub bounds-opens-top-in-loop-i : goal.bounds-opens-top-in-loop-i
bounds-opens-top-in-loop-i c = omega arith

pub bounds-opens-sp : goal.bounds-opens-sp
bounds-opens-sp c = omega arith

pub overflow_add-sp : goal.overflow_add-sp
overflow_add-sp c = omega (arith, c.shape_of-shape.ensures.few)

pub loop-i-preserved : goal.loop-i-preserved
loop-i-preserved c = goes_on c.loop-i.invariant c.loop-i-test.true c.from-at.ensures c.requires.0 c.test.ensures c.in_ok-test.was c.degree_after-last.ensures c.shape_of-shape.ensures

pub returns : goal.returns
returns c = rw c.from.ensures (ends c.loop-i.invariant c.loop-i-test.false)
