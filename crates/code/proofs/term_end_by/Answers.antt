-- `code::term_end_by` meets its contract: the loop's invariant and its turns are those of Turn.antt.
-- Assumes nothing.
use Rattle.code.proofs.Turn.{starts, past_end, sum_fits, goes_on, stops}
use Rattle.code.proofs.term_end_by.Goals as goal

pub loop-i-init : goal.loop-i-init
loop-i-init c = starts _ _

pub overflow_add-balance : goal.overflow_add-balance
overflow_add-balance c = sum_fits c.loop-i.invariant c.loop-i-test.true c.requires.1 c.delta_of-balance.ensures

pub returns-then-balance-eq0 : goal.returns-then-balance-eq0
returns-then-balance-eq0 c = stops c.loop-i.invariant c.loop-i-test.true c.requires.1 c.delta_of-balance.ensures c.if-balance-eq0.true

pub loop-i-preserved : goal.loop-i-preserved
loop-i-preserved c = goes_on c.loop-i.invariant c.loop-i-test.true c.requires.1 c.delta_of-balance.ensures c.if-balance-eq0.false

pub returns : goal.returns
returns c = past_end c.loop-i.invariant c.loop-i-test.false
