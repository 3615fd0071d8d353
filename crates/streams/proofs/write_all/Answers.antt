-- `streams::write_all` meets its contract: each turn writes on where the one before stopped.
-- Assumes nothing.
use Rattle.std.proofs.Common.{rules}
use Rattle.streams.proofs.Writing.{write_more, write_nothing}
use Rattle.streams.proofs.write_all.Goals.{in-Ok, in-Err+else-ne}
use Rattle.streams.proofs.write_all.Goals as goal

pub loop-turn-preserved : goal.loop-turn-preserved
loop-turn-preserved g c = elim c.match-write.branch [
  | in-Ok w ↦ (search rules, rw w.n-is (write_more _ _ _ _ _ _ c.loop-turn.invariant.0 c.loop-turn.invariant.1 w.in-Ok.ensures.bytes))
  | in-Err+else-ne w ↦ (search rules, rw w.n-is (write_nothing _ _ _ _ _ c.loop-turn.invariant.1 w.in-Err.ensures.bytes))
]
