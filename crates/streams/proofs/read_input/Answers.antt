-- `streams::read_input` meets its contract: each turn reads on where the one before stopped.
-- Assumes nothing.
use Rattle.std.proofs.Common.{rules}
use Rattle.streams.proofs.Reading.{read_more, read_nothing}
use Rattle.streams.proofs.read_input.Goals.{in-Ok, in-Err+else-ne}
use Rattle.streams.proofs.read_input.Goals as goal

pub loop-turn-preserved : goal.loop-turn-preserved
loop-turn-preserved g c = elim c.match-read.branch [
  | in-Ok w ↦ (search rules, search rules, rw w.n-is (read_more _ _ _ _ _ _ _ _ c.loop-turn.invariant.1 w.in-Ok.ensures.bound.0 c.loop-turn.invariant.2 w.in-Ok.ensures.bytes.0))
  | in-Err+else-ne w ↦ (search rules, search rules, rw w.n-is (read_nothing _ _ _ _ _ _ _ c.loop-turn.invariant.1 c.loop-turn.invariant.2 w.in-Err.ensures.bytes))
]
