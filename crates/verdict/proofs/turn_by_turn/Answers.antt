-- `verdict::turn_by_turn` meets its contract.
-- Assumes nothing.
use Rattle.verdict.proofs.turn_by_turn.Goals as goal
use Rattle.verdict.proofs.Laws.{turning}

pub returns : goal.returns
returns c = turning
