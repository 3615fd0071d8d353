-- `verdict::how_it_runs` meets its contract.
-- Assumes nothing.
use Rattle.verdict.proofs.how_it_runs.Goals as goal
use Rattle.verdict.proofs.Laws.{running}

pub returns : goal.returns
returns c = running
