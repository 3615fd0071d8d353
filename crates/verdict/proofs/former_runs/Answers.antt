-- Promise 5, handed over.
-- Assumes nothing.
use Rattle.verdict.proofs.former_runs.Goals as goal
use Rattle.verdict.proofs.Former.{former_runs}

pub returns : goal.returns
returns c = former_runs
