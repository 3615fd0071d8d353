-- `verdict::later_runs` meets its contract.
-- Assumes nothing.
use Rattle.verdict.proofs.later_runs.Goals as goal
use Rattle.verdict.proofs.Later.{later_runs}

pub returns : goal.returns
returns c = later_runs
