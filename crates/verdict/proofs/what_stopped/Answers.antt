-- `verdict::what_stopped` meets its contract.
-- Assumes nothing.
use Rattle.verdict.proofs.what_stopped.Goals as goal
use Rattle.verdict.proofs.Grounds.{grounds}

pub returns : goal.returns
returns c = grounds
