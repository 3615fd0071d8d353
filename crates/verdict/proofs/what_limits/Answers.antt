-- `verdict::what_limits` meets its contract.
-- Assumes nothing.
use Rattle.verdict.proofs.what_limits.Goals as goal
use Rattle.verdict.proofs.Limits.{only_limits}

pub returns : goal.returns
returns c = only_limits
