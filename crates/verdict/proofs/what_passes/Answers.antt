-- `verdict::what_passes` meets its contract.
-- Assumes nothing.
use Rattle.verdict.proofs.what_passes.Goals as goal
use Rattle.verdict.proofs.Promises.{passing}

pub returns : goal.returns
returns c = passing
