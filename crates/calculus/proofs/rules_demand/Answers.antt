-- Promise 6, handed over.
-- Assumes nothing.
use Rattle.calculus.proofs.rules_demand.Goals as goal
use Rattle.calculus.proofs.Promises.{demanding}

pub returns : goal.returns
returns c = demanding
