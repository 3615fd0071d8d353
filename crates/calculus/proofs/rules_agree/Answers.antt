-- Promise 5, handed over.
-- Assumes nothing.
use Rattle.calculus.proofs.rules_agree.Goals as goal
use Rattle.calculus.proofs.Promises.{agreement}

pub returns : goal.returns
returns c = agreement
