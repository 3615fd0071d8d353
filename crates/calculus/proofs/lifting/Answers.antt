-- Promise 1, handed over.
-- Assumes nothing.
use Rattle.calculus.proofs.lifting.Goals as goal
use Rattle.calculus.proofs.Promises.{lifting_holds}

pub returns : goal.returns
returns c = lifting_holds
