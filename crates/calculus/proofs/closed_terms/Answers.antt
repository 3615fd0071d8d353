-- Promise 3, handed over.
-- Assumes nothing.
use Rattle.calculus.proofs.closed_terms.Goals as goal
use Rattle.calculus.proofs.Closed.{closedness}

pub returns : goal.returns
returns c = closedness
