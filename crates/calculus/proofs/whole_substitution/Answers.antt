-- Promise 8, handed over.
-- Assumes nothing.
use Rattle.calculus.proofs.whole_substitution.Goals as goal
use Rattle.calculus.proofs.Whole.{spelling}

pub returns : goal.returns
returns c = spelling
