-- Promise 2, handed over.
-- Assumes nothing.
use Rattle.calculus.proofs.degree_and_type.Goals as goal
use Rattle.calculus.proofs.Degree.{degrees_hold}

pub returns : goal.returns
returns c = degrees_hold
