-- Promise 11, handed over.
-- Assumes nothing.
use Rattle.calculus.proofs.couples_match.Goals as goal
use Rattle.calculus.proofs.Matching.{coupling}

pub returns : goal.returns
returns c = coupling
