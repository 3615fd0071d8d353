-- Promise 4, handed over.
-- Assumes nothing.
use Rattle.calculus.proofs.frame_growth.Goals as goal
use Rattle.calculus.proofs.Fronting.{both_weaken}

pub returns : goal.returns
returns c = both_weaken
