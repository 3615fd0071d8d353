-- Promise 4, as far as frames grow, handed over.
-- Assumes nothing.
use Rattle.calculus.proofs.frames_that_grow.Goals as goal
use Rattle.calculus.proofs.Fronting.{frame_growth}

pub returns : goal.returns
returns c = frame_growth
