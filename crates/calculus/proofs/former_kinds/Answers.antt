-- Promise 9, handed over.
-- Assumes nothing.
use Rattle.calculus.proofs.former_kinds.Goals as goal
use Rattle.calculus.proofs.Later.{readings}

pub returns : goal.returns
returns c = readings
