-- Promise 10, handed over.
-- Assumes nothing.
use Rattle.calculus.proofs.later_readings.Goals as goal
use Rattle.calculus.proofs.Later.{later_readings}

pub returns : goal.returns
returns c = later_readings
