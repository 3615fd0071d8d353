-- `verdict::what_stops` meets its contract.
-- Assumes nothing.
use Rattle.verdict.proofs.what_stops.Goals as goal
use Rattle.verdict.proofs.Promises.{stopping}

pub returns : goal.returns
returns c = stopping
