-- `counting::counting` meets its contract.
-- Assumes nothing.
use Rattle.counting.proofs.Promised.{counting_holds}
use Rattle.counting.proofs.counting.Goals as goal

pub returns : goal.returns
returns c = counting_holds
