-- `printing::promises` meets its contract.
-- Assumes nothing.
use Rattle.printing.proofs.Promised.{promised}
use Rattle.printing.proofs.promises.Goals as goal

pub returns : goal.returns
returns c = promised
