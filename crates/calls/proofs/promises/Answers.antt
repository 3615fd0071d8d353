-- `calls::promises` meets its contract.
-- Assumes nothing.
use Rattle.calls.proofs.Promised.{promised}
use Rattle.calls.proofs.promises.Goals as goal

pub returns : goal.returns
returns c = promised
