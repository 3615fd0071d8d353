-- `printing::examples` meets its contract.
-- Assumes nothing.
use Rattle.printing.proofs.Computed.{examples}
use Rattle.printing.proofs.examples.Goals as goal

pub returns : goal.returns
returns c = examples
