-- `counting::examples` meets its contract.
-- Assumes nothing.
use Rattle.counting.proofs.Promised.{examples_hold}
use Rattle.counting.proofs.examples.Goals as goal

pub returns : goal.returns
returns c = examples_hold
