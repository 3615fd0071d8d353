-- `verdict::worked_examples` meets its contract.
-- Assumes nothing.
use Rattle.verdict.proofs.worked_examples.Goals as goal
use Rattle.verdict.proofs.Table.{examples_hold}

pub returns : goal.returns
returns c = examples_hold
