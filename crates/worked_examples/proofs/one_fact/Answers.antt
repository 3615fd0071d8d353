-- `worked_examples::one_fact` meets its contract.
-- Assumes nothing.
use Rattle.worked_examples.proofs.one_fact.Goals as goal
use Rattle.worked_examples.proofs.Computed.{one_fact}

pub returns : goal.returns
returns c = one_fact
