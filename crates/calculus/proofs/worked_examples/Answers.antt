-- The examples, handed over.
-- Assumes nothing.
use Rattle.calculus.proofs.worked_examples.Goals as goal
use Rattle.calculus.proofs.Worked.{examples}

pub returns : goal.returns
returns c = examples
