-- `examine::examples` meets its contract: each computes.
-- Assumes nothing.
use Rattle.examine.proofs.Laws.{examples_hold}
use Rattle.examine.proofs.examples.Goals as goal

pub returns : goal.returns
returns c = examples_hold
