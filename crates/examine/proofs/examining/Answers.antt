-- `examine::examining` meets its contract: the laws of Laws.antt.
-- Assumes nothing.
use Rattle.examine.proofs.Laws.{examining_holds}
use Rattle.examine.proofs.examining.Goals as goal

pub returns : goal.returns
returns c = examining_holds
