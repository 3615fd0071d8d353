-- `walk::replace` meets its contract.
-- Assumes nothing.
use Rattle.walk.proofs.replace.Goals as goal

pub returns : goal.returns
returns c = rw (c.from-2.ensures, c.from.ensures)
