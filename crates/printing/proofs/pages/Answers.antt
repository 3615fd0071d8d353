-- `printing::pages` meets its contract.
-- Assumes nothing.
use Rattle.printing.proofs.Promised.{paged}
use Rattle.printing.proofs.pages.Goals as goal

pub returns : goal.returns
returns c = paged
