-- `counting::listing` meets its contract.
-- Assumes nothing.
use Rattle.counting.proofs.Promised.{listing_holds}
use Rattle.counting.proofs.listing.Goals as goal

pub returns : goal.returns
returns c = listing_holds
