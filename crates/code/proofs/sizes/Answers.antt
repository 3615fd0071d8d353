-- `code::sizes` meets its contract: the laws of RoundTrip.antt.
-- Assumes nothing.
use Rattle.code.proofs.RoundTrip.{length_encode, odd}
use Rattle.code.proofs.sizes.Goals as goal

pub returns : goal.returns
returns c = record { length_encode = length_encode; odd = odd }
