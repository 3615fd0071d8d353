-- `parts::copy_part` meets its contract: what is left of dst, and the part of src between.
-- Assumes nothing.
use Rattle.parts.proofs.Copying.{copied}
use Rattle.parts.proofs.copy_part.Goals as goal

pub returns : goal.returns
returns c = copied _ _ _ c.requires.1.0 c.requires.1.1 c.copy_from_slice.ensures.after
