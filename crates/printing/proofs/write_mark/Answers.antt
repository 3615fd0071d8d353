-- `printing::write_mark` meets its contract.
-- Assumes nothing.
use native.Mathlib.Omega.{arith}
use lib.ListN.{length-set}
use Rattle.printing.proofs.Lines.{length_filled}
use Rattle.printing.proofs.write_mark.Goals as goal

pub fill_line-requires : goal.fill_line-requires
fill_line-requires c = omega (arith, length_filled 18)

pub returns : goal.returns
returns c = (rw c.fill_line.ensures.0, simp length-set c.fill_line.ensures.1)
