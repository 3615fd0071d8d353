-- `printing::letter_cell` meets its contract.
-- Assumes nothing.
use mathlib.Core.Path.{refl}
use Rattle.printing.specs.Page.{letter_cell}
use Rattle.printing.proofs.letter_cell.Goals as goal

pub returns : goal.returns
unfolding letter_cell
returns c = refl
