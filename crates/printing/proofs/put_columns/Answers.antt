-- `printing::put_columns` meets its contract.
-- Assumes nothing.
use mathlib.Core.Path.{◌∙◌}
use native.Mathlib.Omega.{arith}
use Rattle.printing.proofs.Writing.{columns_stored}
use Rattle.printing.proofs.put_columns.Goals as goal

pub returns : goal.returns
returns c = columns_stored _ _ c.requires (omega arith) (c.copy_from_slice.ensures.after ∙ c.cell_of-cell.ensures)
