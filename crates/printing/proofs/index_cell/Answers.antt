-- `printing::index_cell` meets its contract.
-- Assumes nothing.
use mathlib.Core.Path.{ap}
use mathlib.Core.List.{[]}
use Rattle.printing.specs.Page.{Cell, columns}
use Rattle.printing.proofs.Cells.{index_cell_is}
use Rattle.printing.proofs.index_cell.Goals as goal

pub returns : goal.returns
returns c = ap (λ (x : Cell). columns x []) (index_cell_is _ c.digit.ensures c.digit-2.ensures c.digit-3.ensures c.digit_of.ensures)
