-- `printing::cell_of` meets its contract.
-- Assumes nothing.
use mathlib.Core.Path.{refl, ap, ◌∙◌}
use mathlib.Core.List.{[]}
use native.Mathlib.Omega.{arith}
use Rattle.printing.specs.Page.{Cell, columns}
use Rattle.printing.proofs.Cells.{cell_of_abs, cell_of_app, cell_of_tau, cell_of_index}
use Rattle.printing.proofs.cell_of.Goals as goal

pub returns-in-255 : goal.returns-in-255
returns-in-255 c = c.letter_cell.ensures ∙ ap (λ (x : Cell). columns x []) (cell_of_abs c.in-255.is refl)

pub returns-in-254 : goal.returns-in-254
returns-in-254 c = c.letter_cell-in-254.ensures ∙ ap (λ (x : Cell). columns x []) (cell_of_app c.in-254.is refl)

pub returns-in-0 : goal.returns-in-0
returns-in-0 c = c.letter_cell-in-0.ensures ∙ ap (λ (x : Cell). columns x []) (cell_of_tau c.in-0.is refl)

pub returns-in_default : goal.returns-in_default
returns-in_default c =
    rw (c.index_cell.ensures, c.from.ensures) (ap (λ (x : Cell). columns x []) (cell_of_index (λ h. omega arith) (λ h. omega arith) (λ h. omega arith) refl))
