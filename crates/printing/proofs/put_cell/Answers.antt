-- `printing::put_cell` meets its contract.
-- Assumes nothing.
use mathlib.Core.Path.{◌∙◌}
use native.Mathlib.Omega.{arith}
use lib.ListN.{length-set}
use Rattle.printing.proofs.Writing.{room_put, full_put}
use Rattle.printing.proofs.put_cell.Goals as goal

pub put_columns-requires : goal.put_columns-requires
put_columns-requires c = simp length-set (omega arith)

pub shape_of-out-then-spot-eq0 : goal.shape_of-out-then-spot-eq0
shape_of-out-then-spot-eq0 c = c.put_columns.ensures.1 ∙ simp length-set

pub returns-then-spot-eq0 : goal.returns-then-spot-eq0
returns-then-spot-eq0 c = full_put (c.put_columns.ensures.1 ∙ simp length-set) c.if-spot-eq0.true c.put_columns.ensures.0

pub returns : goal.returns
returns c = room_put c.put_columns-2.ensures.1 c.requires.1 c.if-spot-eq0.false c.put_columns-2.ensures.0
