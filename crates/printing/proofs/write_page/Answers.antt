-- `printing::write_page` meets its contract.
-- Assumes nothing.
use mathlib.Core.Path.{refl}
use native.Mathlib.Omega.{arith}
use Rattle.printing.proofs.Writing.{onward_here, room_for_cell, paging_next, room_to_fill, paging_end}
use Rattle.printing.proofs.write_page.Goals as goal

pub loop-b-init : goal.loop-b-init
loop-b-init c = record { onward = onward_here _ _ _; room = omega arith }

pub put_cell-spot-requires : goal.put_cell-spot-requires
put_cell-spot-requires c = room_for_cell c.loop-b.invariant c.requires c.loop-b-test.true

pub loop-b-preserved : goal.loop-b-preserved
loop-b-preserved c = paging_next c.loop-b.invariant c.requires c.loop-b-test.true refl c.put_cell-spot.ensures

pub fill_line-requires : goal.fill_line-requires
fill_line-requires c = room_to_fill c.loop-b.invariant c.requires c.loop-b-test.false

pub shape_of-out : goal.shape_of-out
shape_of-out c = (paging_end c.loop-b.invariant c.requires c.loop-b-test.false c.fill_line.ensures.0 c.fill_line.ensures.1).1

pub returns : goal.returns
returns c = paging_end c.loop-b.invariant c.requires c.loop-b-test.false c.fill_line.ensures.0 c.fill_line.ensures.1
