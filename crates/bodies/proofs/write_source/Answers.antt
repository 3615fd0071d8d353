-- `bodies::write_source` meets its contract, by the laws of Putting.antt.
-- Assumes nothing.
use Rattle.std.proofs.Common.{refl}
use Rattle.bodies.proofs.Putting.{source_readable, source_read, source_some, source_room, source_deep, source_liftable, source_lifted}
use native.Mathlib.Omega.{arith}
use Rattle.code.proofs.Parts.{stands_end}
use Rattle.letters.proofs.Part.{readable_part, reads_part}
use Rattle.bodies.proofs.write_source.Goals as goal

pub slice_bounds-read-end : goal.slice_bounds-read-end
slice_bounds-read-end c = omega (arith, stands_end (source_readable c.requires c.in-TheFrame.is).standing.stands, c.told-work)

pub read-requires : goal.read-requires
read-requires c = readable_part (source_readable c.requires c.in-TheFrame.is)

pub returns-in-TheFrame : goal.returns-in-TheFrame
returns-in-TheFrame c = source_read c.requires c.in-TheFrame.is (reads_part c.read.ensures)

pub deepest-requires : goal.deepest-requires
deepest-requires c = let e = c.split_at_mut-before.ensures in source_some c.requires c.in-TheBody.is _ _ e.value e.front_len refl

pub returns-then-deepest-c : goal.returns-then-deepest-c
returns-then-deepest-c c = let e = c.split_at_mut-before.ensures in source_deep c.requires c.in-TheBody.is _ _ e.value e.front_len refl c.deepest.ensures c.if-deepest-c.true

pub lift_to-requires : goal.lift_to-requires
lift_to-requires c = let e = c.split_at_mut-before.ensures in
    (source_liftable c.requires c.in-TheBody.is _ _ e.value e.front_len refl c.deepest.ensures c.if-deepest-c.false, source_room c.requires c.in-TheBody.is _ _ e.value e.front_len refl)

pub returns-else-deepest-c : goal.returns-else-deepest-c
returns-else-deepest-c c = let e = c.split_at_mut-before.ensures in source_lifted c.requires c.in-TheBody.is _ _ e.value e.front_len refl c.deepest.ensures c.if-deepest-c.false c.lift_to.ensures
