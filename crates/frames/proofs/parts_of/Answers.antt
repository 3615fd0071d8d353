-- `frames::parts_of` meets its contract.
-- Assumes nothing.
use native.Mathlib.Omega.{arith}
use Rattle.frames.proofs.Laws.{entry_room, single_parts, applied_stands, applied_room, pair_parts}
use Rattle.frames.proofs.parts_of.Goals as goal

pub returns-then-work-p : goal.returns-then-work-p
returns-then-work-p c = single_parts c.if-work-p.true

pub end_of-m-requires : goal.end_of-m-requires
end_of-m-requires c = applied_stands c.if-work-p.false c.requires

pub overflow_add-result-3 : goal.overflow_add-result-3
overflow_add-result-3 c = omega (arith, applied_room c.if-work-p.false c.requires c.end_of-m.ensures)

pub returns : goal.returns
returns c = pair_parts c.if-work-p.false c.end_of-m.ensures
