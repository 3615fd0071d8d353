-- `bodies::put` meets its contract, by the laws of Putting.antt.
-- Assumes nothing.
use native.Mathlib.Omega.{arith}
use Rattle.bodies.proofs.Putting.{put_bounds, put_long, put_room, put_sourced, put_deep, put_done}
use Prim.Native.Nat.{◌+◌, ◌-◌}
use Rattle.parts.specs.Parts.{Copied}
use Rattle.bodies.proofs.Storing.{moved_within, stays}
use Rattle.bodies.proofs.put.Goals as goal
use Rattle.bodies.proofs.put.Goals.{then-size-gt1, else-size-gt1}

pub overflow_sub-m : goal.overflow_sub-m
overflow_sub-m c = omega (arith, put_bounds c.requires)

pub overflow_add-m : goal.overflow_add-m
overflow_add-m c = omega (arith, put_bounds c.requires)

pub returns-then-m-gt-LONGEST_TERM : goal.returns-then-m-gt-LONGEST_TERM
returns-then-m-gt-LONGEST_TERM c = put_long c.requires c.if-m-gt-LONGEST_TERM.true

pub offset_bounds-s-p : goal.offset_bounds-s-p
offset_bounds-s-p c = omega (arith, put_bounds c.requires)

pub bounds-s-p : goal.bounds-s-p
bounds-s-p c = omega (arith, put_bounds c.requires)

pub overflow_sub-room-2 : goal.overflow_sub-room-2
overflow_sub-room-2 c = omega (arith, put_room c.requires c.depth_of-d.ensures.0)

pub overflow_add-p : goal.overflow_add-p
overflow_add-p c = omega (arith, put_bounds c.requires)

pub copy_within-requires-clause-start_le_end : goal.copy_within-requires-clause-start_le_end
copy_within-requires-clause-start_le_end c = omega (arith, put_bounds c.requires)

pub copy_within-requires-clause-in_bounds : goal.copy_within-requires-clause-in_bounds
copy_within-requires-clause-in_bounds c = omega (arith, put_bounds c.requires)

pub copy_within-requires-clause-dest_in_bounds : goal.copy_within-requires-clause-dest_in_bounds
copy_within-requires-clause-dest_in_bounds c = omega (arith, put_bounds c.requires, c.if-m-gt-LONGEST_TERM.false)

pub overflow_add-p-then-size-gt1 : goal.overflow_add-p-then-size-gt1
overflow_add-p-then-size-gt1 c = omega (arith, put_bounds c.requires)

pub write_source-requires : goal.write_source-requires
write_source-requires c =
    let m : Copied c.args.s.now (c.args.p + 1) c.args.n c.args.s.now c.if-size-gt1.s (c.args.p + (c.args.x.end - c.args.x.start)) = (elim c.if-size-gt1.branch [
      | then-size-gt1 w ↦ rw w.s-is (moved_within (omega (arith, put_bounds c.requires)) (omega (arith, put_bounds c.requires, c.if-m-gt-LONGEST_TERM.false)) w.copy_within.ensures.after)
      | else-size-gt1 w ↦ rw w.s-is (stays (omega (arith, put_bounds c.requires)) (omega (arith, put_bounds c.requires)) (omega (arith, put_bounds c.requires, w.if-size-gt1.false)))
    ]) in
    put_sourced c.requires c.depth_of-d.ensures.0 c.height_of.ensures.0 c.if-m-gt-LONGEST_TERM.false m

pub returns-then-not-write_source : goal.returns-then-not-write_source
returns-then-not-write_source c =
    let m : Copied c.args.s.now (c.args.p + 1) c.args.n c.args.s.now c.if-size-gt1.s (c.args.p + (c.args.x.end - c.args.x.start)) = (elim c.if-size-gt1.branch [
      | then-size-gt1 w ↦ rw w.s-is (moved_within (omega (arith, put_bounds c.requires)) (omega (arith, put_bounds c.requires, c.if-m-gt-LONGEST_TERM.false)) w.copy_within.ensures.after)
      | else-size-gt1 w ↦ rw w.s-is (stays (omega (arith, put_bounds c.requires)) (omega (arith, put_bounds c.requires)) (omega (arith, put_bounds c.requires, w.if-size-gt1.false)))
    ]) in
    put_deep c.requires c.depth_of-d.ensures.0 c.height_of.ensures.0 c.if-m-gt-LONGEST_TERM.false m c.write_source.ensures c.if-not-write_source.true

pub returns : goal.returns
returns c =
    let m : Copied c.args.s.now (c.args.p + 1) c.args.n c.args.s.now c.if-size-gt1.s (c.args.p + (c.args.x.end - c.args.x.start)) = (elim c.if-size-gt1.branch [
      | then-size-gt1 w ↦ rw w.s-is (moved_within (omega (arith, put_bounds c.requires)) (omega (arith, put_bounds c.requires, c.if-m-gt-LONGEST_TERM.false)) w.copy_within.ensures.after)
      | else-size-gt1 w ↦ rw w.s-is (stays (omega (arith, put_bounds c.requires)) (omega (arith, put_bounds c.requires)) (omega (arith, put_bounds c.requires, w.if-size-gt1.false)))
    ]) in
    put_done c.requires c.depth_of-d.ensures.0 c.height_of.ensures.0 c.if-m-gt-LONGEST_TERM.false m c.write_source.ensures c.if-not-write_source.false
