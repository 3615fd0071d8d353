-- `steps::fill` meets its contract: the loop is `Filling` of Writing.antt.
-- Assumes nothing.
use native.Mathlib.Omega.{arith}
use native.Mathlib.Nat.{add_assoc}
use Rattle.parts.proofs.Cut.{length_part}
use Rattle.steps.proofs.Couples.{places, part_letter}
use Rattle.steps.proofs.Writing.{letter_fillable, filling_next, filling_end}
use Rattle.steps.proofs.fill.Goals as goal

pub offset_bounds-s-x : goal.offset_bounds-s-x
offset_bounds-s-x c = omega (arith, places c.requires.couple)

pub slice_bounds-y-items-end : goal.slice_bounds-y-items-end
slice_bounds-y-items-end c = omega (arith, places c.requires.couple, c.requires.couple.array)

pub fill_letter-j-requires : goal.fill_letter-j-requires
fill_letter-j-requires c = let g = c.requires.couple in let o = places g in
    rw (part_letter c.args.s.now c.args.x.rest c.args.x.end c.loop-y.y-index (omega arith) (omega (arith, g.array))) (letter_fillable c.requires c.loop-y.invariant (omega (arith, length_part c.args.s.now c.args.x.rest c.args.x.end (omega (arith, g.array)))))

pub loop-y-preserved : goal.loop-y-preserved
loop-y-preserved c = let g = c.requires.couple in let o = places g in
    rw (← add_assoc c.args.x.rest c.loop-y.y-index 1) (filling_next c.requires c.loop-y.invariant (omega (arith, length_part c.args.s.now c.args.x.rest c.args.x.end (omega (arith, g.array))))
    (rw (part_letter c.args.s.now c.args.x.rest c.args.x.end c.loop-y.y-index (omega arith) (omega (arith, g.array))) at c.fill_letter-j.ensures))

pub returns : goal.returns
returns c = filling_end c.requires c.loop-y.invariant (omega (arith, length_part c.args.s.now c.args.x.rest c.args.x.end (omega (arith, places c.requires.couple, c.requires.couple.array))))
