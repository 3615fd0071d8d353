-- `steps::fill_letter` meets its contract: by its laws of Writing.antt.
-- Assumes nothing.
use native.Mathlib.Omega.{arith}
use Prim.Native.Nat.{◌+◌, ◌-◌}
use mathlib.Core.Path.{◌≡◌, ◌∙◌}
use lib.ListN.{length}
use Rattle.parts.specs.Parts.{part}
use Rattle.parts.proofs.Cut.{length_part}
use Rattle.steps.proofs.Couples.{places}
use Rattle.steps.proofs.Writing.{no_use, some_use, other_fits, other_stored, use_liftable, use_stored}
use Rattle.steps.proofs.fill_letter.Goals as goal

pub bounds-out-j : goal.bounds-out-j
bounds-out-j c = omega (arith, other_fits c.requires (no_use _ _ c.is_use.ensures c.if-not-is_use.true))

pub returns-then-not-is_use : goal.returns-then-not-is_use
returns-then-not-is_use c = other_stored c.requires (no_use _ _ c.is_use.ensures c.if-not-is_use.true) c.lowered_letter.ensures

pub offset_bounds-s-p : goal.offset_bounds-s-p
offset_bounds-s-p c = omega (arith, places c.requires.couple)

pub slice_bounds-argument-end : goal.slice_bounds-argument-end
slice_bounds-argument-end c = omega (arith, places c.requires.couple, c.requires.couple.array)

pub slice_bounds-lift_to-end : goal.slice_bounds-lift_to-end
slice_bounds-lift_to-end c = omega (arith, (use_liftable c.requires (some_use _ _ c.is_use.ensures c.if-not-is_use.false)).1)

pub lift_to-requires : goal.lift_to-requires
lift_to-requires c = let l = use_liftable c.requires (some_use _ _ c.is_use.ensures c.if-not-is_use.false) in
    rw (c.depth_of.ensures.0, c.height_of.ensures.0) (l.0, length_part c.args.out.now c.args.j _ l.1 ∙ omega arith)

pub returns : goal.returns
returns c =
    let e : c.args.j + length (part c.args.s.now (c.args.p + 1) c.args.x.between) - c.args.j ≡ length (part c.args.s.now (c.args.p + 1) c.args.x.between) = omega arith in
    rw e (use_stored c.requires (some_use _ _ c.is_use.ensures c.if-not-is_use.false) (rw (c.depth_of.ensures.0, c.height_of.ensures.0) at c.lift_to.ensures))
