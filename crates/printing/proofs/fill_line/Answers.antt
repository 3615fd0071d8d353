-- `printing::fill_line` meets its contract.
-- Assumes nothing.
use mathlib.Core.Path.{refl}
use native.Mathlib.Omega.{arith}
use Rattle.std.proofs.Common.{length-append, length-take, length-drop}
use Rattle.printing.proofs.Lines.{length_filled}
use Rattle.printing.proofs.Writing.{line_filled}
use Rattle.printing.proofs.fill_line.Goals as goal

pub overflow_mul-end : goal.overflow_mul-end
overflow_mul-end c = omega (arith, length_filled c.args.spot.room)

pub overflow_add-end : goal.overflow_add-end
overflow_add-end c = omega (arith, length_filled c.args.spot.room)

pub slice_bounds-fill-end : goal.slice_bounds-fill-end
slice_bounds-fill-end c = grind (arith, length_filled c.args.spot.room)

pub bounds-out-end : goal.bounds-out-end
bounds-out-end c = simp (length-append, length-take, length-drop) (omega (arith, c.fill.ensures.len, length_filled c.args.spot.room))

pub returns : goal.returns
returns c =
    line_filled _ _ c.args.spot.room c.requires refl refl
    (simp (length-take, length-drop) (omega (arith, length_filled c.args.spot.room))) (c.fill.ensures.after (λ y e. e))
