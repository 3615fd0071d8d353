-- `program::print_term` is safe: a page lies within its buffer.
-- Assumes nothing.
use mathlib.Core.Path.{sym}
use native.Mathlib.Omega.{arith}
use lib.Seq.{length-take-le}
use Rattle.printing.proofs.Promised.{within_buffer}
use Rattle.program.proofs.print_term.Goals as goal

pub slice_bounds-page-end : goal.slice_bounds-page-end
slice_bounds-page-end g c = omega (arith, within_buffer _ _ c.in_ok-length.ensures)

pub slice_bounds-put-end : goal.slice_bounds-put-end
slice_bounds-put-end g c = sym (length-take-le _ _ (omega (arith, within_buffer _ _ c.in_ok-length.ensures)))
