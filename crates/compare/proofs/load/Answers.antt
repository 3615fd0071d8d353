-- `compare::load` meets its contract, by the laws of Bodies.antt.
-- Assumes nothing.
use native.Mathlib.Omega.{arith}
use Rattle.code.proofs.Parts.{stands_end}
use Rattle.compare.proofs.Bodies.{load_long, load_readable, load_read}
use Rattle.letters.proofs.Part.{readable_part, reads_part}
use Rattle.compare.proofs.load.Goals as goal

pub returns-then-to-from-gt-LONGEST_TERM : goal.returns-then-to-from-gt-LONGEST_TERM
returns-then-to-from-gt-LONGEST_TERM c = load_long c.requires c.if-to-from-gt-LONGEST_TERM.true

pub slice_bounds-read-end : goal.slice_bounds-read-end
slice_bounds-read-end c = omega (arith, stands_end (load_readable c.requires c.if-to-from-gt-LONGEST_TERM.false).standing.stands, c.told-work)

pub read-requires : goal.read-requires
read-requires c = readable_part (load_readable c.requires c.if-to-from-gt-LONGEST_TERM.false)

pub returns : goal.returns
returns c = load_read c.requires c.if-to-from-gt-LONGEST_TERM.false (reads_part c.read.ensures)
