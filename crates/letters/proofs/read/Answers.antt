-- `letters::read` meets its contract: one byte by itself, without abstractors by `read_flat`, else by `read_scoped`.
-- Assumes nothing.
use mathlib.Core.Path.{refl}
use native.Mathlib.Omega.{arith}
use Rattle.letters.proofs.Flat.{up_to_all, one_byte, reads_one, readable_flat, reads_flat}
use Rattle.letters.proofs.read.Goals as goal

pub lifted_index-requires : goal.lifted_index-requires
lifted_index-requires c = (omega (arith, c.from-x.ensures, one_byte (omega (arith, c.if-s-eq1.true)) c.requires.standing.stands), c.requires.index)

pub returns-then-s-eq1 : goal.returns-then-s-eq1
returns-then-s-eq1 c = reads_one c.requires (omega (arith, c.if-s-eq1.true)) c.from-x.ensures c.lifted_index.ensures.0 c.letter_of.ensures refl

pub read_flat-requires : goal.read_flat-requires
read_flat-requires c = (readable_flat c.requires, up_to_all c.largest_byte.ensures (omega (arith, c.if-largest_byte-lt255.true)))

pub returns-then-largest_byte-lt255 : goal.returns-then-largest_byte-lt255
returns-then-largest_byte-lt255 c = reads_flat c.read_flat.ensures
