-- `code::examples` meets its contract: antt computes each.
-- Assumes nothing.
use mathlib.Core.Path.{refl}
use Rattle.code.specs.Code.{encode, decode, term_end}
use Rattle.code.proofs.examples.Goals as goal

pub returns : goal.returns
unfolding encode decode term_end
returns c = record { e1 = refl; e2 = refl; condition_3 = refl; condition_8 = refl; byte_past = refl }
