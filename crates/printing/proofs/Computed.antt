-- The examples, computed.
-- Assumes nothing.
use mathlib.Core.Path.{refl}
use Rattle.printing.specs.Page.{page}
use Rattle.printing.specs.Examples.{declarations, Examples}

pub examples : Examples
unfolding page declarations
examples = record { b1 = refl; one_digit = refl; two_digits = refl; three_digits = refl; letters = refl; two_lines = refl }
