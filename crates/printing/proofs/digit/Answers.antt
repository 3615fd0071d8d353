-- `printing::digit` meets its contract.
-- Assumes nothing.
use borrow.Author.Tests.{lt-ltb, le-ltb}
use mathlib.Core.Path.{refl}
use Rattle.printing.specs.Page.{digit}
use Rattle.printing.proofs.digit.Goals as goal

pub returns-then-k-worth : goal.returns-then-k-worth
unfolding digit
returns-then-k-worth c = rw (lt-ltb _ _ c.if-k-worth.true) refl

pub returns : goal.returns
unfolding digit
returns c = rw (le-ltb _ _ c.if-k-worth.false) c.digit_of.ensures
