-- `walk::seen_index` meets its contract.
-- Assumes nothing.
use mathlib.Core.Path.{◌∙◌, sym}
use Rattle.calculus.proofs.Lift.{index_low, index_high}
use Rattle.walk.proofs.seen_index.Goals as goal

pub returns-then-k-c : goal.returns-then-k-c
returns-then-k-c c = let h = c.from-k.ensures in h ∙ sym (index_low _ _ _ (rw h at c.if-k-c.true))

pub returns : goal.returns
returns c = let h = c.from-k.ensures in rw h (sym (index_high _ _ _ (rw h at c.if-k-c.false)))
