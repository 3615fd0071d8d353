-- `steps::use_depth` meets its contract.
-- Assumes nothing.
use native.Mathlib.Omega.{arith}
use mathlib.Core.Path.{sym, ◌∙◌}
use Rattle.steps.specs.Filling.{use_depth}
use Rattle.steps.proofs.use_depth.Goals as goal

pub returns-then-is_use : goal.returns-then-is_use
unfolding use_depth
returns-then-is_use c = (rw (sym c.is_use.ensures ∙ c.if-is_use.true), omega arith)

pub returns-else-is_use : goal.returns-else-is_use
unfolding use_depth
returns-else-is_use c = (rw (sym c.is_use.ensures ∙ c.if-is_use.false), omega arith)
