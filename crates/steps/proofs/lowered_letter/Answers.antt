-- `steps::lowered_letter` meets its contract: the symbol stays, or falls by 1 too.
-- Assumes nothing.
use native.Mathlib.Omega.{arith}
use mathlib.Core.Logic.{inl, inr}
use Rattle.steps.proofs.Lowering.{lowered_kept, lowered_fallen}
use Rattle.steps.proofs.lowered_letter.Goals as goal

pub returns-then-symbol-ge1022 : goal.returns-then-symbol-ge1022
returns-then-symbol-ge1022 c = lowered_kept _ _ c.requires (inl c.if-symbol-ge1022.true)

pub returns-then-symbol-x : goal.returns-then-symbol-x
returns-then-symbol-x c = lowered_kept _ _ c.requires (inr (omega arith, c.if-symbol-x.true))

pub returns : goal.returns
returns c = lowered_fallen _ _ c.requires (omega arith) c.if-symbol-x.false
