-- `bodies::lifted_letter` meets its contract: the symbol stays, or rises by k.
-- Assumes nothing.
use native.Mathlib.Omega.{arith}
use mathlib.Core.Logic.{inl, inr}
use Rattle.bodies.proofs.Lifting.{lifted_kept, lifted_raised}
use Rattle.bodies.proofs.lifted_letter.Goals as goal

pub returns-then-symbol-ge1022 : goal.returns-then-symbol-ge1022
returns-then-symbol-ge1022 c = lifted_kept _ _ _ _ _ c.requires (inl c.if-symbol-ge1022.true)

pub returns-then-symbol-x : goal.returns-then-symbol-x
returns-then-symbol-x c = lifted_raised _ _ _ _ _ c.requires (omega arith) c.if-symbol-x.true

pub returns : goal.returns
returns c = lifted_kept _ _ _ _ _ c.requires (inr (omega arith, c.if-symbol-x.false))
