-- `walk::walk_term` meets its contract.
-- Assumes nothing.
use native.Mathlib.Omega.{arith}
use Rattle.walk.proofs.Beginning.{whole_term}
use Rattle.walk.proofs.walk_term.Goals as goal

pub whole-requires-2 : goal.whole-requires-2
whole-requires-2 c = let w = whole_term c.requires.0 in (c.requires.0, record { left_long = c.else-t-le-SHORT_TERM.array_long; right_long = c.else-t-le-SHORT_TERM.array_long2 }, omega (arith, w.short), omega arith, omega arith)

pub whole-requires-3 : goal.whole-requires-3
whole-requires-3 c = let w = whole_term c.requires.0 in (c.requires.0, c.in_default.ensures.1, omega (arith, w.short), omega arith, omega arith)
