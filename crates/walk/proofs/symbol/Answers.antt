-- `walk::symbol` meets its contract.
-- Assumes nothing.
use native.Mathlib.Omega.{arith}
use Rattle.walk.proofs.symbol.Goals as goal

pub bounds-t-from : goal.bounds-t-from
bounds-t-from c = rw c.if-s.true at c.requires.0

pub returns-then-s : goal.returns-then-s
returns-then-s c = rw c.if-s.true

pub bounds-work-from : goal.bounds-work-from
bounds-work-from c = let h = rw c.if-s.false at c.requires.0 in omega (arith, h, c.requires.1)

pub returns : goal.returns
returns c = rw c.if-s.false
