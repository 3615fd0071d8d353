-- `steps::fill` meets its contract: the loop is `Filling` of Writing.antt.
-- Assumes nothing.
use Prim.Native.Nat.{◌+◌}
use Rattle.steps.proofs.Writing.{Filling}
use Rattle.steps.proofs.fill.Given as goal

abbrev pub invariant-loop-y : goal.invariant-loop-y
invariant-loop-y l = Filling l.s l.p l.x l.initial.out l.out (l.x.rest + l.y-index) l.j
