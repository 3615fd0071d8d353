-- `compare::replay` meets its contract: the loop is `Replaying` of Replaying.antt.
-- Assumes nothing.
use Prim.Native.Nat.{◌+◌, ◌*◌}
use Rattle.compare.proofs.Replaying.{Replaying}
use Rattle.compare.proofs.replay.Given as goal

abbrev pub invariant-loop-step : goal.invariant-loop-step
invariant-loop-step l = Replaying l.file l.from l.to l.work l.frame l.initial.body l.n l.body (l.from + 3 * l.step) l.size l.step
