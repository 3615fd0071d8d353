-- `texts::note_depths` meets its contract.
-- Assumes nothing.
use Prim.Native.Nat.{◌≤◌}
use Rattle.texts.specs.Clauses.{DepthsNoted}
use Rattle.texts.proofs.note_depths.Given as goal

abbrev pub invariant-loop-i : goal.invariant-loop-i
invariant-loop-i l = (l.i ≤ l.n) × DepthsNoted l.letters l.initial.depths l.depths l.i
