-- `sets::read_heads` meets its contract: the loop's invariant is that the fields from `at` on leave what all of them leave.
-- Assumes nothing.
use Prim.Native.Nat.{◌-◌, ◌≤◌}
use mathlib.Core.Path.{◌≡◌}
use lib.ListN.{length}
use Rattle.sets.specs.Sets.{files_from, read_set}
use Rattle.sets.specs.Clauses.{heads_of}
use Rattle.sets.proofs.read_heads.Given as goal

abbrev pub invariant-loop-at : goal.invariant-loop-at
invariant-loop-at l = (l.at ≤ length l.s) × (heads_of (length l.s) (files_from l.s l.at) ≡ heads_of (length l.s) (read_set l.s))

abbrev pub decreases-loop-at : goal.decreases-loop-at
decreases-loop-at l = length l.s - l.at
