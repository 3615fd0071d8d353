-- `sets::check_files` meets its contract: the loop's invariant is that the files from `at` on, with what was counted before them, give the
-- answer of all of them.
-- Assumes nothing.
use Prim.Native.Nat.{◌-◌, ◌≤◌}
use mathlib.Core.Path.{◌≡◌}
use lib.ListN.{length}
use Rattle.sets.specs.Sets.{files_from, check_from}
use Rattle.sets.specs.Clauses.{WholeFrom}
use Rattle.sets.proofs.check_files.Given as goal

abbrev pub invariant-loop-at : goal.invariant-loop-at
invariant-loop-at l =
    (l.at ≤ length l.s) × (l.files ≤ l.at) × (l.comparisons ≤ l.at) × WholeFrom l.s l.at × (check_from l.files l.comparisons (files_from l.s l.at) ≡ check_from 0 0 (files_from l.s 0))

abbrev pub decreases-loop-at : goal.decreases-loop-at
decreases-loop-at l = length l.s - l.at
