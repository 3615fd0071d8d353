-- `fields::read_groups` meets its contract: the loop's invariant is that the groups counted and those read from `at` on make all of them.
-- Assumes nothing.
use mathlib.Core.Path.{◌≡◌}
use Prim.Native.Nat.{◌-◌, ◌≤◌}
use lib.ListN.{length}
use Rattle.fields.specs.Fields.{groups_from, with_groups, layout_with, layout_of}
use Rattle.fields.proofs.read_groups.Given as goal

abbrev pub invariant-loop-at : goal.invariant-loop-at
invariant-loop-at l =
    (l.at ≤ length l.s) × (l.groups ≤ l.at) × (layout_with l.groups (with_groups l.end (groups_from l.s l.at)) ≡ layout_of (with_groups l.end (groups_from l.s l.end)))

abbrev pub decreases-loop-at : goal.decreases-loop-at
decreases-loop-at l = length l.s - l.at
