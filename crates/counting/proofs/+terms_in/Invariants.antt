-- `counting::terms_in` meets its contract: the sum holds the terms whose first part has fewer than i bytes.
-- Assumes nothing.
use Prim.Native.Nat.{◌≤◌}
use mathlib.Core.Path.{◌≡◌}
use Rattle.counting.proofs.Splits.{splits}
use Rattle.counting.proofs.+terms_in.Given as goal

abbrev pub decreases-terms_in : goal.decreases-terms_in
decreases-terms_in a = a.n

abbrev pub invariant-loop-i : goal.invariant-loop-i
invariant-loop-i l = (1 ≤ l.rest) × (l.sum ≡ splits l.d l.rest l.i)
