-- `bodies::lift_to` meets its contract: the first letters are lifted and stored.
-- Assumes nothing.
use mathlib.Core.Path.{◌≡◌}
use mathlib.Core.List.{map}
use lib.Seq.{paste}
use Rattle.bodies.specs.Moving.{lifted_letter}
use Rattle.bodies.proofs.lift_to.Given as goal

abbrev pub invariant-loop-i : goal.invariant-loop-i
invariant-loop-i l = l.out ≡ paste l.initial.out 0 (map (lifted_letter l.c l.k l.h l.low) l.term) l.i
