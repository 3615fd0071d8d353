-- `steps::lower_part` meets its contract: the first letters are lowered, and the others are as they were.
-- Assumes nothing.
use mathlib.Core.Path.{◌≡◌}
use mathlib.Core.List.{◌++◌, map}
use lib.ListN.{take, drop}
use Rattle.steps.specs.Lowering.{lowered_letter}
use Rattle.steps.proofs.lower_part.Given as goal

abbrev pub invariant-loop-x : goal.invariant-loop-x
invariant-loop-x l = l.rest ≡ map (lowered_letter l.c) (take l.x-index l.initial.rest) ++ drop l.x-index l.initial.rest
