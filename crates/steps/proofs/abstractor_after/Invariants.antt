-- `steps::abstractor_after` meets its contract: the loop is `Passing` of Tails.antt.
-- Assumes nothing.
use Prim.Native.Nat.{◌-◌}
use mathlib.Core.Path.{◌≡◌}
use lib.ListN.{get_or}
use Rattle.letters.specs.Letters.{symbol_of}
use Rattle.steps.proofs.Tails.{Passing}
use Rattle.steps.proofs.abstractor_after.Given as goal

abbrev pub invariant-loop-symbol : goal.invariant-loop-symbol
invariant-loop-symbol l = Passing l.s l.n l.m l.h l.q l.unmatched × (l.symbol ≡ symbol_of (get_or l.s l.q 0))

abbrev pub decreases-loop-symbol : goal.decreases-loop-symbol
decreases-loop-symbol l = l.n - l.q
