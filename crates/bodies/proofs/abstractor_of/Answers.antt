-- `bodies::abstractor_of` meets its contract: m is the least height so far (`Scanning` of Finding.antt).
-- Assumes nothing.
use mathlib.Core.Path.{◌∙◌}
use Rattle.bodies.proofs.Finding.{scan_found}
use Rattle.bodies.proofs.abstractor_of.Goals as goal

pub returns-then-x-sought : goal.returns-then-x-sought
returns-then-x-sought c = let w = c.loop-q.invariant in
    scan_found w.0 c.loop-q-test.true c.requires.binder.shallow (c.if-x-sought.true ∙ w.1)
