-- `walk::at_tau` meets its contract.
-- Assumes nothing.
use Rattle.walk.specs.Clauses.{tau_never, tau_passes, tau_waits}
use Rattle.walk.proofs.at_tau.Goals as goal

pub returns-then-s : goal.returns-then-s
returns-then-s c = rw c.stop_at.ensures (tau_never c.if-s.true)

pub returns-then-s-2 : goal.returns-then-s-2
returns-then-s-2 c = tau_passes c.if-s.false c.if-s-2.true

pub returns : goal.returns
returns c = rw (c.stop_at-2.ensures, c.slot_at-v.ensures.0) (tau_waits c.if-s.false c.if-s-2.false)
