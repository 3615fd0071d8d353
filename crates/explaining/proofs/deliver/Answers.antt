-- `explaining::deliver` meets its contract.
-- Assumes nothing.
use native.Mathlib.Omega.{arith}
use Rattle.explaining.proofs.Telling.{written_differ}
use Rattle.explaining.proofs.deliver.Goals as goal

pub first_difference-requires : goal.first_difference-requires
first_difference-requires c = written_differ (omega (arith, c.if-left-n.false)) c.if-right-k.false c.write.ensures c.write-2.ensures c.requires
