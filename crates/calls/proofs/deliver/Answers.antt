-- `calls::deliver` meets its contract.
-- Assumes nothing.
use native.Mathlib.Omega.{arith}
use Rattle.calls.proofs.Writing.{writable, too_short, long_enough}
use Rattle.calls.proofs.deliver.Goals as goal

pub returns-then-out-n : goal.returns-then-out-n
returns-then-out-n c = λ t h. rw c.at.ensures (too_short h _ (omega arith))

pub write-requires : goal.write-requires
write-requires c = writable c.requires.1 _ (omega arith)

pub returns : goal.returns
returns c = λ t h. long_enough h _ (omega arith) c.write.ensures
