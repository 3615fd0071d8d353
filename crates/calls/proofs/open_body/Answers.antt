-- `calls::open_body` meets its contract.
-- Assumes nothing.
use native.Mathlib.Omega.{arith}
use Rattle.calls.proofs.Writing.{body_readable, body_opened}
use Rattle.calls.proofs.open_body.Goals as goal

pub read-requires : goal.read-requires
read-requires c = body_readable (λ i. (c.type_inv.s i).fits) c.requires.1 (omega arith) c.requires.0

pub returns : goal.returns
returns c = body_opened (λ i. (c.type_inv.s i).fits) c.requires.1 c.read.ensures
