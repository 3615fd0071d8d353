-- `walk::due` meets its contract.
-- Assumes nothing.
use mathlib.Core.Path.{refl}
use Rattle.walk.specs.Clauses.{not_due}
use Rattle.walk.proofs.Turning.{due_is}
use Rattle.walk.proofs.due.Goals as goal

pub returns-then-s : goal.returns-then-s
returns-then-s c = not_due (λ i. c.if-s.true)

pub returns : goal.returns
returns c = due_is _ refl c.if-s.false
