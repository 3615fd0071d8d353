-- `walk::test` meets its contract.
-- Assumes nothing.
use Rattle.walk.specs.Clauses.{test_made}
use Rattle.walk.proofs.Turning.{test_by}
use Rattle.walk.proofs.test.Goals as goal

pub returns-then-s : goal.returns-then-s
returns-then-s c = test_made c.if-s.true

pub returns : goal.returns
returns c = test_by c.if-s.false c.fits.ensures c.from-n.ensures c.from-y.ensures
