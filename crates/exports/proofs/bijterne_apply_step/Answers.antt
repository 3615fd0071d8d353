-- `exports::bijterne_apply_step` meets its contract.
-- Assumes nothing.
use Rattle.exports.proofs.Giving.{given_step}
use Rattle.exports.proofs.bijterne_apply_step.Goals as goal

pub returns : goal.returns
returns c = rw c.numbers.ensures (given_step _ c.apply_step.ensures)
