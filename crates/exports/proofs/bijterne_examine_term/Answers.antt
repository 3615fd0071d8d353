-- `exports::bijterne_examine_term` meets its contract.
-- Assumes nothing.
use Rattle.exports.proofs.Giving.{given_term}
use Rattle.exports.proofs.bijterne_examine_term.Goals as goal

pub returns : goal.returns
returns c = rw c.numbers.ensures (given_term _ c.examine_term.ensures)
