-- `exports::bijterne_print_term` meets its contract.
-- Assumes nothing.
use Rattle.exports.proofs.Giving.{given_step}
use Rattle.exports.proofs.bijterne_print_term.Goals as goal

pub returns : goal.returns
returns c = rw c.numbers.ensures (given_step _ c.print_term.ensures)
