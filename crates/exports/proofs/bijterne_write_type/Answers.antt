-- `exports::bijterne_write_type` meets its contract.
-- Assumes nothing.
use mathlib.Core.Path.{sym, ◌∙◌}
use Rattle.exports.proofs.Giving.{given_none, given_type}
use Rattle.exports.proofs.bijterne_write_type.Goals as goal

pub returns-in-None : goal.returns-in-None
returns-in-None c = given_none _ c.write_type.ensures (sym c.transpose.ensures ∙ c.in-None.is)

pub returns-in-Some : goal.returns-in-Some
returns-in-Some c = rw c.numbers.ensures (given_type _ c.write_type.ensures (sym c.transpose.ensures ∙ c.in-Some.is))
