-- `exports::bijterne_count_strings` meets its contract.
-- Assumes nothing.
use mathlib.Core.Path.{ap}
use Rattle.exports.specs.Numbers.{count_numbers}
use Rattle.exports.proofs.bijterne_count_strings.Goals as goal

pub returns-in-Ok : goal.returns-in-Ok
returns-in-Ok c = ap count_numbers c.in-Ok.ensures

pub returns-in-Err : goal.returns-in-Err
returns-in-Err c = rw (c.from-in-Err.ensures, c.from.ensures) (ap count_numbers c.in-Err.ensures)
