-- `exports::bijterne_examine_file` meets its contract.
-- Assumes nothing.
use mathlib.Core.Path.{ap, ◌∙◌}
use Rattle.exports.specs.Numbers.{file_numbers}
use Rattle.exports.proofs.bijterne_examine_file.Goals as goal

pub returns-in-Ok : goal.returns-in-Ok
returns-in-Ok c = c.numbers.ensures ∙ ap file_numbers c.in-Ok.ensures

pub returns-in-Err : goal.returns-in-Err
returns-in-Err c = c.numbers-in-Err.ensures ∙ ap file_numbers c.in-Err.ensures
