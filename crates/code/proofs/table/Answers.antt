-- `code::table` meets its contract: the rule is tested at all of its entries.
-- Assumes nothing.
use mathlib.Core.Path.{refl}
use Rattle.code.specs.Code.{delta}
use Rattle.code.proofs.Entries.{tabled}
use Rattle.code.proofs.table.Goals as goal

pub returns : goal.returns
unfolding delta
returns c = tabled refl tt
