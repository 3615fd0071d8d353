-- `code::delta_of` meets its contract: the table's rule at the byte.
-- Assumes nothing.
use borrow.Author.Rules.{rules}
use Rattle.code.proofs.Turn.{delta_kept}
use Rattle.code.proofs.delta_of.Goals as goal

pub returns : goal.returns
returns c = rw (c.from.ensures, c.requires.rule c.args.b (search rules)) (delta_kept c.args.b)
