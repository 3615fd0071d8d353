-- `indices::advance` meets its contract, by the laws of Stacked.antt.
-- Assumes nothing.
use Rattle.indices.proofs.Stacked.{advanced_terminal, advanced_operator}
use Rattle.indices.proofs.advance.Goals as goal

pub returns-then-b-lt254 : goal.returns-then-b-lt254
returns-then-b-lt254 c = rw c.from.ensures (advanced_terminal _ c.requires c.if-b-lt254.true)

pub returns : goal.returns
returns c = advanced_operator _ _ c.requires c.if-b-lt254.false c.body_scope.ensures
