-- `bodies::find` meets its contract, by the laws of Binding.antt.
-- Assumes nothing.
use Rattle.bodies.proofs.Binding.{findable, abstractor_inside, finds}
use Rattle.bodies.proofs.find.Goals as goal

pub abstractor_of-q-requires : goal.abstractor_of-q-requires
abstractor_of-q-requires c = findable c.requires

pub partner_of-requires : goal.partner_of-requires
partner_of-requires c = abstractor_inside c.requires c.abstractor_of-q.ensures

pub returns : goal.returns
returns c = finds c.requires c.abstractor_of-q.ensures c.partner_of.ensures
