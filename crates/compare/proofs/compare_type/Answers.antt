-- `compare::compare_type` meets its contract.
-- Assumes nothing.
use Rattle.fields.proofs.Groups.{some_left}
use Rattle.compare.proofs.Bodies.{answered}
use Rattle.compare.proofs.Answers.{two_sides, typed_no_group, typed_large_domain, typed_sides}
use Rattle.compare.proofs.compare_type.Goals as goal

pub returns-then-at-file : goal.returns-then-at-file
returns-then-at-file c = typed_no_group c.requires.comparing c.if-at-file.true

pub returns-then-not-load : goal.returns-then-not-load
returns-then-not-load c = typed_large_domain c.requires.comparing c.if-at-file.false (answered c.if-not-load.true c.load.ensures)

pub group_at-g-requires : goal.group_at-g-requires
group_at-g-requires c = some_left c.requires.comparing.stand c.if-at-file.false

pub compare_sides-requires : goal.compare_sides-requires
compare_sides-requires c = two_sides c.requires.comparing c.group_at-g.ensures c.requires.typed c.told-right (answered c.if-not-load.false c.load.ensures)

pub returns : goal.returns
returns c = typed_sides c.requires.comparing c.group_at-g.ensures c.told-right (answered c.if-not-load.false c.load.ensures) c.compare_sides.ensures
