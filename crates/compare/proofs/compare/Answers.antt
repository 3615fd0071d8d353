-- `compare::compare` meets its contract.
-- Assumes nothing.
use Rattle.std.proofs.Common.{◌∙◌, ap, arith, Err}
use Rattle.compare.proofs.Answers.{some_applied, untyped_answer, no_group_answer, large_type_answer, typing, typed_answer}
use Rattle.compare.proofs.compare.Goals as goal

pub type_in_place-requires : goal.type_in_place-requires
type_in_place-requires c = some_applied c.requires.0 c.requires.1.left_long c.load.ensures

pub compare_type-requires : goal.compare_type-requires
compare_type-requires c = typing c.requires.0 c.requires.1.left_long c.load.ensures c.type_in_place.ensures c.in-Ok.is

pub returns-in-Ok : goal.returns-in-Ok
returns-in-Ok c = (typed_answer c.requires.0 c.requires.1.left_long c.load.ensures c.type_in_place.ensures c.in-Ok.is c.compare_type.ensures, record { left_long = omega arith; right_long = omega arith })

pub returns-in-Err-NotPossible : goal.returns-in-Err-NotPossible
returns-in-Err-NotPossible c = (untyped_answer c.requires.0 c.requires.1.left_long c.load.ensures c.type_in_place.ensures (let w = c.in-Err-NotPossible in w.is ∙ ap Err w.field-0-is), record { left_long = omega arith; right_long = omega arith })

pub returns-in-Err-Outgrown : goal.returns-in-Err-Outgrown
returns-in-Err-Outgrown c = (no_group_answer c.requires.0 c.requires.1.left_long c.load.ensures c.type_in_place.ensures (let w = c.in-Err-Outgrown in w.is ∙ ap Err w.field-0-is) c.if-at-file.true, record { left_long = omega arith; right_long = omega arith })

pub returns-in-Err-Outgrown-2 : goal.returns-in-Err-Outgrown-2
returns-in-Err-Outgrown-2 c = (large_type_answer c.requires.0 c.requires.1.left_long c.load.ensures c.type_in_place.ensures (let w = c.in-Err-Outgrown in w.is ∙ ap Err c.in-Err-Outgrown-2.field-0-is) c.if-at-file.false, record { left_long = omega arith; right_long = omega arith })
