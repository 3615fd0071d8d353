-- The number of a side, by cases.
-- Assumes nothing.
use mathlib.Core.Path.{◌≡◌, refl}
use Rattle.compare.specs.Answers.{side_said, side_number}
use Rattle.compare.specs.declared.Side.TheVariants.{Left, Right}
use Rattle.compare.specs.contracts.Side.{the_type}
use denote.Enum.Declared.{tag_of}
use Rattle.compare.proofs.UsizeFromSide.from.Goals as goal

pub returns : goal.returns
unfolding side_number
returns c = elim c.args.side as (λ x. tag_of the_type x ≡ side_number (side_said x)) [ Left ↦ refl | Right ↦ refl ]
