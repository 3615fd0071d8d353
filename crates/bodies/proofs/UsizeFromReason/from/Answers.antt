-- `usize::from` of a reason meets its contract: case by case.
-- Assumes nothing.
use mathlib.Core.Path.{◌≡◌, refl}
use Prim.Native.Nat.{◌+◌}
use Rattle.bodies.specs.Reasons.{said, reason_number}
use Rattle.bodies.specs.declared.Reason.TheVariants.{UnknownKind, PastEnd, WrongSymbol, NoPartner, StillUsed}
use Rattle.bodies.specs.contracts.Reason.{the_type}
use denote.Enum.Declared.{tag_of}
use Rattle.bodies.proofs.UsizeFromReason.from.Goals as goal

pub returns : goal.returns
unfolding said reason_number
returns c = elim c.args.reason as (λ x. tag_of the_type x + 1 ≡ reason_number (said x)) [ UnknownKind ↦ refl | PastEnd ↦ refl | WrongSymbol ↦ refl | NoPartner ↦ refl | StillUsed ↦ refl ]
