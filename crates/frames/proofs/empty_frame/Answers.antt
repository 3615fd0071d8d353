-- `frames::empty_frame` meets its contract.
-- Assumes nothing.
use mathlib.Core.Path.{refl}
use native.Mathlib.Omega.{arith}
use Rattle.frames.specs.Stored.{no_entry}
use Rattle.frames.proofs.empty_frame.Goals as goal

pub returns : goal.returns
returns c = record {
  no_entries = refl;
  no_bytes = refl;
  holds = λ w l. record { work = l; room = refl; few = omega arith; inside = omega arith; entries = no_entry refl refl };
}
