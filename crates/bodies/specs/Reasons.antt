-- Why a step is not possible: the definition's reason that the code's names, and its number (document 01, 'Steps').
-- Assumes nothing.
use Rattle.calculus.specs.Steps.{unknown_kind, past_end, wrong_symbol, no_partner, still_used}
use Rattle.calculus.specs.Steps.{Reason as Ground}
unfoldable pub use Rattle.verdict.specs.Verdict.{reason_number}
use Rattle.bodies.specs.declared.Reason.{Reason}
use Rattle.bodies.specs.declared.Reason.TheVariants.{UnknownKind, PastEnd, WrongSymbol, NoPartner, StillUsed}

unfoldable pub said : Reason → Ground
said UnknownKind = unknown_kind
said PastEnd = past_end
said WrongSymbol = wrong_symbol
said NoPartner = no_partner
said StillUsed = still_used
