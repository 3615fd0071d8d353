-- `code::scopes` meets its contract: the laws of Scope.antt.
-- Assumes nothing.
use Rattle.code.proofs.Scope.{scopes_hold}
use Rattle.code.proofs.scopes.Goals as goal

pub returns : goal.returns
returns c = scopes_hold
