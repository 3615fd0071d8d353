-- `code::balance` meets its contract: the laws of Turn.antt and FirstZero.antt.
-- Assumes nothing.
use Rattle.code.proofs.Turn.{by_delta}
use Rattle.code.proofs.FirstZero.{first_term, standing, found, whole}
use Rattle.code.proofs.balance.Goals as goal

pub returns : goal.returns
returns c = record { by_delta = by_delta; first_term = first_term; standing = standing; found = found; whole = whole }
