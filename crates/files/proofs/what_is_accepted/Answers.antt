-- `files::what_is_accepted` meets its contract.
-- Assumes nothing.
use Rattle.files.proofs.what_is_accepted.Goals as goal
use Rattle.files.proofs.Answers.{accepting}

pub returns : goal.returns
returns c = accepting
