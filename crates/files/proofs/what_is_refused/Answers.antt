-- `files::what_is_refused` meets its contract.
-- Assumes nothing.
use Rattle.files.proofs.what_is_refused.Goals as goal
use Rattle.files.proofs.Answers.{refusing}

pub returns : goal.returns
returns c = refusing
