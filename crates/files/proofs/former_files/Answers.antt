-- `files::former_files` meets its contract.
-- Assumes nothing.
use Rattle.files.proofs.former_files.Goals as goal
use Rattle.files.proofs.Answers.{former_files}

pub returns : goal.returns
returns c = former_files
