-- `files::later_files` meets its contract.
-- Assumes nothing.
use Rattle.files.proofs.later_files.Goals as goal
use Rattle.files.proofs.Answers.{later_files}

pub returns : goal.returns
returns c = later_files
