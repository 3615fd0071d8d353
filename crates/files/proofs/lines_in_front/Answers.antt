-- `files::lines_in_front` meets its contract.
-- Assumes nothing.
use Rattle.files.proofs.lines_in_front.Goals as goal
use Rattle.files.proofs.Lines.{lines_in_front}

pub returns : goal.returns
returns c = lines_in_front
