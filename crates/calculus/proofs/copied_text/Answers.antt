-- Promise 7, handed over.
-- Assumes nothing.
use Rattle.calculus.proofs.copied_text.Goals as goal
use Rattle.calculus.proofs.Copy.{copying}

pub returns : goal.returns
returns c = copying
