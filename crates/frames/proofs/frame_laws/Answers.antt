-- `frames::frame_laws` meets its contract: the laws of Laws.antt.
-- Assumes nothing.
use Rattle.frames.proofs.Laws.{frame_laws_hold}
use Rattle.frames.proofs.frame_laws.Goals as goal

pub returns : goal.returns
returns c = frame_laws_hold
