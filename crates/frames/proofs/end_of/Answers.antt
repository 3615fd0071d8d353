-- `frames::end_of` meets its contract.
-- Assumes nothing.
use Rattle.frames.proofs.Laws.{end_at, ends_somewhere}
use Rattle.frames.proofs.end_of.Goals as goal

pub unwrap-requires : goal.unwrap-requires
unwrap-requires c = ends_somewhere _ c.requires c.term_end.ensures

pub returns : goal.returns
returns c = end_at _ c.term_end.ensures c.unwrap.ensures
