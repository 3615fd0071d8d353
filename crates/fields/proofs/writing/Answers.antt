-- `fields::writing` meets its contract.
-- Assumes nothing.
use Rattle.fields.proofs.writing.Goals as goal
use Rattle.fields.proofs.Written.{read_back, same_term, same_groups, in_bytes, only_written, fitting}

pub returns : goal.returns
returns c = record { read_back = read_back; same_term = same_term; same_groups = same_groups; in_bytes = in_bytes; only_written = only_written; fitting = fitting }
