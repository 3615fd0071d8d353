-- `program::explanation::push_mark` puts in ASCII text.
-- Assumes nothing.
use Prim.Native.Nat.{◌+◌, ◌*◌}
use Rattle.program.proofs.Ascii.{mark_text}
use Rattle.program.proofs.explanation.push_mark.Goals as goal

pub push_lines-requires-clause-text : goal.push_lines-requires-clause-text
push_lines-requires-clause-text c = rw c.write_mark.ensures.0 (mark_text 73 (4 * c.args.cell + 3))
