-- `program::count_strings` has room for each line.
-- Assumes nothing.
use Rattle.std.proofs.Common.{◌≤◌, ◌*◌}
use Rattle.arrayvec.specs.ArrayString.{array_string_len}
use Rattle.program.specs.Clauses.{answer_room}
use Rattle.program.proofs.count_strings.Given as goal

abbrev pub invariant-loop-n : goal.invariant-loop-n
invariant-loop-n g l = array_string_len l.lines ≤ answer_room * l.n
