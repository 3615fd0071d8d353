-- `streams::write_all` ends with its turns, and what was written is the start of the text.
-- Assumes nothing.
use Rattle.std.proofs.Common.{◌≤◌, length, take}
use Rattle.std.specs.Io.KnownBytes.{Appends}
use Rattle.streams.proofs.write_all.Given as goal

abbrev pub invariant-loop-turn : goal.invariant-loop-turn
invariant-loop-turn g l = (l.n ≤ length l.s) × Appends (g.W.Write.contents l.initial.writer) (g.W.Write.contents l.writer) (take l.n l.s)
