-- `walk::inside` and `walk::term`: what falls, and what stays in the loop.
-- Assumes nothing.
use Rattle.std.proofs.Common.{◌+◌}
use Rattle.compare.specs.Sides.{Buffers}
use Rattle.walk.specs.State.{text_of, arrays_of}
use Rattle.walk.proofs.Falls.{degree_and_size}
use Rattle.walk.proofs.Measures.{falling}
use Rattle.walk.proofs.Loop.{Going}
use Rattle.walk.proofs.+inside_term.Given as goal

abbrev pub decreases-inside : goal.decreases-inside
decreases-inside l = degree_and_size l.text.now.term.now (l.s.place + 1) + degree_and_size l.text.now.term.now (l.s.place + 1) + 1

abbrev pub decreases-term : goal.decreases-term
decreases-term l = degree_and_size l.text.now.term.now l.place + degree_and_size l.text.now.term.now l.place

abbrev pub invariant-term-loop-answer : goal.invariant-term-loop-answer
invariant-term-loop-answer l = Going (text_of l.file l.text.term.now) (arrays_of l.initial.memory l.initial.list) l.initial.f l.initial.z (arrays_of l.memory l.list) l.f l.z × Buffers l.left l.right

abbrev pub decreases-term-loop-answer : goal.decreases-term-loop-answer
decreases-term-loop-answer l = falling (text_of l.file l.text.term.now) (arrays_of l.memory l.list) l.f l.z
