-- `texts::measure` meets its contract, by the laws of Measuring.antt.
-- Assumes nothing.
use Rattle.texts.proofs.Measuring.{MeasuredFrom}
use Rattle.texts.proofs.measure.Given as goal

abbrev pub invariant-loop-i : goal.invariant-loop-i
invariant-loop-i l = MeasuredFrom l.t l.letters l.initial.sizes l.initial.scopes l.sizes l.scopes l.i
