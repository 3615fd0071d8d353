-- `program::explanation::line_end` meets its contract.
-- Assumes nothing.
use native.Mathlib.Omega.{arith}
use Rattle.program.proofs.explanation.line_end.Goals as goal

pub returns-then-end-s : goal.returns-then-end-s
returns-then-end-s c = record { past = omega arith; within = omega arith; lines = omega arith }

pub returns : goal.returns
returns c = record { past = omega arith; within = omega arith; lines = omega arith }
