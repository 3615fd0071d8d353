-- `examine::degree_after` meets its contract.
-- Assumes nothing.
use native.Mathlib.Omega.{arith}
use Rattle.examine.proofs.degree_after.Goals as goal

pub overflow_sub-d : goal.overflow_sub-d
overflow_sub-d c = c.requires.0 (omega arith)

pub overflow_add-result : goal.overflow_add-result
overflow_add-result c = omega (arith, c.requires.1.1 c.from-at.result)

pub returns : goal.returns
returns c = record { at_tau = λ h. absurd (c.if-b-eq0.false h); at_variable = λ h l. rw c.from-at.ensures (omega arith); elsewhere = λ h. absurd (omega arith) }
