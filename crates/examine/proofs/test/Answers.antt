-- `examine::test` meets its contract.
-- Assumes nothing.
use native.Mathlib.Omega.{arith}
use Rattle.examine.specs.Clauses.{passes, index_beyond, too_deep}
use Rattle.examine.proofs.test.Goals.{else-b-eq255-via-then-b-eq255+else-scopes-ge-MOST_ABSTRACTORS, else-b-eq255-via-else-b-eq255, else-b-lt254-via-then-b-lt254+else-d-b, else-b-lt254-via-else-b-lt254}
use Rattle.examine.proofs.test.Goals as goal

pub returns-then-scopes-ge-MOST_ABSTRACTORS : goal.returns-then-scopes-ge-MOST_ABSTRACTORS
returns-then-scopes-ge-MOST_ABSTRACTORS c = rw c.at.ensures (too_deep (omega arith) (omega arith))

pub returns-then-d-b : goal.returns-then-d-b
returns-then-d-b c = rw c.at-then-d-b.ensures (index_beyond (omega arith) (omega arith))

pub returns : goal.returns
returns c = passes
    (λ l. elim c.else-b-lt254.branch [ else-b-lt254-via-then-b-lt254+else-d-b w ↦ omega arith | else-b-lt254-via-else-b-lt254 w ↦ absurd (omega arith) ])
    (λ h. elim c.else-b-eq255.branch [ else-b-eq255-via-then-b-eq255+else-scopes-ge-MOST_ABSTRACTORS w ↦ omega arith | else-b-eq255-via-else-b-eq255 w ↦ absurd (w.if-b-eq255.false h) ])
