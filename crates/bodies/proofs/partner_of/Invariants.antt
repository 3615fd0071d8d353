-- `bodies::partner_of` meets its contract: what is found from i on is what is found from q on (`Searching` of Finding.antt).
-- Assumes nothing.
use Rattle.bodies.proofs.Finding.{Searching}
use Rattle.bodies.proofs.partner_of.Given as goal

abbrev pub invariant-loop-i : goal.invariant-loop-i
invariant-loop-i l = Searching l.s l.q l.h l.i l.unmatched l.next
