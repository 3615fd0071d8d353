-- `printing::write_page` meets its contract.
-- Assumes nothing.
use Rattle.printing.proofs.Writing.{Paging}
use Rattle.printing.proofs.write_page.Given as goal

abbrev pub invariant-loop-b : goal.invariant-loop-b
invariant-loop-b l = Paging l.s l.initial.out l.out l.spot.at l.spot.room l.b-index
