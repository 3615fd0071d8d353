-- `printing::print_term` meets its contract.
-- Assumes nothing.
use Rattle.std.proofs.lemmas.Result.{err_from_is_err_and}
use Rattle.examine.proofs.Laws.{refused_answer}
use Rattle.calls.proofs.Writing.{accepted_term}
use Rattle.printing.proofs.Writing.{print_refused, short_term, page_fits, print_short, print_written}
use Rattle.printing.proofs.print_term.Goals as goal

pub returns-in_err-examine_term : goal.returns-in_err-examine_term
returns-in_err-examine_term c =
    let p = err_from_is_err_and c.from_residual.result c.from_residual.ensures.1 in
    rw (p.1, p.2) (print_refused _ _ (refused_answer _ _ c.in_err-examine_term.ensures))

pub page_length-n-requires : goal.page_length-n-requires
page_length-n-requires c = short_term _ (λ i. (c.type_inv.s i).fits) (accepted_term _ _ c.in_ok-examine_term.ensures)

pub returns-then-out-n : goal.returns-then-out-n
returns-then-out-n c = rw c.at.ensures (print_short _ (λ i. (c.type_inv.s i).fits) (accepted_term _ _ c.in_ok-examine_term.ensures) c.page_length-n.ensures _ c.if-out-n.true)

pub write_page-requires : goal.write_page-requires
write_page-requires c = page_fits _ (λ i. (c.type_inv.s i).fits) (accepted_term _ _ c.in_ok-examine_term.ensures) c.page_length-n.ensures c.if-out-n.false

pub returns : goal.returns
returns c = print_written _ (λ i. (c.type_inv.s i).fits) (accepted_term _ _ c.in_ok-examine_term.ensures) c.page_length-n.ensures _ c.if-out-n.false c.write_page.ensures.0
