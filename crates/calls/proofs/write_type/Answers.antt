-- `calls::write_type` meets its contract.
-- Assumes nothing.
use Rattle.std.proofs.lemmas.Result.{err_from_is_err_and}
use Rattle.examine.proofs.Laws.{refused_answer}
use Rattle.calls.proofs.Writing.{accepted_term, type_refused}
use Rattle.calls.proofs.write_type.Goals as goal

pub returns-in_err-examine_term : goal.returns-in_err-examine_term
returns-in_err-examine_term c =
    let p = err_from_is_err_and c.from_residual.result c.from_residual.ensures.1 in
    rw (p.1, p.2) (type_refused _ _ (refused_answer _ _ c.in_err-examine_term.ensures))

pub type_accepted-requires : goal.type_accepted-requires
type_accepted-requires c = accepted_term _ _ c.in_ok-examine_term.ensures
