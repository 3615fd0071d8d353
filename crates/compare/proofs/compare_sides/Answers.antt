-- `compare::compare_sides` meets its contract.
-- Assumes nothing.
use native.Mathlib.Omega.{arith}
use Rattle.std.proofs.lemmas.Result.{err_from_is_err_and}
use Rattle.compare.proofs.Runs.{form_room, left_stops, right_stops, lengths_differ, letters_differ, letters_agree}
use Rattle.compare.proofs.compare_sides.Goals as goal

pub returns-in_err-l : goal.returns-in_err-l
returns-in_err-l c = let e = err_from_is_err_and c.from_residual.result c.from_residual.ensures.1 in
    rw (e.1, e.2) (left_stops c.in_err-l.ensures)

pub returns-in_err-r : goal.returns-in_err-r
returns-in_err-r c = let e = err_from_is_err_and c.from_residual-in_err-r.result c.from_residual-in_err-r.ensures.1 in
    rw (e.1, e.2) (right_stops c.in_ok-l.ensures c.in_err-r.ensures)

pub returns-then-l-r : goal.returns-then-l-r
returns-then-l-r c = lengths_differ c.in_ok-l.ensures c.in_ok-r.ensures c.if-l-r.true

pub same-requires : goal.same-requires
same-requires c = omega (arith, form_room c.in_ok-l.ensures c.requires.left_body)

pub returns-then-not-same : goal.returns-then-not-same
returns-then-not-same c = letters_differ c.in_ok-l.ensures c.in_ok-r.ensures c.if-l-r.false c.same.ensures c.if-not-same.true

pub returns : goal.returns
returns c = letters_agree c.in_ok-l.ensures c.in_ok-r.ensures c.if-l-r.false c.same.ensures c.if-not-same.false
