-- `walk::inside` and `walk::term` meet their contracts.
-- Assumes nothing.
use Rattle.std.proofs.Common.{arith, refl, ap}
use Rattle.std.proofs.lemmas.Result.{err_from_is_err_and}
use Rattle.walk.specs.Clauses.{with_entry}
use Rattle.walk.proofs.Loop.{settles_answer, settles_inner, compare_due, compared_stops, compared_goes, compared_falls, compared_few, going_start, now_stated, inner_stated, going_done, inner_due, inner_place, inside_falls, on_bounds, goes_to, falls_to, inner_stops, going_resumed, resumed_falls}
use Rattle.walk.proofs.+inside_term.Goals as goal

pub inside-overflow_add-s : goal.inside-overflow_add-s
inside-overflow_add-s t c = omega (arith, inner_place c.requires.0)

pub inside-term-requires : goal.inside-term-requires
inside-term-requires t c = (omega (arith, c.decreases), (inner_stated c.requires.0, c.requires.1))

pub inside-returns : goal.inside-returns
inside-returns t c = c.term.ensures

pub term-loop-answer-init : goal.term-loop-answer-init
term-loop-answer-init t c = (going_start c.requires.0, c.requires.1)

pub term-turn-requires : goal.term-turn-requires
term-turn-requires t c = (_, now_stated c.loop-answer.invariant.0)

pub term-returns-in-Answer : goal.term-returns-in-Answer
term-returns-in-Answer t c = (going_done c.loop-answer.invariant.0 (settles_answer (c.in-Answer.ensures _ _ _ (now_stated c.loop-answer.invariant.0))), c.loop-answer.invariant.1)

pub term-inside-requires : goal.term-inside-requires
term-inside-requires t c = (let q = inside_falls c.loop-answer.invariant.0 in omega (arith, c.decreases), (inner_due c.loop-answer.invariant.0 (settles_inner (c.in-Inner.ensures _ c.args.file.now c.args.file.now (now_stated c.loop-answer.invariant.0))), c.loop-answer.invariant.1))

pub term-returns-in_err-q-in-Inner : goal.term-returns-in_err-q-in-Inner
term-returns-in_err-q-in-Inner t c = let e = err_from_is_err_and c.from_residual.result c.from_residual.ensures.1 in rw (e.1, e.2) (inner_stops c.loop-answer.invariant.0 (settles_inner (c.in-Inner.ensures _ c.args.file.now c.args.file.now (now_stated c.loop-answer.invariant.0))) c.in_err-q-in-Inner.ensures.0, c.in_err-q-in-Inner.ensures.1)

pub term-loop-answer-smaller-in-Inner : goal.term-loop-answer-smaller-in-Inner
term-loop-answer-smaller-in-Inner t c = rw c.checked-z.ensures (resumed_falls c.loop-answer.invariant.0 (settles_inner (c.in-Inner.ensures _ c.args.file.now c.args.file.now (now_stated c.loop-answer.invariant.0))) c.in_ok-q-in-Inner.ensures.0)

pub term-loop-answer-preserved-in-Inner : goal.term-loop-answer-preserved-in-Inner
term-loop-answer-preserved-in-Inner t c = (rw c.checked-z.ensures (going_resumed c.loop-answer.invariant.0 (settles_inner (c.in-Inner.ensures _ c.args.file.now c.args.file.now (now_stated c.loop-answer.invariant.0))) c.in_ok-q-in-Inner.ensures.0), c.in_ok-q-in-Inner.ensures.1)

pub term-compare-requires : goal.term-compare-requires
term-compare-requires t c = (compare_due (c.in-Compare.ensures _ c.args.file.now c.args.file.now (now_stated c.loop-answer.invariant.0)) (now_stated c.loop-answer.invariant.0), c.loop-answer.invariant.1)

pub term-returns-in-Err : goal.term-returns-in-Err
term-returns-in-Err t c = (rw c.stop_at.ensures (compared_stops c.loop-answer.invariant.0 (c.in-Compare.ensures _ c.args.file.now c.args.file.now (now_stated c.loop-answer.invariant.0)) c.in-Err.ensures.0), c.in-Err.ensures.1)

pub term-completed-z-requires : goal.term-completed-z-requires
term-completed-z-requires t c = compared_few (compared_goes c.loop-answer.invariant.0 (c.in-Compare.ensures _ c.args.file.now c.args.file.now (now_stated c.loop-answer.invariant.0)) c.in-Ok.ensures.0) refl

pub term-push_entry-requires : goal.term-push_entry-requires
term-push_entry-requires t c = on_bounds c.loop-answer.invariant.0 (compared_goes c.loop-answer.invariant.0 (c.in-Compare.ensures _ c.args.file.now c.args.file.now (now_stated c.loop-answer.invariant.0)) c.in-Ok.ensures.0)

pub term-loop-answer-smaller-in-Ok : goal.term-loop-answer-smaller-in-Ok
term-loop-answer-smaller-in-Ok t c = rw (c.completed-z.ensures, c.push_entry.ensures) (compared_falls c.loop-answer.invariant.0 (c.in-Compare.ensures _ c.args.file.now c.args.file.now (now_stated c.loop-answer.invariant.0)) c.in-Ok.ensures.0)

pub term-loop-answer-preserved-in-Ok : goal.term-loop-answer-preserved-in-Ok
term-loop-answer-preserved-in-Ok t c = (rw (c.completed-z.ensures, c.push_entry.ensures) (compared_goes c.loop-answer.invariant.0 (c.in-Compare.ensures _ c.args.file.now c.args.file.now (now_stated c.loop-answer.invariant.0)) c.in-Ok.ensures.0), c.in-Ok.ensures.1)

pub term-push_entry-requires-in-Some : goal.term-push_entry-requires-in-Some
term-push_entry-requires-in-Some t c = on_bounds c.loop-answer.invariant.0 (goes_to c.loop-answer.invariant.0 (c.in-State.ensures _ c.args.file.now c.args.file.now (now_stated c.loop-answer.invariant.0)) (ap (λ o. with_entry o c.loop-answer.f) c.in-Some.is))

pub term-loop-answer-smaller-in-Some : goal.term-loop-answer-smaller-in-Some
term-loop-answer-smaller-in-Some t c = rw c.push_entry-in-Some.ensures (falls_to c.loop-answer.invariant.0 (c.in-State.ensures _ c.args.file.now c.args.file.now (now_stated c.loop-answer.invariant.0)) (ap (λ o. with_entry o c.loop-answer.f) c.in-Some.is))

pub term-loop-answer-preserved-in-Some : goal.term-loop-answer-preserved-in-Some
term-loop-answer-preserved-in-Some t c = (rw c.push_entry-in-Some.ensures (goes_to c.loop-answer.invariant.0 (c.in-State.ensures _ c.args.file.now c.args.file.now (now_stated c.loop-answer.invariant.0)) (ap (λ o. with_entry o c.loop-answer.f) c.in-Some.is)), c.loop-answer.invariant.1)

pub term-loop-answer-smaller : goal.term-loop-answer-smaller
term-loop-answer-smaller t c = falls_to c.loop-answer.invariant.0 (c.in-State.ensures _ c.args.file.now c.args.file.now (now_stated c.loop-answer.invariant.0)) (ap (λ o. with_entry o c.loop-answer.f) c.in_default.is)

pub term-loop-answer-preserved : goal.term-loop-answer-preserved
term-loop-answer-preserved t c = (goes_to c.loop-answer.invariant.0 (c.in-State.ensures _ c.args.file.now c.args.file.now (now_stated c.loop-answer.invariant.0)) (ap (λ o. with_entry o c.loop-answer.f) c.in_default.is), c.loop-answer.invariant.1)
