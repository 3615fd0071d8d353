-- `steps::abstractor_after` meets its contract: the loop is `Passing` of Tails.antt.
-- Assumes nothing.
use mathlib.Core.Logic.{inl, inr}
use native.Mathlib.Omega.{arith}
use Rattle.steps.proofs.Tails.{passing_start, passing_bounds, passed_all, passed_partner, pass_item}
use Rattle.steps.proofs.abstractor_after.Goals as goal
use Rattle.steps.proofs.abstractor_after.Goals.{then-symbol-eq-APPLICATOR, else-symbol-eq-APPLICATOR+else-unmatched-eq0}

pub bounds-s-q : goal.bounds-s-q
bounds-s-q c = omega (arith, passing_bounds c.requires passing_start)

pub loop-symbol-init : goal.loop-symbol-init
loop-symbol-init c = (passing_start, c.symbol_of-symbol.ensures.0)

pub overflow_add-unmatched : goal.overflow_add-unmatched
overflow_add-unmatched c = omega (arith, passing_bounds c.requires c.loop-symbol.invariant.0)

pub returns-then-unmatched-eq0 : goal.returns-then-unmatched-eq0
returns-then-unmatched-eq0 c = let w = c.loop-symbol.invariant in passed_partner c.requires w.0 w.1 c.loop-symbol-test.true c.if-symbol-eq-APPLICATOR.false c.if-unmatched-eq0.true

pub end_of-q-requires : goal.end_of-q-requires
end_of-q-requires c = let b = passing_bounds c.requires c.loop-symbol.invariant.0 in (b.2, omega arith)

-- The wagon at q is passed, whichever it is: twice, each with a name of its own, which a must-fail edit goes by.
pub bounds-s-q-in-loop-symbol : goal.bounds-s-q-in-loop-symbol
bounds-s-q-in-loop-symbol c = let w = c.loop-symbol.invariant in
    omega (arith, passing_bounds c.requires (pass_item c.requires w.0 w.1 c.loop-symbol-test.true (elim c.if-symbol-eq-APPLICATOR.branch [ then-symbol-eq-APPLICATOR b ↦ inl (b.if-symbol-eq-APPLICATOR.true, b.unmatched-is) | else-symbol-eq-APPLICATOR+else-unmatched-eq0 b ↦ inr (b.if-symbol-eq-APPLICATOR.false, b.if-unmatched-eq0.false, b.unmatched-is) ]) c.end_of-q.ensures))

pub loop-symbol-preserved : goal.loop-symbol-preserved
loop-symbol-preserved c = let w = c.loop-symbol.invariant in
    (pass_item c.requires w.0 w.1 c.loop-symbol-test.true (elim c.if-symbol-eq-APPLICATOR.branch [ then-symbol-eq-APPLICATOR d ↦ inl (d.if-symbol-eq-APPLICATOR.true, d.unmatched-is) | else-symbol-eq-APPLICATOR+else-unmatched-eq0 d ↦ inr (d.if-symbol-eq-APPLICATOR.false, d.if-unmatched-eq0.false, d.unmatched-is) ]) c.end_of-q.ensures, c.symbol_of-symbol-in-loop-symbol.ensures.0)

pub returns : goal.returns
returns c = let w = c.loop-symbol.invariant in passed_all c.requires w.0 w.1 (omega (arith, c.loop-symbol-test.false))
