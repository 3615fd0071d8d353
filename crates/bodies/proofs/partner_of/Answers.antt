-- `bodies::partner_of` meets its contract: what is found from i on is what is found from q on (`Searching` of Finding.antt).
-- Assumes nothing.
use mathlib.Core.Path.{sym, ◌∙◌}
use native.Mathlib.Omega.{arith}
use Rattle.bodies.proofs.Finding.{search_end, search_outside, search_inside, search_abstractor, search_partner, search_applicator}
use Rattle.bodies.proofs.partner_of.Goals as goal

pub returns-then-g-h-2 : goal.returns-then-g-h-2
returns-then-g-h-2 c = search_outside c.loop-i.invariant c.loop-i-test.true (omega (arith, c.height_of-g.ensures.0, c.if-g-h-2.true))

pub returns-then-unmatched-eq0 : goal.returns-then-unmatched-eq0
returns-then-unmatched-eq0 c = search_partner c.loop-i.invariant c.loop-i-test.true (omega (arith, c.height_of-g.ensures.0, c.if-g-h.true, c.if-g-h-2.false)) (sym c.symbol_of.ensures.0 ∙ c.if-symbol_of-eq-APPLICATOR.true) c.if-unmatched-eq0.true

pub loop-i-preserved-else-unmatched-eq0 : goal.loop-i-preserved-else-unmatched-eq0
loop-i-preserved-else-unmatched-eq0 c = search_applicator c.loop-i.invariant c.loop-i-test.true (omega (arith, c.height_of-g.ensures.0, c.if-g-h.true, c.if-g-h-2.false)) (sym c.symbol_of.ensures.0 ∙ c.if-symbol_of-eq-APPLICATOR.true) c.if-unmatched-eq0.false

pub loop-i-preserved-else-symbol_of-eq-APPLICATOR : goal.loop-i-preserved-else-symbol_of-eq-APPLICATOR
loop-i-preserved-else-symbol_of-eq-APPLICATOR c = search_abstractor c.loop-i.invariant c.loop-i-test.true (omega (arith, c.height_of-g.ensures.0, c.if-g-h.true, c.if-g-h-2.false)) (λ e. c.if-symbol_of-eq-APPLICATOR.false (c.symbol_of.ensures.0 ∙ e))

pub loop-i-preserved : goal.loop-i-preserved
loop-i-preserved c = search_inside c.loop-i.invariant c.loop-i-test.true (omega (arith, c.height_of-g.ensures.0, c.if-g-h.false))

pub returns : goal.returns
returns c = search_end c.loop-i.invariant (omega (arith, c.loop-i-test.false))
