-- `steps::couple_at` meets its contract: each answer by its law of Couples.antt.
-- Assumes nothing.
use native.Mathlib.Omega.{arith}
use mathlib.Core.Path.{sym, ◌∙◌}
use Rattle.steps.proofs.Couples.{bounds, wrong, some_tail, alone, partner_inside, couple_found, found_places}
use Rattle.steps.proofs.couple_at.Goals as goal

pub offset_bounds-s-p : goal.offset_bounds-s-p
offset_bounds-s-p c = omega (arith, bounds c.requires)

pub bounds-s-p : goal.bounds-s-p
bounds-s-p c = omega (arith, bounds c.requires)

pub end_of-m-requires : goal.end_of-m-requires
end_of-m-requires c = let b = bounds c.requires in (b.1, b.2)

pub abstractor_after-requires : goal.abstractor_after-requires
abstractor_after-requires c = some_tail c.requires (sym c.symbol_of.ensures.0 ∙ c.if-symbol_of-ne-APPLICATOR.false) c.height_of-h.ensures.0 c.end_of-m.ensures

pub overflow_add-a : goal.overflow_add-a
overflow_add-a c = omega (arith, bounds c.requires, partner_inside c.requires (sym c.symbol_of.ensures.0 ∙ c.if-symbol_of-ne-APPLICATOR.false) c.height_of-h.ensures.0 c.end_of-m.ensures c.in-Some.ensures)

pub end_of-q-requires : goal.end_of-q-requires
end_of-q-requires c = let b = bounds c.requires in (b.1, omega (arith, partner_inside c.requires (sym c.symbol_of.ensures.0 ∙ c.if-symbol_of-ne-APPLICATOR.false) c.height_of-h.ensures.0 c.end_of-m.ensures c.in-Some.ensures))

pub end_of-e-requires : goal.end_of-e-requires
end_of-e-requires c = let b = bounds c.requires in (b.1, c.end_of-q.ensures.inside)

pub offset_bounds-s-a : goal.offset_bounds-s-a
offset_bounds-s-a c = omega (arith, bounds c.requires, partner_inside c.requires (sym c.symbol_of.ensures.0 ∙ c.if-symbol_of-ne-APPLICATOR.false) c.height_of-h.ensures.0 c.end_of-m.ensures c.in-Some.ensures)

pub bounds-s-a : goal.bounds-s-a
bounds-s-a c = omega (arith, bounds c.requires, partner_inside c.requires (sym c.symbol_of.ensures.0 ∙ c.if-symbol_of-ne-APPLICATOR.false) c.height_of-h.ensures.0 c.end_of-m.ensures c.in-Some.ensures)

pub returns-then-symbol_of-ne-APPLICATOR-clause-sought : goal.returns-then-symbol_of-ne-APPLICATOR-clause-sought
returns-then-symbol_of-ne-APPLICATOR-clause-sought c = wrong c.requires c.symbol_of.ensures.0 c.if-symbol_of-ne-APPLICATOR.true

pub returns-in_default-clause-sought : goal.returns-in_default-clause-sought
returns-in_default-clause-sought c = alone c.requires (sym c.symbol_of.ensures.0 ∙ c.if-symbol_of-ne-APPLICATOR.false) c.height_of-h.ensures.0 c.end_of-m.ensures c.in_default.ensures

pub returns : goal.returns
returns c =
    let f = couple_found c.requires (sym c.symbol_of.ensures.0 ∙ c.if-symbol_of-ne-APPLICATOR.false) c.height_of-h.ensures.0 c.end_of-m.ensures c.in-Some.ensures c.end_of-q.ensures c.end_of-e.ensures
    c.depth_of.ensures.0 c.depth_of-2.ensures.0 in
    record { sought = f; places = found_places c.requires f }
