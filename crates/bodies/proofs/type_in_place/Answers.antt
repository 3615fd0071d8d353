-- `bodies::type_in_place` meets its contract: what the last variable means (Meaning.antt), put in its place.
-- Assumes nothing.
use native.Mathlib.Omega.{arith}
use Rattle.bodies.proofs.Binding.{findable}
use Rattle.bodies.proofs.Meaning.{place_inside, last_in_body, last_small, no_type_there, type_put, puttable, some_bound, abstractor_before, domain_inside, looked_up, domain_outside}
use Rattle.bodies.proofs.type_in_place.Goals as goal

pub overflow_sub-p : goal.overflow_sub-p
overflow_sub-p c = omega (arith, place_inside (last_in_body c.requires))

pub offset_bounds-s-p : goal.offset_bounds-s-p
offset_bounds-s-p c = omega (arith, place_inside (last_in_body c.requires))

pub bounds-s-p : goal.bounds-s-p
bounds-s-p c = omega (arith, place_inside (last_in_body c.requires))

pub returns-then-k-eq0 : goal.returns-then-k-eq0
returns-then-k-eq0 c = no_type_there c.requires c.symbol_of-k.ensures.0 c.if-k-eq0.true

pub abstractor_of-q-requires : goal.abstractor_of-q-requires
abstractor_of-q-requires c = findable (some_bound c.depth_of-d.ensures.0 c.if-k-d.true (last_in_body c.requires) c.symbol_of-k.ensures.0 (omega (arith, c.if-k-eq0.false)) (omega (arith, c.symbol_of-k.ensures.0, last_small c.requires.held)))

pub offset_bounds-s-q : goal.offset_bounds-s-q
offset_bounds-s-q c = omega (arith, place_inside (last_in_body c.requires), abstractor_before c.depth_of-d.ensures.0 c.if-k-d.true c.abstractor_of-q.ensures (last_in_body c.requires) c.symbol_of-k.ensures.0 (omega (arith, c.if-k-eq0.false)) (omega (arith, c.symbol_of-k.ensures.0, last_small c.requires.held)))

pub bounds-s-q : goal.bounds-s-q
bounds-s-q c = omega (arith, place_inside (last_in_body c.requires), abstractor_before c.depth_of-d.ensures.0 c.if-k-d.true c.abstractor_of-q.ensures (last_in_body c.requires) c.symbol_of-k.ensures.0 (omega (arith, c.if-k-eq0.false)) (omega (arith, c.symbol_of-k.ensures.0, last_small c.requires.held)))

pub overflow_add-q : goal.overflow_add-q
overflow_add-q c = omega (arith, place_inside (last_in_body c.requires), abstractor_before c.depth_of-d.ensures.0 c.if-k-d.true c.abstractor_of-q.ensures (last_in_body c.requires) c.symbol_of-k.ensures.0 (omega (arith, c.if-k-eq0.false)) (omega (arith, c.symbol_of-k.ensures.0, last_small c.requires.held)))

pub end_of-to-requires : goal.end_of-to-requires
end_of-to-requires c = let b = place_inside (last_in_body c.requires) in (b.1, omega (arith, place_inside (last_in_body c.requires), abstractor_before c.depth_of-d.ensures.0 c.if-k-d.true c.abstractor_of-q.ensures (last_in_body c.requires) c.symbol_of-k.ensures.0 (omega (arith, c.if-k-eq0.false)) (omega (arith, c.symbol_of-k.ensures.0, last_small c.requires.held))))

pub put-requires : goal.put-requires
put-requires c = puttable (last_in_body c.requires) c.symbol_of-k.ensures.0 (omega (arith, c.if-k-eq0.false)) (omega (arith, c.symbol_of-k.ensures.0, last_small c.requires.held)) (domain_inside c.depth_of-d.ensures.0 c.if-k-d.true c.abstractor_of-q.ensures c.height_of-h.ensures.0 c.end_of-to.ensures (place_inside (last_in_body c.requires)).0)

pub returns-then-k-d : goal.returns-then-k-d
returns-then-k-d c = type_put c.requires c.symbol_of-k.ensures.0 (omega (arith, c.if-k-eq0.false)) (domain_inside c.depth_of-d.ensures.0 c.if-k-d.true c.abstractor_of-q.ensures c.height_of-h.ensures.0 c.end_of-to.ensures (place_inside (last_in_body c.requires)).0) c.put.ensures

pub entry_at-e-requires : goal.entry_at-e-requires
entry_at-e-requires c = looked_up c.depth_of-d.ensures.0 c.if-k-d.false (last_in_body c.requires) c.symbol_of-k.ensures.0 (omega (arith, c.symbol_of-k.ensures.0, last_small c.requires.held))

pub put-requires-2 : goal.put-requires-2
put-requires-2 c = puttable (last_in_body c.requires) c.symbol_of-k.ensures.0 (omega (arith, c.if-k-eq0.false)) (omega (arith, c.symbol_of-k.ensures.0, last_small c.requires.held)) (domain_outside c.depth_of-d.ensures.0 c.if-k-d.false c.entry_at-e.ensures)

pub returns : goal.returns
returns c = type_put c.requires c.symbol_of-k.ensures.0 (omega (arith, c.if-k-eq0.false)) (domain_outside c.depth_of-d.ensures.0 c.if-k-d.false c.entry_at-e.ensures) c.put-2.ensures
