-- `bodies::local` meets its contract: what the variable means (Meaning.antt), put in its place.
-- Assumes nothing.
use native.Mathlib.Omega.{arith}
use Rattle.bodies.proofs.Meaning.{place_inside, no_variable, puttable, local_put, local_alone, some_bound, alone_inside, applicator_there, partner_inside, looked_up, alone_outside, partner_outside, domain_positive}
use Rattle.bodies.proofs.local.Goals as goal
use Rattle.bodies.proofs.local.Goals.{then-k-eq0-via-then-k-eq0, then-k-eq0-via-else-k-eq0+then-k-ge-APPLICATOR}

pub offset_bounds-s-p : goal.offset_bounds-s-p
offset_bounds-s-p c = omega (arith, place_inside c.requires)

pub bounds-s-p : goal.bounds-s-p
bounds-s-p c = omega (arith, place_inside c.requires)

pub returns-then-k-eq0 : goal.returns-then-k-eq0
returns-then-k-eq0 c = no_variable c.requires c.symbol_of-k.ensures.0 (λ a b. elim c.then-k-eq0.branch [
  | then-k-eq0-via-then-k-eq0 w ↦ omega (arith, w.if-k-eq0.true)
  | then-k-eq0-via-else-k-eq0+then-k-ge-APPLICATOR w ↦ omega (arith, w.if-k-ge-APPLICATOR.true)
])

pub find-requires : goal.find-requires
find-requires c = some_bound c.depth_of-d.ensures.0 c.if-k-d.true c.requires c.symbol_of-k.ensures.0 (omega (arith, c.if-k-eq0.false)) (omega (arith, c.if-k-ge-APPLICATOR.false))

pub returns-in_default : goal.returns-in_default
returns-in_default c = local_alone c.requires c.symbol_of-k.ensures.0 (omega (arith, c.if-k-eq0.false)) (omega (arith, c.if-k-ge-APPLICATOR.false)) (alone_inside c.depth_of-d.ensures.0 c.if-k-d.true c.find.ensures c.in_default.is)

pub overflow_sub-applied : goal.overflow_sub-applied
overflow_sub-applied c = omega (arith, (applicator_there c.depth_of-d.ensures.0 c.if-k-d.true c.find.ensures c.in-Some.is c.requires c.symbol_of-k.ensures.0 (omega (arith, c.if-k-eq0.false)) (omega (arith, c.if-k-ge-APPLICATOR.false))))

pub offset_bounds-s-applied : goal.offset_bounds-s-applied
offset_bounds-s-applied c = omega (arith, (applicator_there c.depth_of-d.ensures.0 c.if-k-d.true c.find.ensures c.in-Some.is c.requires c.symbol_of-k.ensures.0 (omega (arith, c.if-k-eq0.false)) (omega (arith, c.if-k-ge-APPLICATOR.false))), place_inside c.requires)

pub bounds-s-applied : goal.bounds-s-applied
bounds-s-applied c = omega (arith, (applicator_there c.depth_of-d.ensures.0 c.if-k-d.true c.find.ensures c.in-Some.is c.requires c.symbol_of-k.ensures.0 (omega (arith, c.if-k-eq0.false)) (omega (arith, c.if-k-ge-APPLICATOR.false))), place_inside c.requires)

pub overflow_sub-x : goal.overflow_sub-x
overflow_sub-x c = omega (arith, (applicator_there c.depth_of-d.ensures.0 c.if-k-d.true c.find.ensures c.in-Some.is c.requires c.symbol_of-k.ensures.0 (omega (arith, c.if-k-eq0.false)) (omega (arith, c.if-k-ge-APPLICATOR.false))), c.depth_of.ensures.0)

pub put-requires : goal.put-requires
put-requires c = puttable c.requires c.symbol_of-k.ensures.0 (omega (arith, c.if-k-eq0.false)) (omega (arith, c.if-k-ge-APPLICATOR.false)) (partner_inside c.depth_of-d.ensures.0 c.if-k-d.true c.find.ensures c.in-Some.is c.depth_of.ensures.0)

pub returns-then-k-d : goal.returns-then-k-d
returns-then-k-d c = local_put c.requires c.symbol_of-k.ensures.0 (omega (arith, c.if-k-eq0.false)) (omega (arith, c.if-k-ge-APPLICATOR.false)) (partner_inside c.depth_of-d.ensures.0 c.if-k-d.true c.find.ensures c.in-Some.is c.depth_of.ensures.0) c.put.ensures

pub entry_at-e-requires : goal.entry_at-e-requires
entry_at-e-requires c = looked_up c.depth_of-d.ensures.0 c.if-k-d.false c.requires c.symbol_of-k.ensures.0 (omega (arith, c.if-k-ge-APPLICATOR.false))

pub returns-in_default-applied : goal.returns-in_default-applied
returns-in_default-applied c = local_alone c.requires c.symbol_of-k.ensures.0 (omega (arith, c.if-k-eq0.false)) (omega (arith, c.if-k-ge-APPLICATOR.false)) (alone_outside c.depth_of-d.ensures.0 c.if-k-d.false c.entry_at-e.ensures c.in_default-applied.is)

pub overflow_sub-x-2 : goal.overflow_sub-x-2
overflow_sub-x-2 c = omega (arith, domain_positive c.depth_of-d.ensures.0 c.if-k-d.false c.entry_at-e.ensures c.in-Some-applied.is c.requires)

pub put-requires-2 : goal.put-requires-2
put-requires-2 c = puttable c.requires c.symbol_of-k.ensures.0 (omega (arith, c.if-k-eq0.false)) (omega (arith, c.if-k-ge-APPLICATOR.false)) (partner_outside c.depth_of-d.ensures.0 c.if-k-d.false c.entry_at-e.ensures c.in-Some-applied.is)

pub returns : goal.returns
returns c = local_put c.requires c.symbol_of-k.ensures.0 (omega (arith, c.if-k-eq0.false)) (omega (arith, c.if-k-ge-APPLICATOR.false)) (partner_outside c.depth_of-d.ensures.0 c.if-k-d.false c.entry_at-e.ensures c.in-Some-applied.is) c.put-2.ensures
