-- `walk::turn` meets its contract.
-- Assumes nothing.
use native.Mathlib.Omega.{arith}
use mathlib.Core.Path.{ap, ◌∙◌}
use Rattle.calculus.specs.Terms.{lift_index}
use Rattle.walk.proofs.Cases.{one_of, rule_at, rule_inner, rule_tau, rule_app, rule_single, rule_waiting, rule_met, rule_typed, rule_copied}
use Rattle.walk.proofs.Turning.{fitted_test, outgrown_test, origin_in, fits_bounds, symbol_in, tau_ready, tau_onward, turns_tau, turns_met, index_bounds, turns_typed, turns_inner, inside_origin, origin_small, ready_to_wait, turns_wait, abstractor_at, turns_wagon, own_tops, tops_in_order}
use Rattle.walk.proofs.turn.Goals as goal

pub test-requires : goal.test-requires
test-requires c = let b = fits_bounds c.requires.1 in let i = origin_in c.args.text.now.known c.requires.1 in (b.0, b.1, b.2, b.3, i.0, i.1)

pub returns-then-not-test : goal.returns-then-not-test
returns-then-not-test c = λ file a b g. rw c.stop_at.ensures (outgrown_test c.args.text.now.known c.if-not-test.true c.test.ensures g _ _)

pub symbol-b-requires : goal.symbol-b-requires
symbol-b-requires c = symbol_in c.requires.1

pub returns-in-InsideFirst : goal.returns-in-InsideFirst
returns-in-InsideFirst c = λ file a b g. let d = rule_inner (rule_at c.symbol-b.ensures c.in-InsideFirst.ensures) in (turns_inner g (fitted_test c.args.text.now.known c.if-not-test.false c.test.ensures) d.0 d.1 d.2 _ _)

pub at_tau-requires : goal.at_tau-requires
at_tau-requires c = tau_ready c.requires.1

pub returns-in-One : goal.returns-in-One
returns-in-One c = λ file a b g. let z = rule_tau (one_of c.in-One.is (rule_at c.symbol-b.ensures c.rule_of.ensures)) in turns_tau g (fitted_test c.args.text.now.known c.if-not-test.false c.test.ensures) (omega (arith, z)) z _ _ c.at_tau.ensures (tau_onward c.at_tau.ensures)

pub overflow_add-o : goal.overflow_add-o
overflow_add-o c = omega (arith, origin_small c.requires.1)

pub offset_bounds-text-o : goal.offset_bounds-text-o
offset_bounds-text-o c = omega (arith, origin_small c.requires.1)

pub bounds-text-o : goal.bounds-text-o
bounds-text-o c = let w = rule_app (one_of c.in-Three.is (rule_at c.symbol-b.ensures c.rule_of.ensures)) in (inside_origin c.requires.1 (fitted_test c.args.text.now.known c.if-not-test.false c.test.ensures) w.0.high c.args.text.now.known).0

pub offset_bounds-text-o-in-Three : goal.offset_bounds-text-o-in-Three
offset_bounds-text-o-in-Three c = omega (arith, origin_small c.requires.1)

pub bounds-text-o-in-Three : goal.bounds-text-o-in-Three
bounds-text-o-in-Three c = let w = rule_app (one_of c.in-Three.is (rule_at c.symbol-b.ensures c.rule_of.ensures)) in (inside_origin c.requires.1 (fitted_test c.args.text.now.known c.if-not-test.false c.test.ensures) w.0.high c.args.text.now.known).1

pub wait-requires : goal.wait-requires
wait-requires c = let w = rule_app (one_of c.in-Three.is (rule_at c.symbol-b.ensures c.rule_of.ensures)) in ready_to_wait c.requires.1 (fitted_test c.args.text.now.known c.if-not-test.false c.test.ensures) w.0.high c.args.text.now.known c.from-n.ensures c.from-y.ensures w.1

pub shape_of-list-in-Three : goal.shape_of-list-in-Three
shape_of-list-in-Three c = let w = rule_app (one_of c.in-Three.is (rule_at c.symbol-b.ensures c.rule_of.ensures)) in (turns_wait c.requires.1 (fitted_test c.args.text.now.known c.if-not-test.false c.test.ensures) w.0.high c.args.text.now.known c.from-n.ensures c.from-y.ensures w.1 c.requires.0 c.requires.0 w.0.due c.wait.ensures).keeps.list_long

pub returns-in-Three : goal.returns-in-Three
returns-in-Three c = λ file a b g. let w = rule_app (one_of c.in-Three.is (rule_at c.symbol-b.ensures c.rule_of.ensures)) in turns_wait g (fitted_test c.args.text.now.known c.if-not-test.false c.test.ensures) w.0.high c.args.text.now.known c.from-n.ensures c.from-y.ensures w.1 _ _ w.0.due c.wait.ensures

pub offset_bounds-text-o-in-Four : goal.offset_bounds-text-o-in-Four
offset_bounds-text-o-in-Four c = omega (arith, origin_small c.requires.1)

pub bounds-text-o-in-Four : goal.bounds-text-o-in-Four
bounds-text-o-in-Four c = let w = rule_single (one_of c.in-Four.is (rule_at c.symbol-b.ensures c.rule_of.ensures)) in (inside_origin c.requires.1 (fitted_test c.args.text.now.known c.if-not-test.false c.test.ensures) w.0.wagon.high c.args.text.now.known).0

pub enter_alone-requires : goal.enter_alone-requires
enter_alone-requires c = let w = rule_single (one_of c.in-Four.is (rule_at c.symbol-b.ensures c.rule_of.ensures)) in (w.1, (c.requires.0, c.args.list.now, abstractor_at c.requires.1 (fitted_test c.args.text.now.known c.if-not-test.false c.test.ensures) w.0.wagon.high c.args.text.now.known c.from-n-in-Four.ensures w.0.no_app w.0.wagon.due))

pub returns-in-Four : goal.returns-in-Four
returns-in-Four c = λ file a b g. let w = rule_single (one_of c.in-Four.is (rule_at c.symbol-b.ensures c.rule_of.ensures)) in turns_wagon g (fitted_test c.args.text.now.known c.if-not-test.false c.test.ensures) w.0.wagon.high w.0.wagon.due (c.enter_alone.ensures _ _ _ _ (abstractor_at g (fitted_test c.args.text.now.known c.if-not-test.false c.test.ensures) w.0.wagon.high c.args.text.now.known c.from-n-in-Four.ensures w.0.no_app w.0.wagon.due))

pub offset_bounds-text-o-in-Five : goal.offset_bounds-text-o-in-Five
offset_bounds-text-o-in-Five c = omega (arith, origin_small c.requires.1)

pub bounds-text-o-in-Five : goal.bounds-text-o-in-Five
bounds-text-o-in-Five c = let w = rule_waiting (own_tops c.requires.1) (one_of c.in-Five.is (rule_at c.symbol-b.ensures c.rule_of.ensures)) in (inside_origin c.requires.1 (fitted_test c.args.text.now.known c.if-not-test.false c.test.ensures) w.0.wagon.high c.args.text.now.known).0

pub enter_waiting-requires : goal.enter_waiting-requires
enter_waiting-requires c = let w = rule_waiting (own_tops c.requires.1) (one_of c.in-Five.is (rule_at c.symbol-b.ensures c.rule_of.ensures)) in (w.1, w.2, (c.requires.0, abstractor_at c.requires.1 (fitted_test c.args.text.now.known c.if-not-test.false c.test.ensures) w.0.wagon.high c.args.text.now.known c.from-n-in-Five.ensures w.0.no_app w.0.wagon.due))

pub returns-in-Five : goal.returns-in-Five
returns-in-Five c = λ file a b g. let w = rule_waiting (own_tops c.requires.1) (one_of c.in-Five.is (rule_at c.symbol-b.ensures c.rule_of.ensures)) in turns_wagon g (fitted_test c.args.text.now.known c.if-not-test.false c.test.ensures) w.0.wagon.high w.0.wagon.due (c.enter_waiting.ensures _ _ _ (abstractor_at g (fitted_test c.args.text.now.known c.if-not-test.false c.test.ensures) w.0.wagon.high c.args.text.now.known c.from-n-in-Five.ensures w.0.no_app w.0.wagon.due))

pub returns-in-Seven : goal.returns-in-Seven
returns-in-Seven c = λ file a b g. let v = rule_met (rule_at c.symbol-b.ensures c.in-Seven.ensures) in rw c.meet.ensures (turns_met g (fitted_test c.args.text.now.known c.if-not-test.false c.test.ensures) v.low v.some v.is_own _ _)

pub seen_index-k-requires : goal.seen_index-k-requires
seen_index-k-requires c = c.requires.1.at.shift_bound

pub replace-requires : goal.replace-requires
replace-requires c = let v = rule_typed (rule_at c.symbol-b.ensures c.in-Eight.ensures) in index_bounds c.requires.1 (fitted_test c.args.text.now.known c.if-not-test.false c.test.ensures) v.low v.some (c.seen_index-k.ensures ∙ ap (λ b. lift_index c.args.s.shift c.args.s.cut b) c.symbol-b.ensures)

pub returns-in-Eight : goal.returns-in-Eight
returns-in-Eight c = λ file a b g. let v = rule_typed (rule_at c.symbol-b.ensures c.in-Eight.ensures) in rw c.replace.ensures (turns_typed g (fitted_test c.args.text.now.known c.if-not-test.false c.test.ensures) v.low v.some (c.seen_index-k.ensures ∙ ap (λ b. lift_index c.args.s.shift c.args.s.cut b) c.symbol-b.ensures) v.is_own _ _)

pub offset_bounds-text-o-in-Twelve : goal.offset_bounds-text-o-in-Twelve
offset_bounds-text-o-in-Twelve c = omega (arith, origin_small c.requires.1)

pub bounds-text-o-in-Twelve : goal.bounds-text-o-in-Twelve
bounds-text-o-in-Twelve c = let w = rule_copied (tops_in_order c.requires.1) (rule_at c.symbol-b.ensures c.in-Twelve.ensures) in (inside_origin c.requires.1 (fitted_test c.args.text.now.known c.if-not-test.false c.test.ensures) w.0.wagon.high c.args.text.now.known).0

pub enter_copied-requires : goal.enter_copied-requires
enter_copied-requires c = let w = rule_copied (tops_in_order c.requires.1) (rule_at c.symbol-b.ensures c.in-Twelve.ensures) in (w.1, (c.requires.0, abstractor_at c.requires.1 (fitted_test c.args.text.now.known c.if-not-test.false c.test.ensures) w.0.wagon.high c.args.text.now.known c.from-n-in-Twelve.ensures w.0.no_app w.0.wagon.due))

pub returns-in-Twelve : goal.returns-in-Twelve
returns-in-Twelve c = λ file a b g. let w = rule_copied (tops_in_order c.requires.1) (rule_at c.symbol-b.ensures c.in-Twelve.ensures) in turns_wagon g (fitted_test c.args.text.now.known c.if-not-test.false c.test.ensures) w.0.wagon.high w.0.wagon.due (c.enter_copied.ensures _ _ _ (abstractor_at g (fitted_test c.args.text.now.known c.if-not-test.false c.test.ensures) w.0.wagon.high c.args.text.now.known c.from-n-in-Twelve.ensures w.0.no_app w.0.wagon.due))
