-- `walk::enter_waiting` meets its contract.
-- Assumes nothing.
use Rattle.walk.proofs.Entering.{abs_bounds, here, one_listed, pair_middle, pair_domain, waiting_last, waiting_slot, waiting_bounds, waiting_asked, waiting_wagons}
use Rattle.walk.proofs.Turning.{sizes_known}
use native.Mathlib.Omega.{arith}
use Rattle.walk.proofs.enter_waiting.Goals as goal

pub overflow_sub-top : goal.overflow_sub-top
overflow_sub-top c = omega (arith, one_listed c.requires.2.1 c.requires.0 c.requires.1)

pub slot_at-v-requires : goal.slot_at-v-requires
slot_at-v-requires c = omega (arith, one_listed c.requires.2.1 c.requires.0 c.requires.1)

pub bounds-text-o : goal.bounds-text-o
bounds-text-o c = omega (arith, waiting_slot c.requires.2.1 c.slot_at-v.ensures.0 c.requires.0 c.requires.1, (sizes_known c.args.text.now.known).long)

pub overflow_add-b-2 : goal.overflow_add-b-2
overflow_add-b-2 c = omega (arith, waiting_bounds c.requires.2.1 c.slot_at-v.ensures.0 c.requires.0 c.requires.1 (sizes_known c.args.text.now.known) c.from-k.ensures)

pub overflow_add-b-3 : goal.overflow_add-b-3
overflow_add-b-3 c = omega (arith, waiting_bounds c.requires.2.1 c.slot_at-v.ensures.0 c.requires.0 c.requires.1 (sizes_known c.args.text.now.known) c.from-k.ensures)

pub overflow_add-b-4 : goal.overflow_add-b-4
overflow_add-b-4 c = omega (arith, waiting_bounds c.requires.2.1 c.slot_at-v.ensures.0 c.requires.0 c.requires.1 (sizes_known c.args.text.now.known) c.from-k.ensures)

pub overflow_add-at : goal.overflow_add-at
overflow_add-at c = omega (arith, c.start_of-at.ensures.1)

pub overflow_sub-frame : goal.overflow_sub-frame
overflow_sub-frame c = omega (arith, waiting_slot c.requires.2.1 c.slot_at-v.ensures.0 c.requires.0 c.requires.1)

pub put-a-requires : goal.put-a-requires
put-a-requires c = rw c.start_of-at.ensures.0 (waiting_asked c.requires.2.1 c.slot_at-v.ensures.0 c.requires.0 c.requires.1 (sizes_known c.args.text.now.known) c.from-k.ensures {b = c.is_lost-lost.result} (λ j. omega (arith, c.is_lost-lost.ensures j, c.stretch.ensures)) c.args.text.now.deep)

pub enter_domain-e-requires : goal.enter_domain-e-requires
enter_domain-e-requires c = let b = abs_bounds c.requires.2.1 in let l = (waiting_last c.requires.2.1 c.slot_at-v.ensures.0 c.requires.0 c.requires.1 c.is_lost-lost.result (λ j. omega (arith, c.is_lost-lost.ensures j, c.stretch.ensures)) (here c.requires.2.1)) in let u = (rw c.start_of-at.ensures.0 at c.put-a.ensures) in (b.4, pair_middle c.requires.2.1 l (sizes_known c.args.text.now.known) c.from-k.ensures u, b.3, b.1, b.0, pair_domain c.requires.2.1 l (sizes_known c.args.text.now.known) c.from-k.ensures u c.args.text.now.deep)

pub overflow_add-s : goal.overflow_add-s
overflow_add-s c = omega (arith, abs_bounds c.requires.2.1)

pub overflow_sub-s : goal.overflow_sub-s
overflow_sub-s c = omega (arith, waiting_bounds c.requires.2.1 c.slot_at-v.ensures.0 c.requires.0 c.requires.1 (sizes_known c.args.text.now.known) c.from-k.ensures)

pub past-state-requires : goal.past-state-requires
past-state-requires c = let b = abs_bounds c.requires.2.1 in (b.0, b.1, b.2)

pub returns : goal.returns
returns c = λ file a b g. rw (c.past-state.ensures, c.enter_domain-e.ensures.1, c.enter_domain-e.ensures.2, c.enter_domain-e.ensures.3, c.stretch.ensures) (waiting_wagons g c.slot_at-v.ensures.0 c.requires.0 c.requires.1 (sizes_known c.args.text.now.known) c.from-k.ensures {b = c.is_lost-lost.result} (λ j. omega (arith, c.is_lost-lost.ensures j, c.stretch.ensures)) (rw c.start_of-at.ensures.0 at c.put-a.ensures) c.enter_domain-e.ensures.0 a b)
