-- `walk::enter_copied` meets its contract.
-- Assumes nothing.
use Rattle.walk.proofs.Entering.{abs_bounds, here, pair_middle, pair_domain, copied_last, copied_slot, copied_bounds, copied_asked, copied_wagons}
use Rattle.walk.proofs.Turning.{sizes_known}
use native.Mathlib.Omega.{arith}
use Rattle.walk.proofs.enter_copied.Goals as goal

pub bounds-text-o : goal.bounds-text-o
bounds-text-o c = omega (arith, copied_slot c.requires.1.1 c.slot_at-v.ensures.0 c.requires.0, (sizes_known c.args.text.now.known).long)

pub overflow_sub-frame : goal.overflow_sub-frame
overflow_sub-frame c = omega (arith, copied_slot c.requires.1.1 c.slot_at-v.ensures.0 c.requires.0)

pub put-a-requires : goal.put-a-requires
put-a-requires c = copied_asked c.requires.1.1 c.slot_at-v.ensures.0 c.requires.0 (sizes_known c.args.text.now.known) c.from-k.ensures c.args.text.now.deep

pub enter_domain-b-requires : goal.enter_domain-b-requires
enter_domain-b-requires c = let b = abs_bounds c.requires.1.1 in (b.4, pair_middle c.requires.1.1 (copied_last c.requires.1.1 c.slot_at-v.ensures.0 c.requires.0 (here c.requires.1.1)) (sizes_known c.args.text.now.known) c.from-k.ensures c.put-a.ensures, b.3, b.1, b.0, pair_domain c.requires.1.1 (copied_last c.requires.1.1 c.slot_at-v.ensures.0 c.requires.0 (here c.requires.1.1)) (sizes_known c.args.text.now.known) c.from-k.ensures c.put-a.ensures c.args.text.now.deep)

pub overflow_add-s : goal.overflow_add-s
overflow_add-s c = omega (arith, abs_bounds c.requires.1.1)

pub overflow_sub-s : goal.overflow_sub-s
overflow_sub-s c = omega (arith, copied_bounds c.requires.1.1 c.slot_at-v.ensures.0 c.requires.0 (sizes_known c.args.text.now.known) c.from-k.ensures)

pub past-state-requires : goal.past-state-requires
past-state-requires c = let b = abs_bounds c.requires.1.1 in (b.0, b.1, b.2)

pub returns : goal.returns
returns c = λ file a b g. rw (c.past-state.ensures, c.stretch.ensures, c.enter_domain-b.ensures.1, c.enter_domain-b.ensures.2, c.enter_domain-b.ensures.3) (copied_wagons g c.slot_at-v.ensures.0 c.requires.0 (sizes_known c.args.text.now.known) c.from-k.ensures c.put-a.ensures c.enter_domain-b.ensures.0 a b)
