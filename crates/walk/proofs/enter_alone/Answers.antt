-- `walk::enter_alone` meets its contract.
-- Assumes nothing.
use Rattle.walk.proofs.Entering.{abs_bounds, alone_asked, alone_wagons}
use native.Mathlib.Omega.{arith}
use Rattle.walk.proofs.enter_alone.Goals as goal

pub enter_domain-b-requires : goal.enter_domain-b-requires
enter_domain-b-requires c = let b = abs_bounds c.requires.1.2 in (b.4, b.6, b.3, b.1, b.0, alone_asked c.requires.1.2 c.requires.0 c.args.text.now.deep)

pub overflow_add-s : goal.overflow_add-s
overflow_add-s c = omega (arith, abs_bounds c.requires.1.2)

pub past-state-requires : goal.past-state-requires
past-state-requires c = let b = abs_bounds c.requires.1.2 in (b.0, b.1, b.2)

pub returns : goal.returns
returns c = λ file list a b g. rw (c.past-state.ensures, c.stretch.ensures, c.enter_domain-b.ensures.1, c.enter_domain-b.ensures.2, c.enter_domain-b.ensures.3) (alone_wagons g a b c.requires.0 c.enter_domain-b.ensures.0)
