-- `walk::put_aside` meets its contract.
-- Assumes nothing.
use mathlib.Core.Path.{refl}
use native.Mathlib.Omega.{arith}
use Rattle.walk.specs.Clauses.{aside_copied, aside_own}
use Rattle.walk.proofs.Turning.{is_false, is_true}
use Rattle.walk.proofs.put_aside.Goals as goal

pub returns-then-not-s : goal.returns-then-not-s
returns-then-not-s c = (aside_copied (is_false _ c.if-not-s.true) refl refl, c.requires.1.from_small)

pub overflow_sub-at : goal.overflow_sub-at
overflow_sub-at c = let r = c.requires.1.own_room (is_true _ c.if-not-s.false) in omega (arith, r.1, c.low.ensures)

pub copy_from-requires : goal.copy_from-requires
copy_from-requires c = let r = c.requires.1.own_room (is_true _ c.if-not-s.false) in (r.0, omega (arith, r.1, r.2, c.low.ensures))

pub returns : goal.returns
returns c = let r = c.requires.1.own_room (is_true _ c.if-not-s.false) in (aside_own (is_true _ c.if-not-s.false) (omega (arith, r.1, c.low.ensures)) c.copy_from.ensures, omega (arith, r.1, r.2, c.low.ensures))
