-- `walk::wait` meets its contract.
-- Assumes nothing.
use Rattle.std.proofs.Common.{◌≡◌, ◌+◌, cond, refl, arith}
use Rattle.walk.specs.Clauses.{wait_full, wait_goes}
use Rattle.walk.proofs.Numbers.{chosen, other}
use Rattle.walk.proofs.wait.Goals.{then-s, else-s}
use Rattle.walk.proofs.wait.Goals as goal

pub returns-then-list-top : goal.returns-then-list-top
returns-then-list-top c = wait_full refl refl c.if-list-top.true

pub put_aside-at-requires : goal.put_aside-at-requires
put_aside-at-requires c = (_, c.requires)

pub store_slot-requires : goal.store_slot-requires
store_slot-requires c = (omega (arith, c.if-list-top.false), record { place_fits = c.requires.origin_small; at_fits = c.put_aside-at.ensures.1; depth_fits = c.requires.len_small; shift_fits = c.requires.shift_small; cut_fits = c.requires.cut_small; scope_fits = c.requires.scope_small })

pub returns : goal.returns
returns c =
    let m : c.if-s.middle ≡ cond c.args.s.own (c.args.s.top + 1) c.args.s.middle = elim c.if-s.branch [ then-s w ↦ chosen _ c.args.s.middle w.if-s.true w.middle-is | else-s w ↦ other _ (c.args.s.top + 1) w.if-s.false w.middle-is ] in
    rw (c.past-state.ensures, c.max.ensures, m) (wait_goes c.if-list-top.false c.put_aside-at.ensures.0 c.store_slot.ensures)
