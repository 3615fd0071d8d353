-- `walk::past` meets its contract.
-- Assumes nothing.
use Rattle.std.proofs.Common.{◌≡◌, ◌+◌, cond}
use Rattle.walk.proofs.Numbers.{chosen, other}
use Rattle.walk.proofs.past.Goals.{then-s, else-s}
use Rattle.walk.proofs.past.Goals as goal

pub returns : goal.returns
returns c =
    let m : c.if-s.result ≡ cond c.args.s.own (c.args.s.from + 1 + c.args.n) c.args.s.place = elim c.if-s.branch [ then-s w ↦ chosen _ c.args.s.place w.if-s.true w.result-is | else-s w ↦ other _ (c.args.s.from + 1 + c.args.n) w.if-s.false w.result-is ] in
    rw m
