-- `frames::entry_at` meets its contract.
-- Assumes nothing.
use Rattle.std.proofs.Common.{◌∙◌, arith}
use Rattle.frames.proofs.Laws.{Ends, ends_last, ends_inner, entry_bounds, looked}
use Rattle.frames.proofs.entry_at.Goals as goal
use Rattle.frames.proofs.entry_at.Goals.{then-k-gt1, else-k-gt1}

pub parts_of-requires : goal.parts_of-requires
parts_of-requires c =
    let i = c.requires in
    let e : Ends c.args.frame.now.starts c.args.frame.now.len c.args.frame.now.end c.args.k c.if-k-gt1.e =
    elim c.if-k-gt1.branch [ then-k-gt1 w ↦ ends_inner (omega arith) (w.e-is ∙ w.from-e.ensures) | else-k-gt1 w ↦ ends_last (omega arith) w.e-is ] in
    entry_bounds i.1 i.2 e c.from-p.ensures i.0

pub returns : goal.returns
returns c =
    let i = c.requires in
    let e : Ends c.args.frame.now.starts c.args.frame.now.len c.args.frame.now.end c.args.k c.if-k-gt1.e =
    elim c.if-k-gt1.branch [ then-k-gt1 w ↦ ends_inner (omega arith) (w.e-is ∙ w.from-e.ensures) | else-k-gt1 w ↦ ends_last (omega arith) w.e-is ] in
    looked i.1 i.2 e c.from-p.ensures i.0 c.parts_of.ensures
