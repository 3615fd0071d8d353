-- `steps::rewrite` meets its contract: by the laws of Writing.antt.
-- Assumes nothing.
use Prim.Native.Nat.{ℕ, ◌≤◌}
use native.Mathlib.Omega.{arith}
use lib.ListN.{length, replicate}
use Rattle.std.proofs.lemmas.List.{length-replicate}
use Rattle.bodies.proofs.Storing.{moved_within}
use Rattle.steps.proofs.Storing.{copied_start}
use Rattle.steps.proofs.Writing.{fillable, gap_movable, movable, copyable, rewritten}
use Rattle.steps.proofs.rewrite.Goals as goal

room : {n k : ℕ} → k ≤ n → k ≤ length (replicate {A = ℕ} n 0)
room {n} l = omega (arith, length-replicate {A = ℕ} n 0)

pub fill-requires : goal.fill-requires
fill-requires t c = fillable c.requires.0 (room c.requires.1)

pub returns : goal.returns
returns t c =
    let l = room c.requires.1 in
    let g = gap_movable c.requires.0 in
    let gap = moved_within g.1 g.2 c.copy_within.ensures.after in
    let m = movable c.requires.0 c.fill.ensures l gap in
    let tail = moved_within m.1 m.2 c.copy_within-2.ensures.after in
    let b = copyable c.requires.0 c.fill.ensures l gap tail in
    rewritten c.requires.0 c.fill.ensures l gap tail (copied_start b.0 b.1 (omega arith) c.copy_from_slice.ensures.after)
