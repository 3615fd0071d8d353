-- `walk::whole` meets its contract.
-- Assumes nothing.
use Prim.Native.Nat.{ℕ}
use mathlib.Core.Path.{refl}
use native.Mathlib.Omega.{arith}
use Rattle.std.proofs.lemmas.List.{length-replicate}
use Rattle.walk.proofs.Beginning.{whole_term, begun, answered_passed, answered_stopped, answered_full}
use Rattle.walk.proofs.whole.Goals as goal

pub whole_as_slice-term : goal.whole_as_slice-term
whole_as_slice-term g c = omega (arith, c.requires.4)

pub measure-requires : goal.measure-requires
measure-requires g c = (whole_term c.requires.0, omega (arith, c.requires.2, length-replicate {A = ℕ} g.row.TERM 0), omega (arith, c.requires.2, length-replicate {A = ℕ} g.row.TERM 0), omega (arith, c.requires.2, length-replicate {A = ℕ} g.row.TERM 0))

pub invariant_of-text : goal.invariant_of-text
invariant_of-text g c = record {
  known = record { sized = c.measure.ensures.0; sizes_long = omega (arith, c.measure.ensures.2, c.requires.2, length-replicate {A = ℕ} g.row.TERM 0); scopes_long = omega (arith, c.measure.ensures.3, c.requires.2, length-replicate {A = ℕ} g.row.TERM 0) };
  deep = record { deep = c.measure.ensures.4; long = omega (arith, c.measure.ensures.5, c.requires.2, length-replicate {A = ℕ} g.row.TERM 0) };
}

pub term-requires : goal.term-requires
term-requires g c = (begun c.requires.0 c.empty_frame-f.ensures refl refl refl, record { left_long = c.measure.ensures.1; right_long = c.requires.1.right_long })

pub returns-in-Ok : goal.returns-in-Ok
returns-in-Ok g c = (rw (length-replicate {A = ℕ} g.row.LIST 0) at (answered_passed c.requires.0 c.empty_frame-f.ensures refl refl refl c.in-Ok.ensures.0), c.in-Ok.ensures.1)

pub returns-in-Err-Stopped : goal.returns-in-Err-Stopped
returns-in-Err-Stopped g c = let k = rw c.in-Err-Stopped.field-0-is at c.in-Err-Stopped.ensures in (rw (length-replicate {A = ℕ} g.row.LIST 0) at (answered_stopped c.requires.0 c.empty_frame-f.ensures refl refl refl k.0), k.1)

pub returns-in-Err-ListFull : goal.returns-in-Err-ListFull
returns-in-Err-ListFull g c = let k = rw c.in-Err-ListFull.field-0-is at c.in-Err-ListFull.ensures in (rw (length-replicate {A = ℕ} g.row.LIST 0) at (answered_full c.requires.0 c.empty_frame-f.ensures refl refl refl k.0), k.1)
