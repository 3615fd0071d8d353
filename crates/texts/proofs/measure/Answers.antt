-- `texts::measure` meets its contract, by the laws of Measuring.antt.
-- Assumes nothing.
use native.Mathlib.Omega.{arith}
use Rattle.texts.proofs.Measuring.{whole_lettered, notable, depths_known, measured_none, measured_all, measurable, small_extent, measured_more}
use Rattle.texts.proofs.measure.Goals as goal

pub note_depths-requires : goal.note_depths-requires
note_depths-requires c = notable c.requires.0 _ c.told-letters c.read.ensures c.requires.3

pub loop-i-init : goal.loop-i-init
loop-i-init c = measured_none c.requires.0 (whole_lettered c.requires.0 _ c.told-letters c.read.ensures) c.requires.1 c.requires.2

pub extent_at-v-requires : goal.extent_at-v-requires
extent_at-v-requires c = measurable c.loop-i.invariant c.loop-i-test.true

pub overflow_cast-sizes : goal.overflow_cast-sizes
overflow_cast-sizes c = omega (arith, (small_extent c.loop-i.invariant c.loop-i-test.true c.extent_at-v.ensures).0)

pub overflow_cast-scopes : goal.overflow_cast-scopes
overflow_cast-scopes c = omega (arith, (small_extent c.loop-i.invariant c.loop-i-test.true c.extent_at-v.ensures).1)

pub loop-i-preserved : goal.loop-i-preserved
loop-i-preserved c = measured_more c.loop-i.invariant c.loop-i-test.true c.extent_at-v.ensures

pub returns : goal.returns
returns c = (measured_all c.loop-i.invariant c.loop-i-test.false, c.read.array_long, c.loop-i.invariant.same_sizes, c.loop-i.invariant.same_scopes, depths_known c.requires.0 _ c.told-letters c.read.ensures c.note_depths.ensures, c.note_depths.ensures.same_length)
