-- `letters::read_flat` meets its contract: the loop is `Flat` of Flat.antt.
-- Assumes nothing.
use Prim.Native.Nat.{◌+◌}
use mathlib.Core.Path.{◌≡◌, refl}
use native.Mathlib.Omega.{arith}
use Rattle.letters.proofs.Reading.{reading_length, reading_end}
use Rattle.letters.proofs.Flat.{flat_start, flat_bounds, terminal_next, applicator_next}
use Rattle.letters.proofs.read_flat.Goals.{then-b-lt254, else-b-lt254}
use Rattle.letters.proofs.read_flat.Goals as goal

pub loop-i-init : goal.loop-i-init
loop-i-init c = λ t a. let q : c.args.at + 0 ≡ c.args.at = omega arith in rw q (flat_start a c.requires.0.standing.short)

pub overflow_sub-here : goal.overflow_sub-here
overflow_sub-here c = omega (arith, flat_bounds (c.loop-i.invariant _ c.requires.0.standing.stands) c.loop-i-test.true (omega (arith, c.requires.0.deep)) c.requires.0.high)

pub overflow_cast-out : goal.overflow_cast-out
overflow_cast-out c = omega (arith, c.lifted_index.ensures.1, flat_bounds (c.loop-i.invariant _ c.requires.0.standing.stands) c.loop-i-test.true (omega (arith, c.requires.0.deep)) c.requires.0.high)

pub overflow_cast-out-else-b-lt254 : goal.overflow_cast-out-else-b-lt254
overflow_cast-out-else-b-lt254 c = omega (arith, c.from-x.ensures, c.type_inv.s c.loop-i.i, flat_bounds (c.loop-i.invariant _ c.requires.0.standing.stands) c.loop-i-test.true (omega (arith, c.requires.0.deep)) c.requires.0.high)

pub overflow_add-above-else-b-lt254 : goal.overflow_add-above-else-b-lt254
overflow_add-above-else-b-lt254 c = omega (arith, flat_bounds (c.loop-i.invariant _ c.requires.0.standing.stands) c.loop-i-test.true (omega (arith, c.requires.0.deep)) c.requires.0.high)

pub loop-i-preserved : goal.loop-i-preserved
loop-i-preserved c =
    λ t a. let q : c.args.at + (c.loop-i.i + 1) ≡ c.args.at + c.loop-i.i + 1 = omega arith in rw q (elim c.if-b-lt254.branch [
      | then-b-lt254 w ↦ terminal_next (c.loop-i.invariant t a) c.loop-i-test.true w.if-b-lt254.true c.from-x.ensures w.lifted_index.ensures.0 refl w.out-is w.above-is
      | else-b-lt254 w ↦ applicator_next (c.loop-i.invariant t a) c.loop-i-test.true c.requires.1 w.if-b-lt254.false c.from-x.ensures (omega arith) w.out-is w.above-is
    ])

pub returns : goal.returns
returns c = record { all = λ t a. reading_end (c.loop-i.invariant t a).reading c.loop-i-test.false; same_length = reading_length (c.loop-i.invariant _ c.requires.0.standing.stands).reading }
