-- `letters::read_with` meets its contract: the loop is `Reading` of Reading.antt.
-- Assumes nothing.
use Prim.Native.Nat.{◌+◌}
use mathlib.Core.Path.{◌≡◌, refl, ◌∙◌}
use native.Mathlib.Omega.{arith}
use Rattle.letters.specs.Clauses.{too_deep}
use Rattle.letters.proofs.Reading.{terminal_stored, operator_stored, reading_start, reading_ready, reading_length, reading_deep, reading_next, reading_end, reading_high}
use Rattle.letters.proofs.read_with.Goals.{then-b-lt254, else-b-lt254}
use Rattle.letters.proofs.read_with.Goals as goal

pub loop-i-init : goal.loop-i-init
loop-i-init c = (refl, λ t a. let q : c.args.at + 0 ≡ c.args.at = omega arith in rw q (reading_start _ a c.requires.0.standing.short c.requires.1))

pub returns-then-scope-room : goal.returns-then-scope-room
returns-then-scope-room c = record { all = λ t a. too_deep (reading_deep (c.loop-i.invariant.1 t a) c.loop-i-test.true c.if-scope-room.true); same_length = reading_length (c.loop-i.invariant.1 _ c.requires.0.standing.stands) }

pub overflow_sub-height : goal.overflow_sub-height
overflow_sub-height c = omega (arith, reading_ready (c.loop-i.invariant.1 _ c.requires.0.standing.stands) c.loop-i-test.true)

pub overflow_add-height : goal.overflow_add-height
overflow_add-height c = omega (arith, reading_high (c.loop-i.invariant.1 _ c.requires.0.standing.stands) c.loop-i-test.true c.requires.0.high)

pub letter_of-requires : goal.letter_of-requires
letter_of-requires c = (
  elim c.if-b-lt254.branch [ then-b-lt254 w ↦ omega (arith, w.symbol-is, w.lifted_index-symbol.ensures.1) | else-b-lt254 w ↦ omega (arith, w.symbol-is, c.from-x.ensures, c.type_inv.s c.loop-i.i) ],
  omega (arith, c.requires.0.deep),
  reading_high (c.loop-i.invariant.1 _ c.requires.0.standing.stands) c.loop-i-test.true c.requires.0.high,
)

pub advance-parts-requires : goal.advance-parts-requires
advance-parts-requires c = reading_ready (c.loop-i.invariant.1 _ c.requires.0.standing.stands) c.loop-i-test.true

pub loop-i-preserved : goal.loop-i-preserved
loop-i-preserved c = (
  c.advance-parts.ensures.same_length ∙ c.loop-i.invariant.0,
  λ t a. let q : c.args.at + (c.loop-i.i + 1) ≡ c.args.at + c.loop-i.i + 1 = omega arith in rw q (reading_next (c.loop-i.invariant.1 t a) c.loop-i-test.true c.if-scope-room.false (elim c.if-b-lt254.branch [
    | then-b-lt254 w ↦ terminal_stored w.if-b-lt254.true c.from-x.ensures (w.symbol-is ∙ w.lifted_index-symbol.ensures.0) c.letter_of.ensures refl
    | else-b-lt254 w ↦ operator_stored w.if-b-lt254.false c.from-x.ensures w.symbol-is c.letter_of.ensures refl
  ]) c.advance-parts.ensures),
)

pub returns : goal.returns
returns c = record { all = λ t a. reading_end (c.loop-i.invariant.1 t a) c.loop-i-test.false; same_length = reading_length (c.loop-i.invariant.1 _ c.requires.0.standing.stands) }
