-- `waiting::put` meets its contract.
-- Assumes nothing.
use native.Mathlib.Omega.{arith}
use Rattle.waiting.proofs.Bytes.{moved_mark, whole, first_asked, second_asked, puts, apart_copy, apart_mark, source_length, byte_asked, again_asked, one_puts}
use Rattle.waiting.proofs.put.Goals as goal

pub byte_in-b-requires : goal.byte_in-b-requires
byte_in-b-requires c = omega (arith, whole 0 c.requires.4)

pub lifted_byte-requires : goal.lifted_byte-requires
lifted_byte-requires c = (c.requires.0, c.requires.1, byte_asked 0 c.requires.4 c.if-size-eq1.true c.byte_in-b.ensures)

pub lifted_byte-requires-then-size-eq1 : goal.lifted_byte-requires-then-size-eq1
lifted_byte-requires-then-size-eq1 c = (c.requires.2, omega arith, again_asked 0 c.requires.4 c.if-size-eq1.true c.byte_in-b.ensures c.lifted_byte.ensures)

pub returns-then-size-eq1 : goal.returns-then-size-eq1
returns-then-size-eq1 c = one_puts _ c.requires.4 c.if-size-eq1.true c.byte_in-b.ensures c.lifted_byte.ensures c.lifted_byte-then-size-eq1.ensures

pub copy-requires : goal.copy-requires
copy-requires c = let h = whole 0 c.requires.4 in ((λ f. apart_copy h.0 (c.requires.3 f)), omega (arith, source_length c.args.t.now c.args.work.now c.args.in_term c.args.to c.args.mark), omega arith)

pub lift_copy-requires : goal.lift_copy-requires
lift_copy-requires c = (c.requires.0, c.requires.1, let h = whole 0 c.requires.4 in first_asked _ c.requires.4 (moved_mark _ _ _ _ _ (λ f. apart_mark h.0 (c.requires.3 f)) c.copy.ensures) c.requires.5)

pub lift_copy-requires-2 : goal.lift_copy-requires-2
lift_copy-requires-2 c = (c.requires.2, omega arith, let h = whole 0 c.requires.4 in second_asked _ c.requires.4 (moved_mark _ _ _ _ _ (λ f. apart_mark h.0 (c.requires.3 f)) c.copy.ensures) c.lift_copy.ensures c.requires.5)

pub returns : goal.returns
returns c = let h = whole 0 c.requires.4 in puts _ c.requires.4 (moved_mark _ _ _ _ _ (λ f. apart_mark h.0 (c.requires.3 f)) c.copy.ensures) c.lift_copy.ensures c.lift_copy-2.ensures
