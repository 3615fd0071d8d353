-- `counting::terms_in` meets its contract: a turn adds the terms whose first part has i bytes.
-- Assumes nothing.
use native.Mathlib.Omega.{arith}
use mathlib.Core.Path.{ap, sym, ◌∙◌}
use Prim.Native.Nat.{ℕ, ◌+◌, ◌-◌}
use Rattle.counting.specs.Clauses.{terms_in}
use Rattle.counting.proofs.Splits.{no_term, one_terminal, splits_start, splits_whole, terms_small, splits_small, turn_small, turn_next}
use Rattle.counting.proofs.+terms_in.Goals as goal

pub returns-in-0 : goal.returns-in-0
returns-in-0 t c = sym (ap (λ (k : ℕ). terms_in k c.args.d) c.in-0.is ∙ no_term c.args.d)

pub returns-in-1 : goal.returns-in-1
returns-in-1 t c = c.terminals_in.ensures ∙ sym (ap (λ (k : ℕ). terms_in k c.args.d) c.in-1.is ∙ one_terminal c.args.d)

pub loop-i-init : goal.loop-i-init
loop-i-init t c = (omega arith, sym (splits_start c.args.d (c.args.n - 1)))

pub overflow_add-sum : goal.overflow_add-sum
overflow_add-sum t c =
    let j = c.args.n - 1 - c.loop-i.i in
    omega (arith, c.terms_in-after_fe.ensures, c.terms_in-after_ff.ensures, terms_small {n = j} c.args.d (omega arith), terms_small {n = j} (c.args.d + 1) (omega arith))

pub overflow_mul-sum : goal.overflow_mul-sum
overflow_mul-sum t c = omega (arith, turn_small c.args.d (c.args.n - 1) c.loop-i.i c.terms_in-first.ensures c.terms_in-after_fe.ensures c.terms_in-after_ff.ensures (omega arith) (omega arith))

pub overflow_add-sum-in-loop-i : goal.overflow_add-sum-in-loop-i
overflow_add-sum-in-loop-i t c =
    let m = turn_small c.args.d (c.args.n - 1) c.loop-i.i c.terms_in-first.ensures c.terms_in-after_fe.ensures c.terms_in-after_ff.ensures (omega arith) (omega arith) in
    omega (arith, c.loop-i.invariant.1, splits_small c.args.d (c.args.n - 1) c.loop-i.i (omega arith) (omega arith), m)

pub loop-i-preserved : goal.loop-i-preserved
loop-i-preserved t c =
    (omega arith, turn_next c.args.d (c.args.n - 1) c.loop-i.i c.terms_in-first.ensures c.terms_in-after_fe.ensures c.terms_in-after_ff.ensures c.loop-i.invariant.1)

pub returns-after-loop-i : goal.returns-after-loop-i
returns-after-loop-i t c = splits_whole c.args.d c.loop-i.invariant.1 (omega arith) (omega arith)
