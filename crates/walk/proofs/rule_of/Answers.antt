-- `walk::rule_of` meets its contract.
-- Assumes nothing.
use native.Mathlib.Omega.{arith}
use mathlib.Core.Logic.{inl, inr}
use Rattle.walk.specs.Clauses.{inside_first, rule_i, rule_iii, rule_iv, rule_v, rule_vi, rule_vii, rule_viii, rule_ix, rule_x, rule_xi, rule_xii}
use Rattle.walk.proofs.Cases.{is_due, done_first, past_variable, past_copied, past_own, past_other}
use Rattle.walk.proofs.rule_of.Goals.{then-s+else-b-eq0+else-b-ge254, else-s}
use Rattle.walk.proofs.rule_of.Goals as goal

pub returns-then-b-eq0 : goal.returns-then-b-eq0
returns-then-b-eq0 c = rule_i c.if-s.true c.if-b-eq0.true

pub returns-then-due : goal.returns-then-due
returns-then-due c = inside_first c.if-s.true (is_due c.if-due.true c.due.ensures).1 c.if-b-ge254.true

pub returns-then-b-eq254 : goal.returns-then-b-eq254
returns-then-b-eq254 c = rule_iii c.if-s.true (done_first c.if-due.false c.due.ensures c.if-s.true) c.if-b-eq254.true

pub returns-then-s-2 : goal.returns-then-s-2
returns-then-s-2 c = rule_iv c.if-s.true (done_first c.if-due.false c.due.ensures c.if-s.true) (omega (arith, c.if-b-ge254.true, c.if-b-eq254.false)) c.if-s-2.true

pub returns-then-b-ge254 : goal.returns-then-b-ge254
returns-then-b-ge254 c = rule_v c.if-s.true (done_first c.if-due.false c.due.ensures c.if-s.true) (omega (arith, c.if-b-ge254.true, c.if-b-eq254.false)) c.if-s-2.false

pub returns-then-b-eq0-2 : goal.returns-then-b-eq0-2
returns-then-b-eq0-2 c = rule_vi (past_other _ c.args.b (elim c.if-s.branch [ then-s+else-b-eq0+else-b-ge254 w ↦ past_variable w.if-s.true (omega (arith, w.if-b-eq0.false)) (omega (arith, w.if-b-ge254.false)) | else-s w ↦ past_copied w.if-s.false ]) (inl c.if-b-eq0-2.true)) c.if-b-eq0-2.true

pub returns-then-s-3 : goal.returns-then-s-3
returns-then-s-3 c = let p = past_own _ c.args.b (elim c.if-s.branch [ then-s+else-b-eq0+else-b-ge254 w ↦ past_variable w.if-s.true (omega (arith, w.if-b-eq0.false)) (omega (arith, w.if-b-ge254.false)) | else-s w ↦ past_copied w.if-s.false ]) c.if-s-3.true in rule_vii c.if-s-3.true p.0 p.1

pub returns-then-b-lt254 : goal.returns-then-b-lt254
returns-then-b-lt254 c = rule_viii c.if-s-3.false (omega (arith, c.if-b-eq0-2.false)) c.if-b-lt254.true

pub returns-then-b-eq254-2 : goal.returns-then-b-eq254-2
returns-then-b-eq254-2 c = rule_ix (past_other _ c.args.b (elim c.if-s.branch [ then-s+else-b-eq0+else-b-ge254 w ↦ past_variable w.if-s.true (omega (arith, w.if-b-eq0.false)) (omega (arith, w.if-b-ge254.false)) | else-s w ↦ past_copied w.if-s.false ]) (inr (omega (arith, c.if-b-lt254.false)))) c.if-b-eq254-2.true

pub returns-then-s-4 : goal.returns-then-s-4
returns-then-s-4 c = rule_x (past_other _ c.args.b (elim c.if-s.branch [ then-s+else-b-eq0+else-b-ge254 w ↦ past_variable w.if-s.true (omega (arith, w.if-b-eq0.false)) (omega (arith, w.if-b-ge254.false)) | else-s w ↦ past_copied w.if-s.false ]) (inr (omega (arith, c.if-b-lt254.false)))) (omega (arith, c.if-b-lt254.false, c.if-b-eq254-2.false)) c.if-s-4.true

pub returns-then-s-5 : goal.returns-then-s-5
returns-then-s-5 c = rule_xi (past_other _ c.args.b (elim c.if-s.branch [ then-s+else-b-eq0+else-b-ge254 w ↦ past_variable w.if-s.true (omega (arith, w.if-b-eq0.false)) (omega (arith, w.if-b-ge254.false)) | else-s w ↦ past_copied w.if-s.false ]) (inr (omega (arith, c.if-b-lt254.false)))) (omega (arith, c.if-b-lt254.false, c.if-b-eq254-2.false)) c.if-s-4.false c.if-s-5.true

pub returns : goal.returns
returns c = rule_xii (past_other _ c.args.b (elim c.if-s.branch [ then-s+else-b-eq0+else-b-ge254 w ↦ past_variable w.if-s.true (omega (arith, w.if-b-eq0.false)) (omega (arith, w.if-b-ge254.false)) | else-s w ↦ past_copied w.if-s.false ]) (inr (omega (arith, c.if-b-lt254.false)))) (omega (arith, c.if-b-lt254.false, c.if-b-eq254-2.false)) c.if-s-5.false
