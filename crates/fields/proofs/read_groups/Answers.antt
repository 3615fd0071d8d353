-- `fields::read_groups` meets its contract: the loop's invariant is that the groups counted and those read from `at` on make all of them.
-- Assumes nothing.
use native.Mathlib.Omega.{arith}
use mathlib.Core.Path.{sym, ap, ◌∙◌}
use Rattle.fields.proofs.Laws.{group_ended, groups_more, layout_group}
use Rattle.fields.specs.Fields.{GroupAt, Sequence, with_groups, layout_with}
use Rattle.fields.proofs.read_groups.Goals as goal

pub loop-at-preserved : goal.loop-at-preserved
loop-at-preserved c =
    let l = c.loop-at in
    let q = sym c.in_ok-at.ensures in
    let counted = λ (g : Sequence GroupAt). layout_with l.groups (with_groups c.args.end g) in
    ((group_ended _ _ q).inside, omega (arith, group_ended _ _ q), sym (layout_group l.groups _ _ _) ∙ ap counted (sym (groups_more _ _ c.loop-at-test.true q)) ∙ l.invariant.2)
