-- `program::explanation::explain` meets its contract.
-- Assumes nothing.
use mathlib.Core.Path.{refl}
use Rattle.program.proofs.Told.{told_bodies}
use borrow.Author.Rules.{rules}
use Rattle.program.proofs.explanation.explain.Goals as goal

pub push_bodies-requires : goal.push_bodies-requires
push_bodies-requires c = record {
  bodies = told_bodies c.args.s.now _ _ refl refl _ (λ i. (c.type_inv.s i).fits) c.in-Err.ensures c.in-BodiesDiffer.is;
  room = search rules;
}
