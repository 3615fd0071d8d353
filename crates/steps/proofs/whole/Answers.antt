-- `steps::whole` meets its contract: each answer by its law of Substituting.antt.
-- Assumes nothing.
use Rattle.std.proofs.lemmas.Result.{err_from_is_err_and}
use native.Mathlib.Omega.{arith}
use Rattle.steps.proofs.Couples.{in_scope, search_refused}
use Rattle.steps.proofs.Writing.{K_lies, K_deep}
use Rattle.steps.proofs.Substituting.{the_couple, long, deep, rewritable, done}
use Rattle.steps.proofs.whole.Goals as goal

pub returns-in_err-x : goal.returns-in_err-x
returns-in_err-x c = let e = err_from_is_err_and c.from_residual.result c.from_residual.ensures.1 in rw (e.1, e.2) (λ w f l. (search_refused c.couple_at.ensures.sought c.in_err-x.was w f).1)

pub measure-uses-requires : goal.measure-uses-requires
measure-uses-requires c = in_scope (the_couple c.requires c.couple_at.ensures.sought c.in_ok-x.was)

pub returns-then-kept-size-gt-LONGEST_TERM : goal.returns-then-kept-size-gt-LONGEST_TERM
returns-then-kept-size-gt-LONGEST_TERM c = long c.requires c.couple_at.ensures.sought c.in_ok-x.was c.measure-uses.ensures c.if-kept-size-gt-LONGEST_TERM.true

pub deepest-requires : goal.deepest-requires
deepest-requires c = K_lies (the_couple c.requires c.couple_at.ensures.sought c.in_ok-x.was)

pub overflow_sub-most : goal.overflow_sub-most
overflow_sub-most c = omega (arith, K_deep (the_couple c.requires c.couple_at.ensures.sought c.in_ok-x.was) c.deepest.ensures)

pub overflow_add-most : goal.overflow_add-most
overflow_add-most c = omega (arith, K_deep (the_couple c.requires c.couple_at.ensures.sought c.in_ok-x.was) c.deepest.ensures, c.measure-uses.ensures.small)

pub returns-then-most-len : goal.returns-then-most-len
returns-then-most-len c = deep c.requires c.couple_at.ensures.sought c.in_ok-x.was c.measure-uses.ensures c.deepest.ensures (omega (arith, c.if-most-len.true))

pub substitute-requires : goal.substitute-requires
substitute-requires c = rewritable c.requires c.couple_at.ensures.sought c.in_ok-x.was c.measure-uses.ensures c.deepest.ensures c.if-kept-size-gt-LONGEST_TERM.false (omega (arith, c.if-most-len.false))

pub returns : goal.returns
returns c = done c.requires c.couple_at.ensures.sought c.in_ok-x.was c.measure-uses.ensures c.deepest.ensures c.if-kept-size-gt-LONGEST_TERM.false (omega (arith, c.if-most-len.false)) c.substitute.ensures
