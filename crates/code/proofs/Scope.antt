-- Laws of how many abstractors are in scope.
-- Assumes nothing.
use Prim.Native.Nat.{ℕ, suc, ◌+◌, ◌≤◌}
use mathlib.Core.Path.{◌≡◌, refl}
use native.Mathlib.Omega.{arith}
use Rattle.calculus.specs.Terms.{Term, tau, var, app, abs, Closed, closed_tau, closed_var, closed_app, closed_abs, lift}
use Rattle.code.specs.Limits.{most_abstractors}
use Rattle.code.specs.Code.{Coded, coded_tau, coded_var, coded_app, coded_abs}
use Rattle.code.specs.Scope.{scope, Scopes}

pub scope_lift : (n c : ℕ) (t : Term) → scope (lift n c t) ≡ scope t
unfolding scope lift
scope_lift n c tau = refl
scope_lift n c (var k) = refl
scope_lift n c (app K B) = rw (scope_lift n c K, scope_lift n c B)
scope_lift n c (abs U B) = rw (scope_lift n c U, scope_lift n (suc c) B)

pub closed_coded : {d : ℕ} {t : Term} → Closed d t → d + scope t ≤ most_abstractors → Coded t
unfolding scope
closed_coded closed_tau h = coded_tau
closed_coded (closed_var p q) h = coded_var p (omega arith)
closed_coded (closed_app c e) h = coded_app (closed_coded c (omega arith)) (closed_coded e (omega arith))
closed_coded (closed_abs c e) h = coded_abs (closed_coded c (omega arith)) (closed_coded e (omega arith))

pub scopes_hold : Scopes
scopes_hold = record { scope_lift = scope_lift; closed_coded = closed_coded }
