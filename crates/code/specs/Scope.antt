-- How many abstractors are in scope, and what fits (document 01, conditions 6 and 11).
-- Assumes nothing.
use Rattle.std.specs.Prelude.{ℕ, suc, ◌+◌, ◌≤◌, max, ◌≡◌}
use Rattle.calculus.specs.Terms.{Term, tau, var, app, abs, size, Closed, lift}
use Rattle.code.specs.Limits.{longest_term, most_abstractors}
use Rattle.code.specs.Code.{Coded}

-- The most abstractors of a term that any of its symbols has in scope.
unfoldable pub scope : Term → ℕ
scope tau = 0
scope (var k) = 0
scope (app K B) = max (scope K) (scope B)
scope (abs U B) = max (scope U) (suc (scope B))

-- A compared body or a written result that stands after d abstractors is within the limits.
pub record Fits (d : ℕ) (t : Term) : Type 0 where
  pub short : size t ≤ longest_term
  pub shallow : d + scope t ≤ most_abstractors

pub record Scopes : Type 0 where
  pub scope_lift : (n c : ℕ) (t : Term) → scope (lift n c t) ≡ scope t
  -- where at most 253 are in scope every index is a variable's byte
  pub closed_coded : {d : ℕ} {t : Term} → Closed d t → d + scope t ≤ most_abstractors → Coded t
