-- What is known of each place of a term's own text, and copies of the terms that stand there.
-- Assumes nothing.
use Rattle.std.specs.Prelude.{ℕ, suc, ◌+◌, ◌≤◌, ◌<◌, ◌≡◌, List, [], ◌∷◌, ◌++◌, length, get_or}
use Rattle.calculus.specs.Terms.{Term, tau, var, app, abs, size}
use Rattle.code.specs.Limits.{longest_term, most_abstractors}
use Rattle.code.specs.Claims.{Stands}
use Rattle.code.specs.Scope.{scope}

-- The sizes and scopes of all the terms that stand in t.
pub record Sized (t sizes scopes : List ℕ) : Type 0 where
  pub sizes_are : (p e : ℕ) (X : Term) → Stands t p e X → get_or sizes p 0 ≡ size X
  pub scopes_are : (p e : ℕ) (X : Term) → Stands t p e X → get_or scopes p 0 ≡ scope X

-- The depths of a term's symbols, where its first has depth d: how many abstractors each has in scope.
unfoldable pub depths_of : ℕ → Term → List ℕ
depths_of d tau = d ∷ []
depths_of d (var k) = d ∷ []
depths_of d (app K B) = d ∷ (depths_of d K ++ depths_of d B)
depths_of d (abs U B) = d ∷ (depths_of d U ++ depths_of (suc d) B)

-- How many of its own abstractors a term's i-th symbol has in scope.
abbrev pub depth_in : Term → ℕ → ℕ
depth_in X i = get_or (depths_of 0 X) i 0

-- The depths of all places of t.
pub record Depths (t depths : List ℕ) : Type 0 where
  pub depths_are : (p e : ℕ) (X : Term) → Stands t p e X → (i : ℕ) → i < size X → get_or depths (p + i) 0 ≡ get_or depths p 0 + depth_in X i

-- t holds the bytes of a term within the limits and nothing else.
pub record WholeTerm (t : List ℕ) : Type 0 where
  pub term : Term
  pub stands : Stands t 0 (length t) term
  pub short : length t ≤ longest_term
  pub shallow : scope term ≤ most_abstractors

-- Two terms that differ in their indices at most.
pub data Alike : Term → Term → Type 0 where
  alike_tau : Alike tau tau
  alike_var : {j k : ℕ} → Alike (var j) (var k)
  alike_app : {K L B C : Term} → Alike K L → Alike B C → Alike (app K B) (app L C)
  alike_abs : {U L B C : Term} → Alike U L → Alike B C → Alike (abs U B) (abs L C)

-- The text of t from place o on is X, but for its indices: X is a copy of it.
pub record Origin (t : List ℕ) (o : ℕ) (X : Term) : Type 0 where
  pub term : Term
  pub end : ℕ
  pub stands : Stands t o end term
  pub alike : Alike term X
