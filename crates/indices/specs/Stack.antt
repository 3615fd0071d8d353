-- The parts of a term that a pass over it has still to read: for each, the abstractors in scope at it.
-- Assumes nothing.
use Rattle.std.specs.Prelude.{ℕ, zero, suc, ◌+◌, ◌≤◌, ◌<◌, ◌≡◌, cond, List, [], ◌∷◌, eqb, ltb, length, get_or}
use Rattle.code.specs.Limits.{longest_term}

-- The scopes of n parts, that of the part being read first: the others are the array's values at n - 1 down to 1.
unfoldable pub pending : List ℕ → ℕ → ℕ → List ℕ
pending stack d zero = []
pending stack d (suc n) = d ∷ pending stack (get_or stack n 0) n

-- The abstractors in scope at the second part of an applicator or an abstractor that has d in scope.
unfoldable pub body_scope : ℕ → ℕ → ℕ
body_scope b d = cond (eqb b 0xff) (suc d) d

-- The scopes after a byte: a terminal ends its part, an applicator or an abstractor has two.
unfoldable pub after : ℕ → List ℕ → List ℕ
unfolding body_scope
after b [] = []
after b (d ∷ D) = cond (ltb b 0xfe) D (d ∷ body_scope b d ∷ D)

-- A pass over the bytes from a place up to e has room: each part before it has a byte, and each byte adds one at most.
abbrev pub Roomy : List ℕ → ℕ → ℕ → Type 0
Roomy stack from e = e + 1 < from + (length stack + length stack)

-- A part is still to be read, and there is room for one more.
pub record StackReady (stack : List ℕ) (d n : ℕ) : Type 0 where
  pub positive : 1 ≤ n
  pub fits : n < length stack
  pub shallow : d < longest_term

pub record Advanced (stack stack' : List ℕ) (d n d' n' b : ℕ) : Type 0 where
  pub scopes : pending stack' d' n' ≡ after b (pending stack d n)
  pub same_length : length stack' ≡ length stack
  pub small : n' ≤ n + 1
