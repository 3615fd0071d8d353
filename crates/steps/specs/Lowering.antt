-- Letters in the scope of an abstractor that is dropped, and the uses of its variable.
-- Assumes nothing.
use Rattle.std.specs.Prelude.{ℕ, ◌+◌, ◌-◌, ◌<◌, Bool, cond, List, [], ◌∷◌, ltb, eqb, length, get_or}
use Rattle.letters.specs.Letters.{letter, applicator, symbol_of, depth_of, height_of}

-- The symbol x where the dropped variable would be e; the letter x in the scope of a dropped abstractor of depth c.
unfoldable pub lowered_symbol : ℕ → ℕ → ℕ
lowered_symbol e x = cond (ltb x applicator) (cond (ltb x e) x (x - 1)) x

unfoldable pub lowered_letter : ℕ → ℕ → ℕ
lowered_letter c x = letter (lowered_symbol (depth_of x - c) (symbol_of x)) (depth_of x - 1) (height_of x)

-- Whether the letter x is a use of its variable; how often that is used.
abbrev pub is_use : ℕ → ℕ → Bool
is_use c x = eqb (symbol_of x) (depth_of x - c)

unfoldable pub use_of : ℕ → ℕ → ℕ
use_of c x = cond (is_use c x) 1 0

unfoldable pub uses_of : ℕ → List ℕ → ℕ
unfolding use_of
uses_of c [] = 0
uses_of c (x ∷ s) = use_of c x + uses_of c s

-- Letters that stand in the scope of an abstractor of depth c.
pub record InScope (s : List ℕ) (c : ℕ) : Type 0 where
  pub deep : (j : ℕ) → j < length s → c < depth_of (get_or s j 0)
