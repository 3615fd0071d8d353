-- A term as letters of fixed width. A letter is a symbol with its depth, the abstractors of the body that have it in scope, and its
-- height, the terms of the body that are still to be read after its own: all applicators and abstractors of a train have one height.
-- Assumes nothing.
use Rattle.std.specs.Prelude.{ℕ, suc, ◌+◌, ◌*◌, ◌/◌, ◌%◌, ◌≡◌, List, [], ◌∷◌, ◌++◌, drop}
use Rattle.calculus.specs.Terms.{Term, tau, var, app, abs, size}
use Rattle.code.specs.Code.{Coded}

-- So many symbols, depths and heights there are: ten bits, ten, and twelve.
abbrev pub symbols : ℕ
symbols = 1024

abbrev pub depths : ℕ
depths = 1024

abbrev pub heights : ℕ
heights = 4096

-- The symbol 0 is tau; then come the indices, and last these two.
abbrev pub applicator : ℕ
applicator = 1022

abbrev pub abstractor : ℕ
abstractor = 1023

unfoldable pub letter : ℕ → ℕ → ℕ → ℕ
letter x d h = x + (d + h * depths) * symbols

abbrev pub symbol_of : ℕ → ℕ
symbol_of x = x % symbols

abbrev pub depth_of : ℕ → ℕ
depth_of x = x / symbols % depths

abbrev pub height_of : ℕ → ℕ
height_of x = x / symbols / depths

-- The letters of a term whose first symbol has depth d and height h.
unfoldable pub letters : ℕ → ℕ → Term → List ℕ
letters d h tau = letter 0 d h ∷ []
letters d h (var k) = letter k d h ∷ []
letters d h (app K B) = letter applicator d h ∷ (letters d (suc h) K ++ letters d h B)
letters d h (abs U B) = letter abstractor d h ∷ (letters d (suc h) U ++ letters (suc d) h B)

-- The letters of t lie in s from a place up to e.
pub record Lies (s : List ℕ) (from e d h : ℕ) (t : Term) : Type 0 where
  pub rest : List ℕ
  pub letters_there : drop from s ≡ letters d h t ++ rest
  pub coded : Coded t
  pub place : e ≡ from + size t
