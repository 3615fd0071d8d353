-- The contracts of the functions that find sizes and scopes.
-- Assumes nothing.
use Rattle.std.specs.Prelude.{ℕ, ◌+◌, ◌≤◌, ◌<◌, ◌≡◌, cond, List, leb, length, get_or}
use Rattle.calculus.specs.Terms.{Term, size}
use Rattle.code.specs.Limits.{longest_term}
use Rattle.code.specs.Claims.{Stands}
use Rattle.code.specs.Scope.{scope}
use Rattle.letters.specs.Letters.{symbol_of, depth_of}
use Rattle.texts.specs.declared.Extent.{Extent}

-- The symbol of a byte in a letter.
unfoldable pub symbol_for : ℕ → ℕ
symbol_for b = cond (leb 0xfe b) (b + 768) b

-- The letters have the symbols of t.
pub record Lettered (t letters : List ℕ) : Type 0 where
  pub symbols_are : (i : ℕ) → i < length t → symbol_of (get_or letters i 0) ≡ symbol_for (get_or t i 0)

-- The sizes and scopes of all the terms that stand in t from place i on.
pub record SizedFrom (t sizes scopes : List ℕ) (i : ℕ) : Type 0 where
  pub sizes_are : (p e : ℕ) (X : Term) → i ≤ p → Stands t p e X → get_or sizes p 0 ≡ size X
  pub scopes_are : (p e : ℕ) (X : Term) → i ≤ p → Stands t p e X → get_or scopes p 0 ≡ scope X

-- A term starts at place i of some text with these letters, and the sizes and scopes of all later ones are known.
pub record Measurable (letters sizes scopes : List ℕ) (i : ℕ) : Type 0 where
  pub text : List ℕ
  pub lettered : Lettered text letters
  pub known : SizedFrom text sizes scopes (i + 1)
  pub end : ℕ
  pub term : Term
  pub stands : Stands text i end term
  pub short : length text ≤ longest_term
  pub sizes_long : length text ≤ length sizes
  pub scopes_long : length text ≤ length scopes

pub record ExtentAt (letters sizes scopes : List ℕ) (i : ℕ) (r : Extent) : Type 0 where
  pub size_is : (t : List ℕ) (e : ℕ) (X : Term) → Lettered t letters → SizedFrom t sizes scopes (i + 1) → Stands t i e X → r.size ≡ size X
  pub scope_is : (t : List ℕ) (e : ℕ) (X : Term) → Lettered t letters → SizedFrom t sizes scopes (i + 1) → Stands t i e X → r.scope ≡ scope X

-- The depths of the first n letters are bytes, and there is room for them.
pub record Notable (letters depths : List ℕ) (n : ℕ) : Type 0 where
  pub short : n ≤ longest_term
  pub small : (i : ℕ) → i < n → depth_of (get_or letters i 0) < 256
  pub long : n ≤ length depths

pub record DepthsNoted (letters depths depths' : List ℕ) (n : ℕ) : Type 0 where
  pub noted : (i : ℕ) → i < n → get_or depths' i 0 ≡ depth_of (get_or letters i 0)
  pub same_length : length depths' ≡ length depths
