-- Letters moved within a body: lifted to another place, or as they are.
-- Assumes nothing.
use Rattle.std.specs.Prelude.{ℕ, ◌+◌, ◌-◌, ◌≤◌, ◌<◌, ◌≡◌, cond, List, ◌++◌, map, ltb, length, get_or, take}
use Rattle.std.proofs.lemmas.List.Edits.{sets}
use Rattle.calculus.specs.Terms.{Term, lift_index}
use Rattle.code.specs.Limits.{longest_term, most_abstractors}
use Rattle.code.specs.Scope.{scope}
use Rattle.parts.specs.Parts.{part}
use Rattle.letters.specs.Letters.{symbols, depths, heights, letter, applicator, symbol_of, depth_of, height_of, Lies}

-- s' is s with the letters of r from a place up to another, each changed by g, stored from `at` on, and nothing else changed.
pub record Mapped (g : ℕ → ℕ) (r s s' : List ℕ) (from to at : ℕ) : Type 0 where
  pub letters_there : s' ≡ sets s at (map g (part r from to))
  pub same_length : length s' ≡ length s

-- Of the first n letters of s, those from p up to q are replaced by v; what follows them all in s' may be anything.
pub record Spliced (s s' : List ℕ) (n p q : ℕ) (v : List ℕ) : Type 0 where
  pub rest : List ℕ
  pub letters_there : s' ≡ take p s ++ (v ++ (part s q n ++ rest))
  pub same_length : length s' ≡ length s

-- The end of a term: e is the first place from i on, of n, whose letter is less high than h.
pub record Ending (s : List ℕ) (n i h e : ℕ) : Type 0 where
  pub after : i ≤ e
  pub inside : e ≤ n
  pub high : (j : ℕ) → i ≤ j → j < e → h ≤ height_of (get_or s j 0)
  pub low : e < n → height_of (get_or s e 0) < h

-- LIFTING. The symbol x with e abstractors of its term in scope, lifted by k.
unfoldable pub lifted_symbol : ℕ → ℕ → ℕ → ℕ
lifted_symbol k e x = cond (ltb x applicator) (lift_index k e x) x

-- A letter of a term whose first has depth c and height low; that one is to have depth c + k and height h.
unfoldable pub lifted_letter : ℕ → ℕ → ℕ → ℕ → ℕ → ℕ
lifted_letter c k h low x = letter (lifted_symbol k (depth_of x - c) (symbol_of x)) (depth_of x + k) (height_of x + h - low)

pub record LiftableLetter (c k h low x : ℕ) : Type 0 where
  pub index : symbol_of x < applicator → symbol_of x + k < symbols
  pub least : c ≤ depth_of x
  pub deep : depth_of x + k < depths
  pub low_enough : low ≤ height_of x
  pub high : height_of x + h < low + heights

-- The letters of a term, the first of depth c, that may be lifted by k to height h.
pub record LettersLiftable (s : List ℕ) (c k h : ℕ) : Type 0 where
  pub low : ℕ
  pub term : Term
  pub lies : Lies s 0 (length s) c low term
  pub few : c + scope term + k ≤ most_abstractors
  pub high : h + length s ≤ longest_term

-- Lifted so, they are s'.
pub record LettersLifted (s s' : List ℕ) (c k h : ℕ) : Type 0 where
  pub all : (low : ℕ) (t : Term) → Lies s 0 (length s) c low t → c + scope t + k ≤ most_abstractors → s' ≡ map (lifted_letter c k h low) s

-- The most abstractors of the body that any letter of a term has in scope.
pub record DeepestIs (s : List ℕ) (r : ℕ) : Type 0 where
  pub all : (c low : ℕ) (t : Term) → Lies s 0 (length s) c low t → c + scope t ≤ most_abstractors → r ≡ c + scope t

pub record SomeLies (s : List ℕ) : Type 0 where
  pub c : ℕ
  pub low : ℕ
  pub term : Term
  pub lies : Lies s 0 (length s) c low term
  pub few : c + scope term ≤ most_abstractors
