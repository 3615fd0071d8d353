-- The rest of a couple with the couple's K, lifted, for each use of its variable: the letters of a whole substitution (request (a)).
-- Assumes nothing.
use Rattle.std.specs.Prelude.{ℕ, suc, ◌+◌, ◌-◌, ◌≤◌, ◌<◌, max, ◌≡◌, cond, List, [], ◌∷◌, ◌++◌, map, length, get_or}
use Rattle.std.proofs.lemmas.List.Edits.{sets}
use Rattle.code.specs.Limits.{longest_term, most_abstractors}
use Rattle.code.specs.Scope.{scope}
use Rattle.parts.specs.Parts.{part}
use Rattle.letters.specs.Letters.{depths, depth_of, height_of}
use Rattle.bodies.specs.Moving.{lifted_letter}
use Rattle.steps.specs.Lowering.{lowered_letter, is_use, uses_of}
use Rattle.steps.specs.Couples.{SomeCouple}
use Rattle.steps.specs.declared.Couple.{Couple}
use Rattle.steps.specs.declared.Uses.{Uses}

-- What becomes of the letter x in the scope of a dropped abstractor of depth a: a use becomes the letters v of K, lifted past all
-- abstractors since, whose first has depth c and height low.
unfoldable pub filled_letter : (a c low : ℕ) → List ℕ → ℕ → List ℕ
filled_letter a c low v x = cond (is_use a x) (map (lifted_letter c (depth_of x - 1 - c) (height_of x) low) v) (lowered_letter a x ∷ [])

unfoldable pub filled : (a c low : ℕ) → List ℕ → List ℕ → List ℕ
unfolding filled_letter
filled a c low v [] = []
filled a c low v (x ∷ s) = filled_letter a c low v x ++ filled a c low v s

-- The letter y of B so filled, where the couple at p lies as x says; and all of B.
abbrev pub filling_of : List ℕ → ℕ → Couple → ℕ → List ℕ
filling_of s p x y = filled_letter x.depth x.outer (height_of (get_or s (p + 1) 0)) (part s (p + 1) x.between) y

abbrev pub filling : List ℕ → ℕ → Couple → List ℕ
filling s p x = filled x.depth x.outer (height_of (get_or s (p + 1) 0)) (part s (p + 1) x.between) (part s x.rest x.end)

-- The depth of the deepest use, 0 if there is none.
unfoldable pub use_depth : ℕ → ℕ → ℕ
use_depth c x = cond (is_use c x) (depth_of x) 0

unfoldable pub deepest_use : ℕ → List ℕ → ℕ
unfolding use_depth
deepest_use c [] = 0
deepest_use c (x ∷ s) = max (use_depth c x) (deepest_use c s)

-- The uses of the variable of an abstractor of depth c in its scope.
pub record UsesAre (s : List ℕ) (c : ℕ) (r : Uses) : Type 0 where
  pub count_is : r.count ≡ uses_of c s
  pub deepest_is : r.deepest ≡ deepest_use c s
  pub small : r.deepest < depths

-- The letter fits into `out` from j on, and is not too deep or too high.
pub record LetterFillable (s : List ℕ) (p : ℕ) (x : Couple) (y : ℕ) (out : List ℕ) (j : ℕ) : Type 0 where
  pub couple : SomeCouple s p x
  pub inner : x.depth < depth_of y
  pub few : use_depth x.depth y + scope couple.K ≤ suc most_abstractors
  pub high : height_of y + length (filling_of s p x y) ≤ longest_term
  pub fits : j + length (filling_of s p x y) ≤ length out

pub record LetterFills (s : List ℕ) (p : ℕ) (x : Couple) (y : ℕ) (out out' : List ℕ) (j r : ℕ) : Type 0 where
  pub letters_there : out' ≡ sets out j (filling_of s p x y)
  pub same_length : length out' ≡ length out
  pub after : r ≡ j + length (filling_of s p x y)

-- B fits into `out`, and with what stands before the couple into a body; no letter is too deep.
pub record Fillable (s : List ℕ) (p : ℕ) (x : Couple) (out : List ℕ) : Type 0 where
  pub couple : SomeCouple s p x
  pub few : deepest_use x.depth (part s x.rest x.end) + scope couple.K ≤ suc most_abstractors
  pub short : p + length (filling s p x) ≤ longest_term
  pub fits : length (filling s p x) ≤ length out

pub record Fills (s : List ℕ) (p : ℕ) (x : Couple) (out out' : List ℕ) : Type 0 where
  pub letters_there : out' ≡ sets out 0 (filling s p x)
  pub same_length : length out' ≡ length out

-- So does the body of n letters with what stands between and it in the couple's place.
pub record Rewritable (s : List ℕ) (n p : ℕ) (x : Couple) (count : ℕ) : Type 0 where
  pub couple : SomeCouple s p x
  pub few : deepest_use x.depth (part s x.rest x.end) + scope couple.K ≤ suc most_abstractors
  pub inside : x.end ≤ n
  pub most : n ≤ longest_term
  pub count_is : count ≡ length (filling s p x)
  pub fits : p + (x.abstractor - x.between) + count + (n - x.end) ≤ longest_term
