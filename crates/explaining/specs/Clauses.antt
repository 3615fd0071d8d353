-- Two bodies that differ, as letters and as bytes.
-- Assumes nothing.
use Rattle.std.specs.Prelude.{ℕ, ◌≡◌, Option, Some, None, List}
use Rattle.calculus.specs.Terms.{Term}
use Rattle.code.specs.Refusals.{buffer_too_short}
use Rattle.code.specs.Code.{encode}
use Rattle.letters.specs.Letters.{Lies}
use Rattle.files.specs.Check.{CheckAnswer}
use Rattle.compare.specs.Sides.{Buffers}
use Rattle.explaining.specs.Explain.{Explanation, told, handed_both}

-- Two bodies that differ lie in arrays of letters, one of n letters and one of k.
pub record TwoBodies (a : List ℕ) (n : ℕ) (b : List ℕ) (k : ℕ) : Type 0 where
  pub buffers : Buffers a b
  pub left_body : Term
  pub right_body : Term
  pub left_lies : Lies a 0 n 0 0 left_body
  pub right_lies : Lies b 0 k 0 0 right_body
  pub differ : left_body ≡ right_body → ⊥

-- What is said of the check's answer x, where two bodies of n and k bytes first differ at a place; or 14.
abbrev pub handed_says : (x : CheckAnswer) → (n k : ℕ) → Option ℕ → (left right : List ℕ) → Explanation
handed_says x n k (Some d) left right = told x left right n k d
handed_says x n k None left right = told (record { number = buffer_too_short; place = 0; comparisons = x.comparisons; degree = x.degree }) left right 0 0 0

-- They are handed over.
pub record Delivers (a : List ℕ) (n : ℕ) (b : List ℕ) (k : ℕ) (left right : List ℕ) (r : Option ℕ) (left' right' : List ℕ) : Type 0 where
  pub all : (x : CheckAnswer) (t u : Term) → Lies a 0 n 0 0 t → Lies b 0 k 0 0 u → (t ≡ u → ⊥) → handed_says x n k r left' right' ≡ handed_both x left right (encode t) (encode u)
