-- The falling number of the two functions in a cycle, built from degree and size (document 01, 'Forms for each place'): of the
-- terms that start at a place or after it the largest degree, and the size of what is left of the text. The degree of the whole
-- cannot lead: in ff 00 ff 01 fe 01 00 the whole has degree 1, and its K degree 3.
-- Assumes nothing.
use Prim.Native.Nat.{ℕ, zero, suc, ◌+◌, ◌-◌, ◌*◌, ◌≤◌, ◌<◌, max}
use mathlib.Core.Option.{Option, none, some}
use mathlib.Core.List.{List, [], ◌∷◌, ◌++◌}
use native.Mathlib.Omega.{arith}
use lib.ListN.{length}
use Rattle.calculus.specs.Terms.{Term, tau, var, app, abs}
use Rattle.calculus.specs.Types.{nth, degree_in}
use Rattle.code.specs.Limits.{longest_state}
use Rattle.code.specs.Code.{decode}

-- The degree of the term that starts at each symbol, in the order of their places.
term_degrees : List ℕ → Term → List ℕ
term_degrees D tau = 1 ∷ []
term_degrees D (var k) = suc (nth D k) ∷ []
term_degrees D (app K B) = degree_in D (app K B) ∷ (term_degrees D K ++ term_degrees D B)
term_degrees D (abs U B) = degree_in D (abs U B) ∷ (term_degrees D U ++ term_degrees (degree_in D U ∷ D) B)

degrees_in : Option Term → List ℕ
degrees_in none = []
degrees_in (some t) = term_degrees [] t

-- The largest of those from place i on.
largest_from : List ℕ → ℕ → ℕ
largest_from [] i = 0
largest_from (d ∷ ds) zero = max d (largest_from ds zero)
largest_from (d ∷ ds) (suc i) = largest_from ds i

zero_most : (ds : List ℕ) (j : ℕ) → largest_from ds j ≤ largest_from ds zero
unfolding largest_from
zero_most [] j = omega arith
zero_most (d ∷ ds) zero = omega arith
zero_most (d ∷ ds) (suc j) = omega (arith, zero_most ds j)

largest_falls : (ds : List ℕ) (i j : ℕ) → i ≤ j → largest_from ds j ≤ largest_from ds i
unfolding largest_from
largest_falls [] i j h = omega arith
largest_falls (d ∷ ds) zero j h = zero_most (d ∷ ds) j
largest_falls (d ∷ ds) (suc i) zero h = absurd (omega arith)
largest_falls (d ∷ ds) (suc i) (suc j) h = largest_falls ds i j (omega arith)

pub degree_and_size : List ℕ → ℕ → ℕ
degree_and_size t at = largest_from (degrees_in (decode t)) at * suc longest_state + (length t - at)

pub falls_on : (t : List ℕ) (i j : ℕ) → i ≤ j → i < length t → degree_and_size t (j + 1) < degree_and_size t i
unfolding degree_and_size
falls_on t i j h l = omega (arith, largest_falls (degrees_in (decode t)) i (j + 1) (omega arith))
