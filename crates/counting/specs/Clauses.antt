-- Inner contracts: strings that hold terms in given scopes, and how many there are.
-- Assumes nothing.
use Rattle.std.specs.Prelude.{ℕ, suc, min, Bool, true, false, cond, List, [], ◌∷◌, leb}
use Rattle.code.specs.Code.{Symbol, symbol, symbol_tau, symbol_var, symbol_app, symbol_abs}
use Rattle.counting.specs.Counts.{strings, count}

-- The terms still to come stand in the scopes ds: whether the byte may come first, and the rest holds what then is to come.
unfoldable pub holds_after : Symbol → ℕ → List ℕ → (List ℕ → Bool) → Bool
holds_after x b [] rest = false
holds_after symbol_tau b (d ∷ ds) rest = rest ds
holds_after symbol_var b (d ∷ ds) rest = cond (leb b d) (rest ds) false
holds_after symbol_app b (d ∷ ds) rest = rest (d ∷ d ∷ ds)
holds_after symbol_abs b (d ∷ ds) rest = rest (d ∷ suc d ∷ ds)

unfoldable pub is_empty : List ℕ → Bool
is_empty [] = true
is_empty (d ∷ ds) = false

-- s holds terms one after the other, and nothing else: one for each of ds, which stands in so many scopes with no index beyond them.
unfoldable pub holds : List ℕ → List ℕ → Bool
unfolding is_empty holds_after symbol
holds [] ds = is_empty ds
holds (b ∷ s) ds = holds_after (symbol b) b ds (holds s)

-- How many strings of length n hold such terms.
unfoldable pub holding : ℕ → List ℕ → ℕ
holding n ds = count (λ s. holds s ds) (strings n)

-- How many are one term that stands in d scopes.
abbrev pub terms_in : ℕ → ℕ → ℕ
terms_in n d = holding n (d ∷ [])

-- The greatest index of the one-byte code: in so many scopes every index may stand.
abbrev pub greatest_index : ℕ
greatest_index = 253

-- How many terminals may stand in d scopes: τ, and the indices up to d.
abbrev pub terminals_in : ℕ → ℕ
terminals_in d = min (suc d) (suc greatest_index)
