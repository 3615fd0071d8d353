-- `waiting::low` meets its contract.
-- Assumes nothing.
use Prim.Native.Nat.{ℕ, zero, suc, ◌+◌, ◌-◌, ◌*◌}
use mathlib.Core.Path.{◌≡◌, refl, ap, ◌∙◌}
use mathlib.Core.List.{List}
use native.Mathlib.Omega.{arith}
use lib.ListN.{get_or}
use Rattle.waiting.specs.Waiting.{low_of}
use Rattle.waiting.proofs.low.Goals as goal

some : (q : List ℕ) (j : ℕ) → (j ≡ 0 → ⊥) → get_or q (6 * (j - 1) + 1) 0 ≡ low_of q j
unfolding low_of
some q zero h = absurd (h refl)
some q (suc j) h = ap (λ i. get_or q (6 * i + 1) 0) (omega arith)

pub returns-then-j-eq0 : goal.returns-then-j-eq0
unfolding low_of
returns-then-j-eq0 c = rw c.if-j-eq0.true

pub returns : goal.returns
returns c = c.from.ensures ∙ some _ _ c.if-j-eq0.false
