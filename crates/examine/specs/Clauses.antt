-- Inner contracts: what the functions of one turn of the pass answer, for a byte b that stands in d scopes.
-- Assumes nothing.
use Rattle.std.specs.Prelude.{Result, Ok, Err, ℕ, suc, ◌-◌, ◌≤◌, ◌<◌, ◌≡◌, List, get_or}
use Rattle.code.specs.Limits.{most_abstractors}
use Rattle.code.specs.declared.refusal.Condition.TheVariants.{BeyondScope, TooManyInScope}
use Rattle.code.specs.declared.refusal.Refusal.{Refusal}

-- The refusal at the place i for the byte's own fault, if it has one.
pub data ByteFault (b d i : ℕ) : Result Unit Refusal → Type 0 where
  passes : (b < 0xfe → b ≤ d) → (b ≡ 0xff → d < most_abstractors) → ByteFault b d i (Ok tt)
  index_beyond : b < 0xfe → d < b → ByteFault b d i (Err (record { condition = BeyondScope; place = i }))
  too_deep : b ≡ 0xff → most_abstractors ≤ d → ByteFault b d i (Err (record { condition = TooManyInScope; place = i }))

-- The degree r of the last terminal, once the byte is read; `last` before that. The entry at e of `degrees` is the degree of
-- the U of the abstractor that itself stands in e scopes.
pub record Graded (degrees : List ℕ) (b d last r : ℕ) : Type 0 where
  pub at_tau : b ≡ 0x00 → r ≡ 1
  pub at_variable : 0x01 ≤ b → b < 0xfe → r ≡ suc (get_or degrees (d - b) 0)
  pub elsewhere : 0xfe ≤ b → r ≡ last

-- How many terms follow the byte as its parts, and how many abstractors it adds around the second.
pub record Parts (b count opens : ℕ) : Type 0 where
  pub terminal : b < 0xfe → count ≡ 0
  pub inner : 0xfe ≤ b → count ≡ 2
  pub few : count ≤ 2
  pub applicator : b ≡ 0xfe → opens ≡ 0
  pub abstractor : b ≡ 0xff → opens ≡ 1
