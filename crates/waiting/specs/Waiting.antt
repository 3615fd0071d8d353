-- Waiting applicators as numbers in an array.
-- Assumes nothing.
use Rattle.std.specs.Prelude.{ℕ, zero, suc, ◌+◌, ◌-◌, ◌*◌, ◌≤◌, ◌<◌, max, ◌≡◌, Bool, cond, List, [], ◌∷◌, length, get_or}
use Rattle.calculus.specs.Terms.{Term, size, lift, Closed}
use Rattle.code.specs.Limits.{longest_term, longest_state, most_abstractors}
use Rattle.code.specs.Claims.{Stands}
use Rattle.code.specs.Scope.{scope}
use Rattle.frames.specs.Stored.{Agree}
use Rattle.texts.specs.Texts.{Origin}
use Rattle.verdict.specs.Bounds.{waiting_scope}
use Rattle.waiting.specs.declared.Slot.{Slot}

-- A waiting applicator: its place, counted in symbols of the term, and its K as it stands now.
pub record Waiting : Type 0 where
  pub place : ℕ
  pub term : Term

unfoldable pub terms_of : List Waiting → List Term
terms_of [] = []
terms_of (w ∷ W) = w.term ∷ terms_of W

unfoldable pub places : List Waiting → List ℕ
places [] = []
places (w ∷ W) = w.place ∷ places W

-- Passing an abstractor lifts what waits by 1.
unfoldable pub lift_waiting : List Waiting → List Waiting
lift_waiting [] = []
lift_waiting (w ∷ W) = record { place = w.place; term = lift 1 0 w.term } ∷ lift_waiting W

-- A term after d abstractors, within the limits of a term.
pub record Part (d : ℕ) (t : Term) : Type 0 where
  pub closed : Closed d t
  pub shallow : d + scope t ≤ most_abstractors
  pub short : size t ≤ longest_term

-- The numbers of the j-th.
abbrev pub slot_of : List ℕ → ℕ → Slot
slot_of q j = record { place = get_or q (6 * j) 0; at = get_or q (6 * j + 1) 0; depth = get_or q (6 * j + 2) 0; shift = get_or q (6 * j + 3) 0; cut = get_or q (6 * j + 4) 0; scope = get_or q (6 * j + 5) 0 }

-- The same as it is seen: one of the term's own text stands in the term, at its place.
abbrev pub slot_in : Bool → List ℕ → ℕ → Slot
slot_in in_term q j = record { place = get_or q (6 * j) 0; at = cond in_term (get_or q (6 * j) 0) (get_or q (6 * j + 1) 0); depth = get_or q (6 * j + 2) 0; shift = get_or q (6 * j + 3) 0; cut = get_or q (6 * j + 4) 0; scope = get_or q (6 * j + 5) 0 }

-- Where the bytes of the first j begin, at the end of the work array.
unfoldable pub low_of : List ℕ → ℕ → ℕ
low_of q zero = longest_state
low_of q (suc j) = (slot_of q j).at

-- The waiting applicator w as the numbers v: its K stands in s after `at`, below the limit, is a copy of the text of t after `place`, is
-- seen lifted by `shift` above `cut`, was met at `depth` and stands now after d abstractors.
pub record Waits (t s : List ℕ) (d limit : ℕ) (v : Slot) (w : Waiting) : Type 0 where
  pub raw : Term
  pub end : ℕ
  pub stands : Stands s (suc v.at) end raw
  pub inside : end ≤ limit
  pub origin : Origin t (v.place + 1) raw
  pub shift_bound : v.shift ≤ most_abstractors
  pub cut_bound : v.cut ≤ most_abstractors
  pub part : Part v.depth (lift v.shift v.cut raw)
  pub deep : v.depth ≤ d
  pub is_place : w.place ≡ v.place
  pub seen : w.term ≡ lift (d - v.depth) 0 (lift v.shift v.cut raw)

-- The waiting applicators W, from the base to the top, the last first. With each stands the scope of all that waited before it: `before`
-- is that of what waits below the base.
pub data Queue (in_term : Bool) (t s q : List ℕ) (d limit base before : ℕ) : ℕ → List Waiting → Type 0 where
  queue_none : {top : ℕ} → top ≡ base → Queue in_term t s q d limit base before top []
  queue_one : {top j : ℕ} {w : Waiting} {W : List Waiting} → top ≡ suc j → base ≤ j → Waits t s d limit (slot_in in_term q j) w
      → (slot_of q j).scope ≡ max before (waiting_scope (terms_of W)) → Queue in_term t s q d limit base before j W → Queue in_term t s q d limit base before top (w ∷ W)

-- The bytes of a waiting applicator of the term's own text: they were put at `at`, before those of the earlier ones, and are there still
-- unless frames were written past `at`, which they were up to `reach`.
pub record Kept (t w : List ℕ) (reach place at before : ℕ) : Type 0 where
  pub term : Term
  pub end : ℕ
  pub stands : Stands t (suc place) end term
  pub apart : at + suc (size term) ≤ before
  pub there : reach ≤ at → Stands w (suc at) (suc at + size term) term

abbrev pub KeptSlot : (t w q : List ℕ) (reach j : ℕ) → Type 0
KeptSlot t w q reach j = Kept t w reach (slot_of q j).place (slot_of q j).at (low_of q j)

pub record SmallSlot (v : Slot) : Type 0 where
  pub place_fits : v.place < 65536
  pub at_fits : v.at < 65536
  pub depth_fits : v.depth < 65536
  pub shift_fits : v.shift < 65536
  pub cut_fits : v.cut < 65536
  pub scope_fits : v.scope < 65536

-- The j-th is v now, and those before it are as they were.
pub record Noted (q q' : List ℕ) (j : ℕ) (v : Slot) : Type 0 where
  pub below : Agree q q' 0 (6 * j)
  pub same_length : length q' ≡ length q
  pub slot : slot_of q' j ≡ v
