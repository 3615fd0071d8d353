-- Terms written into the work array.
-- Assumes nothing.
use Rattle.std.specs.Prelude.{ℕ, suc, ◌+◌, ◌-◌, ◌≤◌, ◌<◌, ◌≡◌, Bool, false, cond, ◌⊎◌, List, length, get_or}
use Rattle.calculus.specs.Terms.{Term, size, lift, lift_index}
use Rattle.code.specs.Limits.{longest_state}
use Rattle.code.specs.Code.{Coded}
use Rattle.code.specs.Claims.{Stands}
use Rattle.frames.specs.Stored.{Agree}
use Rattle.texts.specs.Texts.{depth_in, Depths, Origin}

-- n bytes of s from p stand in w' from `to`; below and above, w' is w.
pub record Moved (s w w' : List ℕ) (p n to : ℕ) : Type 0 where
  pub same_length : length w' ≡ length w
  pub below : Agree w w' 0 to
  pub above : Agree w w' (to + n) longest_state
  pub same : (i : ℕ) → i < n → get_or w' (to + i) 0 ≡ get_or s (p + i) 0

-- r is the byte b with c abstractors in scope or cut off, lifted by n.
pub record Raised (n c b r : ℕ) : Type 0 where
  pub index : b < 0xfe → r ≡ lift_index n c b
  pub operator : 0xfe ≤ b → r ≡ b

-- A term stands in the work array w whose depths are those from o on, counted from the first. Lifted by n above c, it has variables' bytes.
pub record Copied (w depths : List ℕ) (from e o n c : ℕ) : Type 0 where
  pub work : length w ≡ longest_state
  pub term : Term
  pub stands : Stands w from e term
  pub coded : Coded (lift n c term)
  pub inside : o + size term ≤ length depths
  pub deep : (i : ℕ) → i < size term → get_or depths (o + i) 0 ≡ get_or depths o 0 + depth_in term i

-- What stands in s from p up to e is a copy of the text of t at o, whose depths are known.
pub record Placed (t depths s : List ℕ) (p e o : ℕ) : Type 0 where
  pub deep : Depths t depths
  pub long : length t ≤ length depths
  pub origin : (X : Term) → Stands s p e X → Origin t o X

-- A mark and then L were written from `to` up to e.
pub record WrittenTerm (mark : ℕ) (w w' : List ℕ) (to e : ℕ) (L : Term) : Type 0 where
  pub work : length w' ≡ longest_state
  pub below : Agree w w' 0 to
  pub above : Agree w w' e longest_state
  pub marked : get_or w' to 0 ≡ mark
  pub stands : Stands w' (suc to) e L

-- A term of s that can be written at `to`, lifted by n above c and then by m.
pub record Writable (s w : List ℕ) (p e n c m to : ℕ) : Type 0 where
  pub work : length w ≡ longest_state
  pub raw : Term
  pub stands : Stands s p e raw
  pub first : Coded (lift n c raw)
  pub second : Coded (lift m 0 (lift n c raw))
  pub room : to + suc (size raw) ≤ longest_state

-- What is asked to write it from t or from the work array w, of which it is a part that lies apart; it is a copy of the text of t at o.
abbrev pub PutAsked : (t depths w : List ℕ) (in_term : Bool) (p e o to n c m : ℕ) → Type 0
PutAsked t depths w in_term p e o to n c m = (n < 256) × (c < 256) × (m < 256) × (in_term ≡ false → (e ≤ to) ⊎ (to + 1 + (e - p) ≤ p)) × Writable (cond in_term t w) w p e n c m to × Placed t depths (cond in_term t w) p e o

pub record Puts (mark : ℕ) (s w w' : List ℕ) (p e n c m to r : ℕ) : Type 0 where
  pub all : (K : Term) → Stands s p e K → WrittenTerm mark w w' to r (lift m 0 (lift n c K))
