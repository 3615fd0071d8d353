-- Terms as bytes, and back; the balance, and where a term ends (document 01, 'Terms').
-- Assumes nothing.
use Rattle.std.specs.Prelude as prelude
use Rattle.std.specs.Prelude.{Some, None}
use Rattle.std.specs.Prelude.{ℕ, suc, ◌-◌, ◌≤◌, ◌<◌, ◌≡◌, cond, List, [], ◌∷◌, ◌++◌, eqb, ℤ, pos, negsuc, get_or, drop}
use Rattle.std.proofs.Math.Option.{Option, none, some, bind}
use Rattle.calculus.specs.Terms.{Term, tau, var, app, abs}

-- What a byte stands for: 00 is τ, fe an applicator, ff an abstractor, any other byte a variable.
pub data Symbol : Type 0 where
  symbol_tau symbol_var symbol_app symbol_abs : Symbol

unfoldable pub symbol : ℕ → Symbol
symbol b = cond (eqb b 0x00) symbol_tau (cond (eqb b 0xfe) symbol_app (cond (eqb b 0xff) symbol_abs symbol_var))

-- A string of bytes.
abbrev pub Bytes : List ℕ → Type 0
Bytes s = (i : ℕ) → get_or s i 0 < 256

-- The bytes of a term; a variable's byte is its index.
unfoldable pub encode : Term → List ℕ
encode tau = 0x00 ∷ []
encode (var k) = k ∷ []
encode (app K B) = 0xfe ∷ (encode K ++ encode B)
encode (abs U B) = 0xff ∷ (encode U ++ encode B)

-- Every index is a variable's byte, 01 to fd.
pub data Coded : Term → Type 0 where
  coded_tau : Coded tau
  coded_var : {k : ℕ} → 0x01 ≤ k → k ≤ 0xfd → Coded (var k)
  coded_app : {K B : Term} → Coded K → Coded B → Coded (app K B)
  coded_abs : {U B : Term} → Coded U → Coded B → Coded (abs U B)

-- An applicator or an abstractor takes the first two of the terms that follow it.
unfoldable pub take_two : (Term → Term → Term) → List Term → Option (List Term)
take_two c [] = none
take_two c (A ∷ []) = none
take_two c (A ∷ B ∷ ts) = some (c A B ∷ ts)

-- A byte before the terms ts.
unfoldable pub read_byte : Symbol → ℕ → List Term → Option (List Term)
read_byte symbol_tau b ts = some (tau ∷ ts)
read_byte symbol_var b ts = some (var b ∷ ts)
read_byte symbol_app b ts = take_two app ts
read_byte symbol_abs b ts = take_two abs ts

-- The terms that s holds one after the other, read from the right.
unfoldable pub terms : List ℕ → Option (List Term)
unfolding symbol take_two read_byte bind
terms [] = some []
terms (b ∷ s) = bind (terms s) (read_byte (symbol b) b)

unfoldable pub single : List Term → Option Term
single [] = none
single (t ∷ []) = some t
single (t ∷ u ∷ ts) = none

-- The one term that s holds, if it holds exactly one.
unfoldable pub decode : List ℕ → Option Term
unfolding terms single bind
decode s = bind (terms s) single

-- What a byte does to the balance: −1 for terminals, +1 for fe and ff.
unfoldable pub change : Symbol → ℤ
change symbol_tau = negsuc 0
change symbol_var = negsuc 0
change symbol_app = pos 1
change symbol_abs = pos 1

unfoldable pub delta : ℕ → ℤ
unfolding symbol change
delta b = change (symbol b)

-- A table says what each byte does to the balance.
pub record Tabled (table : List ℤ) : Type 0 where
  pub rule : (b : ℕ) → b < 256 → get_or table b (pos 0) ≡ delta b

-- The balance after a symbol, where it was n. It is n + delta while n is positive (`Balance` of Claims.antt).
unfoldable pub balance_after : Symbol → ℕ → ℕ
balance_after symbol_tau n = n - 1
balance_after symbol_var n = n - 1
balance_after symbol_app n = suc n
balance_after symbol_abs n = suc n

-- The bytes s stand from place i on and the balance there is n: the place where it first reaches 0, none if it never does.
unfoldable pub first_zero : List ℕ → ℕ → ℕ → Option ℕ
unfolding symbol balance_after
first_zero [] n i = cond (eqb n 0) (some i) none
first_zero (b ∷ s) n i = cond (eqb n 0) (some i) (first_zero s (balance_after (symbol b) n) (suc i))

-- The balance starts at +1 and the term ends where it first reaches 0: where the term of s that starts at a place ends.
unfoldable pub term_end : List ℕ → ℕ → Option ℕ
unfolding first_zero
term_end s from = first_zero (drop from s) 1 from

-- A place or none, as the function `term_end` answers it.
abbrev pub end_of : prelude.Option ℕ → Option ℕ
end_of (Some e) = some e
end_of None = none
