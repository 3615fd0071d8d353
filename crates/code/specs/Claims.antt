-- What this crate promises of the byte code. A function of src/lib.rt ensures each numbered record.
-- Assumes nothing.
use Rattle.std.specs.Prelude.{ℕ, ◌+◌, ◌%◌, ◌≤◌, ◌≡◌, ◌↔◌, List, [], ◌∷◌, ◌++◌, pos, ◌+ℤ◌, length, drop}
use Rattle.std.proofs.Math.Option.{none, some}
use Rattle.calculus.specs.Terms.{Term, tau, var, app, abs, size}
use Rattle.code.specs.Code.{symbol, Bytes, encode, Coded, decode, delta, balance_after, term_end}

-- s holds the bytes of t and nothing else.
pub record Encodes (s : List ℕ) (t : Term) : Type 0 where
  pub bytes : encode t ≡ s
  pub coded : Coded t

-- 1. Decoding and encoding undo each other.
pub record Inverse : Type 0 where
  pub decode_encode : {t : Term} → Coded t → decode (encode t) ≡ some t
  pub encode_decode : (s : List ℕ) (t : Term) → Bytes s → decode s ≡ some t → Encodes s t
  pub encode_bytes : {t : Term} → Coded t → Bytes (encode t)

-- 2. A symbol is a byte, so that the size is the byte count; and it is odd.
pub record Sizes : Type 0 where
  pub length_encode : (t : Term) → length (encode t) ≡ size t
  pub odd : (t : Term) → size t % 2 ≡ 1

-- The bytes of t stand in s from a place up to e.
pub record Stands (s : List ℕ) (from e : ℕ) (t : Term) : Type 0 where
  pub rest : List ℕ
  pub bytes : drop from s ≡ encode t ++ rest
  pub coded : Coded t
  pub place : e ≡ from + size t

-- 3. The balance moves by delta, and finds where a term ends.
pub record Balance : Type 0 where
  pub by_delta : (n b : ℕ) → 1 ≤ n → pos (balance_after (symbol b) n) ≡ pos n +ℤ delta b
  pub first_term : {t : Term} → Coded t → (rest : List ℕ) → term_end (encode t ++ rest) 0 ≡ some (size t)
  pub standing : {s : List ℕ} {from e : ℕ} {t : Term} → Stands s from e t → term_end s from ≡ some e
  pub found : (s : List ℕ) (from e : ℕ) → Bytes s → term_end s from ≡ some e → (t : Term) × Stands s from e t
  pub whole : (s : List ℕ) → Bytes s → (term_end s 0 ≡ some (length s)) ↔ ((t : Term) × (decode s ≡ some t))

-- 4. Examples of document 01: E1, the term of E2, those of conditions 3 and 8, and a byte past a term.
pub record Examples : Type 0 where
  pub e1 : decode (0xff ∷ 0x00 ∷ 0xff ∷ 0x01 ∷ 0x01 ∷ []) ≡ some (abs tau (abs (var 1) (var 1)))
  pub e2 : encode (abs tau (abs (var 1) (app (var 1) (abs (var 2) (var 1))))) ≡ 0xff ∷ 0x00 ∷ 0xff ∷ 0x01 ∷ 0xfe ∷ 0x01 ∷ 0xff ∷ 0x02 ∷ 0x01 ∷ []
  pub condition_3 : term_end (0xff ∷ 0x00 ∷ []) 0 ≡ none
  pub condition_8 : term_end (0xfe ∷ 0x00 ∷ 0x00 ∷ []) 0 ≡ some 3
  pub byte_past : term_end (0x00 ∷ 0x00 ∷ []) 0 ≡ some 1
