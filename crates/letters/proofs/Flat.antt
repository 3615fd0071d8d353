-- Reading a term without abstractors: all scopes are 0, so that it is `Reading` with a stack of zeros, which no code keeps.
-- Assumes nothing.
use Prim.Native.Nat.{ℕ, zero, suc, ◌+◌, ◌-◌, ◌*◌, ◌≤◌, ◌<◌}
use mathlib.Core.Path.{◌≡◌, refl}
use mathlib.Core.Bool.{true}
use mathlib.Core.List.{List}
use native.Mathlib.Omega.{arith}
use native.Mathlib.Nat.{add-zero}
use native.Mathlib.Numerals.{add-one}
use lib.ListN.{get_or, set, drop, replicate, length-replicate}
use borrow.Author.Tests.{lt-ltb}
use Rattle.calculus.specs.Terms.{Term, lift_index}
use Rattle.code.specs.Limits.{longest_term}
use Rattle.code.specs.Claims.{Stands}
use Rattle.code.proofs.Parts.{stands_start, Head, head_tau, head_var, head_app, head_abs, head}
use Rattle.parts.specs.Parts.{part}
use Rattle.indices.specs.Stack.{pending, body_scope, after, Advanced}
use Rattle.letters.specs.Letters.{letter}
use Rattle.letters.specs.Clauses.{UpTo, Readable, ReadAs, read_all, Reads}
use Rattle.letters.proofs.Reading.{Stored, terminal_stored, operator_stored, Reading, reading_start, reading_ready, reading_next, reading_high, reading_length, reading_end}

-- ---- The largest byte.
pub up_to_all : {s : List ℕ} {e b c : ℕ} → ((i : ℕ) → get_or s i 0 ≤ b) → b ≤ c → UpTo s 0 e c
up_to_all u m = record { bound = λ q a g. omega (arith, u q) }

-- ---- A stack of zeros.
zeros : (n i : ℕ) → ◌≡◌ {A = ℕ} (get_or (replicate n 0) i 0) 0
zeros zero i = refl
zeros (suc n) zero = refl
zeros (suc n) (suc i) = zeros n i

module _ (z : ℕ) where
  terminal_advanced : (n b : ℕ) → 1 ≤ n → b < 254 → Advanced (replicate z 0) (replicate z 0) 0 n 0 (n - 1) b
  unfolding pending after
  terminal_advanced zero b p l = absurd (omega arith)
  terminal_advanced (suc n) b p l = let e : suc n - 1 ≡ n = omega arith in record { scopes = rw (e, zeros z n, lt-ltb b 254 l); same_length = refl; small = omega arith }

  applicator_advanced : (n b : ℕ) → 1 ≤ n → b ≡ 254 → Advanced (replicate z 0) (replicate z 0) 0 n 0 (n + 1) b
  unfolding pending after body_scope
  applicator_advanced zero b p e = absurd (omega arith)
  applicator_advanced (suc n) b p e = record { scopes = rw (e, add-one (suc n), zeros z (suc n), zeros z n); same_length = refl; small = omega arith }

-- ---- The loop: `above` is the next letter without its symbol, one higher.
pub record Flat (s out₀ out : List ℕ) (from e k d h at above i j : ℕ) (t : Term) : Type 0 where
  pub count : ℕ
  pub high : above ≡ d * 1024 + (h + count) * 1048576
  pub reading : Reading s out₀ out from e k d h 0 at (replicate (e + 2) 0) 0 count i j t

pub flat_start : {s out : List ℕ} {from e k d h at : ℕ} {t : Term} → Stands s from e t → e ≤ from + longest_term
    → Flat s out out from e k d h at (d * 1024 + (h + 1) * 1048576) from at t
flat_start {e = e} a l = record { count = 1; high = refl; reading = reading_start (replicate (e + 2) 0) a l (rw (length-replicate {A = ℕ} (e + 2) 0) (omega arith)) }

module _ {s out₀ out : List ℕ} {from e k d h at above i j : ℕ} {t : Term} (r : Flat s out₀ out from e k d h at above i j t) (l : i < e) where
  positive : 1 ≤ r.count
  positive = (reading_ready r.reading l).positive

  -- With a symbol it fits into 32 bits.
  pub flat_bounds : d < 1024 → h + e ≤ from + longest_term → (1048576 ≤ above) × (above ≤ 4296014848)
  flat_bounds m b = omega (arith, r.high, positive, reading_high r.reading l b)

  letter_is : (y : ℕ) {z : ℕ} → z ≡ above - 1048576 + y → z ≡ letter y d (h + (r.count - 1))
  unfolding letter
  letter_is y q = omega (arith, r.high, positive)

  module _ {out' : List ℕ} {above' : ℕ} where
    flat_next : (n : ℕ) → above' ≡ d * 1024 + (h + n) * 1048576 → Stored out out' j k 0 (get_or s i 0) d (h + (r.count - 1))
        → Advanced (replicate (e + 2) 0) (replicate (e + 2) 0) 0 r.count 0 n (get_or s i 0) → Flat s out₀ out' from e k d h at above' (i + 1) (j + 1) t
    flat_next n q g a = record { count = n; high = q; reading = reading_next r.reading l (omega arith) (rw (add-zero d) g) a }

    pub terminal_next : {x y z : ℕ} → get_or s i 0 < 254 → x ≡ get_or s i 0 → y ≡ lift_index k 0 x → z ≡ above - 1048576 + y → out' ≡ set out j z → above' ≡ above - 1048576
        → Flat s out₀ out' from e k d h at above' (i + 1) (j + 1) t
    terminal_next {y = y} b u v w o q =
        flat_next (r.count - 1) (omega (arith, r.high, positive)) (terminal_stored b u v (letter_is y w) o) (terminal_advanced (e + 2) r.count (get_or s i 0) positive b)

    pub applicator_next : {x z : ℕ} → UpTo s from e 254 → 254 ≤ get_or s i 0 → x ≡ get_or s i 0 → z ≡ above - 1048576 + (x + 768) → out' ≡ set out j z → above' ≡ above + 1048576
        → Flat s out₀ out' from e k d h at above' (i + 1) (j + 1) t
    applicator_next {x = x} g b u w o q =
        flat_next (r.count + 1) (omega (arith, r.high)) (operator_stored b u refl (letter_is (x + 768) w) o)
        (applicator_advanced (e + 2) r.count (get_or s i 0) positive (omega (arith, g.bound i (omega (arith, positive, r.reading.walk.small)) l)))

-- ---- There is always room for no abstractor.
module _ {s : List ℕ} {from e k d h room : ℕ} {out : List ℕ} {at : ℕ} where
  pub readable_flat : Readable s from e k d h room out at → Readable s from e k d h 0 out at
  readable_flat r = record { standing = r.standing; index = r.index; deep = omega (arith, r.deep); high = r.high; fits = r.fits }

  pub reads_flat : {out' : List ℕ} → Reads s from e k d h 0 out out' at true → Reads s from e k d h room out out' at true
  reads_flat {out'} r = record { all = λ t a. go (r.all t a); same_length = r.same_length }
    where
      go : {t : Term} → ReadAs k d h 0 out out' at t true → ReadAs k d h room out out' at t true
      go (read_all o l) = read_all o (omega arith)

-- ---- A term of one byte is a terminal.
pub one_byte : {s : List ℕ} {from e : ℕ} {t : Term} → e - from ≡ 1 → Stands s from e t → get_or s from 0 < 254
one_byte {s} {from} {e} l a = go (head a)
  where
    go : {t : Term} → Head s from e t → get_or s from 0 < 254
    go (head_tau b q) = omega arith
    go (head_var b x y q) = omega arith
    go (head_app b f g) = absurd (omega (arith, stands_start f, stands_start g))
    go (head_abs b f g) = absurd (omega (arith, stands_start f, stands_start g))

pub reads_one : {s out out' : List ℕ} {from e k d h room at x y z : ℕ} → Readable s from e k d h room out at → e - from ≡ 1 → x ≡ get_or s from 0 → y ≡ lift_index k 0 x → z ≡ letter y d h → out' ≡ set out at z
    → Reads s from e k d h room out out' at true
unfolding letter
reads_one {s} {out} {out'} {from} {e} {k} {d} {h} {at = at} r l u v w o = reads_flat record {
  all = λ t a. reading_end (one t a).reading (omega arith);
  same_length = reading_length (one _ r.standing.stands).reading;
}
  where
    one : (t : Term) → Stands s from e t → Flat s out out' from e k d h at (d * 1024 + (h + 1) * 1048576 - 1048576) (from + 1) (at + 1) t
    one t a = terminal_next (flat_start a r.standing.short) (omega arith) (one_byte l a) u v (omega arith) o refl
