-- What the first byte says of a term that stands in a string.
-- Assumes nothing.
use Prim.Native.Nat.{ℕ, suc, ◌+◌, ◌≤◌, ◌<◌}
use mathlib.Core.Path.{◌≡◌, refl, ap, sym}
use mathlib.Core.List.{List}
use native.Mathlib.Omega.{arith}
use native.Mathlib.Numerals.{add-one}
use lib.ListN.{length, get_or}
use Rattle.calculus.specs.Terms.{Term, tau, var, app, abs, size}
use Rattle.code.specs.Claims.{Stands}
use Rattle.code.proofs.Parts.{Head, head_tau, head_var, head_app, head_abs, head, stands_start, stands_end}

pub positive : (B : Term) → 1 ≤ size B
unfolding size
positive tau = omega arith
positive (var k) = omega arith
positive (app K B) = omega arith
positive (abs U B) = omega arith

pub text_tau : {s : List ℕ} {p e : ℕ} {T : Term} → Stands s p e T → get_or s p 0 ≡ 0 → T ≡ tau
text_tau {s} {p} {e} {T} h q = go (head h)
  where
    go : {T : Term} → Head s p e T → T ≡ tau
    go (head_tau b z) = refl
    go (head_var b x y z) = absurd (omega arith)
    go (head_app b k l) = absurd (omega arith)
    go (head_abs b k l) = absurd (omega arith)

-- a variable, with its index and the end
pub record Variable (s : List ℕ) (p e : ℕ) (T : Term) : Type 0 where
  pub is : T ≡ var (get_or s p 0)
  pub low : 1 ≤ get_or s p 0
  pub ends : e ≡ suc p

pub text_var : {s : List ℕ} {p e : ℕ} {T : Term} → Stands s p e T → (get_or s p 0 ≡ 0 → ⊥) → get_or s p 0 < 0xfe → Variable s p e T
text_var {s} {p} {e} {T} h f g = go (head h)
  where
    go : {T : Term} → Head s p e T → Variable s p e T
    go (head_tau b z) = absurd (f b)
    go (head_var b x y z) = record { is = ap var (sym b); low = omega arith; ends = z }
    go (head_app b k l) = absurd (omega arith)
    go (head_abs b k l) = absurd (omega arith)

-- two terms after the first byte
pub record Two (s : List ℕ) (p e : ℕ) (T : Term) (f : Term → Term → Term) : Type 0 where
  pub one : Term
  pub two : Term
  pub mid : ℕ
  pub is : T ≡ f one two
  pub first : Stands s (p + 1) mid one
  pub second : Stands s mid e two

pub text_app : {s : List ℕ} {p e : ℕ} {T : Term} → Stands s p e T → get_or s p 0 ≡ 0xfe → Two s p e T app
text_app {s} {p} {e} {T} h q = go (head h)
  where
    go : {T : Term} → Head s p e T → Two s p e T app
    go (head_tau b z) = absurd (omega arith)
    go (head_var b x y z) = absurd (omega arith)
    go (head_app {m} {K} {B} b k l) = record { one = K; two = B; mid = m; is = refl; first = rw add-one k; second = l }
    go (head_abs b k l) = absurd (omega arith)

pub text_abs : {s : List ℕ} {p e : ℕ} {T : Term} → Stands s p e T → 0xfe ≤ get_or s p 0 → (get_or s p 0 ≡ 0xfe → ⊥) → Two s p e T abs
text_abs {s} {p} {e} {T} h q n = go (head h)
  where
    go : {T : Term} → Head s p e T → Two s p e T abs
    go (head_tau b z) = absurd (omega arith)
    go (head_var b x y z) = absurd (omega arith)
    go (head_app b k l) = absurd (n b)
    go (head_abs {m} {U} {B} b k l) = record { one = U; two = B; mid = m; is = refl; first = rw add-one k; second = l }

-- the first byte is inside
pub text_in : {s : List ℕ} {p e : ℕ} {T : Term} → Stands s p e T → p < length s
text_in h = omega (arith, stands_start h, stands_end h)
