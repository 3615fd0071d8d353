-- A term that stands in a string: its bytes, its end, its parts, and that no other term stands there.
-- Assumes nothing.
use Prim.Native.Nat.{ℕ, suc, ◌+◌, ◌-◌, ◌≤◌, ◌<◌}
use mathlib.Core.Path.{◌≡◌, refl, ap, sym, ◌∙◌}
use mathlib.Core.Option.{some-injective}
use mathlib.Core.List.{List, [], ◌∷◌, ◌++◌, append_assoc, append-nil}
use native.Mathlib.Omega.{arith}
use native.Mathlib.Nat.{add-zero}
use native.Mathlib.Numerals.{add-one}
use lib.ListN.{length, length-append, length-drop, get_or, take, drop}
use lib.Seq.{drop-drop, drop_at, take_at, get_or-drop}
use Rattle.calculus.specs.Terms.{Term, tau, var, app, abs, size}
use Rattle.code.specs.Code.{encode, Coded, coded_tau, coded_var, coded_app, coded_abs}
use Rattle.code.specs.Claims.{Stands}
use Rattle.code.proofs.RoundTrip.{length_encode, encode_injective}
use Rattle.code.proofs.FirstZero.{standing}

-- ---- The bytes at a place.
pub first_byte : (s : List ℕ) (p : ℕ) {b : ℕ} {r : List ℕ} → drop p s ≡ b ∷ r → get_or s p 0 ≡ b
first_byte s p e = sym (rw add-zero at (get_or-drop p s 0 0)) ∙ ap (λ l. get_or l 0 0) e

pub drop_more : (s : List ℕ) (p n : ℕ) (x r : List ℕ) → drop p s ≡ x ++ r → length x ≡ n → drop (p + n) s ≡ r
drop_more s p n x r e l = rw (← drop-drop n p s, e) (drop_at x r n l)

positive_size : (t : Term) → 1 ≤ size t
unfolding size
positive_size tau = omega arith
positive_size (var k) = omega arith
positive_size (app K B) = omega arith
positive_size (abs U B) = omega arith

-- ---- A whole term.
module _ {s : List ℕ} {p e : ℕ} {t : Term} (h : Stands s p e t) where
  pub stands_rest : drop e s ≡ h.rest
  stands_rest = rw h.place (drop_more s p (size t) (encode t) h.rest h.bytes (length_encode t))

  pub stands_taken : take (e - p) (drop p s) ≡ encode t
  stands_taken = rw h.bytes (take_at (encode t) h.rest (e - p) (length_encode t ∙ omega (arith, h.place)))

  pub stands_start : p < e
  stands_start = omega (arith, h.place, positive_size t)

  pub stands_end : e ≤ length s
  stands_end = omega (arith, length-drop p s, ap length h.bytes, length-append (encode t) h.rest, length_encode t, positive_size t, h.place)

pub stands_self : {t : Term} → Coded t → Stands (encode t) 0 (size t) t
stands_self {t} f = record { rest = []; bytes = sym (append-nil (encode t)); coded = f; place = omega arith }

pub stands_unique : {s : List ℕ} {p e e' : ℕ} {t u : Term} → Stands s p e t → Stands s p e' u → (t ≡ u) × (e ≡ e')
stands_unique {s} {p} {e} {e'} h k =
    let q : e ≡ e' = some-injective e e' (sym (standing h) ∙ standing k) in
    (encode_injective h.coded k.coded (sym (stands_taken h) ∙ ap (λ x. take (x - p) (drop p s)) q ∙ stands_taken k), q)

-- ---- The parts of a term. K or U stands after the first byte, and B after that.
pub data Head (s : List ℕ) (p e : ℕ) : Term → Type 0 where
  head_tau : get_or s p 0 ≡ 0x00 → e ≡ suc p → Head s p e tau
  head_var : {k : ℕ} → get_or s p 0 ≡ k → 0x01 ≤ k → k ≤ 0xfd → e ≡ suc p → Head s p e (var k)
  head_app : {m : ℕ} {K B : Term} → get_or s p 0 ≡ 0xfe → Stands s (suc p) m K → Stands s m e B → Head s p e (app K B)
  head_abs : {m : ℕ} {U B : Term} → get_or s p 0 ≡ 0xff → Stands s (suc p) m U → Stands s m e B → Head s p e (abs U B)

module _ (s : List ℕ) (p e b : ℕ) (K B : Term) (r : List ℕ) (d : drop p s ≡ (b ∷ (encode K ++ encode B)) ++ r) (f : Coded K) (g : Coded B) (q : e ≡ p + suc (size K + size B)) where
  after_byte : drop (suc p) s ≡ encode K ++ (encode B ++ r)
  after_byte = rw add-one at (drop_more s p 1 (b ∷ []) (encode K ++ (encode B ++ r)) (d ∙ ap (b ∷◌) (append_assoc (encode K) (encode B) r)) refl)

  first_part : Stands s (suc p) (suc p + size K) K
  first_part = record { rest = encode B ++ r; bytes = after_byte; coded = f; place = refl }

  second_part : Stands s (suc p + size K) e B
  second_part = record { rest = r; bytes = drop_more s (suc p) (size K) (encode K) (encode B ++ r) after_byte (length_encode K); coded = g; place = omega arith }

pub head : {s : List ℕ} {p e : ℕ} {t : Term} → Stands s p e t → Head s p e t
unfolding encode size
head {s} {p} {e} {t} h = go t h.coded h.bytes h.place
  where
    go : (t : Term) → Coded t → drop p s ≡ encode t ++ h.rest → e ≡ p + size t → Head s p e t
    go t coded_tau d q = head_tau (first_byte s p d) (omega arith)
    go t (coded_var {k} x y) d q = head_var {k = k} (first_byte s p d) x y (omega arith)
    go t (coded_app {K} {B} f g) d q = head_app {m = suc p + size K} (first_byte s p d) (first_part s p e 254 K B h.rest d f g q) (second_part s p e 254 K B h.rest d f g q)
    go t (coded_abs {U} {B} f g) d q = head_abs {m = suc p + size U} (first_byte s p d) (first_part s p e 255 U B h.rest d f g q) (second_part s p e 255 U B h.rest d f g q)
