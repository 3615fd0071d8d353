-- Letters: their parts, their number, their bytes, and the first letter of a term.
-- Assumes nothing.
use Prim.Native.Nat.{ℕ, suc, ◌+◌, ◌*◌, ◌-◌, ◌/◌, ◌%◌, ◌≤◌, ◌<◌}
use mathlib.Core.Path.{◌≡◌, refl, ap, ap₂, sym, ◌∙◌}
use mathlib.Core.List.{List, [], ◌∷◌, ◌++◌, map, map-append}
use native.Mathlib.Omega.{arith}
use native.Mathlib.Nat.{mod-add-div', add-mul-mod_self_right, add-mul-div_right, mod-eq_of_lt, div-eq_of_lt, zero-add, sub-zero}
use lib.ListN.{length, get_or, take, drop, length-append, length-drop}
use lib.Seq.{sets, take_at}
use Rattle.calculus.specs.Terms.{Term, tau, var, app, abs, size}
use Rattle.code.specs.Code.{encode, Coded, coded_tau, coded_var, coded_app, coded_abs}
use Rattle.code.proofs.Parts.{first_byte}
use Rattle.code.proofs.RoundTrip.{odd, encode_injective}
use Rattle.parts.specs.Parts.{part}
use Rattle.parts.proofs.Stores.{drop_sets_start}
use Rattle.letters.specs.Letters.{letter, letters, symbol_of, depth_of, height_of, Lies}

-- ---- The parts of a letter.
module _ (x d h : ℕ) (a : x < 1024) where
  pub symbol_letter : symbol_of (letter x d h) ≡ x
  unfolding letter
  symbol_letter = add-mul-mod_self_right x (d + h * 1024) 1024 ∙ mod-eq_of_lt a

  above : letter x d h / 1024 ≡ d + h * 1024
  unfolding letter
  above = add-mul-div_right x (d + h * 1024) {z = 1024} (omega arith) ∙ ap (◌+ (d + h * 1024)) (div-eq_of_lt a) ∙ zero-add (d + h * 1024)

  module _ (b : d < 1024) where
    pub depth_letter : depth_of (letter x d h) ≡ d
    depth_letter = rw above (add-mul-mod_self_right d h 1024 ∙ mod-eq_of_lt b)

    pub height_letter : height_of (letter x d h) ≡ h
    height_letter = rw above (add-mul-div_right d h {z = 1024} (omega arith) ∙ ap (◌+ h) (div-eq_of_lt b) ∙ zero-add h)

pub letter_parts : (x : ℕ) → x ≡ letter (symbol_of x) (depth_of x) (height_of x)
unfolding letter
letter_parts x = omega (arith, mod-add-div' x 1024, mod-add-div' (x / 1024) 1024)

-- ---- Their number.
pub length_letters : (d h : ℕ) (t : Term) → length (letters d h t) ≡ size t
unfolding letters size
length_letters d h tau = refl
length_letters d h (var k) = refl
length_letters d h (app K B) = ap suc (simp length-append (ap₂ ◌+◌ (length_letters d (suc h) K) (length_letters d h B)))
length_letters d h (abs U B) = ap suc (simp length-append (ap₂ ◌+◌ (length_letters d (suc h) U) (length_letters (suc d) h B)))

-- ---- Their bytes: applicator and abstractor end in fe and ff.
abbrev pub byte_of : ℕ → ℕ
byte_of x = x % 256

symbol_byte : (x d h : ℕ) → byte_of (letter x d h) ≡ byte_of x
unfolding letter
symbol_byte x d h = ap (λ n. (x + n) % 256) fours ∙ add-mul-mod_self_right x ((d + h * 1024) * 4) 256
  where
    fours : (d + h * 1024) * 1024 ≡ (d + h * 1024) * 4 * 256
    fours = omega arith

letters_bytes : {t : Term} (d h : ℕ) → Coded t → map byte_of (letters d h t) ≡ encode t
unfolding letters encode
letters_bytes d h coded_tau = ap (◌∷ []) (symbol_byte 0 d h)
letters_bytes d h (coded_var {k} p q) = ap (◌∷ []) (symbol_byte k d h ∙ mod-eq_of_lt (omega arith))
letters_bytes d h (coded_app {K} {B} f g) = ap₂ ◌∷◌ (symbol_byte 1022 d h) (map-append byte_of (letters d (suc h) K) (letters d h B) ∙ ap₂ ◌++◌ (letters_bytes d (suc h) f) (letters_bytes d h g))
letters_bytes d h (coded_abs {U} {B} f g) = ap₂ ◌∷◌ (symbol_byte 1023 d h) (map-append byte_of (letters d (suc h) U) (letters (suc d) h B) ∙ ap₂ ◌++◌ (letters_bytes d (suc h) f) (letters_bytes (suc d) h g))

-- ---- The symbol of a term's first letter.
unfoldable pub first : Term → ℕ
first tau = 0
first (var k) = k
first (app K B) = 1022
first (abs U B) = 1023

unfoldable others : ℕ → ℕ → Term → List ℕ
others d h tau = []
others d h (var k) = []
others d h (app K B) = letters d (suc h) K ++ letters d h B
others d h (abs U B) = letters d (suc h) U ++ letters (suc d) h B

letters_first : (d h : ℕ) (t : Term) → letters d h t ≡ letter (first t) d h ∷ others d h t
unfolding letters first others
letters_first d h tau = refl
letters_first d h (var k) = refl
letters_first d h (app K B) = refl
letters_first d h (abs U B) = refl

pub first_small : {u : Term} → Coded u → first u < 1024
unfolding first
first_small coded_tau = omega arith
first_small (coded_var p q) = omega arith
first_small (coded_app f g) = omega arith
first_small (coded_abs f g) = omega arith

-- ---- A term that lies in s.
module _ {s : List ℕ} {q e d h : ℕ} {t : Term} (l : Lies s q e d h t) where
  pub lies_end : (q < e) × (e ≤ length s)
  lies_end = (omega (arith, l.place, odd t), omega (arith, length-drop q s, simp (length-append, length_letters) at (ap length l.letters_there), l.place, odd t))

  pub lies_taken : part s q e ≡ letters d h t
  lies_taken = rw l.letters_there (take_at (letters d h t) l.rest (e - q) (length_letters d h t ∙ omega (arith, l.place)))

  pub head_of : get_or s q 0 ≡ letter (first t) d h
  head_of = first_byte s q (l.letters_there ∙ ap (◌++ l.rest) (letters_first d h t))

  pub lies_bytes : map byte_of (part s q e) ≡ encode t
  lies_bytes = ap (map byte_of) lies_taken ∙ letters_bytes d h l.coded

-- ---- Two terms that lie in as many letters are the same where the letters are.
module _ {a b : List ℕ} {n : ℕ} {t u : Term} (l : Lies a 0 n 0 0 t) (m : Lies b 0 n 0 0 u) where
  pub same_letters : t ≡ u → take n a ≡ take n b
  same_letters e = rw (sub-zero n) at (lies_taken l ∙ ap (letters 0 0) e ∙ sym (lies_taken m))

  pub same_term : take n a ≡ take n b → t ≡ u
  same_term e =
      let whole : part a 0 n ≡ part b 0 n = rw (sub-zero n) e in
      encode_injective l.coded m.coded (sym (lies_bytes l) ∙ ap (map byte_of) whole ∙ lies_bytes m)

-- A term whose letters are stored lies there.
pub lies_stored : (s : List ℕ) {s' : List ℕ} (at d h : ℕ) {t : Term} → Coded t → at + size t ≤ length s → s' ≡ sets s at (letters d h t) → Lies s' at (at + size t) d h t
lies_stored s at d h {t} c l e =
    record { rest = drop (at + length (letters d h t)) s; letters_there = ap (drop at) e ∙ drop_sets_start (letters d h t) s at (omega (arith, length_letters d h t)); coded = c; place = refl }
