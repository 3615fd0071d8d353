-- Decoding undoes encoding, and encoding decoding.
-- Assumes nothing.
use Prim.Native.Nat.{ℕ, zero, suc, ◌+◌, ◌%◌, ◌≤◌, ◌<◌}
use mathlib.Core.Path.{◌≡◌, refl, ap, sym, ◌∙◌}
use mathlib.Core.Bool.{Bool, true, false, cond}
use mathlib.Core.Option.{Option, none, some, bind, some-injective}
use mathlib.Core.List.{List, [], ◌∷◌, ◌++◌, append_assoc, append-nil}
use native.Mathlib.Omega.{arith}
use lib.ListN.{length, length-append, drop}
use lib.Seq.{get_or-drop}
use lib.Dec.{eqb, lit<}
use borrow.Author.Tests.{ne_eqb, eqb-true, eqb-false}
use Rattle.calculus.specs.Terms.{Term, tau, var, app, abs, size}
use Rattle.code.specs.Code.{Symbol, symbol_tau, symbol_var, symbol_app, symbol_abs, symbol, Bytes, encode, Coded, coded_tau, coded_var, coded_app, coded_abs, take_two, read_byte, terms, single, decode}
use Rattle.code.specs.Claims.{Encodes}

-- ---- A symbol is a byte.
pub length_encode : (t : Term) → length (encode t) ≡ size t
unfolding encode size
length_encode tau = refl
length_encode (var k) = refl
length_encode (app K B) = simp length-append (omega (arith, length_encode K, length_encode B))
length_encode (abs U B) = simp length-append (omega (arith, length_encode U, length_encode B))

pub odd : (t : Term) → size t % 2 ≡ 1
unfolding size
odd tau = refl
odd (var k) = refl
odd (app K B) = omega (arith, odd K, odd B)
odd (abs U B) = omega (arith, odd U, odd B)

-- ---- What a byte's symbol says of it.
pub data Is (b : ℕ) : Symbol → Type 0 where
  is_tau : b ≡ 0 → Is b symbol_tau
  is_var : (b ≡ 0 → ⊥) → (b ≡ 254 → ⊥) → (b ≡ 255 → ⊥) → Is b symbol_var
  is_app : b ≡ 254 → Is b symbol_app
  is_abs : b ≡ 255 → Is b symbol_abs

pub is : (b : ℕ) → Is b (symbol b)
unfolding symbol
is b = go (eqb b 0) (eqb b 254) (eqb b 255) refl refl refl
  where
    go : (x y z : Bool) → eqb b 0 ≡ x → eqb b 254 ≡ y → eqb b 255 ≡ z → Is b (cond x symbol_tau (cond y symbol_app (cond z symbol_abs symbol_var)))
    go true y z p q r = is_tau (eqb-true b 0 p)
    go false true z p q r = is_app (eqb-true b 254 q)
    go false false true p q r = is_abs (eqb-true b 255 r)
    go false false false p q r = is_var (eqb-false b 0 p) (eqb-false b 254 q) (eqb-false b 255 r)

pub symbol_index : {k : ℕ} → 1 ≤ k → k ≤ 253 → symbol k ≡ symbol_var
unfolding symbol
symbol_index {k} p q = rw (ne_eqb k 0 (λ z. omega arith), ne_eqb k 254 (λ z. omega arith), ne_eqb k 255 (λ z. omega arith))

pub coded_index : {b : ℕ} → b < 256 → (b ≡ 0 → ⊥) → (b ≡ 254 → ⊥) → (b ≡ 255 → ⊥) → Coded (var b)
coded_index {b} p x y z = coded_var {k = b} (omega arith) (omega arith)

-- ---- Strings of bytes.
pub bytes_cons : {b : ℕ} (s : List ℕ) → b < 256 → Bytes s → Bytes (b ∷ s)
bytes_cons s p q zero = p
bytes_cons s p q (suc i) = q i

pub bytes_append : (s r : List ℕ) → Bytes s → Bytes r → Bytes (s ++ r)
bytes_append [] r p q = q
bytes_append (b ∷ s) r p q = bytes_cons (s ++ r) (p 0) (bytes_append s r (λ i. p (suc i)) q)

pub bytes_drop : (n : ℕ) (s : List ℕ) → Bytes s → Bytes (drop n s)
bytes_drop n s w i = rw get_or-drop (w (n + i))

pub encode_bytes : {t : Term} → Coded t → Bytes (encode t)
unfolding encode
encode_bytes coded_tau = bytes_cons [] (lit< tt) (λ i. lit< tt)
encode_bytes (coded_var p q) = bytes_cons [] (omega arith) (λ i. lit< tt)
encode_bytes (coded_app {K} {B} f g) = bytes_cons (encode K ++ encode B) (lit< tt) (bytes_append (encode K) (encode B) (encode_bytes f) (encode_bytes g))
encode_bytes (coded_abs {U} {B} f g) = bytes_cons (encode U ++ encode B) (lit< tt) (bytes_append (encode U) (encode B) (encode_bytes f) (encode_bytes g))

-- ---- Decoding undoes encoding.
pub terms_encode : {t : Term} → Coded t → (s : List ℕ) (ts : List Term) → terms s ≡ some ts → terms (encode t ++ s) ≡ some (t ∷ ts)
unfolding terms encode
terms_encode coded_tau s ts e = rw e
terms_encode (coded_var p q) s ts e = rw (e, symbol_index p q)
terms_encode (coded_app {K} {B} f g) s ts e = rw (append_assoc (encode K) (encode B) s, terms_encode f (encode B ++ s) (B ∷ ts) (terms_encode g s ts e))
terms_encode (coded_abs {U} {B} f g) s ts e = rw (append_assoc (encode U) (encode B) s, terms_encode f (encode B ++ s) (B ∷ ts) (terms_encode g s ts e))

pub decode_encode : {t : Term} → Coded t → decode (encode t) ≡ some t
unfolding decode terms
decode_encode {t} f = rw (← append-nil (encode t), terms_encode f [] [] refl)

pub encode_injective : {t u : Term} → Coded t → Coded u → encode t ≡ encode u → t ≡ u
encode_injective {t} {u} f g e = some-injective t u (sym (decode_encode f) ∙ ap decode e ∙ decode_encode g)

-- ---- Encoding undoes decoding.
pub data AllCoded : List Term → Type 0 where
  no_terms : AllCoded []
  more : {t : Term} {ts : List Term} → Coded t → AllCoded ts → AllCoded (t ∷ ts)

-- The bytes of terms one after the other.
unfoldable pub encode_all : List Term → List ℕ
encode_all [] = []
encode_all (t ∷ ts) = encode t ++ encode_all ts

-- What a string may be read as.
pub data Read (s : List ℕ) : Option (List Term) → Type 0 where
  unread : Read s none
  read : {ts : List Term} → encode_all ts ≡ s → AllCoded ts → Read s (some ts)

read_two : (c : Term → Term → Term) (b : ℕ) → ((K B : Term) → Coded K → Coded B → Coded (c K B)) → ((K B : Term) → encode (c K B) ≡ b ∷ (encode K ++ encode B))
    → (s : List ℕ) (ts : List Term) → encode_all ts ≡ s → AllCoded ts → Read (b ∷ s) (take_two c ts)
unfolding take_two encode_all
read_two c b f q s ts e no_terms = unread
read_two c b f q s ts e (more g no_terms) = unread
read_two c b f q s ts e (more {t = K} g (more {t = B} {ts = us} h fs)) =
    read {ts = c K B ∷ us} (rw (q K B, append_assoc (encode K) (encode B) (encode_all us), e)) (more (f K B g h) fs)

read_byte_lem : {b : ℕ} {k : Symbol} → b < 256 → Is b k → (s : List ℕ) (ts : List Term) → encode_all ts ≡ s → AllCoded ts → Read (b ∷ s) (read_byte k b ts)
unfolding read_byte encode_all encode
read_byte_lem p (is_tau e) s ts r f = read {ts = tau ∷ ts} (rw (r, e)) (more coded_tau f)
read_byte_lem {b} p (is_var x y z) s ts r f = read {ts = var b ∷ ts} (rw r) (more (coded_index p x y z) f)
read_byte_lem p (is_app e) s ts r f = rw e (read_two app 254 (λ K B x y. coded_app x y) (λ K B. refl) s ts r f)
read_byte_lem p (is_abs e) s ts r f = rw e (read_two abs 255 (λ K B x y. coded_abs x y) (λ K B. refl) s ts r f)

pub reads : (s : List ℕ) → Bytes s → Read s (terms s)
unfolding terms encode_all bind
reads [] h = read refl no_terms
reads (b ∷ s) h = go (terms s) (reads s (λ i. h (suc i)))
  where
    go : (o : Option (List Term)) → Read s o → Read (b ∷ s) (bind o (read_byte (symbol b) b))
    go o unread = unread
    go o (read {ts} e f) = read_byte_lem (h 0) (is b) s ts e f

pub encode_decode : (s : List ℕ) (t : Term) → Bytes s → decode s ≡ some t → Encodes s t
unfolding decode encode_all bind single
encode_decode s t h e = go (terms s) (reads s h) e
  where
    go : (o : Option (List Term)) → Read s o → bind o single ≡ some t → Encodes s t
    go o unread e = let z : ◌≡◌ {A = ℕ} 0 1 = cc in absurd (omega arith)
    go o (read r no_terms) e = let z : ◌≡◌ {A = ℕ} 0 1 = cc in absurd (omega arith)
    go o (read r (more f (more g fs))) e = let z : ◌≡◌ {A = ℕ} 0 1 = cc in absurd (omega arith)
    go o (read r (more {t = u} f no_terms)) e = let q : u ≡ t = cc in rw (← q) (record { bytes = rw (← append-nil (encode u)) r; coded = f })
