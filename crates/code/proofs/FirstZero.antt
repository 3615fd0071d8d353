-- The balance finds where a term ends.
-- Assumes nothing.
use Prim.Native.Nat.{ℕ, suc, ◌+◌, ◌-◌, ◌<◌}
use mathlib.Core.Path.{◌≡◌, refl, ap, sym, ◌∙◌}
use mathlib.Core.Bool.{Bool, true, false, cond}
use mathlib.Core.Logic.{◌↔◌}
use mathlib.Core.Option.{Option, none, some}
use mathlib.Core.List.{List, [], ◌∷◌, ◌++◌, append_assoc, append-nil}
use native.Mathlib.Omega.{arith}
use native.Mathlib.Numerals.{add-one}
use lib.ListN.{length, length-append, drop}
use lib.Dec.{eqb, eqb-suc-zero}
use borrow.Author.Tests.{eqb-true, eqb-false}
use Rattle.calculus.specs.Terms.{Term, tau, var, app, abs, size}
use Rattle.code.specs.Code.{Symbol, symbol, Bytes, encode, Coded, coded_tau, coded_var, coded_app, coded_abs, decode, balance_after, first_zero, term_end}
use Rattle.code.specs.Claims.{Stands}
use Rattle.code.proofs.RoundTrip.{length_encode, bytes_drop, Is, is_tau, is_var, is_app, is_abs, is, symbol_index, coded_index, AllCoded, no_terms, more, encode_all, decode_encode, encode_decode}

-- ---- The balance falls by one over a term.
past : (i a b : ℕ) → suc i + a + b ≡ i + suc (a + b)
past i a b = omega arith

less_one : (n : ℕ) → suc n - 1 ≡ n
less_one n = omega arith

-- A balance of n + 1 at a term is n after it, and not 0 before that.
pub first_zero_encode : {t : Term} → Coded t → (s : List ℕ) (n i : ℕ) → first_zero (encode t ++ s) (suc n) i ≡ first_zero s n (i + size t)
unfolding first_zero encode size
first_zero_encode coded_tau s n i = rw (eqb-suc-zero n, less_one n, add-one i)
first_zero_encode (coded_var p q) s n i = rw (eqb-suc-zero n, symbol_index p q, less_one n, add-one i)
first_zero_encode (coded_app {K} {B} f g) s n i =
    rw (eqb-suc-zero n, append_assoc (encode K) (encode B) s, first_zero_encode f (encode B ++ s) (suc n) (suc i), first_zero_encode g s n (suc i + size K), past i (size K) (size B))
first_zero_encode (coded_abs {U} {B} f g) s n i =
    rw (eqb-suc-zero n, append_assoc (encode U) (encode B) s, first_zero_encode f (encode B ++ s) (suc n) (suc i), first_zero_encode g s n (suc i + size U), past i (size U) (size B))

pub first_zero_zero : (s : List ℕ) (i : ℕ) → first_zero s 0 i ≡ some i
unfolding first_zero
first_zero_zero [] i = refl
first_zero_zero (b ∷ s) i = refl

pub standing : {s : List ℕ} {from e : ℕ} {t : Term} → Stands s from e t → term_end s from ≡ some e
unfolding term_end
standing {s} {from} {e} {t} h = rw (h.bytes, first_zero_encode h.coded h.rest 0 from, first_zero_zero h.rest (from + size t), h.place)

pub first_term : {t : Term} → Coded t → (rest : List ℕ) → term_end (encode t ++ rest) 0 ≡ some (size t)
first_term {t} f rest = standing {t = t} (record { rest = rest; bytes = refl; coded = f; place = omega arith })

-- ---- Where the balance reaches 0, terms end.
pub data Ended (s : List ℕ) (n i : ℕ) : Option ℕ → Type 0 where
  never : Ended s n i none
  ended : {j : ℕ} (ts : List Term) (r : List ℕ) → s ≡ encode_all ts ++ r → AllCoded ts → length ts ≡ n → j ≡ i + length (encode_all ts) → Ended s n i (some j)

module _ (b : ℕ) (s : List ℕ) (n i : ℕ) (p : 0 < n) where
  leaf : {j : ℕ} (t : Term) → encode t ≡ b ∷ [] → Coded t → (ts : List Term) (r : List ℕ) → s ≡ encode_all ts ++ r → AllCoded ts → length ts ≡ n - 1 → j ≡ suc i + length (encode_all ts)
      → Ended (b ∷ s) n i (some j)
  unfolding encode_all
  leaf {j} t q f ts r e fs l h = ended {j = j} (t ∷ ts) r (rw (q, e)) (more f fs) (omega arith) (rw q (omega arith))

  node : {j : ℕ} (c : Term → Term → Term) → ((K B : Term) → Coded K → Coded B → Coded (c K B)) → ((K B : Term) → encode (c K B) ≡ b ∷ (encode K ++ encode B))
      → (ts : List Term) (r : List ℕ) → s ≡ encode_all ts ++ r → AllCoded ts → length ts ≡ suc n → j ≡ suc i + length (encode_all ts) → Ended (b ∷ s) n i (some j)
  unfolding encode_all
  node {j} c f q ts r e no_terms l h = absurd (omega arith)
  node {j} c f q ts r e (more g no_terms) l h = absurd (omega arith)
  node {j} c f q ts r e (more {t = K} g (more {t = B} {ts = us} g' fs)) l h =
      ended {j = j} (c K B ∷ us) r (rw (q K B, e) (simp append_assoc)) (more (f K B g g') fs) (omega arith) (rw (q K B) (h ∙ simp length-append (omega arith)))

  turn : {k : Symbol} → b < 256 → Is b k → (o : Option ℕ) → Ended s (balance_after k n) (suc i) o → Ended (b ∷ s) n i o
  unfolding balance_after encode
  turn q w o never = never
  turn q (is_tau e) o (ended ts r x fs l h) = leaf tau (rw e) coded_tau ts r x fs l h
  turn q (is_var e e' e'') o (ended ts r x fs l h) = leaf (var b) refl (coded_index q e e' e'') ts r x fs l h
  turn q (is_app e) o (ended ts r x fs l h) = node app (λ K B x y. coded_app x y) (λ K B. rw e) ts r x fs l h
  turn q (is_abs e) o (ended ts r x fs l h) = node abs (λ K B x y. coded_abs x y) (λ K B. rw e) ts r x fs l h

positive : (n : ℕ) → (n ≡ 0 → ⊥) → 0 < n
positive n f = omega arith

pub first_zero_ended : (s : List ℕ) (n i : ℕ) → Bytes s → Ended s n i (first_zero s n i)
unfolding first_zero encode_all
first_zero_ended [] n i w = go (eqb n 0) refl
  where
    go : (t : Bool) → eqb n 0 ≡ t → Ended [] n i (cond t (some i) none)
    go true e = ended {j = i} [] [] refl no_terms (sym (eqb-true n 0 e)) (omega arith)
    go false e = never
first_zero_ended (b ∷ s) n i w = go (first_zero_ended s (balance_after (symbol b) n) (suc i) (λ j. w (suc j))) (eqb n 0) refl
  where
    go : Ended s (balance_after (symbol b) n) (suc i) (first_zero s (balance_after (symbol b) n) (suc i)) → (t : Bool) → eqb n 0 ≡ t
        → Ended (b ∷ s) n i (cond t (some i) (first_zero s (balance_after (symbol b) n) (suc i)))
    go d true e = ended {j = i} [] (b ∷ s) refl no_terms (sym (eqb-true n 0 e)) (omega arith)
    go d false e = turn b s n i (positive n (eqb-false n 0 e)) (w 0) (is b) (first_zero s (balance_after (symbol b) n) (suc i)) d

pub found : (s : List ℕ) (from e : ℕ) → Bytes s → term_end s from ≡ some e → (t : Term) × Stands s from e t
unfolding term_end encode_all
found s from e w h = go (first_zero (drop from s) 1 from) (first_zero_ended (drop from s) 1 from (bytes_drop from s w)) h
  where
    go : (o : Option ℕ) → Ended (drop from s) 1 from o → o ≡ some e → (t : Term) × Stands s from e t
    go o never h = let z : ◌≡◌ {A = ℕ} 0 1 = cc in absurd (omega arith)
    go o (ended ts r x no_terms l q) h = absurd (omega arith)
    go o (ended ts r x (more f (more g fs)) l q) h = absurd (omega arith)
    go o (ended {j} ts r x (more {t} f no_terms) l q) h =
        let z : j ≡ e = cc in
        (t, record { rest = r; bytes = rw append-nil at x; coded = f; place = sym z ∙ q ∙ ap (from +◌) (rw append-nil (length_encode t)) })

-- ---- A whole string.
pub no_length : {A : Type 0} (l : List A) → length l ≡ 0 → l ≡ []
no_length [] h = refl
no_length (x ∷ l) h = absurd (omega arith)

module _ (s : List ℕ) (w : Bytes s) where
  whole_decode : term_end s 0 ≡ some (length s) → (t : Term) × (decode s ≡ some t)
  whole_decode h =
      let f = found s 0 (length s) w h in
      let l = length-append (encode f.0) f.1.rest in
      let e : f.1.rest ≡ [] = no_length f.1.rest (omega (arith, f.1.place, l, ap length f.1.bytes, length_encode f.0)) in
      (f.0, ap decode (f.1.bytes ∙ rw (e, append-nil (encode f.0))) ∙ decode_encode f.1.coded)

  decode_whole : (t : Term) × (decode s ≡ some t) → term_end s 0 ≡ some (length s)
  decode_whole d =
      let h = encode_decode s d.0 w d.1 in
      rw (← h.bytes, ← append-nil (encode d.0)) (first_term h.coded [] ∙ ap some (sym (rw append-nil (length_encode d.0))))

  pub whole : (term_end s 0 ≡ some (length s)) ↔ ((t : Term) × (decode s ≡ some t))
  whole = (whole_decode, decode_whole)
