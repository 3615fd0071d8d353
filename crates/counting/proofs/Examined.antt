-- What examining answers for a string, by the terms that it holds.
-- Assumes nothing.
use Prim.Native.Nat.{ℕ, zero, suc, ◌+◌, ◌≤◌, ◌<◌}
use mathlib.Core.Path.{◌≡◌, refl, ap, sym, ◌∙◌}
use mathlib.Core.Bool.{Bool, true, false, cond}
use mathlib.Core.Option.{Option, none, some, bind, some-injective}
use mathlib.Core.List.{List, [], ◌∷◌, ◌++◌, append_assoc, append-nil}
use native.Mathlib.Omega.{arith}
use lib.Dec.{leb, ltb}
use lib.ListN.{length}
use borrow.Author.Tests.{leb-true, le-leb, lt-ltb}
use Rattle.calculus.specs.Terms.{Term, tau, var, app, abs, size, Closed, closed_tau, closed_var, closed_app, closed_abs}
use Rattle.code.specs.Limits.{longest_term, most_abstractors}
use Rattle.code.specs.Code.{Symbol, symbol, symbol_tau, symbol_var, symbol_app, symbol_abs, Bytes, encode, Coded, coded_tau, coded_var, coded_app, coded_abs, take_two, read_byte, terms, decode, term_end}
use Rattle.code.specs.Scope.{scope}
use Rattle.code.proofs.RoundTrip.{Is, is, is_var, symbol_index, length_encode, encode_decode}
use Rattle.code.proofs.FirstZero.{whole}
use Rattle.examine.specs.Inspect.{Fault, no_fault, beyond, leftmost, index_fault, inspect, Examined, judged, examined, term_answer_of, term_answer}
use Rattle.examine.specs.OneByte.{one_byte_number}
use Rattle.examine.proofs.Laws.{faultless, examined_endless, examined_past, examined_whole}
use Rattle.counting.specs.Clauses.{holds_after, holds}
use Rattle.counting.proofs.Sums.{not-true}

-- ---- Bytes of terms hold them.
holds_encode : {d : ℕ} {t : Term} → Coded t → Closed d t → (s ds : List ℕ) → holds (encode t ++ s) (d ∷ ds) ≡ holds s ds
unfolding holds encode
holds_encode coded_tau closed_tau s ds = refl
holds_encode {d} (coded_var {k} p q) (closed_var x y) s ds = rw (symbol_index p q, le-leb k d y)
holds_encode {d} (coded_app {K} {B} f g) (closed_app x y) s ds = rw (append_assoc (encode K) (encode B) s, holds_encode f x (encode B ++ s) (d ∷ ds), holds_encode g y s ds)
holds_encode {d} (coded_abs {U} {B} f g) (closed_abs x y) s ds = rw (append_assoc (encode U) (encode B) s, holds_encode f x (encode B ++ s) (suc d ∷ ds), holds_encode g y s ds)

decodes_holds : (d : ℕ) (s : List ℕ) (t : Term) → Bytes s → decode s ≡ some t → Closed d t → holds s (d ∷ []) ≡ true
unfolding holds
decodes_holds d s t w e c =
    let h = encode_decode s t w e in
    ap (λ (x : List ℕ). holds x (d ∷ [])) (sym h.bytes ∙ sym (append-nil (encode t))) ∙ holds_encode h.coded c [] []

-- ---- A string that holds terms decodes to them.
one_le : (b : ℕ) → (b ≡ 0 → ⊥) → 1 ≤ b
one_le b n = omega arith

single_read : (s : List ℕ) (t : Term) → terms s ≡ some (t ∷ []) → decode s ≡ some t
unfolding decode
single_read s t e = rw e

data AllClosed : List ℕ → List Term → Type 0 where
  no_terms : AllClosed [] []
  more : {d : ℕ} {t : Term} {ds : List ℕ} {ts : List Term} → Closed d t → AllClosed ds ts → AllClosed (d ∷ ds) (t ∷ ts)

record Holding (o : Option (List Term)) (ds : List ℕ) : Type 0 where
  pub held : List Term
  pub reads : o ≡ some held
  pub closed : AllClosed ds held

both_true : (x y : Bool) → cond x y false ≡ true → (x ≡ true) × (y ≡ true)
both_true true y e = (refl, e)
both_true false y e = let z : ◌≡◌ {A = ℕ} 0 1 = cc in absurd (omega arith)

module _ {o : Option (List Term)} where
  read_tau : (b d : ℕ) {ds : List ℕ} → Holding o ds → Holding (bind o (read_byte symbol_tau b)) (d ∷ ds)
  unfolding read_byte bind
  read_tau b d h = record { held = tau ∷ h.held; reads = rw h.reads; closed = more closed_tau h.closed }

  read_var : {b d : ℕ} {ds : List ℕ} → 1 ≤ b → b ≤ d → Holding o ds → Holding (bind o (read_byte symbol_var b)) (d ∷ ds)
  unfolding read_byte bind
  read_var {b} p q h = record { held = var b ∷ h.held; reads = rw h.reads; closed = more (closed_var p q) h.closed }

  read_app : (b : ℕ) {d : ℕ} {ds : List ℕ} {ts : List Term} → o ≡ some ts → AllClosed (d ∷ d ∷ ds) ts → Holding (bind o (read_byte symbol_app b)) (d ∷ ds)
  unfolding read_byte take_two bind
  read_app b e (more {t = K} x (more {t = B} {ts} y z)) = record { held = app K B ∷ ts; reads = rw e; closed = more (closed_app x y) z }

  read_abs : (b : ℕ) {d : ℕ} {ds : List ℕ} {ts : List Term} → o ≡ some ts → AllClosed (d ∷ suc d ∷ ds) ts → Holding (bind o (read_byte symbol_abs b)) (d ∷ ds)
  unfolding read_byte take_two bind
  read_abs b e (more {t = U} x (more {t = B} {ts} y z)) = record { held = abs U B ∷ ts; reads = rw e; closed = more (closed_abs x y) z }

after_holds :
    (s : List ℕ) (b : ℕ) (x : Symbol) (ds : List ℕ)
    → Is b x
    → ((es : List ℕ) → holds s es ≡ true → Holding (terms s) es)
    → holds_after x b ds (holds s) ≡ true
    → Holding (bind (terms s) (read_byte x b)) ds
unfolding holds_after
after_holds s b symbol_tau [] i h e = let z : ◌≡◌ {A = ℕ} 0 1 = cc in absurd (omega arith)
after_holds s b symbol_var [] i h e = let z : ◌≡◌ {A = ℕ} 0 1 = cc in absurd (omega arith)
after_holds s b symbol_app [] i h e = let z : ◌≡◌ {A = ℕ} 0 1 = cc in absurd (omega arith)
after_holds s b symbol_abs [] i h e = let z : ◌≡◌ {A = ℕ} 0 1 = cc in absurd (omega arith)
after_holds s b symbol_tau (d ∷ ds) i h e = read_tau b d (h ds e)
after_holds s b symbol_var (d ∷ ds) (is_var x y z) h e =
    let p = both_true (leb b d) (holds s ds) e in
    read_var (one_le b x) (leb-true b d p.0) (h ds p.1)
after_holds s b symbol_app (d ∷ ds) i h e = let k = h (d ∷ d ∷ ds) e in read_app b k.reads k.closed
after_holds s b symbol_abs (d ∷ ds) i h e = let k = h (d ∷ suc d ∷ ds) e in read_abs b k.reads k.closed

holds_reads : (s ds : List ℕ) → holds s ds ≡ true → Holding (terms s) ds
unfolding holds terms
holds_reads [] [] e = record { held = []; reads = refl; closed = no_terms }
holds_reads [] (d ∷ ds) e = let z : ◌≡◌ {A = ℕ} 0 1 = cc in absurd (omega arith)
holds_reads (b ∷ s) ds e = after_holds s b (symbol b) ds (is b) (holds_reads s) e

-- One term, closed in d scopes.
record OneTerm (s : List ℕ) (d : ℕ) : Type 0 where
  pub term : Term
  pub decodes : decode s ≡ some term
  pub closed : Closed d term

holds_decodes : (d : ℕ) (s : List ℕ) → holds s (d ∷ []) ≡ true → OneTerm s d
holds_decodes d s e = let h = holds_reads s (d ∷ []) e in go h.reads h.closed
  where
    go : {ts : List Term} → terms s ≡ some ts → AllClosed (d ∷ []) ts → OneTerm s d
    go q (more {t} x no_terms) = record { term = t; decodes = single_read s t q; closed = x }

-- ---- Faults.
-- In so many scopes every index may stand.
coded_closed : {t : Term} (d : ℕ) → 253 ≤ d → Coded t → Closed d t
coded_closed d h coded_tau = closed_tau
coded_closed d h (coded_var {k} p q) = closed_var {n = d} {k = k} p (omega arith)
coded_closed d h (coded_app f g) = closed_app (coded_closed d h f) (coded_closed d h g)
coded_closed d h (coded_abs f g) = closed_abs (coded_closed d h f) (coded_closed (suc d) (omega arith) g)

scope_size : (t : Term) → scope t + scope t < size t
unfolding scope size
scope_size tau = omega arith
scope_size (var k) = omega arith
scope_size (app K B) = omega (arith, scope_size K, scope_size B)
scope_size (abs U B) = omega (arith, scope_size U, scope_size B)

-- No fault, or an index beyond its scope.
data NotDeep : Fault → Type 0 where
  sound : NotDeep no_fault
  reaching : (p : ℕ) → NotDeep (beyond p)

leftmost_not_deep : {f g : Fault} → NotDeep f → NotDeep g → NotDeep (leftmost f g)
unfolding leftmost
leftmost_not_deep sound y = y
leftmost_not_deep (reaching p) y = reaching p

index_not_deep : (d i k : ℕ) → NotDeep (index_fault d i k)
unfolding index_fault
index_not_deep d i zero = reaching i
index_not_deep d i (suc k) = go (ltb k d)
  where
    go : (x : Bool) → NotDeep (cond x no_fault (beyond i))
    go true = sound
    go false = reaching i

not_deep : (d i : ℕ) (t : Term) → d + scope t ≤ most_abstractors → NotDeep (inspect d i t)
unfolding inspect scope
not_deep d i tau h = sound
not_deep d i (var k) h = index_not_deep d i k
not_deep d i (app K B) h = leftmost_not_deep (not_deep d (suc i) K (omega arith)) (not_deep d (suc i + size K) B (omega arith))
not_deep d i (abs U B) h = rw (lt-ltb d most_abstractors (omega arith)) (leftmost_not_deep (not_deep d (suc i) U (omega arith)) (not_deep (suc d) (suc i + size U) B (omega arith)))

-- ---- What examining answers, and what the string holds.
pub data Answered (s : List ℕ) : Type 0 where
  accepts : one_byte_number s ≡ 0 → holds s (0 ∷ []) ≡ true → holds s (253 ∷ []) ≡ true → Answered s
  refuses_3 : one_byte_number s ≡ 3 → holds s (0 ∷ []) ≡ false → holds s (253 ∷ []) ≡ false → Answered s
  refuses_5 : one_byte_number s ≡ 5 → holds s (0 ∷ []) ≡ false → holds s (253 ∷ []) ≡ true → Answered s

numbered : (s : List ℕ) {x : Examined} → examined s ≡ x → one_byte_number s ≡ (term_answer_of x).number
unfolding term_answer
numbered s e = ap (λ (x : Examined). (term_answer_of x).number) e

module _ (s : List ℕ) (w : Bytes s) (l : length s ≤ longest_term) where
  malformed : ((t : Term) → decode s ≡ some t → ⊥) → one_byte_number s ≡ 3
  unfolding term_answer_of
  malformed n = go (term_end s 0) refl
    where
      go : (o : Option ℕ) → term_end s 0 ≡ o → one_byte_number s ≡ 3
      go none e = numbered s (examined_endless s l e)
      go (some p) e = numbered s (examined_past s l e (λ q. let x = (whole s w).0 (e ∙ ap some q) in n x.0 x.1))

  well_formed : (t : Term) → decode s ≡ some t → one_byte_number s ≡ (term_answer_of (judged (inspect 0 0 t) t)).number
  well_formed t e = numbered s (examined_whole s l ((whole s w).1 (t, e)) e)

  -- The term that s is, with no more than 253 abstractors in scope.
  by_fault : (t : Term) → decode s ≡ some t → scope t ≤ most_abstractors → {f : Fault} → NotDeep f → inspect 0 0 t ≡ f → Answered s
  unfolding judged term_answer_of
  by_fault t e h sound q =
      let c = ((faultless 0 0 t (omega arith)).0 q).0 in
      accepts (rw q at (well_formed t e)) (decodes_holds 0 s t w e c) (decodes_holds 253 s t w e (coded_closed 253 (omega arith) (encode_decode s t w e).coded))
  by_fault t e h (reaching p) q =
      refuses_5
      (rw q at (well_formed t e))
      (not-true (holds s (0 ∷ [])) (λ y. let o = holds_decodes 0 s y in let same = some-injective t o.term (sym e ∙ o.decodes) in let z : no_fault ≡ beyond p = sym ((faultless 0 0 t (omega arith)).1 (rw (← same) at o.closed, omega (arith, h))) ∙ q in let u : ◌≡◌ {A = ℕ} 0 1 = cc in omega arith))
      (decodes_holds 253 s t w e (coded_closed 253 (omega arith) (encode_decode s t w e).coded))

  by_term : length s ≤ 507 → (x : Bool) → holds s (253 ∷ []) ≡ x → Answered s
  by_term m true e =
      let o = holds_decodes 253 s e in
      let b = encode_decode s o.term w o.decodes in
      let z : scope o.term ≤ most_abstractors = omega (arith, scope_size o.term, length_encode o.term, ap length b.bytes) in
      by_fault o.term o.decodes z (not_deep 0 0 o.term (omega (arith, z))) refl
  by_term m false e =
      let n : (t : Term) → decode s ≡ some t → ⊥ =
      λ t q. let u = sym e ∙ decodes_holds 253 s t w q (coded_closed 253 (omega arith) (encode_decode s t w q).coded) in let v : ◌≡◌ {A = ℕ} 0 1 = cc in omega arith in
      refuses_3 (malformed n) (not-true (holds s (0 ∷ [])) (λ y. let o = holds_decodes 0 s y in n o.term o.decodes)) e

-- No term of so few bytes has more than 253 abstractors in scope.
pub answered_by : (s : List ℕ) → Bytes s → length s ≤ 507 → Answered s
answered_by s w l = by_term s w (omega arith) l (holds s (253 ∷ [])) refl
