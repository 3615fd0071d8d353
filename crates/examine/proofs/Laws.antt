-- Laws of examining: which terms have no fault, and which strings are accepted.
-- Assumes nothing.
use Prim.Native.Nat.{ℕ, zero, suc, ◌+◌, ◌≤◌, ◌<◌}
use mathlib.Core.Path.{◌≡◌, refl, ap, sym, ◌∙◌}
use mathlib.Core.Bool.{Bool, true, false, cond}
use mathlib.Core.Logic.{◌↔◌}
use mathlib.Core.Option.{Option, none, some}
use mathlib.Core.List.{List}
use native.Mathlib.Omega.{arith}
use lib.Dec.{eqb, leb, ltb}
use lib.ListN.{length}
use borrow.Author.Tests.{ltb-true, leb-true, lt-ltb, le-ltb, le-leb, lt-leb, eq-eqb, ne_eqb}
use Rattle.calculus.specs.Terms.{Term, tau, var, app, abs, size, Closed, closed_tau, closed_var, closed_app, closed_abs}
use Rattle.calculus.specs.Frames.{ε}
use Rattle.calculus.specs.Types.{degree}
use Rattle.std.proofs.Common.{Ok, Err}
use Rattle.code.specs.Limits.{longest_term, most_abstractors}
use Rattle.code.specs.Refusals.{number_of}
use Rattle.code.specs.declared.refusal.Refusal.{Refusal}
use Rattle.code.specs.Code.{Bytes, decode, term_end}
use Rattle.code.specs.Scope.{scope}
use Rattle.code.proofs.Refusals.{refusal_number}
use Rattle.code.proofs.RoundTrip.{length_encode, odd, encode_decode}
use Rattle.code.proofs.FirstZero.{whole}
use Rattle.code.proofs.Scope.{closed_coded}
use Rattle.examine.specs.Inspect.{Fault, no_fault, beyond, deep, leftmost, index_fault, scope_fault, inspect, Examined, refused, accepted, judged, decoded, ended, examined, TermAnswer, term_answer_of, term_answer, term_says}
use Rattle.examine.specs.Claims.{WellFormed, Examining, repeated, Examples}

-- ---- No fault.
-- A term's indices and abstractors are within the limits.
pub record Within (d : ℕ) (t : Term) : Type 0 where
  pub closed : Closed d t
  pub shallow : d + scope t ≤ most_abstractors

none_left : (f g : Fault) → leftmost f g ≡ no_fault → (f ≡ no_fault) × (g ≡ no_fault)
unfolding leftmost
none_left no_fault g e = (refl, e)
none_left (beyond p) g e = let z : ◌≡◌ {A = ℕ} 0 1 = cc in absurd (omega arith)
none_left (deep p) g e = let z : ◌≡◌ {A = ℕ} 0 1 = cc in absurd (omega arith)

passes_test : (x : Bool) (f : Fault) → (f ≡ no_fault → ⊥) → cond x no_fault f ≡ no_fault → x ≡ true
passes_test true f n e = refl
passes_test false f n e = absurd (n e)

beyond_fault : (p : ℕ) → beyond p ≡ no_fault → ⊥
beyond_fault p e = let z : ◌≡◌ {A = ℕ} 0 1 = cc in omega arith

deep_fault : (p : ℕ) → deep p ≡ no_fault → ⊥
deep_fault p e = let z : ◌≡◌ {A = ℕ} 0 1 = cc in omega arith

within : (d i : ℕ) (t : Term) → d ≤ most_abstractors → inspect d i t ≡ no_fault → Within d t
unfolding inspect scope
within d i tau h e = record { closed = closed_tau; shallow = omega arith }
within d i (var zero) h e = absurd (beyond_fault i e)
within d i (var (suc k)) h e =
    let l = ltb-true k d (passes_test (ltb k d) _ (beyond_fault _) e) in
    record { closed = closed_var {n = d} {k = suc k} (omega arith) (omega arith); shallow = omega arith }
within d i (app K B) h e =
    let p = none_left (inspect d (suc i) K) (inspect d (suc i + size K) B) e in
    let a = within d (suc i) K h p.0 in
    let b = within d (suc i + size K) B h p.1 in
    record { closed = closed_app a.closed b.closed; shallow = omega (arith, a.shallow, b.shallow) }
within d i (abs U B) h e =
    let p = none_left (scope_fault d i) (leftmost (inspect d (suc i) U) (inspect (suc d) (suc i + size U) B)) e in
    let q = none_left (inspect d (suc i) U) (inspect (suc d) (suc i + size U) B) p.1 in
    let l = ltb-true d most_abstractors (passes_test (ltb d most_abstractors) _ (deep_fault _) p.0) in
    let a = within d (suc i) U h q.0 in
    let b = within (suc d) (suc i + size U) B (omega arith) q.1 in
    record { closed = closed_abs a.closed b.closed; shallow = omega (arith, a.shallow, b.shallow) }

pub index_within : (d i k : ℕ) → 1 ≤ k → k ≤ d → index_fault d i k ≡ no_fault
unfolding index_fault
index_within d i zero p q = absurd (omega arith)
index_within d i (suc k) p q = rw (lt-ltb k d (omega arith))

pub index_past : (d i k : ℕ) → d < k → index_fault d i k ≡ beyond i
unfolding index_fault
index_past d i zero h = refl
index_past d i (suc k) h = rw (le-ltb k d (omega arith))

without_fault : {d : ℕ} {t : Term} (i : ℕ) → Closed d t → d + scope t ≤ most_abstractors → inspect d i t ≡ no_fault
unfolding inspect scope
without_fault i closed_tau h = refl
without_fault {d} i (closed_var {k} p q) h = index_within d i k p q
without_fault i (closed_app {K} {B} f g) h = rw (without_fault (suc i) f (omega arith), without_fault (suc i + size K) g (omega arith))
without_fault {d} i (closed_abs {U} {B} f g) h =
    rw (lt-ltb d most_abstractors (omega arith), without_fault (suc i) f (omega arith), without_fault (suc i + size U) g (omega arith))

pub faultless : (d i : ℕ) (t : Term) → d ≤ most_abstractors → (inspect d i t ≡ no_fault) ↔ (Closed d t × (d + scope t ≤ most_abstractors))
faultless d i t h = (λ e. let w = within d i t h e in (w.closed, w.shallow), λ w. without_fault i w.0 w.1)

-- a closed term has no other fault than that it is deep
abbrev pub DeepAtMost : Fault → Type 0
DeepAtMost no_fault = Unit {0}
DeepAtMost (beyond p) = ⊥
DeepAtMost (deep p) = Unit {0}

leftmost_deep : (f g : Fault) → DeepAtMost f → DeepAtMost g → DeepAtMost (leftmost f g)
unfolding leftmost
leftmost_deep no_fault g a b = b
leftmost_deep (beyond p) g a b = a
leftmost_deep (deep p) g a b = tt

scope_deep : (x : Bool) (i : ℕ) → DeepAtMost (cond x no_fault (deep i))
scope_deep true i = tt
scope_deep false i = tt

pub closed_deep : {d : ℕ} {t : Term} (i : ℕ) → Closed d t → DeepAtMost (inspect d i t)
unfolding inspect
closed_deep i closed_tau = tt
closed_deep {d} i (closed_var {k} p q) = rw (index_within d i k p q) tt
closed_deep {d} i (closed_app {K} {B} f g) = leftmost_deep (inspect d (suc i) K) (inspect d (suc i + size K) B) (closed_deep (suc i) f) (closed_deep (suc i + size K) g)
closed_deep {d} i (closed_abs {U} {B} f g) =
    leftmost_deep (scope_fault d i) (leftmost (inspect d (suc i) U) (inspect (suc d) (suc i + size U) B)) (scope_deep (ltb d most_abstractors) i)
    (leftmost_deep (inspect d (suc i) U) (inspect (suc d) (suc i + size U) B) (closed_deep (suc i) f) (closed_deep (suc i + size U) g))

-- ---- Examining a string.
pub examined_long : (s : List ℕ) → longest_term < length s → examined s ≡ refused 4 0
unfolding examined
examined_long s h = rw (lt-leb (length s) longest_term h)

module _ (s : List ℕ) (h : length s ≤ longest_term) where
  pub examined_endless : term_end s 0 ≡ none → examined s ≡ refused 3 (length s)
  unfolding examined
  examined_endless e = rw (le-leb (length s) longest_term h, e)

  pub examined_past : {p : ℕ} → term_end s 0 ≡ some p → (p ≡ length s → ⊥) → examined s ≡ refused 3 p
  unfolding examined
  examined_past {p} e n = rw (le-leb (length s) longest_term h, e, ne_eqb p (length s) n)

  pub examined_whole : {t : Term} → term_end s 0 ≡ some (length s) → decode s ≡ some t → examined s ≡ judged (inspect 0 0 t) t
  unfolding examined
  examined_whole e d = rw (le-leb (length s) longest_term h, e, eq-eqb (length s) (length s) refl, d)

-- The code's answer, where it is known what examining finds.
pub answered : (s : List ℕ) {x : Examined} {r : TermAnswer} → examined s ≡ x → r ≡ term_answer_of x → r ≡ term_answer s
unfolding term_answer
answered s e q = q ∙ ap term_answer_of (sym e)

pub refuses : (s : List ℕ) (r : Refusal) → examined s ≡ refused (number_of r.condition) r.place → term_says (Err r) ≡ term_answer s
unfolding term_says term_answer_of
refuses s r e = answered s e refl

-- ---- What is accepted.
module _ {t : Term} where
  from_judged : (f : Fault) (u : Term) → judged f u ≡ accepted t → (f ≡ no_fault) × (u ≡ t)
  unfolding judged
  from_judged no_fault u e = (refl, cc)
  from_judged (beyond p) u e = let z : ◌≡◌ {A = ℕ} 0 1 = cc in absurd (omega arith)
  from_judged (deep p) u e = let z : ◌≡◌ {A = ℕ} 0 1 = cc in absurd (omega arith)

  from_decoded : (o : Option Term) → decoded o ≡ accepted t → (o ≡ some t) × (inspect 0 0 t ≡ no_fault)
  unfolding decoded
  from_decoded none e = let z : ◌≡◌ {A = ℕ} 0 1 = cc in absurd (omega arith)
  from_decoded (some u) e = let p = from_judged (inspect 0 0 u) u e in (ap some p.1, rw p.1 at p.0)

  from_test : (x : Bool) (a : Examined) (n p : ℕ) → cond x a (refused n p) ≡ accepted t → (x ≡ true) × (a ≡ accepted t)
  from_test true a n p e = (refl, e)
  from_test false a n p e = let z : ◌≡◌ {A = ℕ} 0 1 = cc in absurd (omega arith)

  from_ended : (s : List ℕ) (o : Option ℕ) → ended s o ≡ accepted t → decoded (decode s) ≡ accepted t
  unfolding ended
  from_ended s none e = let z : ◌≡◌ {A = ℕ} 0 1 = cc in absurd (omega arith)
  from_ended s (some p) e = (from_test (eqb p (length s)) (decoded (decode s)) 3 p e).1

  from_accepted : (s : List ℕ) → Bytes s → examined s ≡ accepted t → WellFormed s t
  unfolding examined
  from_accepted s w e =
      let p = from_test (leb (length s) longest_term) (ended s (term_end s 0)) 4 0 e in
      let q = from_decoded (decode s) (from_ended s (term_end s 0) p.1) in
      let h = encode_decode s t w q.0 in
      let l = leb-true (length s) longest_term p.0 in
      let v = within 0 0 t (omega arith) q.1 in
      record { decodes = q.0; short = omega (arith, ap length h.bytes, length_encode t); closed = v.closed; shallow = omega (arith, v.shallow) }

  to_accepted : (s : List ℕ) → Bytes s → WellFormed s t → examined s ≡ accepted t
  unfolding judged
  to_accepted s w a =
      let h = encode_decode s t w a.decodes in
      examined_whole s (omega (arith, ap length h.bytes, length_encode t, a.short)) ((whole s w).1 (t, a.decodes)) a.decodes
      ∙ rw (without_fault 0 a.closed (omega (arith, a.shallow)))

-- ---- What is refused: its number is one of 3 to 6.
abbrev Known : Examined → Type 0
Known (refused n p) = (3 ≤ n) × (n ≤ 6)
Known (accepted t) = Unit {0}

known_test : (b : Bool) (x y : Examined) → Known x → Known y → Known (cond b x y)
known_test true x y k l = k
known_test false x y k l = l

judged_known : (f : Fault) (t : Term) → Known (judged f t)
unfolding judged
judged_known no_fault t = tt
judged_known (beyond p) t = omega arith
judged_known (deep p) t = omega arith

decoded_known : (o : Option Term) → Known (decoded o)
unfolding decoded
decoded_known none = omega arith
decoded_known (some t) = judged_known (inspect 0 0 t) t

ended_known : (s : List ℕ) (o : Option ℕ) → Known (ended s o)
unfolding ended
ended_known s none = omega arith
ended_known s (some e) = known_test (eqb e (length s)) (decoded (decode s)) (refused 3 e) (decoded_known (decode s)) (omega arith)

known : (s : List ℕ) → Known (examined s)
unfolding examined
known s = known_test (leb (length s) longest_term) (ended s (term_end s 0)) (refused 4 0) (ended_known s (term_end s 0)) (omega arith)

pub numbers : (s : List ℕ) {n p : ℕ} → examined s ≡ refused n p → (3 ≤ n) × (n ≤ 6)
numbers s e = rw e at (known s)

pub number_zero : (s : List ℕ) → (term_answer s).number ≡ 0 → (t : Term) × (examined s ≡ accepted t)
unfolding term_answer term_answer_of
number_zero s e = go (examined s) refl e
  where
    go : (x : Examined) → examined s ≡ x → (term_answer_of x).number ≡ 0 → (t : Term) × (x ≡ accepted t)
    go (refused n p) q z = absurd (omega (arith, (numbers s q).0))
    go (accepted t) q z = (t, refl)

-- For a caller of `examine_term`: what its answer says.
pub record Accepting (s : List ℕ) (d : ℕ) : Type 0 where
  pub term : Term
  pub is : examined s ≡ accepted term
  pub degree_is : d ≡ degree ε term

pub accepted_answer : (s : List ℕ) {d : ℕ} → term_says (Ok d) ≡ term_answer s → Accepting s d
unfolding term_says term_answer term_answer_of
accepted_answer s {d} q = go (examined s) refl q
  where
    go : (x : Examined) → examined s ≡ x → term_says (Ok d) ≡ term_answer_of x → Accepting s d
    go (refused n p) h e = let z : ◌≡◌ {A = ℕ} 0 n = ap (λ (a : TermAnswer). a.number) e in absurd (omega (arith, (numbers s h).0))
    go (accepted t) h e = record { term = t; is = h; degree_is = ap (λ (a : TermAnswer). a.degree) e }

pub refused_answer : (s : List ℕ) (r : Refusal) → term_says (Err r) ≡ term_answer s → examined s ≡ refused (number_of r.condition) r.place
unfolding term_says term_answer term_answer_of
refused_answer s r q = go (examined s) refl q
  where
    go : (x : Examined) → examined s ≡ x → term_says (Err r) ≡ term_answer_of x → x ≡ refused (number_of r.condition) r.place
    go (refused n p) h e = ap (λ (a : TermAnswer). refused a.number a.place) (sym e)
    go (accepted t) h e = let z : ◌≡◌ {A = ℕ} (number_of r.condition) 0 = ap (λ (a : TermAnswer). a.number) e in absurd (omega (arith, refusal_number r.condition))

even : (s : List ℕ) → Bytes s → length s ≡ longest_term → (p : ℕ) × (examined s ≡ refused 3 p)
even s w l = go (term_end s 0) refl
  where
    go : (o : Option ℕ) → term_end s 0 ≡ o → (p : ℕ) × (examined s ≡ refused 3 p)
    go none e = (length s, examined_endless s (omega arith) e)
    go (some p) e = (p, examined_past s (omega arith) e (λ q. let x = (whole s w).0 (e ∙ ap some q) in let h = encode_decode s x.0 w x.1 in omega (arith, odd x.0, ap length h.bytes, length_encode x.0)))

pub examining_holds : Examining
examining_holds =
    record {
      accepts = λ s t w. (from_accepted s w, to_accepted s w);
      faultless = faultless;
      numbers = λ s e. numbers s e;
      over_long = examined_long;
      even = even;
      coded = λ s t w e. let a = from_accepted s w e in closed_coded a.closed (omega (arith, a.shallow));
    }

pub examples_hold : Examples
unfolding term_answer repeated
examples_hold = record { e1 = refl; condition_5 = refl; condition_3 = refl; byte_past = refl; condition_6 = refl; longest = refl; nothing = refl }
