-- What each answer of `write_type` and `apply_step` says of the term.
-- Assumes nothing.
use Prim.Native.Nat.{ℕ, ◌+◌, ◌≤◌}
use mathlib.Core.Path.{◌≡◌, refl, ap, ◌∙◌}
use mathlib.Core.Bool.{Bool, true, false, cond}
use mathlib.Core.Option.{Option, none, some}
use mathlib.Core.List.{List}
use native.Mathlib.Omega.{arith}
use lib.Dec.{leb}
use lib.ListN.{length, take}
use lib.Seq.{sets}
use borrow.Author.Tests.{leb-true}
use Rattle.calculus.specs.Terms.{Term, size, Closed}
use Rattle.calculus.specs.Frames.{ε, depth, closed_empty}
use Rattle.calculus.specs.Types.{type}
use Rattle.calculus.specs.Steps.{Step, couples, Outcome, step, replay}
use Rattle.calculus.specs.Whole.{at, whole_steps}
use Rattle.calculus.proofs.Whole.{spelling}
use Rattle.calculus.specs.Steps as calculus
use Rattle.calculus.proofs.Degree.{degrees_hold}
use Rattle.calculus.proofs.Closed.{closedness}
use Rattle.code.specs.Limits.{longest_term, most_abstractors}
use Rattle.code.specs.Code.{Bytes, encode}
use Rattle.code.specs.Scope.{scope, Fits}
use Rattle.code.proofs.RoundTrip.{length_encode, decode_encode}
use Rattle.code.proofs.Scope.{closed_coded}
use Rattle.examine.specs.Inspect.{Examined, refused, accepted, examined}
use Rattle.examine.proofs.Laws.{examining_holds}
use Rattle.parts.proofs.Stores.{take_sets_end}
use Rattle.verdict.specs.Bounds.{body_fits}
use Rattle.verdict.proofs.Runs.{cond_both}
use Rattle.calls.specs.Answers.{Written, nothing, answer, handed, written, type_written, type_answer_of, type_answer, step_written, step_answer_of, step_answer}
use Rattle.calls.specs.Claims.{Result, TypeResult, StepResult, DegreeOne, Promises}
use Rattle.calls.proofs.Writing.{accepts}

-- The ways to answer with a result.
data WrittenAs (out : List ℕ) (t : Term) : Written → Type 0 where
  done : body_fits ε t ≡ true → length (encode t) ≤ length out → WrittenAs out t (answer 0 0 (length (encode t)) (sets out 0 (encode t)))
  kept : (number : ℕ) → 1 ≤ number → WrittenAs out t (answer number 0 0 out)

written_as : (out : List ℕ) (t : Term) → WrittenAs out t (written out t)
unfolding written handed
written_as out t = go (body_fits ε t) (leb (length (encode t)) (length out)) refl refl
  where
    go : (a b : Bool) → body_fits ε t ≡ a → leb (length (encode t)) (length out) ≡ b
        → WrittenAs out t (cond a (cond b (answer 0 0 (length (encode t)) (sets out 0 (encode t))) (answer 14 0 0 out)) (answer 11 0 0 out))
    go true true h l = done h (leb-true (length (encode t)) (length out) l)
    go true false h l = kept 14 (omega arith)
    go false b h l = kept 11 (omega arith)

-- The ways to answer, where an accepted term t leads to a result u if `leads t u`.
data Ways (s out : List ℕ) (leads : Term → Term → Type 0) : Written → Type 0 where
  at_refusal : {n p : ℕ} → examined s ≡ refused n p → Ways s out leads (answer n p 0 out)
  at_none : Ways s out leads (nothing out)
  at_unmet : Ways s out leads (answer 10 0 0 out)
  at_result : {t u : Term} {x : Written} → examined s ≡ accepted t → leads t u → WrittenAs out u x → Ways s out leads x

abbrev TypeIs : Term → Term → Type 0
TypeIs t u = type ε t ≡ some u

abbrev StepLeads : Step → Term → Term → Type 0
StepLeads x t u = step ε x t ≡ calculus.reached u

type_ways : (s out : List ℕ) → Ways s out TypeIs (type_answer s out)
unfolding type_answer type_answer_of type_written
type_ways s out = go (examined s) refl
  where
    typed : {t : Term} → examined s ≡ accepted t → (o : Option Term) → type ε t ≡ o → Ways s out TypeIs (type_written out o)
    typed h none e = at_none
    typed h (some T) e = at_result h e (written_as out T)

    go : (x : Examined) → examined s ≡ x → Ways s out TypeIs (type_answer_of out x)
    go (refused n p) h = at_refusal h
    go (accepted t) h = typed h (type ε t) refl

step_ways : (s out : List ℕ) (x : Step) → Ways s out (StepLeads x) (step_answer s x out)
unfolding step_answer step_answer_of step_written
step_ways s out x = go (examined s) refl
  where
    stepped : {t : Term} → examined s ≡ accepted t → (o : Outcome) → step ε x t ≡ o → Ways s out (StepLeads x) (step_written out o)
    stepped h (calculus.refused r) e = at_unmet
    stepped h (calculus.reached u) e = at_result h e (written_as out u)

    go : (y : Examined) → examined s ≡ y → Ways s out (StepLeads x) (step_answer_of out x y)
    go (refused n p) h = at_refusal h
    go (accepted t) h = stepped h (step ε x t) refl

-- A refusal's number is not 0.
pub refusal_number : (s : List ℕ) {n p : ℕ} → examined s ≡ refused n p → n ≡ 0 → ⊥
refusal_number s h z = let b = examining_holds.numbers s h in omega (arith, b.0)

-- Number 0, and any other.
record Led (s out : List ℕ) (leads : Term → Term → Type 0) (place n : ℕ) (out' : List ℕ) : Type 0 where
  term : Term
  result : Term
  accepted_is : examined s ≡ accepted term
  leading : leads term result
  fits : body_fits ε result ≡ true
  room : length (encode result) ≤ length out
  place_is : place ≡ 0
  length_is : n ≡ length (encode result)
  buffer : out' ≡ sets out 0 (encode result)

result_stays : {out out' : List ℕ} {place n number : ℕ} {u : Term} {x : Written} → WrittenAs out u x → x ≡ answer number place n out' → (number ≡ 0 → ⊥) → (n ≡ 0) × (out' ≡ out)
result_stays (done f r) e z = absurd (z (cc))
result_stays (kept m p) e z = (cc, cc)

module _ {s out out' : List ℕ} {leads : Term → Term → Type 0} {place n : ℕ} where
  result_led : {t u : Term} {x : Written} → examined s ≡ accepted t → leads t u → WrittenAs out u x → x ≡ answer 0 place n out' → Led s out leads place n out'
  result_led {t} {u} h l (done f r) e = record { term = t; result = u; accepted_is = h; leading = l; fits = f; room = r; place_is = cc; length_is = cc; buffer = cc }
  result_led h l (kept m p) e = let w : m ≡ 0 = cc in absurd (omega arith)

  led : {x : Written} → Ways s out leads x → x ≡ answer 0 place n out' → Led s out leads place n out'
  led (at_refusal h) e = absurd (refusal_number s h (cc))
  led at_none e = let w : ◌≡◌ {A = ℕ} 0 1 = cc in absurd (omega arith)
  led at_unmet e = let w : ◌≡◌ {A = ℕ} 10 0 = cc in absurd (omega arith)
  led (at_result h l r) e = result_led h l r e

  stays : {x : Written} {number : ℕ} → Ways s out leads x → x ≡ answer number place n out' → (number ≡ 0 → ⊥) → (n ≡ 0) × (out' ≡ out)
  stays (at_refusal h) e z = (cc, cc)
  stays at_none e z = let w : ◌≡◌ {A = ℕ} 0 1 = cc in absurd (omega arith)
  stays at_unmet e z = (cc, cc)
  stays (at_result h l r) e z = result_stays r e z

-- What was written is closed, and within the limits.
fits_within : (t : Term) → body_fits ε t ≡ true → Fits 0 t
unfolding body_fits depth
fits_within t h =
    let x = cond_both (leb (size t) longest_term) (leb (0 + scope t) most_abstractors) h in
    record { short = leb-true (size t) longest_term x.0; shallow = leb-true (0 + scope t) most_abstractors x.1 }

result_of : {s out out' : List ℕ} {leads : Term → Term → Type 0} {place n : ℕ} (d : Led s out leads place n out') → Closed 0 d.result → Result out d.result place n out'
result_of {out = out} {out' = out'} {n = n} d c =
    let f = fits_within d.result d.fits in
    let z : 0 + length (encode d.result) ≡ length (encode d.result) = omega arith in
    let q : take n out' ≡ encode d.result = rw (d.length_is, d.buffer) (rw z at (take_sets_end (encode d.result) out 0 (omega (arith, d.room)))) in
    record {
      place_is = d.place_is;
      length_is = d.length_is ∙ length_encode d.result;
      room = omega (arith, d.length_is, d.room);
      buffer = d.buffer;
      decodes = rw q (decode_encode (closed_coded c f.shallow));
      closed = c;
      fits = f;
    }

-- THE PROMISES
type_result : (s out : List ℕ) {out' : List ℕ} {place n : ℕ} → Bytes s → type_answer s out ≡ answer 0 place n out' → TypeResult s out place n out'
unfolding depth
type_result s out y e =
    let d = led (type_ways s out) e in
    let l = degrees_hold.one_lower ε d.term d.result d.leading in
    record {
      term = d.term;
      result = d.result;
      accepts = d.accepted_is;
      typed = d.leading;
      one_lower = omega (arith, l);
      written = result_of d (closedness.type_closed closed_empty (accepts y d.accepted_is).closed d.leading);
    }

step_result : (s out : List ℕ) (x : Step) {out' : List ℕ} {place n : ℕ} → Bytes s → step_answer s x out ≡ answer 0 place n out' → StepResult s x out place n out'
unfolding depth
step_result s out x y e =
    let d = led (step_ways s out x) e in
    record {
      term = d.term;
      result = d.result;
      accepts = d.accepted_is;
      steps = d.leading;
      written = result_of d (closedness.step_closed x closed_empty (accepts y d.accepted_is).closed d.leading);
    }

not_nothing : {out out' : List ℕ} {t : Term} {x : Written} → WrittenAs out t x → x ≡ nothing out' → ⊥
not_nothing (done f r) e = let w : ◌≡◌ {A = ℕ} 0 1 = cc in omega arith
not_nothing (kept m p) e = let w : ◌≡◌ {A = ℕ} 0 1 = cc in omega arith

none_degree : (s out out' : List ℕ) → type_answer s out ≡ nothing out' → DegreeOne s × (out' ≡ out)
unfolding type_answer type_answer_of type_written
none_degree s out out' = go (examined s) refl
  where
    typed : {t : Term} → examined s ≡ accepted t → (o : Option Term) → type ε t ≡ o → type_written out o ≡ nothing out' → DegreeOne s × (out' ≡ out)
    typed {t} h none e q = (record { term = t; accepts = h; degree_one = (degrees_hold.type_is_none ε t).0 e }, cc)
    typed h (some T) e q = absurd (not_nothing (written_as out T) q)

    go : (x : Examined) → examined s ≡ x → type_answer_of out x ≡ nothing out' → DegreeOne s × (out' ≡ out)
    go (refused n p) h q = let w : ◌≡◌ {A = ℕ} 0 1 = cc in absurd (omega arith)
    go (accepted t) h q = typed h (type ε t) refl q

degree_none : (s out out' : List ℕ) → DegreeOne s × (out' ≡ out) → type_answer s out ≡ nothing out'
unfolding type_answer type_answer_of type_written
degree_none s out out' (d, q) = rw (d.accepts, (degrees_hold.type_is_none ε d.term).1 d.degree_one, q)

step_whole : (s out : List ℕ) (t : Term) (p : ℕ) → examined s ≡ accepted t → step_answer s (at 3 p) out ≡ step_written out (replay ε (whole_steps couples t p) t)
unfolding step_answer step_answer_of
step_whole s out t p h = ap (step_answer_of out (at 3 p)) h ∙ ap (step_written out) (spelling.as_steps couples ε t p)

pub promised : Promises
promised =
    record {
      type_result = type_result;
      step_result = step_result;
      type_none = λ s out out'. (none_degree s out out', degree_none s out out');
      type_kept = λ s out e z. stays (type_ways s out) e z;
      step_kept = λ s out x e z. stays (step_ways s out x) e z;
      step_whole = step_whole;
    }
