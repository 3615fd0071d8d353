-- What the parts of `write_type` and `apply_step` make of their answers.
-- Assumes nothing.
use Prim.Native.Nat.{ℕ, ◌≤◌, ◌<◌}
use mathlib.Core.Path.{◌≡◌, ap, sym, subst, ◌∙◌}
use mathlib.Core.Bool.{Bool}
use mathlib.Core.Option.{Option}
use mathlib.Core.List.{List}
use native.Mathlib.Omega.{arith}
use lib.ListN.{length}
use lib.Seq.{sets}
use borrow.Author.Tests.{le-leb, lt-leb}
use Rattle.std.specs.Prelude.{Ok, Err}
use Rattle.calculus.specs.Terms.{Term, size}
use Rattle.calculus.specs.Frames.{ε, depth, closed_empty}
use Rattle.calculus.specs.Types.{type}
use Rattle.calculus.specs.Steps.{Step, Outcome, step}
use Rattle.calculus.proofs.Lift.{lift_zero}
use Rattle.code.specs.Limits.{longest_term, longest_state, most_abstractors}
use Rattle.code.specs.Code.{Bytes, encode}
use Rattle.code.specs.Claims.{Encodes, Stands}
use Rattle.code.proofs.RoundTrip.{encode_decode, length_encode}
use Rattle.code.proofs.Parts.{stands_self}
use Rattle.frames.specs.Stored.{EmptyRecord}
use Rattle.frames.specs.declared.FrameRecord.{FrameRecord}
use Rattle.letters.specs.Letters.{letters, Lies}
use Rattle.letters.specs.Clauses.{Readable, ReadAs, read_all, too_deep, Reads, BytesWritable, Writes}
use Rattle.letters.proofs.Letters.{lies_stored}
use Rattle.bodies.specs.Held.{Held, SomeHeld, Form, FormAs, form_outgrown, form_held, SteppedAs, Steps, TypedAs, Types}
use Rattle.bodies.specs.Held as bodies
use Rattle.bodies.specs.declared.Reason.{Reason}
use Rattle.bodies.specs.declared.StepError.TheVariants.{NotPossible, Outgrown}
use Rattle.examine.specs.Inspect.{refused, accepted, examined, term_answer, term_says}
use Rattle.examine.specs.Claims.{WellFormed}
use Rattle.examine.proofs.Laws.{examining_holds, accepted_answer}
use Rattle.calls.specs.Answers.{Written, nothing, answer, handed, written, type_written, type_answer_of, type_answer, step_written, step_answer_of, step_answer, AcceptedTerm, OpenedBody, InLetters}

-- ---- A term that is accepted, as letters.
pub accepted_term : (s : List ℕ) (d : ℕ) → term_says (Ok d) ≡ term_answer s → AcceptedTerm s
accepted_term s d q = let a = accepted_answer s q in record { term = a.term; accepts = a.is }

pub accepts : {s : List ℕ} {t : Term} → Bytes s → examined s ≡ accepted t → WellFormed s t
accepts {s} {t} y = (examining_holds.accepts s t y).0

module _ {s : List ℕ} {t : Term} (y : Bytes s) (a : WellFormed s t) where
  pub encodes : Encodes s t
  encodes = encode_decode s t y a.decodes

  pub whole_size : length s ≡ size t
  whole_size = ap length (sym encodes.bytes) ∙ length_encode t

  stands_whole : Stands s 0 (length s) t
  stands_whole = rw (encodes.bytes, sym whole_size) at (stands_self encodes.coded)

module _ {s b : List ℕ} (y : Bytes s) (m : length b ≡ longest_term) where
  pub body_readable : {room : ℕ} → room < 1024 → AcceptedTerm s → Readable s 0 (length s) 0 0 0 room b 0
  body_readable l a =
      let x = accepts y a.accepts in
      let n : length s ≤ longest_term = omega (arith, whole_size y x, x.short) in
      record {
        standing = record { term = a.term; stands = stands_whole y x; short = omega arith };
        index = omega arith;
        deep = omega arith;
        high = omega arith;
        fits = omega arith;
      }

  body_lies : {b' : List ℕ} {r : Bool} {t : Term} → WellFormed s t → ReadAs 0 0 0 most_abstractors b b' 0 t r → Lies b' 0 (length s) 0 0 t
  body_lies {b'} {t = t} a (read_all e l) =
      subst (λ n. Lies b' 0 n 0 0 t) (omega (arith, whole_size y a)) (lies_stored b 0 0 0 (encodes y a).coded (omega (arith, a.short)) (e ∙ ap (λ u. sets b 0 (letters 0 0 u)) (lift_zero 0 t)))
  body_lies a (too_deep l) = absurd (omega (arith, a.shallow))

  pub body_opened : {b' : List ℕ} {r : Bool} → Reads s 0 (length s) 0 0 0 most_abstractors b b' 0 r → OpenedBody s b'
  unfolding depth
  body_opened d =
      record {
        body = λ t e h.
            let a = accepts y e in
            record {
              stored = h;
              closed_frame = closed_empty;
              array = d.same_length ∙ m;
              lies = body_lies a (d.all t (stands_whole y a));
              closed = a.closed;
              shallow = omega (arith, a.shallow);
            };
      }

opened : {s b w : List ℕ} {f : FrameRecord} (a : AcceptedTerm s) → OpenedBody s b → EmptyRecord f → length w ≡ longest_state → Held w f b (length s) ε a.term
opened {w = w} a k g l = k.body a.term a.accepts (g.holds w l)

pub some_held : {s b w : List ℕ} {f : FrameRecord} → AcceptedTerm s → OpenedBody s b → EmptyRecord f → length w ≡ longest_state → SomeHeld w f b (length s)
some_held a k g l = record { frame = ε; term = a.term; held = opened a k g l }

-- ---- Handing over.
module _ {b : List ℕ} {n : ℕ} {t : Term} (h : InLetters b n t) (out : List ℕ) where
  length_lies : length (encode t) ≡ n
  length_lies = omega (arith, length_encode t, h.lies.place)

  pub writable : n ≤ length out → BytesWritable b n out
  writable l = record { term = t; lies = h.lies; fits = l }

  pub too_short : length out < n → answer 14 0 0 out ≡ handed out (encode t)
  unfolding handed
  too_short l = rw (length_lies, lt-leb n (length out) l)

  pub long_enough : {out' : List ℕ} → n ≤ length out → Writes b n out out' → answer 0 0 n out' ≡ handed out (encode t)
  unfolding handed
  long_enough l d = rw (length_lies, le-leb n (length out) l, d.bytes t h.lies)

-- ---- What the answer x has to be, by the form that the body was brought to; `unmet` is the answer where there is none.
pub data Answers (b out : List ℕ) (unmet x : Written) : Form → Type 0 where
  at_refusal : {y : Reason} → unmet ≡ x → Answers b out unmet x (Err (NotPossible y))
  at_outgrown : answer 11 0 0 out ≡ x → Answers b out unmet x (Err Outgrown)
  at_letters : {m : ℕ} {u : Term} → InLetters b m u → handed out (encode u) ≡ x → Answers b out unmet x (Ok m)

form_answers : {w b out : List ℕ} {f : FrameRecord} {u : Term} {unmet x : Written} {r : Form} → FormAs w f b ε u r → written out u ≡ x → Answers b out unmet x r
unfolding written depth
form_answers (form_outgrown h) e = at_outgrown (rw h at e)
form_answers (form_held h q y) e = at_letters (record { array = y.array; lies = y.lies }) (rw h at e)

module _ {b out : List ℕ} {unmet x : Written} where
  pub answers_unmet : {r : Form} {y : Reason} → Answers b out unmet x r → r ≡ Err (NotPossible y) → unmet ≡ x
  answers_unmet d q = go (rw q at d)
    where
      go : {y : Reason} → Answers b out unmet x (Err (NotPossible y)) → unmet ≡ x
      go (at_refusal e) = e

  pub answers_large : {r : Form} → Answers b out unmet x r → r ≡ Err Outgrown → answer 11 0 0 out ≡ x
  answers_large d q = go (rw q at d)
    where
      go : Answers b out unmet x (Err Outgrown) → answer 11 0 0 out ≡ x
      go (at_outgrown e) = e

  pub answers_letters : {r : Form} {m : ℕ} → Answers b out unmet x r → r ≡ Ok m → (u : Term) × InLetters b m u × (handed out (encode u) ≡ x)
  answers_letters {m = m} d q = go (rw q at d)
    where
      go : Answers b out unmet x (Ok m) → (u : Term) × InLetters b m u × (handed out (encode u) ≡ x)
      go (at_letters {u = u} h e) = (u, h, e)

  pub answers_done : {r : Form} {m : ℕ} {z : Written} → Answers b out unmet x r → r ≡ Ok m → ((u : Term) → InLetters b m u → z ≡ handed out (encode u)) → z ≡ x
  answers_done d q k = let h = answers_letters d q in k h.0 h.1 ∙ h.2

-- ---- The type, and a step.
pub type_refused : (s out : List ℕ) {n p : ℕ} → examined s ≡ refused n p → answer n p 0 out ≡ type_answer s out
unfolding type_answer type_answer_of
type_refused s out h = sym (ap (type_answer_of out) h)

pub step_refused : (s : List ℕ) (x : Step) (out : List ℕ) {n p : ℕ} → examined s ≡ refused n p → answer n p 0 out ≡ step_answer s x out
unfolding step_answer step_answer_of
step_refused s x out h = sym (ap (step_answer_of out x) h)

module _ {s w b b' : List ℕ} {f : FrameRecord} {r : Form} (a : AcceptedTerm s) (k : OpenedBody s b) (g : EmptyRecord f) (l : length w ≡ longest_state) (out : List ℕ) where
  pub type_answers : Types w f b b' (length s) r → Answers b' out (nothing out) (type_answer s out) r
  unfolding type_answer type_answer_of type_written
  type_answers d = go (d.all ε a.term (opened a k g l))
    where
      is : {o : Option Term} → type ε a.term ≡ o → type_written out o ≡ type_answer s out
      is e = sym (ap (type_answer_of out) a.accepts ∙ ap (type_written out) e)

      go : {r : Form} → TypedAs w f b' ε a.term r → Answers b' out (nothing out) (type_answer s out) r
      go (bodies.type_is_none e) = at_refusal (is e)
      go (bodies.typed e z) = form_answers z (is e)

  pub step_answers : {x : Step} → Steps w f b b' (length s) x r → Answers b' out (answer 10 0 0 out) (step_answer s x out) r
  unfolding step_answer step_answer_of step_written
  step_answers {x} d = go (d.all ε a.term (opened a k g l))
    where
      is : {o : Outcome} → step ε x a.term ≡ o → step_written out o ≡ step_answer s x out
      is e = sym (ap (step_answer_of out x) a.accepts ∙ ap (step_written out) e)

      go : {r : Form} → SteppedAs w f b' ε x a.term r → Answers b' out (answer 10 0 0 out) (step_answer s x out) r
      go (bodies.step_refused e) = at_refusal (is e)
      go (bodies.step_reached e z) = form_answers z (is e)
