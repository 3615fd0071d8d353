-- The promises of this crate.
-- Assumes nothing.
use Prim.Native.Nat.{ℕ, ◌≤◌, ◌<◌}
use mathlib.Core.Path.{◌≡◌, refl, ap, ◌∙◌}
use mathlib.Core.Bool.{Bool, true, false}
use mathlib.Core.Logic.{◌⊎◌, inl, inr}
use mathlib.Core.Option.{some}
use mathlib.Core.List.{List, [], ◌∷◌}
use native.Mathlib.Nat.{zero-add}
use native.Mathlib.Omega.{arith}
use lib.Dec.{leb}
use lib.ListN.{length, take}
use lib.Seq.{sets}
use borrow.Author.Tests.{leb-true, leb-false}
use Rattle.calculus.specs.Terms.{Term, size}
use Rattle.calculus.specs.Frames.{ε}
use Rattle.calculus.specs.Steps.{latest, Reason}
use Rattle.calculus.specs.Types.{degree}
use Rattle.code.specs.Code.{Bytes, encode, Coded, decode}
use Rattle.code.proofs.RoundTrip.{length_encode, decode_encode}
use Rattle.parts.proofs.Stores.{take_sets_end}
use Rattle.fields.specs.Fields.{GroupAt}
use Rattle.verdict.specs.Verdict.{Side, Ground, untyped, something_waits, no_group, step_refused, state_outgrown, type_outgrown, domain_outgrown, step_outgrown, different_bodies, not_reached, side_number, reason_number, number, place_of, Progress, Run, passed, stopped, check_term}
use Rattle.verdict.proofs.Promises.{never_not_reached}
use Rattle.verdict.proofs.Grounds.{grounds}
use Rattle.verdict.proofs.Closed.{Forms, stopped_forms}
use Rattle.files.specs.File.{Opened, refused, opened, open_file}
use Rattle.files.specs.Check.{CheckAnswer, groups_of, left_over, check_answer_of, check_opened_by, check_file_by, check_file}
use Rattle.files.proofs.Answers.{opens, closed, holds_just, before_numbers}
use Rattle.explaining.specs.Explain.{Explanation, difference, handed_both, told, explain_ground, explain_run, explain_opened, explain_file}
use Rattle.explaining.specs.Claims.{Reached, BodiesTold, TooShort, StepTold, WaitingTold, NothingTold, Promises}
use Rattle.explaining.proofs.Differences.{differing, terms_apart}

-- what an answer tells, where the check's is a
data Tells (s left right : List ℕ) (a : CheckAnswer) : Explanation → Type 0 where
  tells_nothing : (a.number ≡ 8 → ⊥) → (a.number ≡ 10 → ⊥) → (a.number ≡ 12 → ⊥) → (a.number ≡ 14 → ⊥) → Tells s left right a (told a left right 0 0 0)
  tells_waiting : (n : ℕ) → a.number ≡ 8 → Reached s a.comparisons (something_waits a.place n) → Tells s left right a (told a left right n 0 0)
  tells_step : (side : Side) (n : ℕ) (why : Reason) → a.number ≡ 10 → Reached s a.comparisons (step_refused a.place side n why) → Tells s left right a (told a left right (side_number side) n (reason_number why))
  tells_bodies : (l u : Term) → a.number ≡ 12 → Reached s a.comparisons (different_bodies a.place l u) → Forms l u → length (encode l) ≤ length left → length (encode u) ≤ length right
      → Tells s left right a (record { answer = a; first = length (encode l); second = length (encode u); third = difference (encode l) (encode u); left = sets left 0 (encode l); right = sets right 0 (encode u) })
  tells_short : (l u : Term) → a.number ≡ 12 → Reached s a.comparisons (different_bodies a.place l u) → (length left < length (encode l)) ⊎ (length right < length (encode u))
      → Tells s left right a (told (record { number = 14; place = 0; comparisons = a.comparisons; degree = a.degree }) left right 0 0 0)

tells_both : {s : List ℕ} (left right : List ℕ) {a : CheckAnswer} (l u : Term) → a.number ≡ 12 → Reached s a.comparisons (different_bodies a.place l u) → Forms l u → Tells s left right a (handed_both a left right (encode l) (encode u))
unfolding handed_both
tells_both {s} left right {a} l u n r f = go (leb (length (encode l)) (length left)) refl (leb (length (encode u)) (length right)) refl
  where
    go : (x : Bool) → leb (length (encode l)) (length left) ≡ x → (y : Bool) → leb (length (encode u)) (length right) ≡ y → Tells s left right a (handed_both a left right (encode l) (encode u))
    go true p true q = rw (p, q) (tells_bodies l u n r f (leb-true (length (encode l)) (length left) p) (leb-true (length (encode u)) (length right) q))
    go true p false q = rw (p, q) (tells_short l u n r (inr (leb-false (length (encode u)) (length right) q)))
    go false p y q = rw p (tells_short l u n r (inl (leb-false (length (encode l)) (length left) p)))

module _ (s left right : List ℕ) (b : Bytes s) {t : Term} {e : ℕ} {gs : List GroupAt} (o : open_file s ≡ opened t e gs) where
  reached : (g : Ground) (q : Progress) → check_term t (groups_of gs) ≡ stopped g q → Reached s q.comparisons g
  reached g q h = record {
    term = t;
    steps = groups_of gs;
    file = holds_just s t e gs (opens s t e gs o) b;
    closed = closed s t e gs (opens s t e gs o) b;
    progress = q;
    counted = refl;
    stopped = grounds.stopped_so t (groups_of gs) g q (closed s t e gs (opens s t e gs o) b) h;
  }

  tells_ground : (g : Ground) (q : Progress) → check_term t (groups_of gs) ≡ stopped g q → (d : ℕ)
      → Tells s left right (record { number = number g; place = place_of g; comparisons = q.comparisons; degree = d }) (explain_ground (record { number = number g; place = place_of g; comparisons = q.comparisons; degree = d }) left right g)
  unfolding explain_ground number place_of
  tells_ground (something_waits i n) q h d = tells_waiting n refl (reached (something_waits i n) q h)
  tells_ground (step_refused i side n why) q h d = tells_step side n why refl (reached (step_refused i side n why) q h)
  tells_ground (different_bodies i l u) q h d =
      let r = reached (different_bodies i l u) q h in
      tells_both left right l u refl r (stopped_forms r.closed r.stopped)
  tells_ground (untyped i) q h d = tells_nothing (λ z. omega arith) (λ z. omega arith) (λ z. omega arith) (λ z. omega arith)
  tells_ground (no_group i) q h d = tells_nothing (λ z. omega arith) (λ z. omega arith) (λ z. omega arith) (λ z. omega arith)
  tells_ground (state_outgrown i) q h d = tells_nothing (λ z. omega arith) (λ z. omega arith) (λ z. omega arith) (λ z. omega arith)
  tells_ground (type_outgrown i) q h d = tells_nothing (λ z. omega arith) (λ z. omega arith) (λ z. omega arith) (λ z. omega arith)
  tells_ground (domain_outgrown i) q h d = tells_nothing (λ z. omega arith) (λ z. omega arith) (λ z. omega arith) (λ z. omega arith)
  tells_ground (step_outgrown i side n) q h d = tells_nothing (λ z. omega arith) (λ z. omega arith) (λ z. omega arith) (λ z. omega arith)
  tells_ground (not_reached i) q h d = absurd (never_not_reached t (groups_of gs) i q (closed s t e gs (opens s t e gs o) b) h)

  tells_left : (n d : ℕ) (hs : List GroupAt) → Tells s left right (left_over n d hs) (told (left_over n d hs) left right 0 0 0)
  unfolding left_over
  tells_left n d [] = tells_nothing (λ z. omega arith) (λ z. omega arith) (λ z. omega arith) (λ z. omega arith)
  tells_left n d (g ∷ hs) = tells_nothing (λ z. omega arith) (λ z. omega arith) (λ z. omega arith) (λ z. omega arith)

  tells_run : (x : Run) → check_term t (groups_of gs) ≡ x → Tells s left right (check_answer_of (degree ε t) gs x) (explain_run (check_answer_of (degree ε t) gs x) left right x)
  unfolding check_answer_of explain_run
  tells_run (passed q) h = tells_left q.comparisons (degree ε t) _
  tells_run (stopped g q) h = tells_ground g q h (degree ε t)

tells : (s left right : List ℕ) → Bytes s → Tells s left right (check_file s) (explain_file s left right)
unfolding check_file_by check_opened_by explain_file explain_opened
tells s left right b = go (open_file s) refl
  where
    go : (o : Opened) → open_file s ≡ o → Tells s left right (check_opened_by latest o) (explain_opened left right o)
    go (refused n p) h = let m = before_numbers s h in tells_nothing (λ z. omega (arith, m.1)) (λ z. omega (arith, m.1)) (λ z. omega (arith, m.1)) (λ z. omega (arith, m.1))
    go (opened t e gs) h = tells_run s left right b h (check_term t (groups_of gs)) refl

-- a body that was written is read back
read_back : (t : Term) (out : List ℕ) → Coded t → length (encode t) ≤ length out → decode (take (length (encode t)) (sets out 0 (encode t))) ≡ some t
read_back t out c h = let w : take (length (encode t)) (sets out 0 (encode t)) ≡ encode t = rw (zero-add (length (encode t))) at (take_sets_end (encode t) out 0 (omega arith)) in ap decode w ∙ decode_encode c

-- what is told by each number
module _ {s left right : List ℕ} {a : CheckAnswer} where
  as_checked : {x : Explanation} → Tells s left right a x → (x.answer.number ≡ 14 → ⊥) → x.answer ≡ a
  as_checked (tells_nothing i j k l) n = refl
  as_checked (tells_waiting m i r) n = refl
  as_checked (tells_step side m why i r) n = refl
  as_checked (tells_bodies l u i r f p q) n = refl
  as_checked (tells_short l u i r h) n = absurd (n refl)

  kept : {x : Explanation} → Tells s left right a x → (x.answer.number ≡ 12 → ⊥) → (x.left ≡ left) × (x.right ≡ right)
  kept (tells_nothing i j k l) n = (refl, refl)
  kept (tells_waiting m i r) n = (refl, refl)
  kept (tells_step side m why i r) n = (refl, refl)
  kept (tells_bodies l u i r f p q) n = absurd (n i)
  kept (tells_short l u i r h) n = (refl, refl)

  bodies : {x : Explanation} → Tells s left right a x → x.answer.number ≡ 12 → BodiesTold s left right x
  bodies (tells_nothing i j k l) n = absurd (k n)
  bodies (tells_waiting m i r) n = let z : ⊥ = omega arith in absurd z
  bodies (tells_step side m why i r) n = let z : ⊥ = omega arith in absurd z
  bodies (tells_short l u i r h) n = let z : ⊥ = omega arith in absurd z
  bodies (tells_bodies l u i r f p q) n = record {
    left_body = l;
    right_body = u;
    reached = r;
    left_length = length_encode l;
    right_length = length_encode u;
    left_room = p;
    right_room = q;
    left_buffer = refl;
    right_buffer = refl;
    left_decodes = read_back l left f.left_coded p;
    right_decodes = read_back u right f.right_coded q;
    difference_is = refl;
    differing = differing (terms_apart f.left_coded f.right_coded f.differ);
  }

  step : {x : Explanation} → Tells s left right a x → x.answer.number ≡ 10 → StepTold s x
  step (tells_nothing i j k l) n = absurd (j n)
  step (tells_waiting m i r) n = let z : ⊥ = omega arith in absurd z
  step (tells_step side m why i r) n = record { side = side; nth = m; why = why; reached = r; side_is = refl; nth_is = refl; why_is = refl }
  step (tells_bodies l u i r f p q) n = let z : ⊥ = omega arith in absurd z
  step (tells_short l u i r h) n = let z : ⊥ = omega arith in absurd z

  waiting : {x : Explanation} → Tells s left right a x → x.answer.number ≡ 8 → WaitingTold s x
  waiting (tells_nothing i j k l) n = absurd (i n)
  waiting (tells_waiting m i r) n = record { how_many = m; reached = r; how_many_is = refl; second_is = refl; third_is = refl }
  waiting (tells_step side m why i r) n = let z : ⊥ = omega arith in absurd z
  waiting (tells_bodies l u i r f p q) n = let z : ⊥ = omega arith in absurd z
  waiting (tells_short l u i r h) n = let z : ⊥ = omega arith in absurd z

  nothing_more : {x : Explanation} → Tells s left right a x → (x.answer.number ≡ 8 → ⊥) → (x.answer.number ≡ 10 → ⊥) → (x.answer.number ≡ 12 → ⊥) → NothingTold x
  nothing_more (tells_nothing i j k l) w e d = record { first_is = refl; second_is = refl; third_is = refl }
  nothing_more (tells_waiting m i r) w e d = absurd (w i)
  nothing_more (tells_step side m why i r) w e d = absurd (e i)
  nothing_more (tells_bodies l u i r f p q) w e d = absurd (d i)
  nothing_more (tells_short l u i r h) w e d = record { first_is = refl; second_is = refl; third_is = refl }

too_short : {s left right : List ℕ} {x : Explanation} → Tells s left right (check_file s) x → x.answer.number ≡ 14 → TooShort s left right x
too_short (tells_nothing i j k l) n = absurd (l n)
too_short (tells_waiting m i r) n = let z : ⊥ = omega arith in absurd z
too_short (tells_step side m why i r) n = let z : ⊥ = omega arith in absurd z
too_short (tells_bodies l u i r f p q) n = let z : ⊥ = omega arith in absurd z
too_short {left = left} {right} (tells_short l u i r h) n = record { left_body = l; right_body = u; reached = r; short = shorter h; check_is = i; place_is = refl; comparisons_are = refl; degree_is = refl }
  where
    shorter : (length left < length (encode l)) ⊎ (length right < length (encode u)) → (length left < size l) ⊎ (length right < size u)
    shorter (inl p) = inl (rw (length_encode l) at p)
    shorter (inr p) = inr (rw (length_encode u) at p)

pub promised : Promises
promised = record {
  as_checked = λ s left right b n. as_checked (tells s left right b) n;
  too_short = λ s left right b n. too_short (tells s left right b) n;
  kept = λ s left right b n. kept (tells s left right b) n;
  bodies = λ s left right b n. bodies (tells s left right b) n;
  step = λ s left right b n. step (tells s left right b) n;
  waiting = λ s left right b n. waiting (tells s left right b) n;
  nothing_more = λ s left right b w e d. nothing_more (tells s left right b) w e d;
}
