-- What the parts of `explain` make of its answer.
-- Assumes nothing.
use Prim.Native.Nat.{ℕ, ◌≤◌, ◌<◌}
use mathlib.Core.Path.{◌≡◌, refl, ap, sym, ◌∙◌, subst}
use mathlib.Core.Bool.{Bool, true, false, cond}
use mathlib.Core.Logic.{◌⊎◌, inl, inr}
use mathlib.Core.List.{List, ◌++◌}
use native.Mathlib.Nat.{zero-add}
use native.Mathlib.Omega.{arith}
use lib.Dec.{leb}
use lib.ListN.{length, drop}
use borrow.Author.Tests.{le-leb, lt-leb}
use Rattle.calculus.specs.Terms.{Term}
use Rattle.calculus.specs.Frames.{ε}
use Rattle.calculus.specs.Types.{degree}
use Rattle.std.specs.Prelude.{Option, Some, None}
use Rattle.std.proofs.Common.{Ok, Err}
use Rattle.code.specs.declared.refusal.Condition.{Condition}
use Rattle.bodies.specs.declared.Reason.{Reason}
use Rattle.compare.specs.Answers.{ground_says, number_of_ground}
use Rattle.compare.specs.declared.Side.{Side}
use Rattle.compare.specs.declared.Ground as compare
use Rattle.compare.specs.declared.Ground.TheVariants.{NoType, StillWaiting, NoGroupLeft, StepNotPossible, Outgrown, BodiesDiffer, GroupsLeft, NotReached}
use Rattle.code.specs.Refusals.{number_of}
use Rattle.code.specs.declared.refusal.Refusal.{Refusal}
use Rattle.code.specs.Code.{Bytes, encode}
use Rattle.code.proofs.RoundTrip.{length_encode}
use Rattle.parts.proofs.Stores.{drop_sets_start}
use Rattle.fields.specs.Fields.{GroupAt}
use Rattle.letters.specs.Letters.{Lies}
use Rattle.letters.specs.Clauses.{Writes}
use Rattle.verdict.specs.Verdict.{Ground, different_bodies, Progress, Run, stopped, check_term, place_of}
use Rattle.verdict.proofs.Grounds.{grounds}
use Rattle.verdict.proofs.Closed.{stopped_forms}
use Rattle.files.specs.File.{opened, open_file}
use Rattle.files.specs.Check as files
use Rattle.files.specs.Check.{groups_of, check_answer_of, check_opened_by}
use Rattle.compare.specs.Sides.{Buffers}
use Rattle.compare.specs.Answers.{Compared}
use Rattle.compare.specs.Compares.{GroundIs, is_untyped, is_no_group, is_refused, is_type_outgrown, is_domain_outgrown, is_step_outgrown, is_different}
use Rattle.walk.specs.Clauses.{Halts, halts_waiting, halts_outgrown, halts_compared, Walked, walked_says}
use Rattle.walk.specs.declared.Walked.{Walked as Passed}
use Rattle.walk.specs.declared.Stopped.{Stopped}
use Rattle.checker.specs.Clauses.{OpenedAs, RunAs, run_passed, run_stopped, FileWalked}
use Rattle.files.proofs.Answers.{opens, closed}
use Rattle.checker.specs.declared.Opened as code
use Rattle.checker.proofs.Checking.{refused_is, opening, answer_of}
use Rattle.explaining.specs.Explain.{difference, handed_both, told, explain_ground, explain_run, explain_opened, explain_file, cause_number, first_of, second_of, third_of, explained_says, before_the_walk}
use Rattle.explaining.specs.Clauses.{TwoBodies, handed_says, Delivers}
use Rattle.explaining.specs.Claims.{Differing}
use Rattle.explaining.specs.declared.Cause.{Cause}
use Rattle.explaining.specs.declared.Cause.TheVariants as cause
use Rattle.explaining.proofs.Differences.{differing, terms_apart, followed, apart_followed}

either : {A : Type 0} {x : A} (b : Bool) → x ≡ cond b x x
either true = refl
either false = refl

-- TWO BODIES HANDED OVER
lies_length : {a : List ℕ} {n : ℕ} {t : Term} → Lies a 0 n 0 0 t → length (encode t) ≡ n
lies_length {t = t} h = omega (arith, length_encode t, h.place)

-- the buffer begins with the body
written_starts : {a : List ℕ} {n : ℕ} {out out' : List ℕ} {t : Term} → Lies a 0 n 0 0 t → n ≤ length out → Writes a n out out' → out' ≡ encode t ++ drop (length (encode t)) out
written_starts {out = out} {t = t} h l w = w.bytes t h ∙ (rw (zero-add (length (encode t))) at (drop_sets_start (encode t) out 0 (omega (arith, lies_length h))))

module _ {a b : List ℕ} {n k : ℕ} {left right left' right' : List ℕ} (ln : n ≤ length left) (lk : k ≤ length right) (w : Writes a n left left') (v : Writes b k right right') where
  -- the loop finds a difference
  pub written_differ : TwoBodies a n b k → Differing left' right'
  written_differ p =
      let q = terms_apart p.left_lies.coded p.right_lies.coded p.differ in
      rw (written_starts p.left_lies ln w, written_starts p.right_lies lk v) (differing (apart_followed (encode p.left_body) (encode p.right_body) _ _ q))

  pub delivers_both : (d : ℕ) → d ≡ difference left' right' → Delivers a n b k left right (Some d) left' right'
  unfolding handed_both
  delivers_both d e = record { all = both }
    where
      both : (x : files.CheckAnswer) (t u : Term) → Lies a 0 n 0 0 t → Lies b 0 k 0 0 u → (t ≡ u → ⊥) → handed_says x n k (Some d) left' right' ≡ handed_both x left right (encode t) (encode u)
      both x t u h j m =
          let same : d ≡ difference (encode t) (encode u) = e ∙ rw (written_starts h ln w, written_starts j lk v) (followed (encode t) (encode u) _ _ (terms_apart h.coded j.coded m)) in
          rw (lies_length h, lies_length j, le-leb n (length left) ln, le-leb k (length right) lk, w.bytes t h, v.bytes u j, same) refl

module _ {a b : List ℕ} {n k : ℕ} {left right : List ℕ} where
  pub delivers_none : (length left < n) ⊎ (length right < k) → Delivers a n b k left right None left right
  unfolding handed_both
  delivers_none (inl l) = record { all = λ x t u h j m. rw (lies_length h, lt-leb n (length left) l) refl }
  delivers_none (inr r) = record { all = λ x t u h j m. rw (lies_length j, lt-leb k (length right) r) (either (leb (length (encode t)) (length left))) }

-- THE ANSWER
-- before the walk
pub told_refused : (s left right : List ℕ) {x : Refusal} → OpenedAs (Err x) (open_file s)
    → explained_says (Err (before_the_walk x)) left right ≡ explain_file s left right
unfolding explain_file explain_opened check_opened_by
told_refused s left right a = sym (ap (explain_opened left right) (refused_is s a))

-- a ground other than 12
told_compared : (x : files.CheckAnswer) (left right : List ℕ) {c : Compared} {a b : List ℕ} {g : Ground} → GroundIs c a b g → (c.number ≡ 12 → ⊥) → explain_ground x left right g ≡ told x left right c.first c.second c.third
unfolding explain_ground
told_compared x left right (is_untyped n f s t) m = rw (f, s, t) refl
told_compared x left right (is_no_group n f s t) m = rw (f, s, t) refl
told_compared x left right (is_refused n f s t) m = rw (f, s, t) refl
told_compared x left right (is_type_outgrown n f s t) m = rw (f, s, t) refl
told_compared x left right (is_domain_outgrown n f s t) m = rw (f, s, t) refl
told_compared x left right (is_step_outgrown n f s t) m = rw (f, s, t) refl
told_compared x left right (is_different n f s t) m = absurd (m n)

told_ground : (x : files.CheckAnswer) (left right : List ℕ) {w : Walked} {a b : List ℕ} {g : Ground} → Halts w a b g → (w.number ≡ 12 → ⊥) → explain_ground x left right g ≡ told x left right w.first w.second w.third
unfolding explain_ground
told_ground x left right (halts_waiting n p f s t) m = rw (f, s, t) refl
told_ground x left right (halts_outgrown n p f s t) m = rw (f, s, t) refl
told_ground x left right (halts_compared g n p f s t) m = rw (f, s, t) (told_compared x left right g (λ q. m (n ∙ q)))

told_run : (x : files.CheckAnswer) (left right : List ℕ) {gs : List GroupAt} {a b : List ℕ} {w : Walked} {z : Run} → RunAs gs a b w z → (w.number ≡ 12 → ⊥) → explain_run x left right z ≡ told x left right w.first w.second w.third
unfolding explain_run
told_run x left right (run_passed f m p q r) n = rw (p, q, r) refl
told_run x left right (run_stopped h c) n = told_ground x left right h n

-- the bodies of a 12
record Bodies (a b : List ℕ) (w : Walked) (z : Run) : Type 0 where
  left_body : Term
  right_body : Term
  progress : Progress
  run_is : z ≡ stopped (different_bodies w.place left_body right_body) progress
  left_lies : Lies a 0 w.first 0 0 left_body
  right_lies : Lies b 0 w.second 0 0 right_body

bodies_compared : {c : Compared} {a b : List ℕ} {g : Ground} {w : Walked} (q : Progress) → GroundIs c a b g → c.number ≡ 12 → w.place ≡ place_of g → w.first ≡ c.first → w.second ≡ c.second → Bodies a b w (stopped g q)
unfolding place_of
bodies_compared q (is_untyped n f s t) m p x y = let z : ⊥ = omega arith in absurd z
bodies_compared q (is_no_group n f s t) m p x y = let z : ⊥ = omega arith in absurd z
bodies_compared q (is_refused n f s t) m p x y = let z : ⊥ = omega arith in absurd z
bodies_compared q (is_type_outgrown n f s t) m p x y = let z : ⊥ = omega arith in absurd z
bodies_compared q (is_domain_outgrown n f s t) m p x y = let z : ⊥ = omega arith in absurd z
bodies_compared q (is_step_outgrown n f s t) m p x y = let z : ⊥ = omega arith in absurd z
bodies_compared q (is_different {l = l} {u = u} n f s t) m p x y = record { left_body = l; right_body = u; progress = q; run_is = rw p refl; left_lies = rw x f; right_lies = rw y s }

bodies_run : {gs : List GroupAt} {a b : List ℕ} {w : Walked} {z : Run} → RunAs gs a b w z → w.number ≡ 12 → Bodies a b w z
bodies_run (run_passed f m x y z) n = absurd (m n)
bodies_run (run_stopped (halts_waiting k p f s t) c) n = let z : ⊥ = omega arith in absurd z
bodies_run (run_stopped (halts_outgrown k p f s t) c) n = let z : ⊥ = omega arith in absurd z
bodies_run (run_stopped {q = q} (halts_compared g k p f s t) c) n = bodies_compared q g (sym k ∙ n) p f s

-- What the code tells of a ground other than 12.
pub record Tells (g : compare.Ground) (x : Cause) : Type 0 where
  pub number_is : cause_number x ≡ (ground_says g).number
  pub first_is : first_of x ≡ (ground_says g).first
  pub second_is : second_of x ≡ (ground_says g).second
  pub third_is : third_of x ≡ (ground_says g).third
  pub no_bodies : (ground_says g).number ≡ 12 → ⊥

pub tells_waiting : {g : compare.Ground} {n : ℕ} → g ≡ StillWaiting n → Tells g (cause.StillWaiting n)
tells_waiting e = rw e (record { number_is = refl; first_is = refl; second_is = refl; third_is = refl; no_bodies = λ z. omega arith })

pub tells_step : {g : compare.Ground} {side : Side} {n : ℕ} {why : Reason} → g ≡ StepNotPossible side n why → Tells g (cause.StepNotPossible side n why)
tells_step e = rw e (record { number_is = refl; first_is = refl; second_is = refl; third_is = refl; no_bodies = λ z. omega arith })

pub tells_other : (g : compare.Ground) {c : Condition} → number_of c ≡ number_of_ground g → ((n k : ℕ) → g ≡ BodiesDiffer n k → ⊥) → ((n : ℕ) → g ≡ StillWaiting n → ⊥)
    → ((side : Side) (n : ℕ) (why : Reason) → g ≡ StepNotPossible side n why → ⊥) → Tells g (cause.Other c)
tells_other NoType e b w s = record { number_is = e; first_is = refl; second_is = refl; third_is = refl; no_bodies = λ z. omega arith }
tells_other (StillWaiting n) e b w s = absurd (w n refl)
tells_other NoGroupLeft e b w s = record { number_is = e; first_is = refl; second_is = refl; third_is = refl; no_bodies = λ z. omega arith }
tells_other (StepNotPossible side n why) e b w s = absurd (s side n why refl)
tells_other Outgrown e b w s = record { number_is = e; first_is = refl; second_is = refl; third_is = refl; no_bodies = λ z. omega arith }
tells_other (BodiesDiffer n k) e b w s = absurd (b n k refl)
tells_other GroupsLeft e b w s = record { number_is = e; first_is = refl; second_is = refl; third_is = refl; no_bodies = λ z. omega arith }
tells_other NotReached e b w s = record { number_is = e; first_is = refl; second_is = refl; third_is = refl; no_bodies = λ z. omega arith }

-- an opened file's answer, by its run
module _ (s left right : List ℕ) {t : Term} {e : ℕ} {gs : List GroupAt} (o : open_file s ≡ opened t e gs) {d : ℕ} (g : d ≡ degree ε t) {w : Walked} {x y : List ℕ} (f : FileWalked s e x y w) where
  abbrev answer : files.CheckAnswer
  answer = record { number = w.number; place = w.place; comparisons = w.comparisons; degree = d }

  explained : explain_file s left right ≡ explain_run answer left right (check_term t (groups_of gs))
  unfolding explain_file explain_opened check_opened_by
  explained =
      let a : check_answer_of (degree ε t) gs (check_term t (groups_of gs)) ≡ answer =
      answer_of (degree ε t) (f.all t gs o) ∙ ap (λ (d : ℕ). record { number = w.number; place = w.place; comparisons = w.comparisons; degree = d }) (sym g) in
      ap (explain_opened left right) o ∙ ap (λ (c : files.CheckAnswer). explain_run c left right (check_term t (groups_of gs))) a

  told_walked : (w.number ≡ 12 → ⊥) → told answer left right w.first w.second w.third ≡ explain_file s left right
  told_walked n = sym (explained ∙ told_run answer left right (f.all t gs o) n)

  module _ (b : Bytes s) (n : w.number ≡ 12) where
    both : Bodies x y w (check_term t (groups_of gs))
    both = bodies_run (f.all t gs o) n

    apart : both.left_body ≡ both.right_body → ⊥
    apart =
        let c = closed s t e gs (opens s t e gs o) b in
        (stopped_forms c (grounds.stopped_so t (groups_of gs) (different_bodies w.place both.left_body both.right_body) both.progress c both.run_is)).differ

    two_bodies_of : Buffers x y → TwoBodies x w.first y w.second
    two_bodies_of l = record { buffers = l; left_body = both.left_body; right_body = both.right_body; left_lies = both.left_lies; right_lies = both.right_lies; differ = apart }

    handed : {z : Option ℕ} {left' right' : List ℕ} → Delivers x w.first y w.second left right z left' right'
        → handed_says (record { number = 12; place = w.place; comparisons = w.comparisons; degree = d }) w.first w.second z left' right' ≡ explain_file s left right
    unfolding explain_run explain_ground
    handed v =
        v.all (record { number = 12; place = w.place; comparisons = w.comparisons; degree = d }) both.left_body both.right_body both.left_lies both.right_lies apart
        ∙ ap (λ (m : ℕ). handed_both (record { number = m; place = w.place; comparisons = w.comparisons; degree = d }) left right (encode both.left_body) (encode both.right_body)) (sym n)
        ∙ sym (explained ∙ ap (explain_run answer left right) both.run_is)

-- by the code's answer of the walk
pub told_passed : (s left right : List ℕ) {r : code.Opened} {w : Passed} {x y : List ℕ} → OpenedAs (Ok r) (open_file s) → FileWalked s r.end x y (walked_says (Ok w))
    → explained_says (Ok (record { comparisons = w.comparisons; degree = r.degree })) left right ≡ explain_file s left right
told_passed s left right a f = let o = opening s a in told_walked s left right o.openable.opens o.degree_is f (λ z. omega arith)

module _ (s left right : List ℕ) {r : code.Opened} (w : Stopped) {x y : List ℕ} (a : OpenedAs (Ok r) (open_file s)) (f : FileWalked s r.end x y (walked_says (Err w))) where
  -- a ground other than 12
  pub told_stopped : (t : Cause) → Tells w.by t → explained_says (Err (record { cause = t; place = w.place; comparisons = w.comparisons; degree = r.degree })) left right ≡ explain_file s left right
  told_stopped t k =
      let o = opening s a in
      rw (k.number_is, k.first_is, k.second_is, k.third_is) (told_walked s left right o.openable.opens o.degree_is f k.no_bodies)

  -- 12
  pub two_bodies : {n k : ℕ} → Bytes s → w.by ≡ BodiesDiffer n k → Buffers x y → TwoBodies x n y k
  two_bodies b e l =
      let o = opening s a in
      rw e at (two_bodies_of s left right o.openable.opens o.degree_is f b (ap (λ (g : compare.Ground). (ground_says g).number) e) l)

  pub told_bodies : {n k : ℕ} {z : Option ℕ} {left' right' : List ℕ} → Bytes s → w.by ≡ BodiesDiffer n k → Delivers x n y k left right z left' right'
      → handed_says (record { number = 12; place = w.place; comparisons = w.comparisons; degree = r.degree }) n k z left' right' ≡ explain_file s left right
  told_bodies {n} {k} {z} {left'} {right'} b e v =
      let o = opening s a in
      let first : n ≡ (ground_says w.by).first = ap (λ (g : compare.Ground). (ground_says g).first) (sym e) in
      let second : k ≡ (ground_says w.by).second = ap (λ (g : compare.Ground). (ground_says g).second) (sym e) in
      let v' : Delivers x (ground_says w.by).first y (ground_says w.by).second left right z left' right' =
      subst (λ (m : ℕ). Delivers x m y (ground_says w.by).second left right z left' right') first (subst (λ (m : ℕ). Delivers x n y m left right z left' right') second v) in
      let h = handed s left right o.openable.opens o.degree_is f b (ap (λ (g : compare.Ground). (ground_says g).number) e) {z = z} {left' = left'} {right' = right'} v' in
      rw (first, second) h
