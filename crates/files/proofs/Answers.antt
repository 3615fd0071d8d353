-- Demands 1, 2 and 3 for files.
-- Assumes nothing.
use Prim.Native.Nat.{ℕ, zero, suc, ◌+◌, ◌-◌, ◌≤◌, ◌<◌}
use mathlib.Core.Path.{◌≡◌, refl, ap, sym, ◌∙◌}
use mathlib.Core.Bool.{true}
use mathlib.Core.Option.{Option, none, some}
use mathlib.Core.List.{List, [], ◌∷◌, ◌++◌, append-nil}
use native.Mathlib.Nat.{zero-add}
use native.Mathlib.Omega.{arith}
use lib.Dec.{leb}
use borrow.Author.Tests.{leb-true, ne_eqb}
use lib.ListN.{length, drop, length-append, length-map, length-drop, drop_of_length-le}
use Rattle.calculus.specs.Terms.{Term, applicators, size, Closed}
use Rattle.calculus.specs.Frames.{Frame, ε, depth}
use Rattle.calculus.specs.Types.{degree}
use Rattle.calculus.specs.Steps.{Step, Kind, Reach, Reading, pairs, couples, base, full, latest, reach_of, kind_in, reached, step_of, step_by, step}
use Rattle.calculus.specs.Rules.{Group, own, Next, one_pass_next, Holds, nothing_left, met, by_rule, OnePass, groups, With, correct_empty}
use Rattle.calculus.specs.Whole.{wider, Later, full_full}
use Rattle.calculus.proofs.Lift.{lo, hi, cmp}
use Rattle.calculus.proofs.Weaken.{refused_reached}
use Rattle.calculus.proofs.Places.{step_past}
use Rattle.calculus.proofs.Agree.{plain_of_one_pass, length_groups}
use Rattle.calculus.proofs.Closed.{one_pass_closed}
use Rattle.calculus.proofs.Promises.{demanding}
use Rattle.calculus.proofs.Later.{readings}
use Rattle.code.specs.Limits.{longest_file, longest_term, longest_state, most_abstractors}
use Rattle.code.specs.Refusals.{accepted, step_not_possible}
use Rattle.code.specs.Code.{Bytes, encode}
use Rattle.code.specs.Scope.{scope}
use Rattle.code.proofs.FirstZero.{no_length}
use Rattle.code.proofs.RoundTrip.{decode_encode, encode_decode, encode_bytes, bytes_drop}
use Rattle.code.proofs.Scope.{closed_coded}
use Rattle.fields.specs.Fields.{GroupAt, Fields, read_file, term_bytes}
use Rattle.fields.specs.Fields as fields
use Rattle.fields.specs.Files.{write_file, StepsFit, GroupsFit, groups_placed}
use Rattle.fields.specs.Files as files
use Rattle.fields.proofs.Groups.{numbers as fields_numbers}
use Rattle.fields.proofs.Written.{read_back, same_term, same_groups, in_bytes, only_written}
use Rattle.examine.specs.Inspect.{Examined, examined}
use Rattle.examine.specs.Inspect as term
use Rattle.examine.proofs.Laws.{examining_holds}
use Rattle.verdict.specs.Bounds.{body_fits, state_fits, state_scope, state_size, frame_scope, waiting_scope}
use Rattle.verdict.specs.Verdict.{Progress, Run, passed, stopped, check_term_by, check_term, number}
use Rattle.verdict.specs.Claims.{StateFits, FormsFit, no_form, next_form, AllFit, progress_of, RefusedStep, refused_step}
use Rattle.verdict.proofs.Runs.{cond_both}
use Rattle.verdict.proofs.Former.{former_runs}
use Rattle.verdict.proofs.Later.{later_runs}
use Rattle.verdict.proofs.Promises.{passing, stopping}
use Rattle.files.specs.File.{Opened, refused, opened, open_term, open_fields, open_file}
use Rattle.files.specs.Check.{CheckAnswer, groups_of, left_over, check_answer_of, check_opened_by, check_file_by, check_file}
use Rattle.files.specs.Claims.{Accepted, Refused, before_the_walk, later, WithinLimits, Accepting, Refusing, WithoutWhole, FormerFiles, LaterFiles}

-- WHAT OPENS
opened_inj_term : {t u : Term} {e f : ℕ} {gs hs : List GroupAt} → opened t e gs ≡ opened u f hs → (t ≡ u) × (e ≡ f) × (gs ≡ hs)
opened_inj_term q = (cc, cc, cc)

refused_opened : {A : Type 0} {n p : ℕ} {t : Term} {e : ℕ} {gs : List GroupAt} → refused n p ≡ opened t e gs → A
refused_opened q = let z : ◌≡◌ {A = ℕ} 0 1 = cc in let y : ⊥ = omega arith in absurd y

-- the term of an opened file was accepted
pub record Opens (s : List ℕ) (t : Term) (e : ℕ) (gs : List GroupAt) : Type 0 where
  pub fields_are : read_file s ≡ fields.accepted e gs
  pub term_is : examined (term_bytes s e) ≡ term.accepted t

opened_term : (s : List ℕ) (e f : ℕ) (gs hs : List GroupAt) (x : Examined) (t : Term) → open_term e gs x ≡ opened t f hs → (x ≡ term.accepted t) × (e ≡ f) × (gs ≡ hs)
unfolding open_term
opened_term s e f gs hs (term.refused n p) t q = refused_opened q
opened_term s e f gs hs (term.accepted u) t q = (ap term.accepted (opened_inj_term q).0, (opened_inj_term q).1, (opened_inj_term q).2)

pub opens : (s : List ℕ) (t : Term) (e : ℕ) (gs : List GroupAt) → open_file s ≡ opened t e gs → Opens s t e gs
unfolding open_file open_fields
opens s t e gs q = go (read_file s) refl q
  where
    go : (x : Fields) → read_file s ≡ x → open_fields s x ≡ opened t e gs → Opens s t e gs
    go (fields.refused n p) h q = refused_opened q
    go (fields.accepted f hs) h q =
        let r = opened_term s f e hs gs (examined (term_bytes s f)) t q in
        record {
          fields_are = h ∙ ap (λ (k : ℕ). fields.accepted k hs) r.1 ∙ ap (fields.accepted e) r.2;
          term_is = ap (λ (k : ℕ). examined (term_bytes s k)) (sym r.1) ∙ r.0;
        }

pub bytes_take : (n : ℕ) (s : List ℕ) → Bytes s → Bytes (lib.ListN.take n s)
bytes_take zero s b i = omega arith
bytes_take (suc n) [] b i = omega arith
bytes_take (suc n) (x ∷ s) b zero = b 0
bytes_take (suc n) (x ∷ s) b (suc i) = bytes_take n s (λ j. b (suc j)) i

pub term_bytes_lem : (s : List ℕ) (e : ℕ) → Bytes s → Bytes (term_bytes s e)
term_bytes_lem s e b = bytes_take (e - 3) (drop 3 s) (bytes_drop 3 s b)

opens_closed : {s : List ℕ} {t : Term} {e : ℕ} {gs : List GroupAt} → Bytes s → Opens s t e gs → Closed 0 t
opens_closed {s} {t} {e} b o = ((examining_holds.accepts (term_bytes s e) t (term_bytes_lem s e b)).0 o.term_is).closed

-- REFUSED BEFORE THE WALK: one of the numbers 1 to 6
refused_inj : {n m p q : ℕ} → refused n p ≡ refused m q → n ≡ m
refused_inj e = cc

pub before_numbers : (s : List ℕ) {n p : ℕ} → open_file s ≡ refused n p → (1 ≤ n) × (n ≤ 6)
unfolding open_file open_fields open_term
before_numbers s {n} {p} q = go (read_file s) refl q
  where
    in_term : (e : ℕ) (gs : List GroupAt) (x : Examined) → examined (term_bytes s e) ≡ x → open_term e gs x ≡ refused n p → (1 ≤ n) × (n ≤ 6)
    in_term e gs (term.refused m r) h q = omega (arith, refused_inj q, examining_holds.numbers (term_bytes s e) h)
    in_term e gs (term.accepted t) h q = refused_opened (sym q)

    go : (x : Fields) → read_file s ≡ x → open_fields s x ≡ refused n p → (1 ≤ n) × (n ≤ 6)
    go (fields.refused m r) h q = omega (arith, refused_inj q, fields_numbers s h)
    go (fields.accepted e gs) h q = in_term e gs (examined (term_bytes s e)) refl q

-- WHAT AN ANSWER SAYS
abbrev Says : List ℕ → CheckAnswer → Type 0
Says s a = (a.number ≡ 0 → Accepted s a.comparisons a.degree) × ((a.number ≡ 0 → ⊥) → Refused s a.number a.comparisons a.degree)

drop_none : {A : Type 0} (n : ℕ) (l : List A) → drop n l ≡ [] → length l ≤ n
drop_none n l h = omega (arith, length-drop n l, ap length h)

-- a run that passes with no group left took them all
pub took_all : (t : Term) (gs : List GroupAt) (q : Progress) → check_term t (groups_of gs) ≡ passed q → drop q.comparisons gs ≡ [] → With one_pass_next (own ε [] t) (groups_of gs)
took_all t gs q h n =
    let r = passing.sound t (groups_of gs) q h in
    let all = drop_none q.comparisons gs n in
    let many : length (groups_of gs) ≡ length (groups r.0) + length q.left = ap length r.2 ∙ length-append (groups r.0) q.left in
    let empty = no_length q.left (omega (arith, many, r.3, length-map gs (λ (g : GroupAt). g.group))) in
    record { derivation = r.0; same_groups = sym (r.2 ∙ ap (λ (l : List Group). groups r.0 ++ l) empty ∙ append-nil (groups r.0)) }

-- of a file that opens
module _ (s : List ℕ) (t : Term) (e : ℕ) (gs : List GroupAt) (o : Opens s t e gs) (b : Bytes s) where
  pub closed : Closed 0 t
  closed = opens_closed b o

  pub holds_just : s ≡ write_file (encode t) (groups_of gs)
  holds_just =
      let d = ((examining_holds.accepts (term_bytes s e) t (term_bytes_lem s e b)).0 o.term_is).decodes in
      only_written (record { small = b }) o.fields_are ∙ ap (λ (l : List ℕ). write_file l (groups_of gs)) (sym (encode_decode (term_bytes s e) t (term_bytes_lem s e b) d).bytes)

  taken : (q : Progress) → check_term t (groups_of gs) ≡ passed q → drop q.comparisons gs ≡ [] → Accepted s q.comparisons (degree ε t)
  taken q h n =
      let w = took_all t gs q h n in
      record {
        term = t;
        steps = groups_of gs;
        file = holds_just;
        closed = closed;
        one_pass = w.derivation;
        own_steps = w.same_groups;
        plain = plain_of_one_pass ε [] t correct_empty w.derivation;
        all_compared = stopping.all_applicators t (groups_of gs) q h;
        group_each = ap length (sym w.same_groups) ∙ length_groups ε [] t w.derivation ∙ zero-add (applicators t);
        plain_met = demanding.plain_met t w.derivation;
        degree_is = refl;
      }

  run_says : (x : Run) → check_term t (groups_of gs) ≡ x → Says s (check_answer_of (degree ε t) gs x)
  unfolding check_answer_of left_over progress_of
  run_says x h = go x h (rw h at (stopping.at_most_applicators t (groups_of gs)), rw h at (stopping.at_most_groups t (groups_of gs)))
    where
      left : (q : Progress) → check_term t (groups_of gs) ≡ passed q → (q.comparisons ≤ applicators t) × (q.comparisons ≤ length (groups_of gs)) → (hs : List GroupAt) → drop q.comparisons gs ≡ hs
          → Says s (left_over q.comparisons (degree ε t) hs)
      left q h m [] e = (λ z. taken q h e, λ n. absurd (n refl))
      left q h m (g ∷ hs) e = (λ z. absurd (omega arith), λ n. later t (groups_of gs) holds_just closed (omega arith) (omega arith) m.0 m.1 refl)

      go : (x : Run) → check_term t (groups_of gs) ≡ x → ((progress_of x).comparisons ≤ applicators t) × ((progress_of x).comparisons ≤ length (groups_of gs)) → Says s (check_answer_of (degree ε t) gs x)
      go (passed q) h m = left q h m (drop q.comparisons gs) refl
      go (stopped g q) h m = let n = stopping.numbers t (groups_of gs) g q closed h in (λ z. absurd (omega arith), λ k. later t (groups_of gs) holds_just closed n.0 (omega arith) m.0 m.1 refl)

pub says : (s : List ℕ) → Bytes s → Says s (check_file s)
unfolding check_file_by check_opened_by
says s b = go (open_file s) refl
  where
    go : (o : Opened) → open_file s ≡ o → Says s (check_opened_by latest o)
    go (refused n p) h = let m = before_numbers s h in (λ z. absurd (omega arith), λ k. before_the_walk m.0 m.1 refl refl)
    go (opened t e gs) h = run_says s t e gs (opens s t e gs h) b (check_term t (groups_of gs)) refl

-- EVERY CORRECT TERM, within the limits, has an accepted file
start_scope : (t : Term) → StateFits (own ε [] t) → scope t ≤ most_abstractors
unfolding state_fits state_scope frame_scope waiting_scope depth
start_scope t f =
    let b = cond_both (leb (state_size (own ε [] t)) longest_state) (leb (state_scope (own ε [] t)) most_abstractors) f in
    omega (arith, leb-true (state_scope (own ε [] t)) most_abstractors b.1)

start_closed : (t : Term) → OnePass (own ε [] t) → Closed 0 t
unfolding depth
start_closed t d = one_pass_closed ε [] t d

-- the file that is written opens as the term and its groups
written_opens : (t : Term) (d : OnePass (own ε [] t)) → StateFits (own ε [] t) → size t ≤ longest_term → length (write_file (encode t) (groups d)) ≤ longest_file
    → open_file (write_file (encode t) (groups d)) ≡ opened t (3 + length (encode t)) (groups_placed (3 + length (encode t)) (groups d))
unfolding open_file open_fields open_term
written_opens t d f short long =
    let c = start_closed t d in
    let k = closed_coded c (omega (arith, start_scope t f)) in
    let s = write_file (encode t) (groups d) in
    let e = 3 + length (encode t) in
    let gs = groups_placed e (groups d) in
    let x = (examining_holds.accepts (encode t) t (encode_bytes k)).1 (record { decodes = decode_encode k; short = short; closed = c; shallow = start_scope t f }) in
    ap (open_fields s) (read_back (encode t) (groups d) long)
    ∙ ap (λ (b : List ℕ). open_term e gs (examined b)) (same_term (encode t) (groups d))
    ∙ ap (open_term e gs) x

pub all_answer : (n m d : ℕ) (gs : List GroupAt) → length gs ≤ n → n ≡ m → left_over n d (drop n gs) ≡ record { number = 0; place = 0; comparisons = m; degree = d }
unfolding left_over
all_answer n m d gs h q = ap (left_over n d) (drop_of_length-le gs h) ∙ ap (λ (k : ℕ). record { number = 0; place = 0; comparisons = k; degree = d }) q

accepted_file : (t : Term) (d : OnePass (own ε [] t)) → WithinLimits t d
    → check_file (write_file (encode t) (groups d)) ≡ record { number = 0; place = 0; comparisons = applicators t; degree = degree ε t }
unfolding check_file_by check_opened_by check_answer_of
accepted_file t d w =
    let e = 3 + length (encode t) in
    let gs = groups_placed e (groups d) in
    let r = passing.complete t d w.states_and_forms [] in
    let same : groups_of gs ≡ groups d = same_groups e (groups d) in
    let h : check_term t (groups_of gs) ≡ passed r.0 = ap (check_term t) (same ∙ sym (append-nil (groups d))) ∙ r.1 in
    let many = length-map gs (λ (g : GroupAt). g.group) in
    ap (check_opened_by latest) (written_opens t d w.states_and_forms.first w.term w.file)
    ∙ ap (check_answer_of (degree ε t) gs) h
    ∙ all_answer r.0.comparisons (applicators t) (degree ε t) gs (omega (arith, r.3, many, ap length same)) (r.3 ∙ length_groups ε [] t d ∙ zero-add (applicators t))

-- a step that is not refused has one of the known kinds, and its place is in the body
known_kind : (n : ℕ) → 256 ≤ n → kind_in latest n ≡ none
unfolding kind_in
known_kind n h = rw (ne_eqb n 1 (λ e. omega arith), ne_eqb n 2 (λ e. omega arith), ne_eqb n 3 (λ e. omega arith))

step_kind : (R : Frame) (s : Step) (t : Term) {u : Term} → step R s t ≡ reached u → s.kind < 256
unfolding step_by step_of
step_kind R s t e = elim (cmp 256 s.kind) [
  | lo h ↦ refused_reached (rw (known_kind s.kind h) at e)
  | hi h ↦ h
]

step_place : (R : Frame) (s : Step) (t : Term) {u : Term} → step R s t ≡ reached u → s.place < size t
unfolding step_by step_of reach_of
step_place R s t e = elim (cmp (size t) s.place) [
  | lo h ↦ go (kind_in latest s.kind) h e
  | hi h ↦ h
]
  where
    go : {u : Term} (o : Option Kind) → size t ≤ s.place → step_of couples o R t s.place ≡ reached u → s.place < size t
    go none h q = refused_reached q
    go (some κ) h q = refused_reached (sym (step_past couples κ R [] t s.place h) ∙ q)

fits_short : (R : Frame) (t : Term) → body_fits R t ≡ true → size t ≤ longest_term
unfolding body_fits
fits_short R t e = leb-true (size t) longest_term (cond_both (leb (size t) longest_term) (leb (depth R + scope t) most_abstractors) e).0

steps_fit : {R : Frame} {ss : List Step} (t : Term) → body_fits R t ≡ true → FormsFit R ss t → StepsFit ss
steps_fit t b no_form = files.none
steps_fit {R} t b (next_form {s = s} {u = u} e c f) = files.step {x = s} (step_kind R s t e) (omega (arith, step_place R s t e, fits_short R t b)) (steps_fit u c f)

groups_append : {gs hs : List Group} → GroupsFit gs → GroupsFit hs → GroupsFit (gs ++ hs)
groups_append files.none f = f
groups_append (files.group l r f) g = files.group l r (groups_append f g)

groups_fit : {n : Next} (d : Holds one_pass_next n) → AllFit d → GroupsFit (groups d)
unfolding groups
groups_fit nothing_left w = files.none
groups_fit (met {U = U} s d) w = files.group (steps_fit s.typ w.0.type_fits w.0.left_fits) (steps_fit U w.0.domain_fits w.0.right_fits) (groups_fit d w.1)
groups_fit (by_rule c d) w = groups_append (groups_fit c w.1) (groups_fit d w.2)

all : (t : Term) (d : OnePass (own ε [] t)) → WithinLimits t d
    → Bytes (write_file (encode t) (groups d))
    × (check_file (write_file (encode t) (groups d)) ≡ record { number = 0; place = 0; comparisons = applicators t; degree = degree ε t })
all t d w =
    let k = closed_coded (start_closed t d) (omega (arith, start_scope t w.states_and_forms.first)) in
    ((in_bytes (encode t) (groups d) w.file (record { small = encode_bytes k }) (groups_fit d w.states_and_forms.others)).small, accepted_file t d w)

pub accepting : Accepting
accepting = record { only = λ s b. (says s b).0; all = all }

pub refusing : Refusing
refusing = record { otherwise = λ s b. (says s b).1 }

-- WITHOUT KIND 3 the answer is that of the check with kinds 1 and 2
as_before : (x : Reach) (s : List ℕ) → WithoutWhole s → check_file_by (base x) s ≡ check_file_by (full x) s
unfolding check_file_by check_opened_by
as_before x s w = go (open_file s) refl
  where
    go : (o : Opened) → open_file s ≡ o → check_opened_by (base x) o ≡ check_opened_by (full x) o
    go (refused n p) h = refl
    go (opened t e gs) h = ap (check_answer_of (degree ε t) gs) (former_runs.as_before x t (groups_of gs) (w.groups t e gs h))

pub former_files : FormerFiles
former_files = record {
  as_before = as_before;
  correct_before = λ s c d a. ((readings.one_pass couples (own ε [] a.term)).1 a.one_pass, (readings.plain couples (own ε [] a.term)).1 a.plain);
}

-- UNDER A LATER READING the answer stays, unless a step was refused
answer_of_step : (d : ℕ) (gs : List GroupAt) (r : Run) → RefusedStep r → (check_answer_of d gs r).number ≡ step_not_possible
unfolding check_answer_of number
answer_of_step d gs r refused_step = refl

other_answers : {y z : Reading} → Later y z → (s : List ℕ) → ((check_file_by y s).number ≡ step_not_possible → ⊥) → check_file_by z s ≡ check_file_by y s
unfolding check_file_by check_opened_by
other_answers {y} {z} l s h = go (open_file s) h
  where
    go : (o : Opened) → ((check_opened_by y o).number ≡ step_not_possible → ⊥) → check_opened_by z o ≡ check_opened_by y o
    go (refused n p) k = refl
    go (opened t e gs) k =
        let f = check_answer_of (degree ε t) gs in
        ap f (later_runs.stays l t (groups_of gs) (λ x. k (answer_of_step (degree ε t) gs (check_term_by y t (groups_of gs)) x)))

accepted_before : (s : List ℕ) → (check_file_by (full pairs) s).number ≡ accepted → check_file s ≡ check_file_by (full pairs) s
accepted_before s h = other_answers (full_full wider) s (λ e. omega arith)

pub later_files : LaterFiles
later_files = record { other_answers = other_answers; accepted_before = accepted_before }
