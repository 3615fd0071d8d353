-- What the two parts of a check, and then `check`, make of a file.
-- Assumes nothing.
use Prim.Native.Nat.{ℕ, ◌+◌, ◌≤◌, ◌<◌}
use mathlib.Core.Path.{◌≡◌, refl, ap, sym, ◌∙◌}
use mathlib.Core.List.{List}
use native.Mathlib.Omega.{arith}
use lib.ListN.{length, drop, length-append, length-map}
use Rattle.calculus.specs.Terms.{Term}
use Rattle.calculus.specs.Frames.{ε}
use Rattle.calculus.specs.Steps.{latest}
use Rattle.calculus.specs.Types.{degree}
use Rattle.calculus.specs.Rules.{groups}
use Rattle.code.specs.Code.{Bytes, encode}
use Rattle.code.proofs.RoundTrip.{encode_decode}
use Rattle.std.proofs.Common.{Result, Ok, Err}
use Rattle.code.specs.Refusals.{number_of}
use Rattle.code.specs.declared.refusal.Refusal.{Refusal}
use Rattle.code.proofs.Refusals.{refusal_number}
use Rattle.fields.specs.declared.Layout as code_layout
use Rattle.fields.specs.Fields.{GroupAt, Groups, done, more, read_file, term_bytes, layout_of, layout_says}
use Rattle.fields.specs.Claims.{HasFields}
use Rattle.fields.proofs.Groups.{if_accepted, if_refused, accepts, accepted_only, none_left, room}
use Rattle.examine.specs.Inspect.{examined, term_says, term_answer}
use Rattle.examine.specs.Claims.{WellFormed}
use Rattle.examine.proofs.Laws.{examining_holds, accepted_answer, refused_answer}
use Rattle.verdict.specs.Verdict.{Progress, Run, passed, stopped, check_term}
use Rattle.verdict.proofs.Promises.{passing}
use Rattle.files.specs.File.{Opened, refused, opened, open_term, open_fields, open_file}
use Rattle.files.specs.Check.{groups_of, left_over, check_answer_of, check_opened_by, check_file_by, check_file}
use Rattle.files.proofs.Answers.{opens, term_bytes_lem, says as answer_says}
use Rattle.walk.specs.Clauses.{Answers, answer_passed, answer_stopped, Walkable, WalkAnswer, Walked, walked_says}
use Rattle.walk.specs.declared.Walked.{Walked as Passed}
use Rattle.walk.specs.declared.Stopped.{Stopped}
use Rattle.compare.specs.Answers.{number_of_ground, ground_says}
use Rattle.compare.specs.declared.Ground.{Ground}
use Rattle.compare.specs.declared.Ground.TheVariants.{NoType, StillWaiting, NoGroupLeft, StepNotPossible, Outgrown, BodiesDiffer, GroupsLeft, NotReached}
use Rattle.compare.proofs.Grounds.{ground_stops}
use Rattle.walk.proofs.Beginning.{halts_answer}
use Rattle.checker.specs.Answer.{CheckAnswer, check_says, before_walk, stopped_in_walk, CheckedAs, Checked}
use Rattle.checker.specs.Clauses.{OpenedAs, open_refused, opened_term, Openable, RunAs, run_passed, run_stopped, FileWalked}
use Rattle.checker.specs.declared.Opened as code
use Rattle.checker.proofs.Left.{same_left, groups_drop, drop_groups}

-- OPENING
-- an opened file's answer
opened_as : {r : Result code.Opened Refusal} (s : List ℕ) {o : Opened} → open_file s ≡ o → OpenedAs r o → OpenedAs r (open_file s)
opened_as s h a = rw h a

pub fields_refused : (s : List ℕ) {x : Refusal} → layout_says (Err x) ≡ layout_of (read_file s) → OpenedAs (Err x) (open_file s)
unfolding open_file open_fields
fields_refused s {x} is = opened_as s (ap (open_fields s) (if_refused s is (λ z. omega (arith, refusal_number x.condition))).0) open_refused

module _ (s : List ℕ) {l : code_layout.Layout} (is : layout_says (Ok l) ≡ layout_of (read_file s)) where
  is_open : open_file s ≡ open_term l.end (if_accepted s is refl).list (examined (term_bytes s l.end))
  unfolding open_file open_fields
  is_open = ap (open_fields s) (accepts (if_accepted s is refl).is)

  pub term_refused : {x : Refusal} → term_says (Err x) ≡ term_answer (term_bytes s l.end) → OpenedAs (Err x) (open_file s)
  unfolding open_term
  term_refused {x} q = opened_as s (is_open ∙ ap (open_term l.end (if_accepted s is refl).list) (refused_answer (term_bytes s l.end) x q)) open_refused

  pub term_opened : {d : ℕ} → term_says (Ok d) ≡ term_answer (term_bytes s l.end) → OpenedAs (Ok (record { end = l.end; degree = d })) (open_file s)
  unfolding open_term
  term_opened q =
      let a = accepted_answer (term_bytes s l.end) q in
      opened_as s (is_open ∙ ap (open_term l.end (if_accepted s is refl).list) a.is) (opened_term a.degree_is)

-- what refuses it, or that it opens
pub refused_is : {x : Refusal} (s : List ℕ) → OpenedAs (Err x) (open_file s) → open_file s ≡ refused (number_of x.condition) x.place
refused_is {x} s a = go (open_file s) refl a
  where
    go : (o : Opened) → open_file s ≡ o → OpenedAs (Err x) o → open_file s ≡ refused (number_of x.condition) x.place
    go (refused m p) h open_refused = h
    go (opened t e gs) h a = elim a [ ]

pub record Opening (s : List ℕ) (r : code.Opened) : Type 0 where
  pub openable : Openable s r.end
  pub degree_is : r.degree ≡ degree ε openable.term

pub opening : {r : code.Opened} (s : List ℕ) → OpenedAs (Ok r) (open_file s) → Opening s r
opening {r} s a = go (open_file s) refl a
  where
    go : (o : Opened) → open_file s ≡ o → OpenedAs (Ok r) o → Opening s r
    go (refused m p) h a = elim a [ ]
    go (opened t e gs) h (opened_term d) = record { openable = record { term = t; groups = gs; opens = h }; degree_is = d }

-- WALKING
-- the number of what stops a walk
pub says_number : (x : Ground) → (ground_says x).number ≡ number_of_ground x
says_number NoType = refl
says_number (StillWaiting waiting) = refl
says_number NoGroupLeft = refl
says_number (StepNotPossible side step reason) = refl
says_number Outgrown = refl
says_number (BodiesDiffer left right) = refl
says_number GroupsLeft = refl
says_number NotReached = refl

module _ (s : List ℕ) {e : ℕ} (b : Bytes s) where
  module _ (t : Term) (gs : List GroupAt) (o : open_file s ≡ opened t e gs) where
    well_formed : WellFormed (term_bytes s e) t
    well_formed = (examining_holds.accepts (term_bytes s e) t (term_bytes_lem s e b)).0 (opens s t e gs o).term_is

    fields : HasFields s e gs
    fields = accepted_only s (opens s t e gs o).fields_are

    bytes : encode t ≡ term_bytes s e
    bytes = (encode_decode (term_bytes s e) t (term_bytes_lem s e b) well_formed.decodes).bytes

  pub ends_inside : Openable s e → e ≤ length s
  ends_inside o = omega (arith, room (fields o.term o.groups o.opens).groups)

  -- what the walk asks for
  pub walking : Openable s e → Walkable s (term_bytes s e) e
  unfolding fields
  walking o =
      let w = well_formed o.term o.groups o.opens in
      let f = fields o.term o.groups o.opens in
      record { term = o.term; bytes = bytes o.term o.groups o.opens; closed = w.closed; shallow = w.shallow; short = w.short; groups = o.groups; stand = f.groups; file_bound = f.fits }

  module _ {w : Walked} {left right : List ℕ} (walks : WalkAnswer s (term_bytes s e) e left right w) where
    module _ (t : Term) (gs : List GroupAt) (o : open_file s ≡ opened t e gs) where
      says : Answers s left right w (check_term t (groups_of gs))
      says = walks.all t gs (bytes t gs o) (well_formed t gs o).closed (well_formed t gs o).shallow (fields t gs o).groups

      -- the groups that are left
      left_groups : (q : Progress) → check_term t (groups_of gs) ≡ passed q → (hs : List GroupAt) → q.left ≡ groups_of hs → Groups s w.next hs → drop q.comparisons gs ≡ hs
      left_groups q h hs k p =
          let d = passing.sound t (groups_of gs) q h in
          let many : length gs ≡ length (groups d.0) + length q.left = sym (length-map gs (λ (g : GroupAt). g.group)) ∙ ap length d.2 ∙ length-append (groups d.0) q.left in
          let j = groups_drop q.comparisons (fields t gs o).groups (omega (arith, many, d.3)) in
          let e = drop_groups q.comparisons gs (groups d.0) q.left d.2 d.3 in
          (same_left j.1 p (e ∙ k)).1

    walk_stopped : (w.number ≡ 0 → ⊥) → FileWalked s e left right w
    walk_stopped n = record { all = λ t gs o. go t gs (check_term t (groups_of gs)) (says t gs o) }
      where
        go : (t : Term) (gs : List GroupAt) (x : Run) → Answers s left right w x → RunAs gs left right w x
        go t gs (passed q) (answer_passed hs z c k p) = absurd (n z)
        go t gs (stopped g q) (answer_stopped h c) = run_stopped h c

    -- an answer where the walk passes
    passes : (r : Walked) → w.number ≡ 0 → (r.number ≡ 12 → ⊥) → r.first ≡ 0 → r.second ≡ 0 → r.third ≡ 0
        → ((hs : List GroupAt) → Groups s w.next hs → (d : ℕ) → left_over w.comparisons d hs ≡ record { number = r.number; place = r.place; comparisons = r.comparisons; degree = d }) → FileWalked s e left right r
    passes r z m x y v f = record { all = λ t gs o. go t gs o (check_term t (groups_of gs)) refl (says t gs o) }
      where
        go : (t : Term) (gs : List GroupAt) → open_file s ≡ opened t e gs → (x : Run) → check_term t (groups_of gs) ≡ x → Answers s left right w x → RunAs gs left right r x
        go t gs o (passed q) h (answer_passed hs z c k p) = run_passed {q = q} (λ d. rw (left_groups t gs o q h hs k p, ← c) (f hs p d)) m x y v
        go t gs o (stopped g q) h (answer_stopped a c) = absurd ((halts_answer a).1 z)

  module _ {w : Passed} {left right : List ℕ} (walks : WalkAnswer s (term_bytes s e) e left right (walked_says (Ok w))) where
    pub groups_left_lem : w.next < length s → FileWalked s e left right (walked_says (Err (record { by = GroupsLeft; place = w.next; comparisons = w.comparisons })))
    unfolding left_over
    groups_left_lem l = passes walks _ refl (λ q. omega arith) refl refl refl more_left
      where
        more_left : (hs : List GroupAt) → Groups s w.next hs → (d : ℕ) → left_over w.comparisons d hs ≡ record { number = 13; place = w.next; comparisons = w.comparisons; degree = d }
        more_left hs (done k) d = let y : ⊥ = omega arith in absurd y
        more_left hs (more k j) d = refl

    pub all_taken : length s ≤ w.next → FileWalked s e left right (walked_says (Ok w))
    unfolding left_over
    all_taken l = passes walks _ refl (λ q. omega arith) refl refl refl (λ hs p d. rw (none_left p l) refl)

  pub stopped_early : (x : Stopped) {left right : List ℕ} → WalkAnswer s (term_bytes s e) e left right (walked_says (Err x)) → FileWalked s e left right (walked_says (Err x))
  stopped_early x walks = walk_stopped walks (ground_stops x.by)

-- CHECKING
-- the check's answer, by that of the walk
pub answer_of : {gs : List GroupAt} {a b : List ℕ} {w : Walked} {x : Run} (d : ℕ) → RunAs gs a b w x → check_answer_of d gs x ≡ record { number = w.number; place = w.place; comparisons = w.comparisons; degree = d }
unfolding check_answer_of
answer_of d (run_passed f m x y z) = f d
answer_of {w = w} d (run_stopped {g} {q} h c) = let n = halts_answer h in rw (n.0, n.2, c) refl

-- what the four numbers of the definition mean
checked : {s : List ℕ} {r : CheckAnswer} → Bytes s → CheckedAs r (check_file s) → Checked s r
checked {s} b a = record {
  answer = a;
  acceptance = λ z. rw (a.comparisons_is, a.degree_is) ((answer_says s b).0 (sym a.number_is ∙ z));
  refusal = λ n. rw (a.number_is, a.comparisons_is, a.degree_is) ((answer_says s b).1 (λ z. n (a.number_is ∙ z)));
}

checked_as : {s : List ℕ} {n p c d : ℕ} → Bytes s → check_file s ≡ record { number = n; place = p; comparisons = c; degree = d } → Checked s (record { number = n; place = p; comparisons = c; degree = d })
checked_as b h = checked b (rw h (record { number_is = refl; place_is = refl; comparisons_is = refl; degree_is = refl }))

pub check_refused : {s : List ℕ} {x : Refusal} → Bytes s → OpenedAs (Err x) (open_file s) → Checked s (check_says (Err (before_walk x)))
unfolding check_file_by check_opened_by
check_refused {s} b a = checked_as b (ap (check_opened_by latest) (refused_is s a))

check_walked : {s : List ℕ} {r : code.Opened} {w : Walked} {left right : List ℕ} → Bytes s → OpenedAs (Ok r) (open_file s) → FileWalked s r.end left right w
    → Checked s (record { number = w.number; place = w.place; comparisons = w.comparisons; degree = r.degree })
unfolding check_file_by check_opened_by
check_walked {s} {w = w} b a f =
    let o = opening s a in
    checked_as b
    (ap (check_opened_by latest) o.openable.opens
    ∙ answer_of (degree ε o.openable.term) (f.all o.openable.term o.openable.groups o.openable.opens)
    ∙ ap (λ (d : ℕ). record { number = w.number; place = w.place; comparisons = w.comparisons; degree = d }) (sym o.degree_is))

pub check_passed : {s : List ℕ} {r : code.Opened} {w : Passed} {left right : List ℕ} → Bytes s → OpenedAs (Ok r) (open_file s) → FileWalked s r.end left right (walked_says (Ok w))
    → Checked s (check_says (Ok (record { comparisons = w.comparisons; degree = r.degree })))
check_passed b a f = check_walked b a f

pub check_stopped : {s : List ℕ} {r : code.Opened} (x : Stopped) {left right : List ℕ} → Bytes s → OpenedAs (Ok r) (open_file s) → FileWalked s r.end left right (walked_says (Err x))
    → Checked s (stopped_in_walk x r.degree)
check_stopped x b a f = rw (says_number x.by) at (check_walked b a f)
