-- The bounded check of a term with the supplied groups: the one-pass rules, each step replayed, within the limits
-- (document 01, 'The one-pass rules' and 'Sorted by what stops a check'; 001, section 5.8). It is a machine over an agenda of
-- questions; a turn is one state of the walk or one replayed step. It knows more than the answer shows: side, number and reason
-- of a refused step, how many wait, the two bodies, the turns taken.
-- Assumes nothing.
use Rattle.std.specs.Prelude.{ℕ, zero, suc, ◌+◌, ◌-◌, Bool, true, false, cond, List, [], ◌∷◌, ◌++◌, eqb, length, drop, get_or}
use Rattle.std.proofs.Math.Option.{Option, none, some}
use Rattle.calculus.specs.Terms.{Term, tau, var, app, abs, size}
use Rattle.calculus.specs.Frames.{Frame, ε}
use Rattle.calculus.specs.Types.{type}
use Rattle.calculus.specs.Steps.{Step, Reading, latest, Reason, unknown_kind, past_end, wrong_symbol, no_partner, still_used, Outcome, reached, refused, step_by}
use Rattle.calculus.specs.Rules.{Group, State, own, copied, compare, Question, holds, same, Stop, waiting, waiting_copied, unbound, no_rule, Next, asks, stops, one_pass_next}
use Rattle.calculus.specs.Walks.{states_of}
use Rattle.code.specs.Refusals as refusals
use Rattle.verdict.specs.Bounds.{state_fits, body_fits}

-- THE AGENDA
-- A question of the rules, with its place in the term, counted in symbols. A state's is where its B begins, or in copied text the
-- variable of the term's own text that B stems from; beside it stand the places of what waits in W. A comparison's is its applicator.
pub data Item : Type 0 where
  state_at : (place : ℕ) (waits : List ℕ) → State → Item
  same_at : (place : ℕ) (R : Frame) (K U : Term) → Item

-- The last n of a list.
unfoldable pub last : ℕ → List ℕ → List ℕ
last n ws = drop (length ws - n) ws

-- The questions that replace a state at `place`, which has ws waiting. The term's own text goes on at `on`, one part after the other.
-- As many wait as a question's W has: the last of those that waited, and of the applicator at `place`.
unfoldable pub placed : (place on : ℕ) (waits : List ℕ) → List Question → List Item
placed place on ws [] = []
placed place on ws (holds (own R W B) ∷ qs) = state_at on (last (length W) (place ∷ ws)) (own R W B) ∷ placed place (on + size B) ws qs
placed place on ws (holds (copied R W Y B) ∷ qs) = state_at place (last (length W) ws) (copied R W Y B) ∷ placed place on ws qs
placed place on ws (same (compare R K U) ∷ qs) = same_at (get_or ws 0 0) R K U ∷ placed place on ws qs

-- WHAT STOPS A CHECK, with its place in the term
pub data Side : Type 0 where
  left_side right_side : Side

pub data Ground : Type 0 where
  untyped : (place : ℕ) → Ground  -- 7
  something_waits : (place : ℕ) (how_many : ℕ) → Ground  -- 8
  no_group : (place : ℕ) → Ground  -- 9
  step_refused : (place : ℕ) (side : Side) (nth : ℕ) (why : Reason) → Ground  -- 10
  state_outgrown : (place : ℕ) → Ground  -- 11
  type_outgrown : (place : ℕ) → Ground  -- 11
  domain_outgrown : (place : ℕ) → Ground  -- 11
  step_outgrown : (place : ℕ) (side : Side) (nth : ℕ) → Ground  -- 11
  different_bodies : (place : ℕ) (left right : Term) → Ground  -- 12
  not_reached : (place : ℕ) → Ground  -- never, for a closed term

-- No rule applies: 8, at the last of W.
unfoldable pub ground_of : ℕ → List ℕ → Stop → Ground
ground_of place ws waiting = something_waits (get_or ws 0 0) (length ws)
ground_of place ws waiting_copied = not_reached place
ground_of place ws unbound = not_reached place
ground_of place ws no_rule = not_reached place

-- How far a check has come: the groups of the comparisons not yet completed, the comparisons completed, and the turns taken.
pub record Progress : Type 0 where
  pub left : List Group
  pub comparisons : ℕ
  pub turns : ℕ

unfoldable pub turned : ℕ → Progress → Progress
turned n p = record { left = p.left; comparisons = p.comparisons; turns = p.turns + n }

unfoldable pub completed : Progress → Progress
completed p = record { left = drop 1 p.left; comparisons = suc p.comparisons; turns = p.turns }

-- What a check comes to.
pub data Run : Type 0 where
  passed : Progress → Run
  stopped : Ground → Progress → Run

unfoldable pub and_then : Run → (Progress → Run) → Run
and_then (passed p) f = f p
and_then (stopped g p) f = stopped g p

-- THE MACHINE
-- While one side of a comparison is replayed, the other: the right one is next, with its steps, or the left one has reached its form.
pub data OtherSide : Type 0 where
  right_next : List Step → Term → OtherSide
  left_reached : Term → OtherSide

unfoldable pub side_of : OtherSide → Side
side_of (right_next rs r) = left_side
side_of (left_reached l) = right_side

-- What the next turn is for, and the agenda after it: a state; or a step, the n-th of its side, with the steps after it and the body
-- that it is for, which stands after R.
pub data Configuration : Type 0 where
  on_state : (place : ℕ) (waits : List ℕ) → State → List Item → Configuration
  on_step : (place : ℕ) (R : Frame) → OtherSide → (n : ℕ) → Step → List Step → (body : Term) → List Item → Configuration

pub data Status : Type 0 where
  at_turn : Configuration → Progress → Status
  done : Run → Status

-- The two bodies are one and the same.
unfoldable pub identical : Term → Term → Bool
identical tau tau = true
identical tau (var k) = false
identical tau (app K B) = false
identical tau (abs U B) = false
identical (var j) tau = false
identical (var j) (var k) = eqb j k
identical (var j) (app K B) = false
identical (var j) (abs U B) = false
identical (app L C) tau = false
identical (app L C) (var k) = false
identical (app L C) (app K B) = cond (identical L K) (identical C B) false
identical (app L C) (abs U B) = false
identical (abs L C) tau = false
identical (abs L C) (var k) = false
identical (abs L C) (app K B) = false
identical (abs L C) (abs U B) = cond (identical L U) (identical C B) false

-- Between two turns: comparisons, but for their steps, and the end. `rest` is the agenda after a comparison, `more` goes on with it.
-- Both forms are reached: 12.
unfoldable pub forms_meet : ℕ → Term → Term → (Progress → Status) → Progress → Status
forms_meet place l r more p = let x = more (completed p) in cond (identical l r) x (done (stopped (different_bodies place l r) p))

-- The steps of a side from the n-th on, where t is reached.
unfoldable pub side_from : ℕ → Frame → OtherSide → ℕ → List Step → Term → List Item → (Progress → Status) → Progress → Status
side_from place R o n (s ∷ ss) t rest more p = at_turn (on_step place R o n s ss t rest) p
side_from place R (right_next (s ∷ ss) r) n [] t rest more p = at_turn (on_step place R (left_reached t) 0 s ss r rest) p
side_from place R (right_next [] r) n [] t rest more p = forms_meet place t r more p
side_from place R (left_reached l) n [] t rest more p = forms_meet place l t more p

-- `same(R,K,U)` with the next group: 7, 9, 11 for the type and then for U, and then its steps.
unfoldable pub with_group : ℕ → Frame → Term → Term → List Group → List Item → (Progress → Status) → Progress → Status
with_group place R T U [] rest more p = done (stopped (no_group place) p)
with_group place R T U (g ∷ gs) rest more p =
    let both = side_from place R (right_next g.right U) 0 g.left T rest more p in
    let second = cond (body_fits R U) both (done (stopped (domain_outgrown place) p)) in
    cond (body_fits R T) second (done (stopped (type_outgrown place) p))

unfoldable pub with_type : ℕ → Frame → Term → Option Term → List Item → (Progress → Status) → Progress → Status
with_type place R U none rest more p = done (stopped (untyped place) p)
with_type place R U (some T) rest more p = with_group place R T U p.left rest more p

-- The agenda, as far as the next turn.
unfoldable pub to_turn : List Item → Progress → Status
to_turn [] p = done (passed p)
to_turn (state_at place ws s ∷ rest) p = at_turn (on_state place ws s rest) p
to_turn (same_at place R K U ∷ rest) p = with_type place R U (type R K) rest (to_turn rest) p

-- A turn for a state: its questions come before what was asked after it.
unfoldable pub replaced : ℕ → List ℕ → Next → List Item → Progress → Status
replaced place ws (asks qs) rest p = to_turn (placed place (suc place) ws qs ++ rest) p
replaced place ws (stops x) rest p = done (stopped (ground_of place ws x) p)

-- A turn for a step: 10, and then 11.
unfoldable pub stepped : Frame → (Reason → Ground) → Ground → (Term → Progress → Status) → Outcome → Progress → Status
stepped R refusal outgrown more (refused why) p = done (stopped (refusal why) p)
stepped R refusal outgrown more (reached u) p = let x = more u p in cond (body_fits R u) x (done (stopped outgrown p))

-- One turn, with the steps of a reading. A state is tested for 11 before its rule.
unfoldable pub turn_by : Reading → Configuration → Progress → Status
turn_by x (on_state place ws s rest) p = let y = replaced place ws (one_pass_next s) rest p in cond (state_fits s) y (done (stopped (state_outgrown place) p))
turn_by x (on_step place R o n s ss t rest) p =
    stepped R (step_refused place (side_of o) n) (step_outgrown place (side_of o) n) (λ u. side_from place R o (suc n) ss u rest (to_turn rest)) (step_by x R s t) p

abbrev pub turn : Configuration → Progress → Status
turn c p = turn_by latest c p

-- THE CHECK: turn after turn, each counted, to the end
unfoldable pub onward : Reading → (Status → Run) → Status → Run
onward x more (at_turn c p) = more (turn_by x c (turned 1 p))
onward x more (done r) = r

unfoldable pub run_by : Reading → ℕ → Status → Run
run_by x zero (at_turn c p) = stopped (not_reached 0) p
run_by x zero (done r) = r
run_by x (suc n) a = onward x (run_by x n) a

abbrev pub run : ℕ → Status → Run
run n a = run_by latest n a

-- No more turns than this: the states that the questions lead to, and the steps of the groups.
unfoldable pub states : List Item → ℕ
states [] = 0
states (state_at place ws s ∷ rest) = states_of s + states rest
states (same_at place R K U ∷ rest) = states rest

unfoldable pub steps : List Group → ℕ
steps [] = 0
steps (g ∷ gs) = (length g.left + length g.right) + steps gs

-- The check of an agenda.
unfoldable pub finish_by : Reading → List Item → Progress → Run
finish_by x items p = run_by x (states items + steps p.left) (to_turn items p)

abbrev pub finish : List Item → Progress → Run
finish items p = finish_by latest items p

-- The check of a term with the groups of its file: what is asked, how it begins, and what it comes to.
abbrev pub asked : Term → List Item
asked t = state_at 0 [] (own ε [] t) ∷ []

abbrev pub begun : List Group → Progress
begun gs = record { left = gs; comparisons = 0; turns = 0 }

unfoldable pub start : Term → List Group → Status
start t gs = to_turn (asked t) (begun gs)

unfoldable pub check_term_by : Reading → Term → List Group → Run
check_term_by x t gs = finish_by x (asked t) (begun gs)

abbrev pub check_term : Term → List Group → Run
check_term t gs = check_term_by latest t gs

-- What the answer shows of a ground: its number and its place.
unfoldable pub number : Ground → ℕ
number (untyped i) = refusals.no_type
number (something_waits i n) = refusals.still_waiting
number (no_group i) = refusals.no_group_left
number (step_refused i s n r) = refusals.step_not_possible
number (state_outgrown i) = refusals.outgrown
number (type_outgrown i) = refusals.outgrown
number (domain_outgrown i) = refusals.outgrown
number (step_outgrown i s n) = refusals.outgrown
number (different_bodies i l r) = refusals.bodies_differ
number (not_reached i) = refusals.never

unfoldable pub place_of : Ground → ℕ
place_of (untyped i) = i
place_of (something_waits i n) = i
place_of (no_group i) = i
place_of (step_refused i s n r) = i
place_of (state_outgrown i) = i
place_of (type_outgrown i) = i
place_of (domain_outgrown i) = i
place_of (step_outgrown i s n) = i
place_of (different_bodies i l r) = i
place_of (not_reached i) = i

-- What the explaining call shows of one (request (g)): a side by number, and why a step is refused, in the order in which it is tried.
unfoldable pub side_number : Side → ℕ
side_number left_side = 0
side_number right_side = 1

unfoldable pub reason_number : Reason → ℕ
reason_number unknown_kind = 1
reason_number past_end = 2
reason_number wrong_symbol = 3
reason_number no_partner = 4
reason_number still_used = 5
