-- What this crate promises of the bounded check. A function of src/lib.rt ensures each record that it names.
-- Assumes nothing.
use Rattle.std.specs.Prelude.{ℕ, zero, suc, ◌+◌, ◌≤◌, ◌<◌, ◌≡◌, true, false, List, [], ◌∷◌, ◌++◌, length}
use Rattle.std.proofs.Math.Option.{none, some}
use Rattle.calculus.specs.Terms.{Term, app, abs, size, applicators, Closed}
use Rattle.calculus.specs.Frames.{Frame, ε, ◌▹◌, single, pair}
use Rattle.calculus.specs.Steps.{Step, Reach, Reading, base, full, Reason, step, replay, reached, refused}
use Rattle.calculus.specs.Types.{type}
use Rattle.calculus.specs.Rules.{Group, Same, lift_all, State, own, copied, compare, Question, holds, same, waiting, Next, asks, stops, one_pass_next, Holds, nothing_left, met, by_rule, OnePass, groups, With}
use Rattle.calculus.specs.Whole.{NoWholes, Later}
use Rattle.calculus.specs.Walks.{own_states}
use Rattle.code.specs.Refusals.{no_type, outgrown, bodies_differ}
use Rattle.verdict.specs.Bounds.{state_fits, body_fits}
use Rattle.verdict.specs.Verdict.{Item, state_at, same_at, placed, Side, left_side, right_side, Ground, untyped, something_waits, no_group, step_refused, state_outgrown, type_outgrown, domain_outgrown, step_outgrown, different_bodies, ground_of, Progress, turned, Run, passed, stopped, and_then, OtherSide, Configuration, on_state, on_step, Status, at_turn, done, turn, steps, finish, start, check_term_by, check_term, number}

-- WITHIN THE LIMITS
-- Every form that a list of steps carries a body to.
pub data FormsFit (R : Frame) : List Step → Term → Type 0 where
  no_form : {t : Term} → FormsFit R [] t
  next_form : {s : Step} {ss : List Step} {t u : Term} → step R s t ≡ reached u → body_fits R u ≡ true → FormsFit R ss u → FormsFit R (s ∷ ss) t

-- The bodies of a comparison.
pub record SameFits {R : Frame} {K U : Term} (s : Same R K U) : Type 0 where
  pub type_fits : body_fits R s.typ ≡ true
  pub domain_fits : body_fits R U ≡ true
  pub left_fits : FormsFit R s.group.left s.typ
  pub right_fits : FormsFit R s.group.right U

abbrev pub StateFits : State → Type 0
StateFits s = state_fits s ≡ true

-- What a state is replaced by: every state that it leads to, and every comparison.
abbrev pub AllFit : {next : State → Next} {n : Next} → Holds next n → Type 0
AllFit nothing_left = Unit {0}
AllFit (met s d) = SameFits s × AllFit d
AllFit (by_rule {s = s} c d) = StateFits s × AllFit c × AllFit d

-- A derivation of a state, all of whose states and compared forms are within the limits.
pub record Within (s : State) (d : OnePass s) : Type 0 where
  pub first : StateFits s
  pub others : AllFit d

-- 1. What passes, and what must pass.
pub record Passing : Type 0 where
  -- the one-pass rules hold with the groups that were taken, within the limits, one completed comparison for each
  pub sound : (t : Term) (gs : List Group) (q : Progress) → check_term t gs ≡ passed q
      → (d : OnePass (own ε [] t)) × Within (own ε [] t) d × (gs ≡ groups d ++ q.left) × (q.comparisons ≡ length (groups d))
  -- a derivation within the limits passes with its own groups
  pub complete : (t : Term) (d : OnePass (own ε [] t)) → Within (own ε [] t) d → (rest : List Group)
      → (q : Progress) × (check_term t (groups d ++ rest) ≡ passed q) × (q.left ≡ rest) × (q.comparisons ≡ length (groups d))

-- The progress at which a run ends.
unfoldable pub progress_of : Run → Progress
progress_of (passed q) = q
progress_of (stopped g q) = q

-- 2. Whatever happens: how many comparisons are completed, and which numbers a stop has.
pub record Stopping : Type 0 where
  pub at_most_applicators : (t : Term) (gs : List Group) → (progress_of (check_term t gs)).comparisons ≤ applicators t
  pub at_most_groups : (t : Term) (gs : List Group) → (progress_of (check_term t gs)).comparisons ≤ length gs
  pub all_applicators : (t : Term) (gs : List Group) (q : Progress) → check_term t gs ≡ passed q → q.comparisons ≡ applicators t
  -- 7 to 12: no check of a closed term stops at `not-reached`, so that 8 has a last of W
  pub numbers : (t : Term) (gs : List Group) (g : Ground) (q : Progress) → Closed 0 t → check_term t gs ≡ stopped g q → (no_type ≤ number g) × (number g ≤ bodies_differ)

-- 3. An agenda is checked question by question.
-- A state that fits, and then what replaces it.
unfoldable pub follow : ℕ → List ℕ → Next → Progress → Run
follow place ws (asks qs) p = finish (placed place (suc place) ws qs) p
follow place ws (stops x) p = stopped (ground_of place ws x) p

pub record Running : Type 0 where
  pub nothing : (p : Progress) → finish [] p ≡ passed p
  -- running a list of questions is running its first part and then the rest
  pub in_parts : (is js : List Item) (p : Progress) → finish (is ++ js) p ≡ and_then (finish is p) (finish js)
  pub outgrown : (i : ℕ) (ws : List ℕ) (s : State) (p : Progress) → state_fits s ≡ false → finish (state_at i ws s ∷ []) p ≡ stopped (state_outgrown i) (turned 1 p)
  pub by_its_rule : (i : ℕ) (ws : List ℕ) (s : State) (p : Progress) → StateFits s → finish (state_at i ws s ∷ []) p ≡ follow i ws (one_pass_next s) (turned 1 p)
  -- so in the term's own text: K before the rest; U, then the comparison, then the rest
  pub at_app : (i : ℕ) (ws : List ℕ) (R : Frame) (W : List Term) (K B : Term) (p : Progress) → length ws ≡ length W → StateFits (own R W (app K B))
      → finish (state_at i ws (own R W (app K B)) ∷ []) p
      ≡ and_then (finish (state_at (suc i) [] (own R [] K) ∷ []) (turned 1 p)) (finish (state_at (suc i + size K) (i ∷ ws) (own R (K ∷ W) B) ∷ []))
  pub at_abs : (i : ℕ) (R : Frame) (U B : Term) (p : Progress) → StateFits (own R [] (abs U B))
      → finish (state_at i [] (own R [] (abs U B)) ∷ []) p
      ≡ and_then (finish (state_at (suc i) [] (own R [] U) ∷ []) (turned 1 p)) (finish (state_at (suc i + size U) [] (own (R ▹ single U) [] B) ∷ []))
  pub at_pair : (i j : ℕ) (ws : List ℕ) (R : Frame) (W : List Term) (K U B : Term) (p : Progress) → length ws ≡ length W → StateFits (own R (K ∷ W) (abs U B))
      → finish (state_at i (j ∷ ws) (own R (K ∷ W) (abs U B)) ∷ []) p
      ≡ and_then (finish (state_at (suc i) [] (own R [] U) ∷ []) (turned 1 p)) (λ q. and_then (finish (same_at j R K U ∷ []) q)
      (finish (state_at (suc i + size U) ws (own (R ▹ pair K U) (lift_all W) B) ∷ [])))

-- 4. Turn by turn. The status after n turns.
unfoldable pub after_turns : ℕ → Status → Status
after_turns zero a = a
after_turns (suc n) (at_turn c p) = after_turns n (turn c (turned 1 p))
after_turns (suc n) (done x) = done x

pub record Turning : Type 0 where
  -- the answer comes with exactly the turns that it counts
  pub to_the_end : (t : Term) (gs : List Group) → after_turns (progress_of (check_term t gs)).turns (start t gs) ≡ done (check_term t gs)
  pub not_before : (t : Term) (gs : List Group) (n : ℕ) (x : Run) → n < (progress_of (check_term t gs)).turns → after_turns n (start t gs) ≡ done x → ⊥
  -- and there are no more than states and steps
  pub at_most : (t : Term) (gs : List Group) → (progress_of (check_term t gs)).turns ≤ own_states [] t + steps gs

-- 5. Kinds 1 and 2 alone (request (a)). Where no group has kind 3, no turn is a step of kind 3, and over either reach the run is that of
-- the check which has kinds 1 and 2 only.
pub data FormerTurn : Configuration → Type 0 where
  for_state : {place : ℕ} {ws : List ℕ} {s : State} {rest : List Item} → FormerTurn (on_state place ws s rest)
  for_step : {place n : ℕ} {R : Frame} {o : OtherSide} {s : Step} {ss : List Step} {t : Term} {rest : List Item} → (s.kind ≡ 3 → ⊥) → FormerTurn (on_step place R o n s ss t rest)

pub record FormerRuns : Type 0 where
  pub turns : (t : Term) (gs : List Group) (n : ℕ) (c : Configuration) (p : Progress) → NoWholes gs → after_turns n (start t gs) ≡ at_turn c p → FormerTurn c
  pub as_before : (x : Reach) (t : Term) (gs : List Group) → NoWholes gs → check_term_by (base x) t gs ≡ check_term_by (full x) t gs

-- 6. Later readings (requests (a) and (d)). A run that no refused step stops is the same run under every later reading.
pub data RefusedStep : Run → Type 0 where
  refused_step : {place n : ℕ} {side : Side} {why : Reason} {q : Progress} → RefusedStep (stopped (step_refused place side n why) q)

pub record LaterRuns : Type 0 where
  pub stays : {y z : Reading} → Later y z → (t : Term) (gs : List Group) → (RefusedStep (check_term_by y t gs) → ⊥) → check_term_by z t gs ≡ check_term_by y t gs

-- 7. What stopped a check (request (g)) is what the one-pass rules reach.
-- A walk from some questions has come to others, which are due; on the way every comparison was met, each with its group, in order.
pub data Until (next : State → Next) : List Question → List Group → List Question → Type 0 where
  until_here : {qs : List Question} → Until next qs [] qs
  until_met : {R : Frame} {K U : Term} {qs due : List Question} {gs : List Group} (s : Same R K U) → Until next qs gs due → Until next (same (compare R K U) ∷ qs) (s.group ∷ gs) due
  until_asks : {s : State} {ps qs due : List Question} {gs : List Group} → next s ≡ asks ps → Until next (ps ++ qs) gs due → Until next (holds s ∷ qs) gs due

-- What waits in a state, but for what came with copied text.
unfoldable pub waiting_in : State → List Term
waiting_in (own R W B) = W
waiting_in (copied R W Y B) = W

-- A side of a comparison, from its n-th step on, counted from 0, comes to a step that is refused, or to one whose form outgrows the limits.
pub data SideStops (place : ℕ) (side : Side) (R : Frame) : ℕ → List Step → Term → Ground → Type 0 where
  stops_refused : {n : ℕ} {s : Step} {ss : List Step} {t : Term} {why : Reason} → step R s t ≡ refused why → SideStops place side R n (s ∷ ss) t (step_refused place side n why)
  stops_outgrown : {n : ℕ} {s : Step} {ss : List Step} {t u : Term} → step R s t ≡ reached u → body_fits R u ≡ false → SideStops place side R n (s ∷ ss) t (step_outgrown place side n)
  stops_later : {n : ℕ} {s : Step} {ss : List Step} {t u : Term} {x : Ground} → step R s t ≡ reached u → SideStops place side R (suc n) ss u x → SideStops place side R n (s ∷ ss) t x

-- What stops a check whose next questions and groups these are. A comparison takes the type T of K and U, and the first group: the left
-- side, then the right one, then whether both reach one form; both forms are within the limits.
pub data StopsAt : List Question → List Group → Ground → Type 0 where
  outgrown_state : {place : ℕ} {s : State} {qs : List Question} {gs : List Group} → state_fits s ≡ false → StopsAt (holds s ∷ qs) gs (state_outgrown place)
  waiting_state : {place : ℕ} {s : State} {qs : List Question} {gs : List Group} → one_pass_next s ≡ stops waiting → StopsAt (holds s ∷ qs) gs (something_waits place (length (waiting_in s)))
  type_is_none : {place : ℕ} {R : Frame} {K U : Term} {qs : List Question} {gs : List Group} → type R K ≡ none → StopsAt (same (compare R K U) ∷ qs) gs (untyped place)
  group_missing : {place : ℕ} {R : Frame} {K U T : Term} {qs : List Question} → type R K ≡ some T → StopsAt (same (compare R K U) ∷ qs) [] (no_group place)
  outgrown_type : {place : ℕ} {R : Frame} {K U T : Term} {qs : List Question} {g : Group} {gs : List Group} → type R K ≡ some T → body_fits R T ≡ false → StopsAt (same (compare R K U) ∷ qs) (g ∷ gs) (type_outgrown place)
  outgrown_domain : {place : ℕ} {R : Frame} {K U T : Term} {qs : List Question} {g : Group} {gs : List Group} → type R K ≡ some T → body_fits R U ≡ false → StopsAt (same (compare R K U) ∷ qs) (g ∷ gs) (domain_outgrown place)
  left_stops : {place : ℕ} {R : Frame} {K U T : Term} {qs : List Question} {g : Group} {gs : List Group} {x : Ground} → type R K ≡ some T → SideStops place left_side R 0 g.left T x → StopsAt (same (compare R K U) ∷ qs) (g ∷ gs) x
  right_stops : {place : ℕ} {R : Frame} {K U T l : Term} {qs : List Question} {g : Group} {gs : List Group} {x : Ground} → type R K ≡ some T → replay R g.left T ≡ reached l → SideStops place right_side R 0 g.right U x
      → StopsAt (same (compare R K U) ∷ qs) (g ∷ gs) x
  forms_differ : {place : ℕ} {R : Frame} {K U T l r : Term} {qs : List Question} {g : Group} {gs : List Group} → type R K ≡ some T → replay R g.left T ≡ reached l → replay R g.right U ≡ reached r → body_fits R l ≡ true → body_fits R r ≡ true
      → (l ≡ r → ⊥) → StopsAt (same (compare R K U) ∷ qs) (g ∷ gs) (different_bodies place l r)

-- The one-pass rules lead from the term to questions at which the check stops; the comparisons before were met, each with its group.
pub record Stopped (t : Term) (gs : List Group) (g : Ground) (q : Progress) : Type 0 where
  pub taken : List Group
  pub due : List Question
  pub walk : Until one_pass_next (holds (own ε [] t) ∷ []) taken due
  pub groups_are : gs ≡ taken ++ q.left
  pub counted : q.comparisons ≡ length taken
  pub stops_at : StopsAt due q.left g

pub record Grounds : Type 0 where
  pub stopped_so : (t : Term) (gs : List Group) (g : Ground) (q : Progress) → Closed 0 t → check_term t gs ≡ stopped g q → Stopped t gs g q

-- 8. Limits alone (request (h)). With groups by which the one-pass rules hold of the term a check passes, and takes them all, or a limit
-- stops it.
pub record OnlyLimits : Type 0 where
  pub passed_all : (t : Term) (gs : List Group) (q : Progress) → With one_pass_next (own ε [] t) gs → check_term t gs ≡ passed q → (q.left ≡ []) × (q.comparisons ≡ length gs)
  pub stopped_by_one : (t : Term) (gs : List Group) (g : Ground) (q : Progress) → With one_pass_next (own ε [] t) gs → check_term t gs ≡ stopped g q → number g ≡ outgrown
