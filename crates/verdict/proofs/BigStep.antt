-- The check of a list of questions, question by question: there is one, and the machine makes it within its turns.
-- Assumes nothing.
use Prim.Native.Nat.{ℕ, zero, suc, ◌+◌, ◌≤◌}
use mathlib.Core.Path.{◌≡◌, refl, ap, sym, ◌∙◌}
use mathlib.Core.Bool.{Bool, true, false}
use mathlib.Core.List.{List, [], ◌∷◌, ◌++◌}
use native.Mathlib.Omega.{arith}
use Rattle.calculus.specs.Terms.{Term, tau, var, app, abs, size}
use Rattle.calculus.specs.Frames.{Frame}
use Rattle.calculus.specs.Rules.{State, own, copied, compare, Question, holds, same, Stop, Next, asks, stops, one_pass_next}
use Rattle.calculus.specs.Walks.{copied_states, own_states, states_of}
use Rattle.calculus.proofs.Demand.{counts, fewer}
use Rattle.verdict.specs.Bounds.{state_fits}
use Rattle.verdict.specs.Verdict.{Item, state_at, same_at, placed, Ground, state_outgrown, ground_of, Progress, turned, Run, passed, stopped, on_state, done, to_turn, replaced, turn_by}
use Rattle.verdict.specs.Verdict.{states, steps, finish_by, finish}
use Rattle.verdict.specs.Claims.{StateFits}
use Rattle.verdict.proofs.Turns.{Leads, here, turn_to, leads_then, run_leads, Meets, Refuses, Compared, meets, refuses, comparing}

-- k turns from the first question to the end
pub data BigStep : ℕ → List Item → Progress → Run → Type 0 where
  big_end : {p : Progress} → BigStep 0 [] p (passed p)
  big_outgrown : {i : ℕ} {ws : List ℕ} {s : State} {rest : List Item} {p : Progress} → state_fits s ≡ false → BigStep 1 (state_at i ws s ∷ rest) p (stopped (state_outgrown i) (turned 1 p))
  big_wanting : {i : ℕ} {ws : List ℕ} {s : State} {x : Stop} {rest : List Item} {p : Progress} → StateFits s → one_pass_next s ≡ stops x → BigStep 1 (state_at i ws s ∷ rest) p (stopped (ground_of i ws x) (turned 1 p))
  big_asks : {k i : ℕ} {ws : List ℕ} {s : State} {qs : List Question} {rest : List Item} {p : Progress} {x : Run} → StateFits s → one_pass_next s ≡ asks qs
      → BigStep k (placed i (suc i) ws qs ++ rest) (turned 1 p) x → BigStep (suc k) (state_at i ws s ∷ rest) p x
  big_met : {j k i : ℕ} {R : Frame} {K U : Term} {rest : List Item} {p q : Progress} {x : Run} → Meets i R K U p q j → BigStep k rest q x → BigStep (j + k) (same_at i R K U ∷ rest) p x
  big_refused : {k i : ℕ} {R : Frame} {K U : Term} {rest : List Item} {p q : Progress} {g : Ground} → Refuses i R K U p g q k → BigStep k (same_at i R K U ∷ rest) p (stopped g q)

-- THE MACHINE makes it
pub big_leads : {k : ℕ} {is : List Item} {p : Progress} {x : Run} → BigStep k is p x → Leads k (to_turn is p) (done x)
unfolding to_turn turn_by replaced
big_leads big_end = here
big_leads (big_outgrown {i} {ws} {s} {rest} {p} h) = turn_to (on_state i ws s rest) p (rw h) here
big_leads (big_wanting {i} {ws} {s} {rest = rest} {p = p} h e) = turn_to (on_state i ws s rest) p (rw (h, e)) here
big_leads (big_asks {i = i} {ws} {s} {rest = rest} {p = p} h e b) = turn_to (on_state i ws s rest) p (rw (h, e)) (big_leads b)
big_leads (big_met {rest = rest} m b) = leads_then (m.leads rest) (big_leads b)
big_leads (big_refused {rest = rest} r) = r.leads rest

-- STATES: each rule leads to fewer
states_placed : (i on : ℕ) (ws : List ℕ) (qs : List Question) (rest : List Item) → states (placed i on ws qs ++ rest) ≡ counts states_of qs + states rest
unfolding placed states counts
states_placed i on ws [] rest = omega arith
states_placed i on ws (holds (own R W B) ∷ qs) rest = omega (arith, states_placed i (on + size B) ws qs rest)
states_placed i on ws (holds (copied R W Y B) ∷ qs) rest = omega (arith, states_placed i on ws qs rest)
states_placed i on ws (same (compare R K U) ∷ qs) rest = omega (arith, states_placed i on ws qs rest)

positive : (s : State) → 1 ≤ states_of s
unfolding states_of own_states copied_states
positive (own R W tau) = omega arith
positive (own R W (var k)) = omega arith
positive (own R W (app K B)) = omega arith
positive (own R W (abs U B)) = omega arith
positive (copied R W Y tau) = omega arith
positive (copied R W Y (var k)) = omega arith
positive (copied R W Y (app K B)) = omega arith
positive (copied R W Y (abs U B)) = omega arith

-- ONE THERE IS, with no more turns than states and steps
record Ran (is : List Item) (p : Progress) : Type 0 where
  many : ℕ
  result : Run
  big : BigStep many is p result
  few : many ≤ states is + steps p.left

ran_state : (i : ℕ) (ws : List ℕ) (s : State) (rest : List Item) (p : Progress)
    → ((qs : List Question) → one_pass_next s ≡ asks qs → Ran (placed i (suc i) ws qs ++ rest) (turned 1 p)) → Ran (state_at i ws s ∷ rest) p
unfolding states turned
ran_state i ws s rest p ih = fitting (state_fits s) refl
  where
    ruled : StateFits s → (n : Next) → one_pass_next s ≡ n → Ran (state_at i ws s ∷ rest) p
    ruled h (asks qs) e =
        let r = ih qs e in
        record { many = suc r.many; result = r.result; big = big_asks h e r.big; few = omega (arith, r.few, states_placed i (suc i) ws qs rest, fewer s e) }
    ruled h (stops x) e = record { many = 1; result = stopped (ground_of i ws x) (turned 1 p); big = big_wanting h e; few = omega (arith, positive s) }

    fitting : (b : Bool) → state_fits s ≡ b → Ran (state_at i ws s ∷ rest) p
    fitting true h = ruled h (one_pass_next s) refl
    fitting false h = record { many = 1; result = stopped (state_outgrown i) (turned 1 p); big = big_outgrown h; few = omega (arith, positive s) }

ran_same : (i : ℕ) (R : Frame) (K U : Term) (rest : List Item) (p : Progress) → ((q : Progress) → Ran rest q) → Ran (same_at i R K U ∷ rest) p
unfolding states steps
ran_same i R K U rest p ih = go (comparing i R K U p)
  where
    go : Compared i R K U p → Ran (same_at i R K U ∷ rest) p
    go (meets {q = q} {k = k} m) =
        let r = ih q in
        record { many = k + r.many; result = r.result; big = big_met m r.big; few = omega (arith, r.few, m.many, ap steps m.taken) }
    go (refuses {g = g} {q = q} {k = k} x) = record { many = k; result = stopped g q; big = big_refused x; few = omega (arith, x.many) }

-- with at most n states in question
ran_on : (n : ℕ) → ((is : List Item) (p : Progress) → suc (states is) ≤ n → Ran is p) → (is : List Item) (p : Progress) → states is ≤ n → Ran is p
unfolding states
ran_on n ih [] p h = record { many = 0; result = passed p; big = big_end; few = omega arith }
ran_on n ih (state_at i ws s ∷ rest) p h = ran_state i ws s rest p (λ qs e. ih _ (turned 1 p) (omega (arith, states_placed i (suc i) ws qs rest, fewer s e)))
ran_on n ih (same_at i R K U ∷ rest) p h = ran_same i R K U rest p (λ q. ran_on n ih rest q h)

ran : (n : ℕ) (is : List Item) (p : Progress) → states is ≤ n → Ran is p
ran zero is p h = ran_on zero (λ bs q k. let z : ⊥ = omega arith in absurd z) is p h
ran (suc n) is p h = ran_on (suc n) (λ bs q k. ran n bs q (omega arith)) is p h

-- THE CHECK is it
pub finish_big : (is : List Item) (p : Progress) → (k : ℕ) × BigStep k is p (finish is p) × (k ≤ states is + steps p.left)
unfolding finish_by
finish_big is p =
    let r = ran (states is) is p (omega arith) in
    (r.many, rw (run_leads (states is + steps p.left) (big_leads r.big) r.few) r.big, r.few)

pub finish_is : {k : ℕ} {is : List Item} {p : Progress} {x : Run} → BigStep k is p x → finish is p ≡ x
finish_is {k} {is} {p} b = let f = finish_big is p in sym (run_leads (f.0 + k) (big_leads f.1) (omega arith)) ∙ run_leads (f.0 + k) (big_leads b) (omega arith)
