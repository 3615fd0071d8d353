-- The machine read as a recursion, and turn by turn.
-- Assumes nothing.
use Prim.Native.Nat.{ℕ, zero, suc, ◌+◌, ◌-◌, ◌≤◌, ◌<◌}
use mathlib.Core.Path.{◌≡◌, refl, ap, sym, ◌∙◌, fun_ext}
use mathlib.Core.List.{List, [], ◌∷◌, ◌++◌, append_assoc, append-nil}
use native.Mathlib.Nat.{zero-add}
use native.Mathlib.Omega.{arith}
use lib.ListN.{length, drop_of_length-le}
use Rattle.calculus.specs.Terms.{Term, app, abs, size}
use Rattle.calculus.specs.Frames.{Frame, ◌▹◌, single, pair}
use Rattle.calculus.specs.Rules.{Group, lift_all, State, own, Next, asks, stops, one_pass_next}
use Rattle.calculus.specs.Walks.{own_states, frame_states, states_of}
use Rattle.calculus.proofs.Agree.{length_lift_all}
use Rattle.verdict.specs.Verdict.{Item, state_at, same_at, last, placed, Progress, turned, Run, and_then, Status, done, states, steps, finish, asked, begun, start, check_term_by, check_term}
use Rattle.verdict.specs.Claims.{StateFits, follow, Running, after_turns, progress_of, Turning}
use Rattle.verdict.proofs.Turns.{Leads, here, by_turn}
use Rattle.verdict.proofs.BigStep.{BigStep, big_end, big_outgrown, big_wanting, big_asks, big_met, big_refused, big_leads, finish_big, finish_is}
use Rattle.verdict.proofs.Stop.{turns_taken}

-- ONE BY ONE
big_append : {k : ℕ} {is : List Item} {p : Progress} {x : Run} → BigStep k is p x → (js : List Item) → (j : ℕ) × BigStep j (is ++ js) p (and_then x (finish js))
unfolding and_then
big_append {p = p} big_end js = let f = finish_big js p in (f.0, f.1)
big_append (big_outgrown h) js = (1, big_outgrown h)
big_append (big_wanting h e) js = (1, big_wanting h e)
big_append (big_asks {i = i} {ws} {qs = qs} {rest = rest} h e b) js =
    let r = big_append b js in (suc r.0, big_asks h e (rw (append_assoc (placed i (suc i) ws qs) rest js) at r.1))
big_append (big_met {j = j} m b) js = let r = big_append b js in (j + r.0, big_met m r.1)
big_append (big_refused {k = k} r) js = (k, big_refused r)

in_parts : (is js : List Item) (p : Progress) → finish (is ++ js) p ≡ and_then (finish is p) (finish js)
in_parts is js p = finish_is (big_append (finish_big is p).1 js).1

by_its_rule : (i : ℕ) (ws : List ℕ) (s : State) (p : Progress) → StateFits s → finish (state_at i ws s ∷ []) p ≡ follow i ws (one_pass_next s) (turned 1 p)
unfolding follow
by_its_rule i ws s p h = go (one_pass_next s) refl
  where
    go : (n : Next) → one_pass_next s ≡ n → finish (state_at i ws s ∷ []) p ≡ follow i ws n (turned 1 p)
    go (asks qs) e =
        let f = finish_big (placed i (suc i) ws qs) (turned 1 p) in
        let b : BigStep f.0 (placed i (suc i) ws qs ++ []) (turned 1 p) (finish (placed i (suc i) ws qs) (turned 1 p)) = rw (append-nil (placed i (suc i) ws qs)) f.1 in
        finish_is (big_asks h e b)
    go (stops x) e = finish_is (big_wanting h e)

-- THE TERM'S OWN TEXT
pub last_none : (ws : List ℕ) → last 0 ws ≡ []
unfolding last
last_none ws = drop_of_length-le ws {i = length ws - 0} (omega arith)

pub last_all : (n : ℕ) (ws : List ℕ) → n ≡ length ws → last n ws ≡ ws
unfolding last
last_all n ws h = let e : length ws - n ≡ 0 = omega arith in rw e

pub last_one : (n j : ℕ) (ws : List ℕ) → n ≡ length ws → last n (j ∷ ws) ≡ ws
unfolding last
last_one n j ws h = let e : suc (length ws) - n ≡ 1 = omega arith in rw e

pub last_two : (n i j : ℕ) (ws : List ℕ) → n ≡ length ws → last n (i ∷ j ∷ ws) ≡ ws
unfolding last
last_two n i j ws h = let e : suc (suc (length ws)) - n ≡ 2 = omega arith in rw e

two_parts : (a b : Item) (p : Progress) → finish (a ∷ b ∷ []) p ≡ and_then (finish (a ∷ []) p) (finish (b ∷ []))
two_parts a b p = in_parts (a ∷ []) (b ∷ []) p

at_app : (i : ℕ) (ws : List ℕ) (R : Frame) (W : List Term) (K B : Term) (p : Progress) → length ws ≡ length W → StateFits (own R W (app K B))
    → finish (state_at i ws (own R W (app K B)) ∷ []) p
    ≡ and_then (finish (state_at (suc i) [] (own R [] K) ∷ []) (turned 1 p)) (finish (state_at (suc i + size K) (i ∷ ws) (own R (K ∷ W) B) ∷ []))
unfolding one_pass_next follow placed
at_app i ws R W K B p l h =
    by_its_rule i ws (own R W (app K B)) p h
    ∙ two_parts _ _ (turned 1 p)
    ∙ rw (last_none (_ ∷ ws), last_all (length (K ∷ W)) (_ ∷ ws) (ap suc (sym l)))

at_abs : (i : ℕ) (R : Frame) (U B : Term) (p : Progress) → StateFits (own R [] (abs U B))
    → finish (state_at i [] (own R [] (abs U B)) ∷ []) p
    ≡ and_then (finish (state_at (suc i) [] (own R [] U) ∷ []) (turned 1 p)) (finish (state_at (suc i + size U) [] (own (R ▹ single U) [] B) ∷ []))
unfolding one_pass_next follow placed
at_abs i R U B p h =
    by_its_rule i [] (own R [] (abs U B)) p h
    ∙ two_parts _ _ (turned 1 p)
    ∙ rw (last_none (_ ∷ []))

at_pair : (i j : ℕ) (ws : List ℕ) (R : Frame) (W : List Term) (K U B : Term) (p : Progress) → length ws ≡ length W → StateFits (own R (K ∷ W) (abs U B))
    → finish (state_at i (j ∷ ws) (own R (K ∷ W) (abs U B)) ∷ []) p
    ≡ and_then (finish (state_at (suc i) [] (own R [] U) ∷ []) (turned 1 p)) (λ q. and_then (finish (same_at j R K U ∷ []) q)
    (finish (state_at (suc i + size U) ws (own (R ▹ pair K U) (lift_all W) B) ∷ [])))
unfolding one_pass_next follow placed
at_pair i j ws R W K U B p l h =
    by_its_rule i (j ∷ ws) (own R (K ∷ W) (abs U B)) p h
    ∙ rw (last_none (_ ∷ j ∷ ws), last_two (length (lift_all W)) _ j ws (length_lift_all W ∙ sym l)) (
    in_parts (state_at (suc i) [] (own R [] U) ∷ []) (same_at j R K U ∷ state_at (suc i + size U) ws (own (R ▹ pair K U) (lift_all W) B) ∷ []) (turned 1 p)
    ∙ ap (and_then _) (fun_ext (λ q. two_parts (same_at j R K U) _ q)))

pub running : Running
running = record {
  nothing = λ p. finish_is big_end;
  in_parts = in_parts;
  outgrown = λ i ws s p h. finish_is (big_outgrown h);
  by_its_rule = by_its_rule;
  at_app = at_app;
  at_abs = at_abs;
  at_pair = at_pair;
}

-- TURN BY TURN
leads_after : {k : ℕ} {a : Status} {x : Run} → Leads k a (done x) → after_turns k a ≡ done x
unfolding after_turns
leads_after here = refl
leads_after (by_turn d) = leads_after d

leads_before : {k : ℕ} {a : Status} {x y : Run} (n : ℕ) → Leads k a (done x) → n < k → after_turns n a ≡ done y → ⊥
unfolding after_turns
leads_before zero here h e = omega arith
leads_before (suc n) here h e = omega arith
leads_before zero (by_turn d) h e = let z : ◌≡◌ {A = ℕ} 0 1 = cc in omega arith
leads_before (suc n) (by_turn {k = k} d) h e = leads_before {k = k} n d (omega arith) e

whole : (t : Term) (gs : List Group) → (k : ℕ) × Leads k (start t gs) (done (check_term t gs)) × ((progress_of (check_term t gs)).turns ≡ k) × (k ≤ own_states [] t + steps gs)
unfolding start check_term_by states states_of frame_states
whole t gs = let f = finish_big (asked t) (begun gs) in (f.0, big_leads f.1, turns_taken f.1 ∙ zero-add f.0, omega (arith, f.2))

pub turning : Turning
turning = record {
  to_the_end = λ t gs. let w = whole t gs in rw w.2 (leads_after w.1);
  not_before = λ t gs n x h e. let w = whole t gs in leads_before n w.1 (rw w.2 at h) e;
  at_most = λ t gs. let w = whole t gs in omega (arith, w.2, w.3);
}
