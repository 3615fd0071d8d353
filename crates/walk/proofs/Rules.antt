-- The rules as runs: what the check of a state comes to, one rule after the other.
-- Assumes nothing.
use Prim.Native.Nat.{ℕ, suc, ◌+◌}
use mathlib.Core.Path.{◌≡◌, ap, sym, ◌∙◌}
use mathlib.Core.Bool.{Bool, true, false, cond}
use mathlib.Core.Option.{some}
use mathlib.Core.List.{List, [], ◌∷◌}
use lib.ListN.{length}
use Rattle.calculus.specs.Terms.{Term, tau, var, app, abs, size, lift}
use Rattle.calculus.specs.Frames.{Entry, single, pair, domain, Frame, ◌▹◌, entry_at}
use Rattle.calculus.specs.Rules.{lift_all, State, own, copied, typed, one_pass_next}
use Rattle.calculus.proofs.Agree.{length_lift_all}
use Rattle.verdict.specs.Bounds.{state_fits}
use Rattle.verdict.specs.Verdict.{Item, state_at, same_at, placed, ground_of, something_waits, state_outgrown, not_reached, Progress, turned, passed, stopped, and_then, finish}
use Rattle.verdict.specs.Claims.{follow}
use Rattle.verdict.proofs.Laws.{running, last_none, last_all, last_one, last_two}
use Rattle.waiting.specs.Waiting.{Waiting, terms_of, places, lift_waiting}
use Rattle.waiting.proofs.Queues.{terms_lift, places_lift, places_length}
use Rattle.walk.specs.State.{state_of, questions, rest_of, agenda_of}

-- As many wait as terms do, also once they are lifted.
many : (W : List Waiting) → length (terms_of W) ≡ length (places W)
many W = sym (places_length W)

many_lifted : (W : List Waiting) → length (lift_all (terms_of W)) ≡ length (places W)
many_lifted W = length_lift_all (terms_of W) ∙ many W

first_of : (a : Item) (is : List Item) (p : Progress) → finish (a ∷ is) p ≡ and_then (finish (a ∷ []) p) (finish is)
first_of a is p = running.in_parts (a ∷ []) is p

-- ---- Before the rule.
pub run_outgrown : (b : Bool) (place : ℕ) (R : Frame) (W Q : List Waiting) (B : Term) (p : Progress) → state_fits (state_of b R W Q B) ≡ false
    → finish (agenda_of false b place R W Q B) p ≡ stopped (state_outgrown place) (turned 1 p)
unfolding agenda_of
run_outgrown b place R W Q B p h = running.outgrown place (places W) (state_of b R W Q B) p h

-- ---- (i) and (vi).
pub run_tau_passes : (b : Bool) (place : ℕ) (R : Frame) (p : Progress) → state_fits (state_of b R [] [] tau) ≡ true → finish (agenda_of false b place R [] [] tau) p ≡ passed (turned 1 p)
unfolding agenda_of state_of terms_of places one_pass_next follow placed
run_tau_passes true place R p h = running.by_its_rule place [] (own R [] tau) p h ∙ running.nothing (turned 1 p)
run_tau_passes false place R p h = running.by_its_rule place [] (copied R [] [] tau) p h ∙ running.nothing (turned 1 p)

pub run_tau_waits : (b : Bool) (place : ℕ) (R : Frame) (w : Waiting) (W : List Waiting) (p : Progress) → state_fits (state_of b R (w ∷ W) [] tau) ≡ true
    → finish (agenda_of false b place R (w ∷ W) [] tau) p ≡ stopped (something_waits w.place (length (places (w ∷ W)))) (turned 1 p)
unfolding agenda_of state_of terms_of places one_pass_next follow ground_of
run_tau_waits true place R w W p h = running.by_its_rule place (places (w ∷ W)) (own R (terms_of (w ∷ W)) tau) p h
run_tau_waits false place R w W p h = running.by_its_rule place (places (w ∷ W)) (copied R (terms_of (w ∷ W)) [] tau) p h

pub run_tau_never : (place : ℕ) (R : Frame) (W : List Waiting) (w : Waiting) (Q : List Waiting) (p : Progress) → state_fits (state_of false R W (w ∷ Q) tau) ≡ true
    → finish (agenda_of false false place R W (w ∷ Q) tau) p ≡ stopped (not_reached place) (turned 1 p)
unfolding agenda_of state_of terms_of one_pass_next follow ground_of
run_tau_never place R W w Q p h = running.by_its_rule place (places W) (copied R (terms_of W) (terms_of (w ∷ Q)) tau) p h

-- ---- (vii) and (viii).
pub run_met : (place : ℕ) (R : Frame) (W : List Waiting) (k : ℕ) (p : Progress) → state_fits (state_of true R W [] (var k)) ≡ true
    → finish (agenda_of false true place R W [] (var k)) p ≡ finish (agenda_of false false place R W [] (var k)) (turned 1 p)
unfolding agenda_of state_of terms_of one_pass_next follow placed
run_met place R W k p h =
    running.by_its_rule place (places W) (own R (terms_of W) (var k)) p h
    ∙ rw (last_all (length (terms_of W)) (places W) (many W))

pub run_typed : (place : ℕ) (R : Frame) (W Q : List Waiting) (k : ℕ) (e : Entry) (p : Progress) → entry_at R k ≡ some e → state_fits (state_of false R W Q (var k)) ≡ true
    → finish (agenda_of false false place R W Q (var k)) p ≡ finish (agenda_of false false place R W Q (lift k 0 (domain e))) (turned 1 p)
unfolding agenda_of state_of one_pass_next typed follow placed
run_typed place R W Q k e p i h =
    running.by_its_rule place (places W) (copied R (terms_of W) (terms_of Q) (var k)) p h
    ∙ rw (i, last_all (length (terms_of W)) (places W) (many W))

-- ---- What stands inside the first wagon, and then the rest: (iii), (iv) and (v).
pub run_inner_app : (place : ℕ) (R : Frame) (W : List Waiting) (K X : Term) (p : Progress) → state_fits (state_of true R W [] (app K X)) ≡ true
    → finish (agenda_of false true place R W [] (app K X)) p ≡ and_then (finish (agenda_of false true (suc place) R [] [] K) (turned 1 p)) (finish (rest_of true place R W [] (app K X)))
unfolding agenda_of rest_of questions state_of terms_of places one_pass_next follow placed
run_inner_app place R W K X p h =
    running.by_its_rule place (places W) (own R (terms_of W) (app K X)) p h
    ∙ first_of _ _ (turned 1 p)
    ∙ rw (last_none (place ∷ places W))

pub run_inner_abs : (place : ℕ) (R : Frame) (W : List Waiting) (U X : Term) (p : Progress) → state_fits (state_of true R W [] (abs U X)) ≡ true
    → finish (agenda_of false true place R W [] (abs U X)) p ≡ and_then (finish (agenda_of false true (suc place) R [] [] U) (turned 1 p)) (finish (rest_of true place R W [] (abs U X)))
unfolding agenda_of rest_of questions state_of terms_of places one_pass_next follow placed
run_inner_abs place R [] U X p h =
    running.by_its_rule place [] (own R [] (abs U X)) p h
    ∙ first_of _ _ (turned 1 p)
    ∙ rw (last_none (place ∷ []))
run_inner_abs place R (w ∷ W) U X p h =
    running.by_its_rule place (places (w ∷ W)) (own R (terms_of (w ∷ W)) (abs U X)) p h
    ∙ first_of _ _ (turned 1 p)
    ∙ rw (last_none (place ∷ places (w ∷ W)))

-- ---- In copied text nothing inside is asked for.
pub run_copied_app : (place : ℕ) (R : Frame) (W Q : List Waiting) (K X : Term) (p : Progress) → state_fits (state_of false R W Q (app K X)) ≡ true
    → finish (agenda_of false false place R W Q (app K X)) p ≡ finish (rest_of false place R W Q (app K X)) (turned 1 p)
unfolding agenda_of rest_of questions state_of one_pass_next follow
run_copied_app place R W Q K X p h = running.by_its_rule place (places W) (copied R (terms_of W) (terms_of Q) (app K X)) p h

pub run_copied_abs : (place : ℕ) (R : Frame) (W Q : List Waiting) (U X : Term) (p : Progress) → state_fits (state_of false R W Q (abs U X)) ≡ true
    → finish (agenda_of false false place R W Q (abs U X)) p ≡ finish (rest_of false place R W Q (abs U X)) (turned 1 p)
unfolding agenda_of rest_of questions state_of terms_of one_pass_next follow
run_copied_abs place R [] [] U X p h = running.by_its_rule place (places []) (copied R [] [] (abs U X)) p h
run_copied_abs place R (w ∷ W) [] U X p h = running.by_its_rule place (places (w ∷ W)) (copied R (terms_of (w ∷ W)) [] (abs U X)) p h
run_copied_abs place R W (w ∷ Q) U X p h = running.by_its_rule place (places W) (copied R (terms_of W) (terms_of (w ∷ Q)) (abs U X)) p h

-- ---- The rest of an applicator: (iii) and (ix).
pub rest_app_own : (place : ℕ) (R : Frame) (W : List Waiting) (K X : Term) (p : Progress)
    → finish (rest_of true place R W [] (app K X)) p ≡ finish (agenda_of false true (suc place + size K) R (record { place = place; term = K } ∷ W) [] X) p
unfolding agenda_of rest_of questions state_of terms_of places one_pass_next placed
rest_app_own place R W K X p = rw (last_all (suc (length (terms_of W))) (place ∷ places W) (ap suc (many W)))

pub rest_app_copied : (place o : ℕ) (R : Frame) (W Q : List Waiting) (K X : Term) (p : Progress)
    → finish (rest_of false place R W Q (app K X)) p ≡ finish (agenda_of false false place R W (record { place = o; term = K } ∷ Q) X) p
unfolding agenda_of rest_of questions state_of terms_of one_pass_next placed
rest_app_copied place o R W Q K X p = rw (last_all (length (terms_of W)) (places W) (many W))

-- ---- The rest of an abstractor. Nothing waits: (iv) and (x).
pub rest_alone : (b : Bool) (place : ℕ) (R : Frame) (U X : Term) (p : Progress)
    → finish (rest_of b place R [] [] (abs U X)) p ≡ finish (agenda_of false b (cond b (suc place + size U) place) (R ▹ single U) [] [] X) p
unfolding agenda_of rest_of questions state_of terms_of places one_pass_next placed
rest_alone true place R U X p = rw (last_none (place ∷ []))
rest_alone false place R U X p = rw (last_none [])

-- what waits, lifted past an abstractor
lifted : (i : ℕ) (W : List Waiting) (f : List Term → State) → state_at i (places W) (f (lift_all (terms_of W))) ∷ [] ≡ state_at i (places (lift_waiting W)) (f (terms_of (lift_waiting W))) ∷ []
lifted i W f = rw (places_lift W, terms_lift W)

-- An applicator of W waits: (v) and (xi).
pub rest_waiting : (b : Bool) (place : ℕ) (R : Frame) (w : Waiting) (W : List Waiting) (U X : Term) (p : Progress)
    → finish (rest_of b place R (w ∷ W) [] (abs U X)) p
    ≡ and_then (finish (same_at w.place R w.term U ∷ []) p) (finish (agenda_of false b (cond b (suc place + size U) place) (R ▹ pair w.term U) (lift_waiting W) [] X))
unfolding agenda_of rest_of questions state_of terms_of places one_pass_next placed
rest_waiting true place R w W U X p =
    rw (last_two (length (lift_all (terms_of W))) place w.place (places W) (many_lifted W))
    (first_of _ _ p ∙ ap (λ (l : List Item). and_then (finish (same_at w.place R w.term U ∷ []) p) (finish l)) (lifted (suc place + size U) W (λ L. own (R ▹ pair w.term U) L X)))
rest_waiting false place R w W U X p =
    rw (last_one (length (lift_all (terms_of W))) w.place (places W) (many_lifted W))
    (first_of _ _ p ∙ ap (λ (l : List Item). and_then (finish (same_at w.place R w.term U ∷ []) p) (finish l)) (lifted place W (λ L. copied (R ▹ pair w.term U) L [] X)))

-- One of Y waits: (xii).
pub rest_copied : (place : ℕ) (R : Frame) (W : List Waiting) (w : Waiting) (Q : List Waiting) (U X : Term) (p : Progress)
    → finish (rest_of false place R W (w ∷ Q) (abs U X)) p ≡ finish (agenda_of false false place (R ▹ pair w.term U) (lift_waiting W) (lift_waiting Q) X) p
unfolding agenda_of rest_of questions state_of terms_of one_pass_next placed
rest_copied place R W w Q U X p = rw (last_all (length (lift_all (terms_of W))) (places W) (many_lifted W), places_lift W, terms_lift W, terms_lift Q)
