-- What stopped a check is what the one-pass rules reach.
-- Assumes nothing.
use Prim.Native.Nat.{ℕ, suc, ◌+◌, ◌-◌, ◌≤◌}
use mathlib.Core.Path.{◌≡◌, refl, ap, sym, ◌∙◌}
use mathlib.Core.List.{List, [], ◌∷◌, ◌++◌}
use native.Mathlib.Nat.{zero-add}
use native.Mathlib.Omega.{arith}
use lib.ListN.{length, length-drop}
use Rattle.calculus.specs.Terms.{Term, size, Closed}
use Rattle.calculus.specs.Frames.{Frame}
use Rattle.calculus.specs.Rules.{Group, State, own, copied, compare, Question, holds, same, Stop, waiting, waiting_copied, unbound, no_rule, asks, stops, one_pass_next}
use Rattle.verdict.specs.Verdict.{Item, state_at, same_at, last, placed, Ground, ground_of, Progress, turned, Run, passed, stopped, asked, begun, check_term_by, check_term, number}
use Rattle.verdict.specs.Claims.{Until, until_here, until_met, until_asks, waiting_in, StopsAt, outgrown_state, waiting_state, Stopped, Grounds}
use Rattle.verdict.proofs.Turns.{Numbered, Meets}
use Rattle.verdict.proofs.BigStep.{BigStep, big_end, big_outgrown, big_wanting, big_asks, big_met, big_refused, finish_big}
use Rattle.verdict.proofs.Sound.{Asks, asks_none, asks_state, asks_same, asks_next}
use Rattle.verdict.proofs.Stop.{FewWait, no_more, numbered}

-- PLACES: each state has as many as wait in it
abbrev Waits : List Item → Type 0
Waits [] = Unit {0}
Waits (state_at i ws s ∷ is) = (length ws ≡ length (waiting_in s)) × Waits is
Waits (same_at i R K U ∷ is) = Waits is

length_last : (n : ℕ) (ws : List ℕ) → n ≤ length ws → length (last n ws) ≡ n
unfolding last
length_last n ws h = omega (arith, length-drop (length ws - n) ws)

waits_placed : (i on : ℕ) (ws : List ℕ) (qs : List Question) (is : List Item) → FewWait (length ws) qs → Waits is → Waits (placed i on ws qs ++ is)
unfolding placed waiting_in
waits_placed i on ws [] is f w = w
waits_placed i on ws (holds (own R W B) ∷ qs) is f w = (length_last (length W) (i ∷ ws) f.0, waits_placed i (on + size B) ws qs is f.1 w)
waits_placed i on ws (holds (copied R W Y B) ∷ qs) is f w = (length_last (length W) ws f.0, waits_placed i on ws qs is f.1 w)
waits_placed i on ws (same (compare R K U) ∷ qs) is f w = waits_placed i on ws qs is f w

waits_next : (i : ℕ) (ws : List ℕ) (s : State) {qs : List Question} (is : List Item) → one_pass_next s ≡ asks qs → Waits (state_at i ws s ∷ is) → Waits (placed i (suc i) ws qs ++ is)
waits_next i ws s {qs} is e w = waits_placed i (suc i) ws qs is (rw w.0 (no_more s e).1) w.1

-- THE WALK, from any questions and any progress: a stop with a number is at what is due
record Comes (qs : List Question) (p : Progress) (g : Ground) (q : Progress) : Type 0 where
  taken : List Group
  due : List Question
  walk : Until one_pass_next qs taken due
  groups_are : p.left ≡ taken ++ q.left
  counted : q.comparisons ≡ p.comparisons + length taken
  stops_at : StopsAt due q.left g

abbrev Ends : List Question → Progress → Run → Type 0
Ends qs p (passed q) = Unit {0}
Ends qs p (stopped g q) = Numbered g → Comes qs p g q

ends_before : {ps qs : List Question} {p r : Progress} (x : Run) → ((g : Ground) (q : Progress) → Comes ps r g q → Comes qs p g q) → Ends ps r x → Ends qs p x
ends_before (passed q) f e = tt
ends_before (stopped g q) f e = λ n. f g q (e n)

at_once : {qs : List Question} {p q : Progress} {g : Ground} → StopsAt qs p.left g → q.left ≡ p.left → q.comparisons ≡ p.comparisons → Comes qs p g q
at_once {qs} s l c = record { taken = []; due = qs; walk = until_here; groups_are = sym l; counted = omega arith; stops_at = rw l s }

at_wanting : (i : ℕ) (ws : List ℕ) {s : State} {qs : List Question} {p : Progress} (x : Stop) → one_pass_next s ≡ stops x → length ws ≡ length (waiting_in s) → Ends (holds s ∷ qs) p (stopped (ground_of i ws x) (turned 1 p))
unfolding ground_of number turned
at_wanting i ws waiting e w n = at_once (rw w (waiting_state e)) refl refl
at_wanting i ws waiting_copied e w n = let z : ⊥ = omega arith in absurd z
at_wanting i ws unbound e w n = let z : ⊥ = omega arith in absurd z
at_wanting i ws no_rule e w n = let z : ⊥ = omega arith in absurd z

comes_met : {i k : ℕ} {R : Frame} {K U : Term} {qs : List Question} {p r q : Progress} {g : Ground} → Meets i R K U p r k → Comes qs r g q → Comes (same (compare R K U) ∷ qs) p g q
comes_met m c = record {
  taken = m.met.group ∷ c.taken;
  due = c.due;
  walk = until_met m.met c.walk;
  groups_are = m.taken ∙ ap (λ (l : List Group). m.met.group ∷ l) c.groups_are;
  counted = omega (arith, c.counted, m.counted);
  stops_at = c.stops_at;
}

comes_asks : {s : State} {ps qs : List Question} {p q : Progress} {g : Ground} → one_pass_next s ≡ asks ps → Comes (ps ++ qs) (turned 1 p) g q → Comes (holds s ∷ qs) p g q
unfolding turned
comes_asks e c = record { taken = c.taken; due = c.due; walk = until_asks e c.walk; groups_are = c.groups_are; counted = c.counted; stops_at = c.stops_at }

ends : {k : ℕ} {is : List Item} {p : Progress} {x : Run} {qs : List Question} → BigStep k is p x → Asks qs is → Waits is → Ends qs p x
unfolding turned
ends big_end a w = tt
ends (big_outgrown h) (asks_state a) w = λ n. at_once (outgrown_state h) refl refl
ends (big_wanting {i} {ws} {x = x} h e) (asks_state a) w = at_wanting i ws x e w.0
ends (big_asks {i = i} {ws} {s} {qs = ps} {rest = rest} {x = x} h e b) (asks_state a) w = ends_before x (λ g q c. comes_asks e c) (ends b (asks_next i ws ps a) (waits_next i ws s rest e w))
ends (big_met {x = x} m b) (asks_same a) w = ends_before x (λ g q c. comes_met m c) (ends b a w)
ends (big_refused r) (asks_same {qs = qs} a) w = λ n. at_once (r.stops_at qs) r.moved.left r.moved.comparisons

stopped_so : (t : Term) (gs : List Group) (g : Ground) (q : Progress) → Closed 0 t → check_term t gs ≡ stopped g q → Stopped t gs g q
unfolding check_term_by waiting_in
stopped_so t gs g q h e =
    let b = rw e at (finish_big (asked t) (begun gs)).1 in
    let c = ends b (asks_state asks_none) (refl, tt) (numbered t h b) in
    record { taken = c.taken; due = c.due; walk = c.walk; groups_are = c.groups_are; counted = c.counted ∙ zero-add (length c.taken); stops_at = c.stops_at }

pub grounds : Grounds
grounds = record { stopped_so = stopped_so }
