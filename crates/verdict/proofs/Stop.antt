-- Whatever happens: how many comparisons are completed, how many turns are taken, and that a stop has a number.
-- Assumes nothing.
use Prim.Native.Nat.{ℕ, suc, ◌+◌, ◌≤◌}
use mathlib.Core.Path.{◌≡◌, refl, ap}
use mathlib.Core.Logic.{◌⊎◌, inl, inr}
use mathlib.Core.Option.{Option, none, some}
use mathlib.Core.List.{List, [], ◌∷◌, ◌++◌}
use native.Mathlib.Omega.{arith}
use lib.ListN.{length}
use Rattle.calculus.specs.Terms.{Term, tau, var, app, abs, applicators, lift, Closed}
use Rattle.calculus.specs.Frames.{Entry, domain, Frame, ε, depth, entry_at, closed_empty}
use Rattle.calculus.specs.Rules.{State, own, copied, Comparison, compare, Question, holds, same, Stop, waiting, waiting_copied, unbound, no_rule, Next, asks, stops, typed, one_pass_next}
use Rattle.calculus.specs.Walks.{finished, Walk, walk_same, walk_asks, walk_stops, passed_empty}
use Rattle.calculus.specs.Walks as Walks
use Rattle.calculus.proofs.Agree.{length_lift_all}
use Rattle.calculus.proofs.Copy.{copying}
use Rattle.verdict.specs.Verdict.{Item, state_at, Ground, ground_of, Progress, turned, Run, passed, stopped, number}
use Rattle.verdict.specs.Claims.{progress_of, waiting_in}
use Rattle.verdict.proofs.Turns.{Numbered}
use Rattle.verdict.proofs.BigStep.{BigStep, big_end, big_outgrown, big_wanting, big_asks, big_met, big_refused}
use Rattle.verdict.proofs.Sound.{Asks, asks_none, asks_state, asks_same, asks_next}

-- TURNS: as many as the machine took
pub turns_taken : {k : ℕ} {is : List Item} {p : Progress} {x : Run} → BigStep k is p x → (progress_of x).turns ≡ p.turns + k
unfolding progress_of turned
turns_taken big_end = omega arith
turns_taken (big_outgrown h) = refl
turns_taken (big_wanting h e) = refl
turns_taken (big_asks h e b) = omega (arith, turns_taken b)
turns_taken (big_met m b) = omega (arith, turns_taken b, m.turns)
turns_taken (big_refused r) = r.moved.turns

-- GROUPS: each completed comparison takes one
pub groups_taken : {k : ℕ} {is : List Item} {p : Progress} {x : Run} → BigStep k is p x → (progress_of x).comparisons + length (progress_of x).left ≡ p.comparisons + length p.left
unfolding progress_of turned
groups_taken big_end = refl
groups_taken (big_outgrown h) = refl
groups_taken (big_wanting h e) = refl
groups_taken (big_asks h e b) = groups_taken b
groups_taken (big_met m b) = omega (arith, groups_taken b, m.counted, ap length m.taken)
groups_taken (big_refused r) = omega (arith, r.moved.comparisons, ap length r.moved.left)

-- COMPARISONS that questions may come to
unfoldable pub may_state : State → ℕ
may_state (own R W B) = length W + applicators B
may_state (copied R W Y B) = length W

unfoldable pub may : List Question → ℕ
may [] = 0
may (holds s ∷ qs) = may_state s + may qs
may (same c ∷ qs) = suc (may qs)

-- at most n wait in each state, and in own text at most one more
abbrev pub FewWait : ℕ → List Question → Type 0
FewWait n [] = Unit {0}
FewWait n (holds (own R W B) ∷ qs) = (length W ≤ suc n) × FewWait n qs
FewWait n (holds (copied R W Y B) ∷ qs) = (length W ≤ n) × FewWait n qs
FewWait n (same c ∷ qs) = FewWait n qs

-- no rule asks for more of either
abbrev NoMore : State → Next → Type 0
NoMore s (asks qs) = (may qs ≤ may_state s) × FewWait (length (waiting_in s)) qs
NoMore s (stops x) = Unit {0}

typed_no_more : (o : Option Entry) (R : Frame) (W Y : List Term) (k : ℕ) → NoMore (copied R W Y (var k)) (typed o (λ e. copied R W Y (lift k 0 (domain e))))
unfolding typed may may_state waiting_in
typed_no_more none R W Y k = tt
typed_no_more (some e) R W Y k = omega arith

rule_no_more : (s : State) → NoMore s (one_pass_next s)
unfolding one_pass_next may may_state waiting_in applicators
rule_no_more (own R [] tau) = omega arith
rule_no_more (own R (K ∷ W) tau) = tt
rule_no_more (own R W (app K B)) = omega arith
rule_no_more (own R [] (abs U B)) = omega arith
rule_no_more (own R (K ∷ W) (abs U B)) = omega (arith, length_lift_all W)
rule_no_more (own R W (var k)) = omega arith
rule_no_more (copied R [] [] tau) = omega arith
rule_no_more (copied R (K ∷ W) [] tau) = tt
rule_no_more (copied R W (K ∷ Y) tau) = tt
rule_no_more (copied R W Y (var k)) = typed_no_more (entry_at R k) R W Y k
rule_no_more (copied R W Y (app K B)) = omega arith
rule_no_more (copied R [] [] (abs U B)) = omega arith
rule_no_more (copied R (K ∷ W) [] (abs U B)) = omega (arith, length_lift_all W)
rule_no_more (copied R W (K ∷ Y) (abs U B)) = omega (arith, length_lift_all W)

pub no_more : (s : State) {qs : List Question} → one_pass_next s ≡ asks qs → (may qs ≤ may_state s) × FewWait (length (waiting_in s)) qs
no_more s e = rw e at (rule_no_more s)

may_append : (ps qs : List Question) → may (ps ++ qs) ≡ may ps + may qs
unfolding may
may_append [] qs = omega arith
may_append (holds s ∷ ps) qs = omega (arith, may_append ps qs)
may_append (same c ∷ ps) qs = omega (arith, may_append ps qs)

pub at_most : {k : ℕ} {is : List Item} {p : Progress} {x : Run} {qs : List Question} → BigStep k is p x → Asks qs is → (progress_of x).comparisons ≤ p.comparisons + may qs
unfolding progress_of turned may
at_most big_end a = omega arith
at_most (big_outgrown h) a = omega arith
at_most (big_wanting h e) a = omega arith
at_most (big_asks {i = i} {ws} {s} {qs = ps} h e b) (asks_state {qs = qs} a) = omega (arith, at_most b (asks_next i ws ps a), may_append ps qs, (no_more s e).0)
at_most (big_met m b) (asks_same a) = omega (arith, at_most b a, m.counted)
at_most (big_refused r) a = omega (arith, r.moved.comparisons)

-- A STOP has a number, or it is one of the walk, and not because something waits
record Wants (qs : List Question) : Type 0 where
  why : Stop
  other : why ≡ waiting → ⊥
  before : List Comparison
  walk : Walk one_pass_next qs before (Walks.stopped why)

abbrev Ends : List Question → Run → Type 0
Ends qs (passed q) = Unit {0}
Ends qs (stopped g q) = Numbered g ⊎ Wants qs

wants : (i : ℕ) (ws : List ℕ) {s : State} {qs : List Question} (x : Stop) → one_pass_next s ≡ stops x → Numbered (ground_of i ws x) ⊎ Wants (holds s ∷ qs)
unfolding ground_of number
wants i ws waiting e = inl (omega arith)
wants i ws waiting_copied e = inr (record { why = waiting_copied; other = λ q. let z : ◌≡◌ {A = ℕ} 0 1 = cc in omega arith; before = []; walk = walk_stops e })
wants i ws unbound e = inr (record { why = unbound; other = λ q. let z : ◌≡◌ {A = ℕ} 0 1 = cc in omega arith; before = []; walk = walk_stops e })
wants i ws no_rule e = inr (record { why = no_rule; other = λ q. let z : ◌≡◌ {A = ℕ} 0 1 = cc in omega arith; before = []; walk = walk_stops e })

-- a walk of what replaces the questions is one of the questions
more_wants : {ps qs : List Question} (x : Run) → (Wants ps → Wants qs) → Ends ps x → Ends qs x
more_wants (passed q) f e = tt
more_wants (stopped g q) f (inl n) = inl n
more_wants (stopped g q) f (inr w) = inr (f w)

in_walk : {k : ℕ} {is : List Item} {p : Progress} {x : Run} {qs : List Question} → BigStep k is p x → Asks qs is → Ends qs x
unfolding number
in_walk big_end a = tt
in_walk (big_outgrown h) a = inl (omega arith)
in_walk (big_wanting {i} {ws} {x = x} h g) (asks_state a) = wants i ws x g
in_walk (big_asks {i = i} {ws} {qs = ps} {x = x} h g b) (asks_state a) =
    more_wants x (λ w. record { why = w.why; other = w.other; before = w.before; walk = walk_asks g w.walk }) (in_walk b (asks_next i ws ps a))
in_walk (big_met {R = R} {K = K} {U = U} {x = x} m b) (asks_same a) =
    more_wants x (λ w. record { why = w.why; other = w.other; before = compare R K U ∷ w.before; walk = walk_same w.walk }) (in_walk b a)
in_walk (big_refused r) a = inl r.numbered

pub numbered : {k : ℕ} {ws : List ℕ} (t : Term) {p q : Progress} {g : Ground} → Closed 0 t → BigStep k (state_at 0 ws (own ε [] t) ∷ []) p (stopped g q) → Numbered g
unfolding depth
numbered {ws = ws} t {g = g} c b = go (in_walk b (asks_state asks_none))
  where
    never : (w : Wants (holds (own ε [] t) ∷ [])) → (Walks.stopped w.why ≡ finished) ⊎ (Walks.stopped w.why ≡ Walks.stopped waiting) → Numbered g
    never w (inl h) = let z : ◌≡◌ {A = ℕ} 0 1 = cc in let y : ⊥ = omega arith in absurd y
    never w (inr h) = absurd (w.other cc)

    go : Numbered g ⊎ Wants (holds (own ε [] t) ∷ []) → Numbered g
    go (inl n) = n
    go (inr w) = never w (copying.ends closed_empty c passed_empty w.walk)
