-- With groups by which the rules hold, a check is stopped by a limit alone.
-- Assumes nothing.
use Prim.Native.Nat.{ℕ, ◌+◌}
use mathlib.Core.Path.{◌≡◌, refl, ap, sym, ◌∙◌}
use mathlib.Core.Option.{some}
use mathlib.Core.List.{List, [], ◌∷◌, ◌++◌, append_assoc, append-nil}
use native.Mathlib.Omega.{arith}
use lib.ListN.{length, length-append}
use Rattle.calculus.specs.Terms.{Term}
use Rattle.calculus.specs.Frames.{Frame, ε, depth}
use Rattle.calculus.specs.Types.{type}
use Rattle.calculus.specs.Steps.{Step, Outcome, reached, then_outcome, replay_by, replay}
use Rattle.calculus.specs.Rules.{Group, Same, own, compare, Question, holds, same, Stop, Next, asks, stops, one_pass_next, Holds, nothing_left, met, by_rule, groups, With}
use Rattle.calculus.proofs.Ren.{no_some, some_inj}
use Rattle.calculus.proofs.Weaken.{refused_reached, reached_inj}
use Rattle.calculus.proofs.Agree.{length_groups}
use Rattle.calculus.proofs.Closed.{one_pass_closed}
use Rattle.calculus.proofs.Demand.{asks_stops}
use Rattle.code.proofs.FirstZero.{no_length}
use Rattle.verdict.specs.Verdict.{Side, Ground, Progress, passed, stopped, check_term, number}
use Rattle.verdict.specs.Claims.{Until, until_here, until_met, until_asks, SideStops, stops_refused, stops_outgrown, stops_later, StopsAt, outgrown_state, waiting_state, type_is_none, group_missing, outgrown_type, outgrown_domain, left_stops, right_stops, forms_differ, OnlyLimits}
use Rattle.verdict.proofs.Promises.{passing}
use Rattle.verdict.proofs.Grounds.{grounds}

-- HELD by these groups
abbrev Held : Next → List Group → Type 0
Held n gs = (d : Holds one_pass_next n) × (groups d ≡ gs)

moved : {n m : Next} {gs : List Group} → n ≡ m → Held n gs → Held m gs
moved e h = rw e at h

joined : (ps : List Question) {qs : List Question} (c : Holds one_pass_next (asks ps)) (d : Holds one_pass_next (asks qs)) → Held (asks (ps ++ qs)) (groups c ++ groups d)
unfolding groups
joined [] nothing_left d = (d, refl)
joined (holds s ∷ ps) (by_rule b c) d = let r = joined ps c d in (by_rule b r.0, ap (λ (l : List Group). groups b ++ l) r.1 ∙ sym (append_assoc (groups b) (groups c) (groups d)))
joined (same (compare R K U) ∷ ps) (met s c) d = let r = joined ps c d in (met s r.0, ap (λ (l : List Group). s.group ∷ l) r.1)

-- the groups of what is due are those not yet taken
cons_tail : {g h : Group} {gs hs : List Group} → g ∷ gs ≡ h ∷ hs → gs ≡ hs
cons_tail e = cc

cons_head : {g h : Group} {gs hs : List Group} → g ∷ gs ≡ h ∷ hs → g ≡ h
cons_head e = cc

nil_cons : {A : Type 0} {g : Group} {gs : List Group} → g ∷ gs ≡ [] → A
nil_cons e = let z : ◌≡◌ {A = ℕ} 0 1 = cc in let y : ⊥ = omega arith in absurd y

due_held : {qs due : List Question} {taken left : List Group} → Until one_pass_next qs taken due → (d : Holds one_pass_next (asks qs)) → groups d ≡ taken ++ left → Held (asks due) left
unfolding groups
due_held until_here d e = (d, e)
due_held (until_met s u) (met r d) e = due_held u d (cons_tail e)
due_held (until_asks {ps = ps} h u) (by_rule c d) e =
    let a = moved h (c, refl) in
    let r = joined ps a.0 d in
    due_held u r.0 (r.1 ∙ ap (λ (l : List Group). l ++ groups d) a.1 ∙ e)

-- WHAT STOPS IT THERE
nothing_stops : {A : Type 0} {n : Next} {x : Stop} → Holds one_pass_next n → n ≡ stops x → A
nothing_stops nothing_left e = asks_stops e
nothing_stops (met s d) e = asks_stops e
nothing_stops (by_rule c d) e = asks_stops e

side_limit : {place : ℕ} {side : Side} {R : Frame} {n : ℕ} {ss : List Step} {t f : Term} {x : Ground} → SideStops place side R n ss t x → replay R ss t ≡ reached f → number x ≡ 11
unfolding replay_by then_outcome number
side_limit {R = R} (stops_refused {ss = ss} e) h = refused_reached (sym (ap (λ (o : Outcome). then_outcome o (replay R ss)) e) ∙ h)
side_limit (stops_outgrown e b) h = refl
side_limit {R = R} (stops_later {ss = ss} e s) h = side_limit s (sym (ap (λ (o : Outcome). then_outcome o (replay R ss)) e) ∙ h)

-- both sides of a comparison that is met
left_side_reaches : {R : Frame} {K U T : Term} {g : Group} (s : Same R K U) → type R K ≡ some T → s.group ≡ g → replay R g.left T ≡ reached s.form
left_side_reaches s h q = rw (q, some_inj (sym s.typed ∙ h)) at s.left_reaches

right_side_reaches : {R : Frame} {K U : Term} {g : Group} (s : Same R K U) → s.group ≡ g → replay R g.right U ≡ reached s.form
right_side_reaches s q = rw q at s.right_reaches

limit : {qs : List Question} {gs : List Group} {x : Ground} → StopsAt qs gs x → (d : Holds one_pass_next (asks qs)) → groups d ≡ gs → number x ≡ 11
unfolding groups number
limit (outgrown_state b) d e = refl
limit (waiting_state h) (by_rule c d) e = nothing_stops c h
limit (type_is_none h) (met s d) e = no_some (sym h ∙ s.typed)
limit (group_missing h) (met s d) e = nil_cons e
limit (outgrown_type h b) d e = refl
limit (outgrown_domain h b) d e = refl
limit (left_stops h x) (met s d) e = side_limit x (left_side_reaches s h (cons_head e))
limit (right_stops h l x) (met s d) e = side_limit x (right_side_reaches s (cons_head e))
limit (forms_differ h l r b c n) (met s d) e = absurd (n (reached_inj (sym l ∙ left_side_reaches s h (cons_head e) ∙ sym (right_side_reaches s (cons_head e)) ∙ r)))

stopped_by_one : (t : Term) (gs : List Group) (g : Ground) (q : Progress) → With one_pass_next (own ε [] t) gs → check_term t gs ≡ stopped g q → number g ≡ 11
unfolding groups depth
stopped_by_one t gs g q w e =
    let c = grounds.stopped_so t gs g q (one_pass_closed ε [] t w.derivation) e in
    let h = due_held c.walk (by_rule {s = own ε [] t} w.derivation nothing_left) (append-nil (groups w.derivation) ∙ w.same_groups ∙ c.groups_are) in
    limit c.stops_at h.0 h.1

-- a check that passes has one group for each applicator, and so have the given ones
passed_all : (t : Term) (gs : List Group) (q : Progress) → With one_pass_next (own ε [] t) gs → check_term t gs ≡ passed q → (q.left ≡ []) × (q.comparisons ≡ length gs)
passed_all t gs q w e =
    let r = passing.sound t gs q e in
    let own_count = length_groups ε [] t w.derivation in
    let taken = length_groups ε [] t r.0 in
    let many : length gs ≡ length (groups r.0) + length q.left = ap length r.2 ∙ length-append (groups r.0) q.left in
    let all : length (groups w.derivation) ≡ length gs = ap length w.same_groups in
    (no_length q.left (omega (arith, own_count, taken, many, all)), omega (arith, r.3, own_count, taken, many, all))

pub only_limits : OnlyLimits
only_limits = record { passed_all = passed_all; stopped_by_one = stopped_by_one }
