-- The promises of this crate, put together.
-- Assumes nothing.
use Prim.Native.Nat.{ℕ, ◌+◌, ◌≤◌}
use mathlib.Core.Path.{◌≡◌, ◌∙◌}
use mathlib.Core.List.{List, [], ◌∷◌, ◌++◌, append-nil}
use native.Mathlib.Nat.{zero-add}
use native.Mathlib.Omega.{arith}
use lib.ListN.{length}
use Rattle.calculus.specs.Terms.{Term, applicators, Closed}
use Rattle.calculus.specs.Frames.{ε}
use Rattle.calculus.specs.Rules.{Group, own, holds, asks, one_pass_next, Holds, by_rule, nothing_left, OnePass, groups}
use Rattle.calculus.proofs.Agree.{length_groups}
use Rattle.verdict.specs.Verdict.{Ground, Progress, passed, stopped, not_reached, asked, begun, check_term_by, check_term, number}
use Rattle.verdict.specs.Claims.{AllFit, Within, Passing, Stopping, progress_of}
use Rattle.verdict.proofs.BigStep.{big_end, finish_big, finish_is}
use Rattle.verdict.proofs.Sound.{asks_none, asks_state, asks_for}
use Rattle.verdict.proofs.Sound as Sound
use Rattle.verdict.proofs.Stop.{at_most, groups_taken, numbered, may_state, may}

abbrev Passed : Term → List Group → Progress → Type 0
Passed t gs q = (d : OnePass (own ε [] t)) × Within (own ε [] t) d × (gs ≡ groups d ++ q.left) × (q.comparisons ≡ length (groups d))

sound : (t : Term) (gs : List Group) (q : Progress) → check_term t gs ≡ passed q → Passed t gs q
unfolding check_term_by groups
sound t gs q e = let c = Sound.sound (finish_big _ _).1 (asks_state asks_none) q e in go c.derivation c.within c.taken c.counted
  where
    go : (d : Holds one_pass_next (asks (holds (own ε [] t) ∷ []))) → AllFit d → gs ≡ groups d ++ q.left → q.comparisons ≡ 0 + length (groups d) → Passed t gs q
    go (by_rule c nothing_left) w l n = (c, record { first = w.0; others = w.1 }, rw (append-nil (groups c)) at l, (rw (append-nil (groups c)) at n) ∙ zero-add _)

complete : (t : Term) (d : OnePass (own ε [] t)) → Within (own ε [] t) d → (rest : List Group)
    → (q : Progress) × (check_term t (groups d ++ rest) ≡ passed q) × (q.left ≡ rest) × (q.comparisons ≡ length (groups d))
unfolding check_term_by groups
complete t d w rest =
    let c = Sound.complete (by_rule {s = own ε [] t} d nothing_left) (w.first, w.others, tt) (asks_for (asks_state {i = 0} {ws = []} asks_none)) (begun (groups d ++ rest)) rest (rw (append-nil (groups d))) in
    (c.end, finish_is (c.more [] 0 (passed c.end) big_end).1, c.left, (rw (append-nil (groups d)) at c.counted) ∙ zero-add _)

pub passing : Passing
passing = record { sound = sound; complete = complete }

at_most_applicators : (t : Term) (gs : List Group) → (progress_of (check_term t gs)).comparisons ≤ applicators t
unfolding check_term_by may may_state
at_most_applicators t gs = omega (arith, at_most (finish_big (asked t) (begun gs)).1 (asks_state asks_none))

at_most_groups : (t : Term) (gs : List Group) → (progress_of (check_term t gs)).comparisons ≤ length gs
unfolding check_term_by
at_most_groups t gs = omega (arith, groups_taken (finish_big (asked t) (begun gs)).1)

all_applicators : (t : Term) (gs : List Group) (q : Progress) → check_term t gs ≡ passed q → q.comparisons ≡ applicators t
all_applicators t gs q e = let s = sound t gs q e in s.3 ∙ length_groups ε [] t s.0 ∙ zero-add (applicators t)

pub numbers : (t : Term) (gs : List Group) (g : Ground) (q : Progress) → Closed 0 t → check_term t gs ≡ stopped g q → (7 ≤ number g) × (number g ≤ 12)
unfolding check_term_by
numbers t gs g q c e = let n = numbered t c (rw e at (finish_big (asked t) (begun gs)).1) in (n.least, n.most)

pub never_not_reached : (t : Term) (gs : List Group) (i : ℕ) (q : Progress) → Closed 0 t → check_term t gs ≡ stopped (not_reached i) q → ⊥
unfolding number
never_not_reached t gs i q c e = omega (arith, (numbers t gs (not_reached i) q c e).1)

pub stopping : Stopping
stopping = record { at_most_applicators = at_most_applicators; at_most_groups = at_most_groups; all_applicators = all_applicators; numbers = numbers }
