-- Kind 3 spelled out in steps of kinds 1 and 2, and what it is to do without it (request (a)); earlier and later readings.
-- Assumes nothing.
use Rattle.std.specs.Prelude.{ℕ, zero, suc, ◌+◌, ◌-◌, ◌≡◌, cond, List, [], ◌∷◌, ◌++◌, map, leb, ltb, eqb}
use Rattle.calculus.specs.Terms.{Term, tau, var, app, abs, size, lift}
use Rattle.calculus.specs.Frames.{Frame}
use Rattle.calculus.specs.Steps.{Step, Reach, pairs, couples, Reading, base, full, Outcome, reached, refused, substitute, step_by, replay_by}
use Rattle.calculus.specs.Rules.{Group}

-- Place q of the rest of a train, counted from its first wagon's symbol; L is the term inside that wagon.
unfoldable pub past : Term → ℕ → ℕ
past L q = suc (size L + q)

-- The places of the uses of index c + 1 in a term, from left to right, each as it stands when those before it are replaced by K.
unfoldable pub uses : ℕ → Term → Term → List ℕ
uses c K tau = []
uses c K (var k) = cond (leb k c) [] (cond (leb k (suc c)) (0 ∷ []) [])
uses c K (app L B) = map suc (uses c K L) ++ map (past (substitute c K L)) (uses c K B)
uses c K (abs U B) = map suc (uses c K U) ++ map (past (substitute c K U)) (uses (suc c) K B)

unfoldable pub uses_if_far : Reach → List ℕ → List ℕ
uses_if_far pairs l = []
uses_if_far couples l = l

-- Those of the variable of the abstractor that ⟨K⟩ finds in the train that follows it, if it finds one, as `at_partner` does.
unfoldable pub partner_uses : Reach → Term → Term → ℕ → List ℕ
partner_uses x K tau n = []
partner_uses x K (var k) n = []
partner_uses x K (app L B) n = uses_if_far x (map (past L) (partner_uses x K B (suc n)))
partner_uses x K (abs U B) zero = map (past U) (uses 0 K B)
partner_uses x K (abs U B) (suc n) = map (past U) (partner_uses x (lift 1 0 K) B n)

-- Those of the couple whose applicator stands at place p of a term.
unfoldable pub uses_at : Reach → Term → ℕ → List ℕ
uses_at x tau p = []
uses_at x (var k) p = []
uses_at x (app K B) zero = map (past K) (partner_uses x K B 0)
uses_at x (app K B) (suc p) =
    let i = map suc (uses_at x K p) in
    let o = map (past K) (uses_at x B (p - size K)) in
    cond (ltb p (size K)) i o
uses_at x (abs U B) zero = []
uses_at x (abs U B) (suc p) =
    let i = map suc (uses_at x U p) in
    let o = map (past U) (uses_at x B (p - size U)) in
    cond (ltb p (size U)) i o

abbrev pub at : ℕ → ℕ → Step
at k p = record { kind = k; place = p }

-- Local steps at all uses, from left to right, then the removal.
unfoldable pub whole_steps : Reach → Term → ℕ → List Step
whole_steps x t p = map (at 1) (uses_at x t p) ++ (at 2 p ∷ [])

-- A list of steps with those of kind 3 spelled out; t is the body that it starts from.
unfoldable pub spell_step : Reach → Step → Term → List Step
spell_step x s t =
    let w = whole_steps x t s.place in
    cond (eqb s.kind 3) w (s ∷ [])

unfoldable pub afterwards : Outcome → (Term → List Step) → List Step
afterwards (reached u) f = f u
afterwards (refused r) f = []

unfoldable pub spell : Reach → Frame → List Step → Term → List Step
spell x R [] t = []
spell x R (s ∷ ss) t = spell_step x s t ++ afterwards (step_by (full x) R s t) (spell x R ss)

-- No step of a list, of a group, of a list of groups is of kind 3.
pub data NoWhole : List Step → Type 0 where
  none_left : NoWhole []
  one_more : {s : Step} {ss : List Step} → (s.kind ≡ 3 → ⊥) → NoWhole ss → NoWhole (s ∷ ss)

pub record NoWholeIn (g : Group) : Type 0 where
  pub left_side : NoWhole g.left
  pub right_side : NoWhole g.right

pub data NoWholes : List Group → Type 0 where
  no_groups : NoWholes []
  one_group : {g : Group} {gs : List Group} → NoWholeIn g → NoWholes gs → NoWholes (g ∷ gs)

-- Two bodies after R reach one form by steps.
pub record Joins (x : Reading) (R : Frame) (t u : Term) : Type 0 where
  pub left : List Step
  pub right : List Step
  pub form : Term
  pub left_reaches : replay_by x R left t ≡ reached form
  pub right_reaches : replay_by x R right u ≡ reached form

-- A reach and a wider one, or the same; a reading and a later one, or the same.
pub data Wider : Reach → Reach → Type 0 where
  as_wide : {x : Reach} → Wider x x
  wider : Wider pairs couples

pub data Later : Reading → Reading → Type 0 where
  base_base : {x z : Reach} → Wider x z → Later (base x) (base z)
  base_full : {x z : Reach} → Wider x z → Later (base x) (full z)
  full_full : {x z : Reach} → Wider x z → Later (full x) (full z)
