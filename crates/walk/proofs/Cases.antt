-- What is known of a state by the number of its rule.
-- Assumes nothing.
use Prim.Native.Nat.{ℕ, ◌<◌, ◌≤◌}
use mathlib.Core.Path.{◌≡◌, sym, ◌∙◌}
use mathlib.Core.Bool.{Bool, true, false}
use mathlib.Core.Logic.{◌⊎◌, inl, inr}
use native.Mathlib.Omega.{arith}
use Rattle.walk.specs.Clauses.{DueAs, due_first, not_due, RuleAt, inside_first, rule_i, rule_iii, rule_iv, rule_v, rule_vi, rule_vii, rule_viii, rule_ix, rule_x, rule_xi, rule_xii}
use Rattle.walk.specs.declared.WalkState.{WalkState}
use Rattle.walk.specs.declared.Rule.{Rule}
use Rattle.walk.specs.declared.Rule.TheVariants.{InsideFirst, One, Three, Four, Five, Six, Seven, Eight, Nine, Ten, Eleven, Twelve}
use Rattle.walk.proofs.States.{no_confusion}

pub is_due : {s : WalkState} {b : Bool} → b ≡ true → DueAs s b → (s.own ≡ true) × (s.checked ≡ false)
is_due e (due_first i j) = (i, j)
is_due e (not_due i) = no_confusion e

pub done_first : {s : WalkState} {b : Bool} → b ≡ false → DueAs s b → s.own ≡ true → s.checked ≡ true
done_first e (due_first i j) = no_confusion (sym e)
done_first e (not_due i) = i

-- copied text has nothing inside to be checked first
not_own : {b c : Bool} → b ≡ false → b ≡ true → c ≡ true
not_own o e = no_confusion (sym o ∙ e)

-- a terminal
pub record AtVariable (s : WalkState) (b : ℕ) (own : Bool) : Type 0 where
  pub some : b ≡ 0 → ⊥
  pub low : b < 0xfe
  pub is_own : s.own ≡ own

-- a wagon whose inside needs no check, or has been checked
pub record AtWagon (s : WalkState) (b : ℕ) : Type 0 where
  pub high : 0xfe ≤ b
  pub due : s.own ≡ true → s.checked ≡ true

pub record AtAbstractor (s : WalkState) (b : ℕ) : Type 0 where
  pub wagon : AtWagon s b
  pub no_app : b ≡ 0xfe → ⊥

pub rule_at : {s : WalkState} {b c : ℕ} {r : Rule} → b ≡ c → RuleAt s b r → RuleAt s c r
rule_at e h = rw e at h

pub one_of : {s : WalkState} {b : ℕ} {r u v : Rule} → (r ≡ u) ⊎ (r ≡ v) → RuleAt s b r → RuleAt s b u ⊎ RuleAt s b v
one_of (inl e) h = inl (rw e at h)
one_of (inr e) h = inr (rw e at h)

module _ {s : WalkState} {b : ℕ} where
  pub rule_inner : RuleAt s b InsideFirst → (0xfe ≤ b) × (s.own ≡ true) × (s.checked ≡ false)
  rule_inner (inside_first o c l) = (l, o, c)

  -- (i) and (vi)
  pub rule_tau : RuleAt s b One ⊎ RuleAt s b Six → b ≡ 0
  rule_tau (inl (rule_i o z)) = z
  rule_tau (inr (rule_vi o z)) = z

  -- (iii) and (ix)
  pub rule_app : RuleAt s b Three ⊎ RuleAt s b Nine → AtWagon s b × (b ≡ 0xfe)
  rule_app (inl (rule_iii o c z)) = (record { high = omega arith; due = λ i. c }, z)
  rule_app (inr (rule_ix o z)) = (record { high = omega arith; due = not_own o }, z)

  -- (iv) and (x)
  pub rule_single : RuleAt s b Four ⊎ RuleAt s b Ten → AtAbstractor s b × (s.bottom ≡ s.top)
  rule_single (inl (rule_iv o c l n)) = (record { wagon = record { high = omega arith; due = λ i. c }; no_app = λ i. omega arith }, n)
  rule_single (inr (rule_x o l n)) = (record { wagon = record { high = omega arith; due = not_own o }; no_app = λ i. omega arith }, n)

  -- (v) and (xi), where Y is empty in the term's own text
  pub rule_waiting : (s.own ≡ true → s.middle ≡ s.top) → RuleAt s b Five ⊎ RuleAt s b Eleven → AtAbstractor s b × (s.top ≤ s.middle) × (s.bottom ≡ s.top → ⊥)
  rule_waiting own (inl (rule_v o c l n)) = (record { wagon = record { high = omega arith; due = λ i. c }; no_app = λ i. omega arith }, omega (arith, own o), n)
  rule_waiting own (inr (rule_xi o l n m)) = (record { wagon = record { high = omega arith; due = not_own o }; no_app = λ i. omega arith }, omega arith, n)

  -- (vii)
  pub rule_met : RuleAt s b Seven → AtVariable s b true
  rule_met (rule_vii o i j) = record { some = λ e. omega arith; low = j; is_own = o }

  -- (viii)
  pub rule_typed : RuleAt s b Eight → AtVariable s b false
  rule_typed (rule_viii o i j) = record { some = λ e. omega arith; low = j; is_own = o }

  -- (xii)
  pub rule_copied : s.middle ≤ s.top → RuleAt s b Twelve → AtAbstractor s b × (s.middle < s.top)
  rule_copied m (rule_xii o l n) = (record { wagon = record { high = omega arith; due = not_own o }; no_app = λ i. omega arith }, omega (arith, m, n))

-- how control comes past the rules of the term's own text: with a variable, or in copied text
pub data Past (own : Bool) (b : ℕ) : Type 0 where
  past_variable : own ≡ true → 0 < b → b < 0xfe → Past own b
  past_copied : own ≡ false → Past own b

pub past_own : (own : Bool) (b : ℕ) → Past own b → own ≡ true → (0 < b) × (b < 0xfe)
past_own own b (past_variable o i j) e = (i, j)
past_own own b (past_copied o) e = no_confusion (sym o ∙ e)

pub past_other : (own : Bool) (b : ℕ) → Past own b → (b ≡ 0) ⊎ (0xfe ≤ b) → own ≡ false
past_other own b (past_variable o i j) (inl e) = absurd (omega arith)
past_other own b (past_variable o i j) (inr e) = absurd (omega arith)
past_other own b (past_copied o) e = o
