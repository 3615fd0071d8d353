-- Runs taken apart and put together.
-- Assumes nothing.
use Prim.Native.Nat.{ℕ}
use mathlib.Core.Path.{◌≡◌, refl, ap, ap₂, sym, ◌∙◌}
use mathlib.Core.Bool.{Bool, true, false, cond}
use native.Mathlib.Omega.{arith}
use borrow.Author.Tests.{eqb-true, eq-eqb}
use Rattle.calculus.specs.Terms.{Term, tau, var, app, abs}
use Rattle.verdict.specs.Verdict.{Ground, Progress, passed, stopped, identical}

pub no_pass : {A : Type 0} {g : Ground} {p q : Progress} → stopped g p ≡ passed q → A
no_pass e = let z : ◌≡◌ {A = ℕ} 0 1 = cc in let y : ⊥ = omega arith in absurd y

pub pass_inj : {p q : Progress} → passed p ≡ passed q → p ≡ q
pass_inj e = cc

pub false_true : {A : Type 0} → false ≡ true → A
false_true e = let z : ◌≡◌ {A = ℕ} 0 1 = cc in let y : ⊥ = omega arith in absurd y

pub cond_both : (a b : Bool) → cond a b false ≡ true → (a ≡ true) × (b ≡ true)
cond_both true b e = (refl, e)
cond_both false b e = false_true e

pub identical_eq : (l r : Term) → identical l r ≡ true → l ≡ r
unfolding identical
identical_eq tau tau e = refl
identical_eq tau (var k) e = false_true e
identical_eq tau (app K B) e = false_true e
identical_eq tau (abs U B) e = false_true e
identical_eq (var j) tau e = false_true e
identical_eq (var j) (var k) e = ap var (eqb-true j k e)
identical_eq (var j) (app K B) e = false_true e
identical_eq (var j) (abs U B) e = false_true e
identical_eq (app L C) tau e = false_true e
identical_eq (app L C) (var k) e = false_true e
identical_eq (app L C) (app K B) e = let s = cond_both (identical L K) (identical C B) e in ap₂ app (identical_eq L K s.0) (identical_eq C B s.1)
identical_eq (app L C) (abs U B) e = false_true e
identical_eq (abs L C) tau e = false_true e
identical_eq (abs L C) (var k) e = false_true e
identical_eq (abs L C) (app K B) e = false_true e
identical_eq (abs L C) (abs U B) e = let s = cond_both (identical L U) (identical C B) e in ap₂ abs (identical_eq L U s.0) (identical_eq C B s.1)

pub identical_refl : (t : Term) → identical t t ≡ true
unfolding identical
identical_refl tau = refl
identical_refl (var k) = eq-eqb k k refl
identical_refl (app K B) = rw (identical_refl K) (identical_refl B)
identical_refl (abs U B) = rw (identical_refl U) (identical_refl B)

pub not_identical : (l r : Term) → identical l r ≡ false → l ≡ r → ⊥
not_identical l r e q = false_true (sym e ∙ ap (identical l) (sym q) ∙ identical_refl l)
