-- Copies of the terms that stand in a text: they have its sizes and scopes, and their parts are copies of its parts.
-- Assumes nothing.
use Prim.Native.Nat.{ℕ, suc, ◌+◌, ◌≤◌, max}
use mathlib.Core.Path.{◌≡◌, refl, ap, ap₂, ◌∙◌}
use mathlib.Core.List.{List}
use native.Mathlib.Omega.{arith}
use native.Mathlib.Numerals.{add-one}
use lib.ListN.{length, get_or}
use Rattle.calculus.specs.Terms.{Term, tau, var, app, abs, size, lift}
use Rattle.code.specs.Claims.{Stands}
use Rattle.code.specs.Scope.{scope}
use Rattle.code.proofs.Parts.{Head, head_app, head_abs, head, stands_end}
use Rattle.texts.specs.Texts.{Sized, Alike, alike_tau, alike_var, alike_app, alike_abs, Origin}

-- ---- Terms that differ in their indices at most.
alike_self : (X : Term) → Alike X X
alike_self tau = alike_tau
alike_self (var k) = alike_var
alike_self (app K B) = alike_app (alike_self K) (alike_self B)
alike_self (abs U B) = alike_abs (alike_self U) (alike_self B)

alike_lift : {Y X : Term} (n c : ℕ) → Alike Y X → Alike Y (lift n c X)
unfolding lift
alike_lift n c alike_tau = alike_tau
alike_lift n c alike_var = alike_var
alike_lift n c (alike_app f g) = alike_app (alike_lift n c f) (alike_lift n c g)
alike_lift n c (alike_abs f g) = alike_abs (alike_lift n c f) (alike_lift n (suc c) g)

pub alike_size : {Y X : Term} → Alike Y X → size Y ≡ size X
unfolding size
alike_size alike_tau = refl
alike_size alike_var = refl
alike_size (alike_app f g) = ap suc (ap₂ ◌+◌ (alike_size f) (alike_size g))
alike_size (alike_abs f g) = ap suc (ap₂ ◌+◌ (alike_size f) (alike_size g))

alike_scope : {Y X : Term} → Alike Y X → scope Y ≡ scope X
unfolding scope
alike_scope alike_tau = refl
alike_scope alike_var = refl
alike_scope (alike_app f g) = ap₂ max (alike_scope f) (alike_scope g)
alike_scope (alike_abs f g) = ap₂ max (alike_scope f) (ap suc (alike_scope g))

-- ---- Copies.
pub origin_own : {t : List ℕ} {o e : ℕ} {X : Term} → Stands t o e X → Origin t o X
origin_own {e = e} {X} h = record { term = X; end = e; stands = h; alike = alike_self X }

pub origin_lift : {t : List ℕ} {o : ℕ} {X : Term} (n c : ℕ) → Origin t o X → Origin t o (lift n c X)
origin_lift n c g = record { term = g.term; end = g.end; stands = g.stands; alike = alike_lift n c g.alike }

module _ {t : List ℕ} {o e m : ℕ} {K L B C : Term} (h : Stands t (suc o) m L) (k : Stands t m e C) (f : Alike L K) (g : Alike C B) where
  both : Origin t (o + 1) K × Origin t (o + 1 + size K) B
  both =
      let n : o + 1 + size K ≡ m = omega (arith, h.place, alike_size f) in
      (record { term = L; end = m; stands = rw add-one h; alike = f }, record { term = C; end = e; stands = rw n k; alike = g })

pub origin_app : {t : List ℕ} {o : ℕ} {K B : Term} → Origin t o (app K B) → Origin t (o + 1) K × Origin t (o + 1 + size K) B
origin_app {t} {o} {K} {B} g = go g.alike (head g.stands)
  where
    go : {Y : Term} {e : ℕ} → Alike Y (app K B) → Head t o e Y → Origin t (o + 1) K × Origin t (o + 1 + size K) B
    go (alike_app a b) (head_app x h k) = both h k a b

pub origin_abs : {t : List ℕ} {o : ℕ} {U B : Term} → Origin t o (abs U B) → Origin t (o + 1) U × Origin t (o + 1 + size U) B
origin_abs {t} {o} {U} {B} g = go g.alike (head g.stands)
  where
    go : {Y : Term} {e : ℕ} → Alike Y (abs U B) → Head t o e Y → Origin t (o + 1) U × Origin t (o + 1 + size U) B
    go (alike_abs a b) (head_abs x h k) = both h k a b

pub origin_size : {t sizes scopes : List ℕ} {o : ℕ} {X : Term} → Sized t sizes scopes → Origin t o X → get_or sizes o 0 ≡ size X
origin_size {o = o} s g = s.sizes_are o g.end g.term g.stands ∙ alike_size g.alike

pub origin_scope : {t sizes scopes : List ℕ} {o : ℕ} {X : Term} → Sized t sizes scopes → Origin t o X → get_or scopes o 0 ≡ scope X
origin_scope {o = o} s g = s.scopes_are o g.end g.term g.stands ∙ alike_scope g.alike

pub origin_inside : {t : List ℕ} {o : ℕ} {X : Term} → Origin t o X → o + size X ≤ length t
origin_inside g = omega (arith, g.stands.place, alike_size g.alike, stands_end g.stands)
