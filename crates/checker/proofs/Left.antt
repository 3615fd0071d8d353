-- The groups that are left are known by what they hold: where they stand, and so the place of the first.
-- Assumes nothing.
use Prim.Native.Nat.{ℕ, zero, suc, ◌+◌, ◌*◌, ◌-◌, ◌/◌, ◌≤◌}
use mathlib.Core.Path.{◌≡◌, refl, ap, sym, ◌∙◌}
use mathlib.Core.List.{List, [], ◌∷◌, ◌++◌, tail-eq_of_cons-eq}
use native.Mathlib.Omega.{arith}
use lib.ListN.{length, drop, length-map}
use Rattle.calculus.specs.Rules.{Group}
use Rattle.fields.specs.Fields.{GroupAt, Groups, done, more, group_at, body_end, steps_from, read_steps, Whole}
use Rattle.files.specs.Check.{groups_of}

length_steps : (n : ℕ) (s : List ℕ) (at : ℕ) → length (steps_from n s at) ≡ n
unfolding steps_from
length_steps zero s at = refl
length_steps (suc n) s at = ap suc (length_steps n s (at + 3))

-- the bytes of groups, by what they hold
bytes_of : List Group → ℕ
bytes_of [] = 0
bytes_of (g ∷ gs) = 6 + 3 * length g.left + 3 * length g.right + bytes_of gs

field_bytes : (tag : ℕ) (s : List ℕ) (at : ℕ) → Whole tag 3 s at → body_end s at ≡ at + 3 + 3 * length (read_steps s (at + 3) (body_end s at))
field_bytes tag s at w = omega (arith, length_steps ((body_end s at - (at + 3)) / 3) s (at + 3), w.multiple)

groups_end : {s : List ℕ} {at : ℕ} {gs : List GroupAt} → Groups s at gs → at + bytes_of (groups_of gs) ≡ length s
unfolding bytes_of
groups_end (done h) = omega arith
groups_end {s} (more {at = at} {gs = gs} h d) =
    omega (arith, groups_end d, field_bytes 2 s at h.left, field_bytes 3 s (body_end s at) h.right)

groups_one : {s : List ℕ} {at : ℕ} {gs hs : List GroupAt} → Groups s at gs → Groups s at hs → length gs ≡ length hs → gs ≡ hs
groups_one (done h) (done k) q = refl
groups_one (done h) (more k d) q = let z : ⊥ = omega arith in absurd z
groups_one (more h c) (done k) q = let z : ⊥ = omega arith in absurd z
groups_one {s} (more {at = at} h c) (more k d) q = ap (λ (l : List GroupAt). group_at s at ∷ l) (groups_one c d (omega arith))

-- groups that hold the same, both up to the end, are the same at the same place
pub same_left : {s : List ℕ} {a b : ℕ} {gs hs : List GroupAt} → Groups s a gs → Groups s b hs → groups_of gs ≡ groups_of hs → (a ≡ b) × (gs ≡ hs)
same_left {s} {a} {b} {gs} {hs} c d q =
    let e : a ≡ b = omega (arith, groups_end c, groups_end d, ap bytes_of q) in
    (e, groups_one c (rw (← e) at d) (sym (length-map gs (λ (g : GroupAt). g.group)) ∙ ap length q ∙ length-map hs (λ (g : GroupAt). g.group)))

-- after n groups
pub groups_drop : {s : List ℕ} (n : ℕ) {at : ℕ} {gs : List GroupAt} → Groups s at gs → n ≤ length gs → (a : ℕ) × Groups s a (drop n gs)
groups_drop zero {at} d h = (at, d)
groups_drop (suc n) (done e) h = let z : ⊥ = omega arith in absurd z
groups_drop (suc n) (more e d) h = groups_drop n d (omega arith)

pub drop_groups : (n : ℕ) (gs : List GroupAt) (a b : List Group) → groups_of gs ≡ a ++ b → n ≡ length a → groups_of (drop n gs) ≡ b
drop_groups zero gs [] b q h = q
drop_groups zero gs (x ∷ a) b q h = let z : ⊥ = omega arith in absurd z
drop_groups (suc n) gs [] b q h = let z : ⊥ = omega arith in absurd z
drop_groups (suc n) [] (x ∷ a) b q h = let z : ◌≡◌ {A = ℕ} 0 1 = cc in let y : ⊥ = omega arith in absurd y
drop_groups (suc n) (g ∷ gs) (x ∷ a) b q h = drop_groups n gs a b (tail-eq_of_cons-eq q) (omega arith)
