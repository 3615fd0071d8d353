-- The first difference of two strings, and of the bytes of two terms.
-- Assumes nothing.
use Prim.Native.Nat.{ℕ, zero, suc, ◌+◌, ◌≤◌, ◌<◌}
use mathlib.Core.Path.{◌≡◌, refl, ap, sym, ◌∙◌}
use mathlib.Core.Bool.{Bool, true, false}
use mathlib.Core.List.{List, [], ◌∷◌, ◌++◌}
use native.Mathlib.Omega.{arith}
use lib.Dec.{eqb}
use lib.ListN.{length, get_or}
use borrow.Author.Tests.{eqb-true, eqb-false}
use Rattle.calculus.specs.Terms.{Term, size}
use Rattle.code.specs.Code.{encode, Coded}
use Rattle.code.specs.Claims.{Stands}
use Rattle.code.proofs.Parts.{stands_self, stands_unique}
use Rattle.explaining.specs.Explain.{difference}
use Rattle.explaining.specs.Claims.{Differing}

-- all before it agree
pub agree : (a b : List ℕ) (i : ℕ) → i < difference a b → get_or a i 0 ≡ get_or b i 0
unfolding difference
agree [] b i h = let z : ⊥ = omega arith in absurd z
agree (x ∷ a) [] i h = let z : ⊥ = omega arith in absurd z
agree (x ∷ a) (y ∷ b) i h = go (eqb x y) refl (agree a b) i h
  where
    go : (e : Bool) → eqb x y ≡ e → ((i : ℕ) → i < difference a b → get_or a i 0 ≡ get_or b i 0) → (i : ℕ) → i < difference (x ∷ a) (y ∷ b) → get_or (x ∷ a) i 0 ≡ get_or (y ∷ b) i 0
    go true e more zero h = eqb-true x y e
    go true e more (suc i) h = more i (let n = rw e at h in omega (arith, n))
    go false e more i h = let n = rw e at h in let z : ⊥ = omega (arith, n) in absurd z

-- a place within both at which they differ
pub record Apart (a b : List ℕ) : Type 0 where
  pub in_left : difference a b < length a
  pub in_right : difference a b < length b
  pub differ : get_or a (difference a b) 0 ≡ get_or b (difference a b) 0 → ⊥

-- two strings differ, or one is a beginning of the other
data Parted (a b : List ℕ) : Type 0 where
  parted : Apart a b → Parted a b
  begins_right : (rest : List ℕ) → b ≡ a ++ rest → Parted a b
  begins_left : (rest : List ℕ) → a ≡ b ++ rest → Parted a b

parts_of : (a b : List ℕ) → Parted a b
unfolding difference
parts_of [] b = begins_right b refl
parts_of (x ∷ a) [] = begins_left (x ∷ a) refl
parts_of (x ∷ a) (y ∷ b) = go (eqb x y) refl (parts_of a b)
  where
    go : (e : Bool) → eqb x y ≡ e → Parted a b → Parted (x ∷ a) (y ∷ b)
    go true e (parted p) = parted (record { in_left = rw e (omega (arith, p.in_left)); in_right = rw e (omega (arith, p.in_right)); differ = rw e p.differ })
    go true e (begins_right rest q) = begins_right rest (rw (← eqb-true x y e, q) refl)
    go true e (begins_left rest q) = begins_left rest (rw (eqb-true x y e, q) refl)
    go false e p = parted (record { in_left = rw e (omega arith); in_right = rw e (omega arith); differ = rw e (eqb-false x y e) })

-- where it is within both, neither is a beginning of the other
length_append_le : (a b : List ℕ) → length a ≤ length (a ++ b)
length_append_le [] b = omega arith
length_append_le (x ∷ a) b = omega (arith, length_append_le a b)

same_start : (a rest : List ℕ) (i : ℕ) → i < length a → get_or (a ++ rest) i 0 ≡ get_or a i 0
same_start [] rest i h = let z : ⊥ = omega arith in absurd z
same_start (x ∷ a) rest zero h = refl
same_start (x ∷ a) rest (suc i) h = same_start a rest i (omega arith)

pub differing : {a b : List ℕ} → Apart a b → Differing a b
differing {a} {b} p = record {
  in_left = p.in_left;
  in_right = p.in_right;
  differ = p.differ;
  agree = agree a b;
  left_no_beginning = λ rest q. p.differ (sym (ap (λ (l : List ℕ). get_or l (difference a b) 0) q ∙ same_start a rest (difference a b) p.in_left));
  right_no_beginning = λ rest q. p.differ (ap (λ (l : List ℕ). get_or l (difference a b) 0) q ∙ same_start b rest (difference a b) p.in_right);
}

-- so two terms that differ
begins : {t u : Term} → Coded t → Coded u → (rest : List ℕ) → encode u ≡ encode t ++ rest → t ≡ u
begins {t} {u} c d rest q = let s : Stands (encode u) 0 (size t) t = record { rest = rest; bytes = q; coded = c; place = omega arith } in (stands_unique s (stands_self d)).0

pub terms_apart : {t u : Term} → Coded t → Coded u → (t ≡ u → ⊥) → Apart (encode t) (encode u)
terms_apart {t} {u} c d n = go (parts_of (encode t) (encode u))
  where
    go : Parted (encode t) (encode u) → Apart (encode t) (encode u)
    go (parted p) = p
    go (begins_right rest q) = absurd (n (begins c d rest q))
    go (begins_left rest q) = absurd (n (sym (begins d c rest q)))

-- what follows them makes no difference
pub followed : (a b x y : List ℕ) → Apart a b → difference (a ++ x) (b ++ y) ≡ difference a b
unfolding difference
followed [] b x y p = let z : ⊥ = omega (arith, p.in_left) in absurd z
followed (c ∷ a) [] x y p = let z : ⊥ = omega (arith, p.in_right) in absurd z
followed (c ∷ a) (d ∷ b) x y p = go (eqb c d) refl (followed a b x y)
  where
    go : (e : Bool) → eqb c d ≡ e → (Apart a b → difference (a ++ x) (b ++ y) ≡ difference a b) → difference ((c ∷ a) ++ x) ((d ∷ b) ++ y) ≡ difference (c ∷ a) (d ∷ b)
    go true e more =
        let q : Apart a b = (let l = rw e at p.in_left in let r = rw e at p.in_right in record { in_left = omega (arith, l); in_right = omega (arith, r); differ = rw e at p.differ }) in
        rw e (ap suc (more q))
    go false e more = rw e refl

pub apart_followed : (a b x y : List ℕ) → Apart a b → Apart (a ++ x) (b ++ y)
apart_followed a b x y p =
    let e = followed a b x y p in
    record {
      in_left = rw e (omega (arith, p.in_left, length_append_le a x));
      in_right = rw e (omega (arith, p.in_right, length_append_le b y));
      differ = rw (e, same_start a x (difference a b) p.in_left, same_start b y (difference a b) p.in_right) p.differ;
    }

-- THE LOOP, at a place up to which all agree
pub ends_here : (a b : List ℕ) (i : ℕ) → i ≤ difference a b → (get_or a i 0 ≡ get_or b i 0 → ⊥) → i ≡ difference a b
ends_here a b i h n = go (eqb i (difference a b)) refl
  where
    go : (e : Bool) → eqb i (difference a b) ≡ e → i ≡ difference a b
    go true e = eqb-true i (difference a b) e
    go false e = absurd (n (agree a b i (omega (arith, h, eqb-false i (difference a b) e))))

pub goes_on : {a b : List ℕ} (i : ℕ) → Differing a b → i ≤ difference a b → get_or a i 0 ≡ get_or b i 0 → i + 1 ≤ difference a b
goes_on {a} {b} i p h q = go (eqb i (difference a b)) refl
  where
    go : (e : Bool) → eqb i (difference a b) ≡ e → i + 1 ≤ difference a b
    go true e = absurd (p.differ (rw (eqb-true i (difference a b) e) at q))
    go false e = omega (arith, h, eqb-false i (difference a b) e)
