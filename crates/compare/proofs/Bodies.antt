-- Bodies brought into arrays as letters, measured and compared.
-- Assumes nothing.
use Prim.Native.Nat.{ℕ, ◌+◌, ◌-◌, ◌≤◌, ◌<◌}
use mathlib.Core.Path.{◌≡◌, refl, ap, sym, subst, ◌∙◌}
use mathlib.Core.Bool.{Bool, true, false}
use mathlib.Core.List.{List}
use native.Mathlib.Omega.{arith}
use lib.Dec.{leb}
use lib.Seq.{sets}
use borrow.Author.Tests.{leb-true}
use Rattle.calculus.specs.Terms.{Term, size}
use Rattle.calculus.specs.Frames.{Frame, depth}
use Rattle.calculus.proofs.Lift.{lift_zero}
use Rattle.code.specs.Limits.{longest_term, most_abstractors}
use Rattle.code.specs.Claims.{Stands}
use Rattle.code.specs.Scope.{scope}
use Rattle.code.proofs.Parts.{stands_start}
use Rattle.frames.specs.declared.FrameRecord.{FrameRecord}
use Rattle.letters.specs.Letters.{letters, Lies}
use Rattle.letters.specs.Clauses.{Readable, ReadAs, read_all, Reads}
use Rattle.letters.specs.Clauses as reading
use Rattle.letters.proofs.Letters.{lies_stored, same_letters, same_term}
use Rattle.parts.specs.Parts.{Compared}
use Rattle.verdict.specs.Bounds.{body_fits}
use Rattle.verdict.specs.Verdict.{identical}
use Rattle.verdict.proofs.Runs.{identical_eq, identical_refl, cond_both}
use Rattle.bodies.specs.Held.{Held}
use Rattle.bodies.proofs.Places.{fits_true, fits_long, fits_deep}
use Rattle.compare.specs.Replays.{Loadable, LoadedAs, loaded, too_large, Loads}

-- ---- A term brought into an array.
module _ {w b : List ℕ} {len from to : ℕ} (x : Loadable w b len from to) where
  load_ordered : from ≤ to
  load_ordered = omega (arith, stands_start x.stands)

  pub load_long : longest_term < to - from → Loads w b b len from to false
  load_long l = record { all = λ R t d h. too_large (fits_long R t (omega (arith, h.place))); same_length = refl }

  module _ (l : to - from ≤ longest_term) where
    pub load_readable : Readable w from to 0 0 0 (most_abstractors - len) b 0
    load_readable = record {
      standing = record { term = x.term; stands = x.stands; short = omega (arith, load_ordered) };
      index = omega arith;
      deep = omega arith;
      high = omega (arith, load_ordered);
      fits = omega arith;
    }

    pub load_read : {b' : List ℕ} {r : Bool} → Reads w from to 0 0 0 (most_abstractors - len) b b' 0 r → Loads w b b' len from to r
    load_read {b'} {r} c = record { all = λ R t d h. go R t d h (c.all t h); same_length = c.same_length }
      where
        go : {r : Bool} (R : Frame) (t : Term) → depth R ≡ len → Stands w from to t → ReadAs 0 0 0 (most_abstractors - len) b b' 0 t r → LoadedAs b' (to - from) R t r
        go R t d h (read_all e s) = loaded (fits_true R t (omega (arith, h.place)) (omega (arith, x.few)))
            (subst (λ n. Lies b' 0 n 0 0 t) (omega (arith, h.place)) (lies_stored b 0 0 0 h.coded (omega (arith, h.place, x.array)) (e ∙ ap (λ u. sets b 0 (letters 0 0 u)) (lift_zero 0 t))))
        go R t d h (reading.too_deep s) = too_large (fits_deep R t (omega (arith, x.few)))

pub fits_limits : (R : Frame) (t : Term) → body_fits R t ≡ true → (size t ≤ longest_term) × (depth R + scope t ≤ most_abstractors)
unfolding body_fits
fits_limits R t q =
    let z = cond_both (leb (size t) longest_term) (leb (depth R + scope t) most_abstractors) q in
    (leb-true (size t) longest_term z.0, leb-true (depth R + scope t) most_abstractors z.1)

-- ---- Two bodies are identical exactly if their letters are.
not_identical : (l r : Term) → (l ≡ r → ⊥) → identical l r ≡ false
not_identical l r h = go (identical l r) refl
  where
    go : (x : Bool) → identical l r ≡ x → identical l r ≡ false
    go true q = absurd (h (identical_eq l r q))
    go false q = q

module _ {w v : List ℕ} {f g : FrameRecord} {a b : List ℕ} {n k : ℕ} {R S : Frame} {l r : Term} (x : Held w f a n R l) (y : Held v g b k S r) where
  pub other_length : (n ≡ k → ⊥) → identical l r ≡ false
  other_length h = not_identical l r (λ q. h (x.lies.place ∙ ap (λ t. 0 + size t) q ∙ sym y.lies.place))

  module _ (e : n ≡ k) {s : Bool} (c : Compared a b n s) where
    other : Lies b 0 n 0 0 r
    other = subst (λ i. Lies b 0 i 0 0 r) (sym e) y.lies

    pub other_letters : s ≡ false → identical l r ≡ false
    other_letters q = not_identical l r (λ z. differ (c.found (same_letters x.lies other z)))
      where
        differ : s ≡ true → ⊥
        differ p = let z : ◌≡◌ {A = ℕ} 0 1 = cc in omega arith

    pub all_letters : s ≡ true → identical l r ≡ true
    all_letters q = ap (identical l) (sym (same_term x.lies other (c.same q))) ∙ identical_refl l

-- The answer as a test has it.
pub answered : {w b b' : List ℕ} {len from to : ℕ} {r q : Bool} → r ≡ q → Loads w b b' len from to r → Loads w b b' len from to q
answered {w} {b} {b'} {len} {from} {to} e x = subst (Loads w b b' len from to) e x
