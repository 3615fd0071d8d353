-- The letters of a whole substitution, written into an array of their own and then into the body.
-- Assumes nothing.
use Prim.Native.Nat.{ℕ, suc, ◌+◌, ◌-◌, ◌*◌, ◌≤◌, ◌<◌, max}
use mathlib.Core.Path.{◌≡◌, refl, ap, sym, subst, ◌∙◌}
use mathlib.Core.Bool.{Bool, true, false, cond}
use mathlib.Core.List.{List, [], ◌∷◌, ◌++◌, map, append_assoc}
use native.Mathlib.Omega.{arith}
use native.Mathlib.Nat.{add-zero, add-suc, suc-add, sub-zero, mul-le-mul}
use lib.ListN.{length, get_or, set, take, drop, length-append, length-map, length-set}
use borrow.Rule.Slice.PartMut.{put_mid}
use lib.Seq.{sets, length-sets, take_at}
use Rattle.std.proofs.lemmas.List.{drop_more, drop_all}
use lib.Dec.{eqb}
use Rattle.calculus.specs.Terms.{Term}
use Rattle.code.specs.Limits.{longest_term, most_abstractors}
use Rattle.code.specs.Scope.{scope}
use Rattle.parts.specs.Parts.{part, Copied}
use Rattle.parts.proofs.Cut.{length_part, part_first, part_empty}
use Rattle.parts.proofs.Stores.{drop_sets, take_sets_end, drop_sets_start}
use Rattle.letters.specs.Letters.{symbol_of, depth_of, height_of, Lies}
use Rattle.bodies.specs.Moving.{lifted_letter, LettersLiftable, LettersLifted, SomeLies, DeepestIs, Spliced}
use Rattle.bodies.proofs.Extents.{above, under, first_height}
use Rattle.bodies.proofs.Places.{splice}
use Rattle.steps.specs.Lowering.{lowered_letter, is_use, use_of, uses_of}
use Rattle.steps.specs.Couples.{CoupleLies, SomeCouple, remaining}
use Rattle.steps.specs.Filling.{filled_letter, filled, filling_of, filling, use_depth, deepest_use, UsesAre, LetterFillable, LetterFills, Fillable, Fills, Rewritable}
use Rattle.steps.specs.declared.Couple.{Couple}
use Rattle.steps.proofs.Lowering.{Counting, counting_end}
use Rattle.steps.proofs.Couples.{places}
use Rattle.steps.proofs.Filling.{length_letter, filled_length}
use Rattle.bodies.proofs.Lifting.{lies_part}
use Rattle.bodies.proofs.Storing.{stored}

-- ---- How often and how deep the variable is used: the loop.
pub record Deepening (s : List ℕ) (c i most : ℕ) : Type 0 where
  pub small : most < 1024
  pub result : max most (deepest_use c (drop i s)) ≡ deepest_use c s

module _ {s : List ℕ} {c i most : ℕ} (w : Deepening s c i most) where
  pub deepening_next : {x : ℕ} → i < length s → x < 1024 → x ≡ use_depth c (get_or s i 0) → Deepening s c (i + 1) (max most x)
  unfolding deepest_use
  deepening_next l a q = record { small = omega (arith, w.small); result = omega (arith, w.result, ap (deepest_use c) (drop_more s i 0 l)) }

  pub measured : {count : ℕ} → Counting s c i count → length s ≤ i → UsesAre s c (record { count = count; deepest = most })
  unfolding deepest_use
  measured v l = record { count_is = counting_end v l; deepest_is = omega (arith, w.result, ap (deepest_use c) (drop_all i s l)); small = w.small }

-- ---- The number of letters, and the depth of the deepest K.
-- The most abstractors in scope of a letter of K there; the dropped one is counted.
pub record DepthIs (s : List ℕ) (p : ℕ) (x : Couple) (r : ℕ) : Type 0 where
  pub all : (h d j : ℕ) (K U B : Term) → CoupleLies s p h d x j K U B → r ≡ deepest_use x.depth (part s x.rest x.end) + scope K

uses_most : (c : ℕ) (s : List ℕ) → uses_of c s ≤ length s
unfolding uses_of use_of
uses_most c [] = omega arith
uses_most c (x ∷ s) = omega (arith, uses_most c s, go (eqb (symbol_of x) (depth_of x - c)))
  where
    go : (b : Bool) → cond b 1 0 ≤ 1
    go true = omega arith
    go false = omega arith

module _ {s : List ℕ} {p : ℕ} {x : Couple} (g : SomeCouple s p x) where
  count_k : length (part s (p + 1) x.between) ≡ x.between - (p + 1)
  count_k = length_part s (p + 1) x.between (omega (arith, places g, g.array))

  count_rest : length (part s x.rest x.end) ≡ x.end - x.rest
  count_rest = length_part s x.rest x.end (omega (arith, places g, g.array))

  one_more : length (part s (p + 1) x.between) - 1 ≡ x.between - p - 2
  one_more = omega (arith, count_k, places g)

  module _ {r : ℕ} (q : r ≡ uses_of x.depth (part s x.rest x.end)) where
    pub size_small : r * (x.between - p - 2) ≤ 16777216
    size_small = mul-le-mul {n₂ = 4096} {m₂ = 4096} (omega (arith, uses_most x.depth (part s x.rest x.end), count_rest, places g)) (omega (arith, places g))

    pub size_is : x.end - x.rest + r * (x.between - p - 2) ≡ length (filling s p x)
    size_is = rw (q, ← one_more) (sym (filled_length x.depth x.outer (height_of (get_or s (p + 1) 0)) (part s (p + 1) x.between) (omega (arith, count_k, places g)) (part s x.rest x.end) ∙ ap (◌+ uses_of x.depth (part s x.rest x.end) * (length (part s (p + 1) x.between) - 1)) count_rest))

  pub K_lies : SomeLies (part s (p + 1) x.between)
  K_lies = record { c = x.outer; low = suc g.h; term = g.K; lies = lies_part g.lies.argument (omega (arith, places g, g.array)); few = omega (arith, g.lies.argument_few) }

  module _ {most : ℕ} (c : DeepestIs (part s (p + 1) x.between) most) where
    K_depth : {h d j : ℕ} {K U B : Term} → CoupleLies s p h d x j K U B → most ≡ x.outer + scope K
    K_depth {h} {K = K} l = c.all x.outer (suc h) K (lies_part l.argument (omega (arith, places g, g.array))) (omega (arith, l.argument_few))

    pub K_deep : (x.outer ≤ most) × (most ≤ most_abstractors)
    K_deep = (omega (arith, K_depth g.lies), omega (arith, K_depth g.lies, g.lies.argument_few))

    pub depth_is : {r : ℕ} → r ≡ deepest_use x.depth (part s x.rest x.end) → DepthIs s p x (r + (most - x.outer))
    depth_is q = record { all = λ h d j K U B l. omega (arith, K_depth l) }

-- ---- One letter.
module _ (a c low : ℕ) (v : List ℕ) (y : ℕ) where
  filled_other : use_of a y ≡ 0 → filled_letter a c low v y ≡ lowered_letter a y ∷ []
  unfolding filled_letter use_of
  filled_other = go (eqb (symbol_of y) (depth_of y - a))
    where
      go : (b : Bool) → ◌≡◌ {A = ℕ} (cond b 1 0) 0 → cond b (map (lifted_letter c (depth_of y - 1 - c) (height_of y) low) v) (lowered_letter a y ∷ []) ≡ lowered_letter a y ∷ []
      go true e = absurd (omega arith)
      go false e = refl

  filled_use : (use_of a y ≡ 0 → ⊥) → (filled_letter a c low v y ≡ map (lifted_letter c (depth_of y - 1 - c) (height_of y) low) v) × (use_depth a y ≡ depth_of y)
  unfolding filled_letter use_of use_depth
  filled_use = go (eqb (symbol_of y) (depth_of y - a))
    where
      go : (b : Bool) → (◌≡◌ {A = ℕ} (cond b 1 0) 0 → ⊥) → (cond b (map (lifted_letter c (depth_of y - 1 - c) (height_of y) low) v) (lowered_letter a y ∷ []) ≡ map (lifted_letter c (depth_of y - 1 - c) (height_of y) low) v) × (cond b (depth_of y) 0 ≡ depth_of y)
      go true e = (refl, refl)
      go false e = absurd (e refl)

-- By the answer of `is_use`.
pub no_use : (a y : ℕ) {b : Bool} → b ≡ is_use a y → b ≡ false → use_of a y ≡ 0
unfolding use_of
no_use a y q e = rw (sym q ∙ e)

pub some_use : (a y : ℕ) {b : Bool} → b ≡ is_use a y → b ≡ true → use_of a y ≡ 0 → ⊥
unfolding use_of
some_use a y q e z = let o : use_of a y ≡ 1 = rw (sym q ∙ e) in omega arith

module _ {s : List ℕ} {p : ℕ} {x : Couple} {y : ℕ} {out : List ℕ} {j : ℕ} (g : LetterFillable s p x y out j) where
  abbrev low_k : ℕ
  low_k = height_of (get_or s (p + 1) 0)

  abbrev K_letters : List ℕ
  K_letters = part s (p + 1) x.between

  module _ (e : use_of x.depth y ≡ 0) where
    other_is : filling_of s p x y ≡ lowered_letter x.depth y ∷ []
    other_is = filled_other x.depth x.outer low_k K_letters y e

    pub other_fits : j + 1 ≤ length out
    other_fits = omega (arith, g.fits, ap length other_is)

    pub other_stored : {z : ℕ} → z ≡ lowered_letter x.depth y → LetterFills s p x y out (set out j z) j (j + 1)
    other_stored q = record { letters_there = rw (q, other_is) refl; same_length = length-set out j _; after = omega (arith, ap length other_is) }

  module _ (e : use_of x.depth y ≡ 0 → ⊥) where
    use_is : filling_of s p x y ≡ map (lifted_letter x.outer (depth_of y - 1 - x.outer) (height_of y) low_k) K_letters
    use_is = (filled_use x.depth x.outer low_k K_letters y e).0

    use_count : length (filling_of s p x y) ≡ x.between - (p + 1)
    use_count = ap length use_is ∙ length-map K_letters (lifted_letter x.outer (depth_of y - 1 - x.outer) (height_of y) low_k) ∙ count_k g.couple

    use_few : x.outer + scope g.couple.K + (depth_of y - 1 - x.outer) ≤ most_abstractors
    use_few = omega (arith, g.few, g.inner, places g.couple, (filled_use x.depth x.outer low_k K_letters y e).1)

    K_there : Lies K_letters 0 (length K_letters) x.outer (suc g.couple.h) g.couple.K
    K_there = lies_part g.couple.lies.argument (omega (arith, places g.couple, g.couple.array))

    pub use_liftable : LettersLiftable K_letters x.outer (depth_of y - 1 - x.outer) (height_of y) × (j + length K_letters ≤ length out)
    use_liftable = (
      record { low = suc g.couple.h; term = g.couple.K; lies = K_there; few = use_few; high = omega (arith, g.high, use_count, count_k g.couple) },
      omega (arith, g.fits, use_count, count_k g.couple),
    )

    pub use_stored : {v : List ℕ} → LettersLifted K_letters v x.outer (depth_of y - 1 - x.outer) (height_of y) → LetterFills s p x y out (put_mid j (length K_letters) out v) j (j + length K_letters)
    use_stored {v} a = record { letters_there = now; same_length = ap length now ∙ length-sets out j (filling_of s p x y); after = omega (arith, use_count, count_k g.couple) }
      where
        q : low_k ≡ suc g.couple.h
        q = first_height g.couple.lies.argument (omega (arith, g.couple.lies.argument_few))

        is : v ≡ filling_of s p x y
        is = a.all (suc g.couple.h) g.couple.K K_there use_few ∙ ap (λ z. map (lifted_letter x.outer (depth_of y - 1 - x.outer) (height_of y) z) K_letters) (sym q) ∙ sym use_is

        now : put_mid j (length K_letters) out v ≡ sets out j (filling_of s p x y)
        now = stored out v j (length K_letters) (ap length is ∙ omega (arith, use_count, count_k g.couple)) use_liftable.1 ∙ ap (sets out j) is

-- ---- All letters: the loop.
sets_both : (a b s : List ℕ) (at : ℕ) → sets (sets s at a) (at + length a) b ≡ sets s at (a ++ b)
sets_both [] b s at = rw (add-zero at)
sets_both (x ∷ a) b s at = rw (add-suc at (length a), ← suc-add at (length a)) (sets_both a b (set s at x) (suc at))

-- The letters of B from i on are still to be filled in, from j on.
pub record Filling (s : List ℕ) (p : ℕ) (x : Couple) (out₀ out : List ℕ) (i j : ℕ) : Type 0 where
  pub same_length : length out ≡ length out₀
  pub after : x.rest ≤ i
  pub ahead : i ≤ j + x.rest
  pub count : j + length (filled x.depth x.outer (height_of (get_or s (p + 1) 0)) (part s (p + 1) x.between) (part s i x.end)) ≡ length (filling s p x)
  pub deep : deepest_use x.depth (part s i x.end) ≤ deepest_use x.depth (part s x.rest x.end)
  pub result : sets out j (filled x.depth x.outer (height_of (get_or s (p + 1) 0)) (part s (p + 1) x.between) (part s i x.end)) ≡ sets out₀ 0 (filling s p x)

pub filling_start : {s : List ℕ} {p : ℕ} {x : Couple} {out : List ℕ} → Filling s p x out out x.rest 0
filling_start = record { same_length = refl; after = omega arith; ahead = omega arith; count = omega arith; deep = omega arith; result = refl }

module _ {s : List ℕ} {p : ℕ} {x : Couple} {out₀ out : List ℕ} {i j : ℕ} (g : Fillable s p x out₀) (w : Filling s p x out₀ out i j) where
  module _ (l : i < x.end) where
    next_of : part s i x.end ≡ get_or s i 0 ∷ part s (i + 1) x.end
    next_of = part_first s i x.end l (omega (arith, places g.couple, g.couple.array))

    abbrev left : List ℕ
    left = filled x.depth x.outer (height_of (get_or s (p + 1) 0)) (part s (p + 1) x.between) (part s (i + 1) x.end)

    next_filled : filled x.depth x.outer (height_of (get_or s (p + 1) 0)) (part s (p + 1) x.between) (part s i x.end) ≡ filling_of s p x (get_or s i 0) ++ left
    unfolding filled
    next_filled = ap (filled x.depth x.outer (height_of (get_or s (p + 1) 0)) (part s (p + 1) x.between)) next_of

    next_count : j + (length (filling_of s p x (get_or s i 0)) + length left) ≡ length (filling s p x)
    next_count = ap (j +◌) (sym (ap length next_filled ∙ length-append (filling_of s p x (get_or s i 0)) left)) ∙ w.count

    next_deep : max (use_depth x.depth (get_or s i 0)) (deepest_use x.depth (part s (i + 1) x.end)) ≤ deepest_use x.depth (part s x.rest x.end)
    unfolding deepest_use
    next_deep = omega (arith, w.deep, ap (deepest_use x.depth) next_of)

    pub letter_fillable : LetterFillable s p x (get_or s i 0) out j
    letter_fillable = let o = g.couple.lies in let b = o.rest_few in record {
      couple = g.couple;
      inner = omega (arith, (above g.couple.B (omega arith) o.rest i w.after l).deep);
      few = omega (arith, g.few, next_deep);
      high = omega (arith, (under g.couple.B (omega arith) o.rest i w.after l).high, o.low, w.ahead, w.after, next_count, g.short);
      fits = omega (arith, next_count, g.fits, w.same_length);
    }

    pub filling_next : {out' : List ℕ} {r : ℕ} → LetterFills s p x (get_or s i 0) out out' j r → Filling s p x out₀ out' (i + 1) r
    filling_next {out'} {r} a = record {
      same_length = a.same_length ∙ w.same_length;
      after = omega (arith, w.after);
      ahead = omega (arith, w.ahead, a.after, length_letter x.depth x.outer (height_of (get_or s (p + 1) 0)) (part s (p + 1) x.between) (omega (arith, count_k g.couple, places g.couple)) (get_or s i 0));
      count = omega (arith, a.after, next_count);
      deep = omega (arith, next_deep);
      result = rw (a.letters_there, a.after) (sets_both (filling_of s p x (get_or s i 0)) left out j) ∙ ap (sets out j) (sym next_filled) ∙ w.result;
    }

  pub filling_end : x.end ≤ i → Fills s p x out₀ out
  unfolding filled
  filling_end l = record { letters_there = ap (λ v. sets out j (filled x.depth x.outer (height_of (get_or s (p + 1) 0)) (part s (p + 1) x.between) v)) (sym (part_empty s i x.end l)) ∙ w.result; same_length = w.same_length }

-- ---- Into the body, behind what stands between, which moves to p first.
module _ {s s₁ : List ℕ} {p : ℕ} {x : Couple} (g : SomeCouple s p x) (c : Copied s x.between x.abstractor s s₁ p) where
  abbrev gap : ℕ
  gap = x.abstractor - x.between

  count_gap : length (remaining s x) ≡ gap
  count_gap = length_part s x.between x.abstractor (omega (arith, places g, g.array))

  stored_gap : s₁ ≡ sets s p (remaining s x)
  stored_gap = c.bytes

  first_part : take (p + gap) s₁ ≡ take p s ++ remaining s x
  first_part = ap (λ y. take (p + y) s₁) (sym count_gap) ∙ ap (take (p + length (remaining s x))) stored_gap ∙ take_sets_end (remaining s x) s p (omega (arith, count_gap, places g, g.array))

  -- nothing else moves
  pub later_letters : (j : ℕ) → x.abstractor ≤ j → drop j s₁ ≡ drop j s
  later_letters j a = ap (drop j) stored_gap ∙ drop_sets (remaining s x) s p j (omega (arith, count_gap, places g))

  pub behind_gap : {s₂ v : List ℕ} {n : ℕ} → Spliced s₁ s₂ n (p + gap) x.end v → Spliced s s₂ n p x.end (remaining s x ++ v)
  behind_gap {v = v} d = record {
    rest = d.rest;
    letters_there = d.letters_there ∙ rw (first_part, later_letters x.end (omega (arith, places g))) (simp append_assoc);
    same_length = d.same_length ∙ c.same_length;
  }

module _ {s : List ℕ} {n p : ℕ} {x : Couple} {count : ℕ} (g : Rewritable s n p x count) where
  pub fillable : {out : List ℕ} → count ≤ length out → Fillable s p x out
  fillable l = record { couple = g.couple; few = g.few; short = omega (arith, g.fits, g.count_is); fits = omega (arith, g.count_is) }

  pub gap_movable : (x.between ≤ x.abstractor) × (x.abstractor ≤ length s) × (p + (x.abstractor - x.between) ≤ length s)
  gap_movable = (omega (arith, places g.couple), omega (arith, places g.couple, g.couple.array), omega (arith, places g.couple, g.couple.array))

  module _ {out out' s₁ : List ℕ} (a : Fills s p x out out') (l : count ≤ length out) (c : Copied s x.between x.abstractor s s₁ p) where
    abbrev at : ℕ
    at = p + (x.abstractor - x.between)

    pub movable : (x.end ≤ n) × (n ≤ length s₁) × (at + count + (n - x.end) ≤ length s₁) × (length s₁ ≡ longest_term)
    movable = (g.inside, omega (arith, g.most, g.couple.array, c.same_length), omega (arith, g.fits, g.couple.array, c.same_length), c.same_length ∙ g.couple.array)

    module _ {s₂ : List ℕ} (b : Copied s₁ x.end n s₁ s₂ (at + count)) where
      pub copyable : (count ≤ length out') × (at + count ≤ length s₂) × (length s₂ ≡ longest_term)
      copyable = (omega (arith, a.same_length), omega (arith, b.same_length, movable), b.same_length ∙ movable.3)

      written : part out' 0 count ≡ filling s p x
      written = ap (λ z. part z 0 count) a.letters_there ∙ rw (sub-zero count) (ap (take count) (drop_sets_start (filling s p x) out 0 (omega (arith, g.count_is))) ∙ take_at (filling s p x) (drop (0 + length (filling s p x)) out) count (sym g.count_is))

      pub rewritten : {s₃ : List ℕ} → Copied out' 0 count s₂ s₃ at → Spliced s s₃ n p x.end (remaining s x ++ filling s p x)
      rewritten d = behind_gap g.couple c
          (splice g.inside movable.1 (omega (arith, g.count_is, movable)) (subst (λ z. Copied s₁ x.end n s₁ s₂ (at + z)) g.count_is b) (d.bytes ∙ ap (sets s₂ at) written) (d.same_length ∙ b.same_length))
