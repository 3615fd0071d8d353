-- A removal: what stands between, and the rest of the couple, lowered, take the couple's place.
-- Assumes nothing.
use Prim.Native.Nat.{ℕ, suc, ◌+◌, ◌-◌, ◌≤◌, ◌<◌}
use mathlib.Core.Path.{◌≡◌, refl, ap, sym, subst, ◌∙◌}
use mathlib.Core.Option.{Option, some}
use mathlib.Core.List.{List, ◌++◌, map, append_assoc}
use native.Mathlib.Omega.{arith}
use lib.ListN.{length, take, drop}
use borrow.Rule.Slice.PartMut.{put_mid}
use lib.Seq.{paste, sets, sets-eq, take-append-add}
use Rattle.std.specs.Prelude.{Ok, Err, Result}
use Rattle.calculus.specs.Terms.{Term, size}
use Rattle.calculus.specs.Frames.{Frame}
use Rattle.calculus.specs.Steps.{still_used, reached, refused, map_outcome, lower, unused, remove, at_partner, step_here, step}
use Rattle.calculus.proofs.Closed.{closedness}
use Rattle.code.specs.Limits.{longest_term}
use Rattle.code.specs.Scope.{scope}
use Rattle.parts.specs.Parts.{part, Copied}
use Rattle.parts.proofs.Cut.{length_part}
use Rattle.parts.proofs.Stores.{take_sets, drop_sets_start}
use Rattle.frames.specs.declared.FrameRecord.{FrameRecord}
use Rattle.letters.specs.Letters.{letters}
use Rattle.letters.proofs.Letters.{length_letters, lies_end}
use Rattle.bodies.specs.Ways.{put, depth_at, height_at}
use Rattle.bodies.specs.declared.Reason.{Reason}
use Rattle.bodies.specs.declared.Reason.TheVariants.{StillUsed}
use Rattle.bodies.specs.declared.StepError.TheVariants.{NotPossible}
use Rattle.bodies.specs.Reasons.{said}
use Rattle.bodies.specs.Held.{Held, SteppedAs, step_refused, step_reached, Steps}
use Rattle.bodies.specs.Moving.{Mapped, Spliced}
use Rattle.bodies.proofs.Places.{put_held}
use Rattle.steps.specs.Lowering.{lowered_letter, uses_of, InScope}
use Rattle.steps.specs.Couples.{InSomeBody, instead, SomeCouple, remaining, CoupleAt, Searches}
use Rattle.steps.specs.declared.Couple.{Couple}
use Rattle.steps.proofs.Lowering.{lowered_lies, uses_none, uses_some, lower_size, lower_scope}
use Rattle.steps.proofs.Tails.{partner_along, tail_scope, instead_size, instead_scope, instead_letters}
use Rattle.steps.proofs.Couples.{removal_here, bounds, couple_of_body, some_couple, couple_inside, places, in_scope}
use Rattle.bodies.proofs.Storing.{moved_within}
use Rattle.steps.proofs.Storing.{mapped_part}
use Rattle.steps.proofs.Writing.{later_letters, behind_gap}

-- ---- The letters from q up to e move to p, changed, with all that follow.
module _ {s : List ℕ} {n p q e : ℕ} (l : n ≤ length s) (o : p ≤ q) (b : q ≤ e) (g : e ≤ n) {v : List ℕ} (k : length v ≡ e - q) where
  dropped : {s₁ s₂ : List ℕ} → s₁ ≡ sets s q v → length s₁ ≡ length s → Copied s₁ q n s₁ s₂ p → Spliced s s₂ n p e v
  dropped {s₁} {s₂} a y d = record {
    rest = drop (p + length (part s₁ q n)) s₁;
    letters_there = d.bytes ∙ sets-eq (part s₁ q n) s₁ p (omega (arith, count)) ∙ rw (start, moved) (simp append_assoc);
    same_length = d.same_length ∙ y;
  }
    where
      count : length (part s₁ q n) ≡ n - q
      count = length_part s₁ q n (omega arith)

      start : take p s₁ ≡ take p s
      start = rw a (take_sets v s q p o)

      after : drop q s₁ ≡ v ++ drop (q + length v) s
      after = rw a (drop_sets_start v s q (omega arith))

      longer : n - q ≡ length v + (n - e)
      longer = omega arith

      end : q + length v ≡ e
      end = omega arith

      moved : part s₁ q n ≡ v ++ part s e n
      moved = rw (after, longer, end) (take-append-add v (drop e s) (n - e))

-- ---- A step of kind 2 on the couple.
module _ {W : List ℕ} {f : FrameRecord} {s : List ℕ} {n p : ℕ} {R : Frame} {t : Term} {x : Couple} (y : Held W f s n R t) (o : CoupleAt s n p R t x) where
  abbrev H : ℕ
  H = height_at 0 o.way

  removes : {v : Option Term} → lower 0 o.B ≡ v → step R (record { kind = 2; place = p }) t ≡ map_outcome (put o.way) (map_outcome (instead o.tail) (unused v))
  unfolding step_here at_partner remove
  removes r = removal_here R o.way (partner_along remove o.K o.tail ∙ ap (λ v. map_outcome (instead o.tail) (unused v)) r)

  few : suc x.depth + scope o.B < 1022
  few = omega (arith, o.lies.rest_few)

  still_uses : (uses_of x.depth (part s x.rest x.end) ≡ 0 → ⊥) → step R (record { kind = 2; place = p }) t ≡ refused still_used
  unfolding map_outcome unused
  still_uses r = removes (uses_some o.lies.rest few r)

  -- the letters of the form
  form_letters : (L : Term) → remaining s x ++ letters x.depth H L ≡ letters (depth_at 0 o.way) H (instead o.tail L)
  form_letters L = rw (o.deep, o.lies.inner, ← o.between) (sym (instead_letters x.outer H o.tail L))

  abbrev at : ℕ
  at = p + (x.abstractor - x.between)

  module _ (g : SomeCouple s p x) {s₁ s₂ s₃ : List ℕ} (c : Copied s x.between x.abstractor s s₁ p) where
    removed : uses_of x.depth (part s x.rest x.end) ≡ 0 → Mapped (lowered_letter x.depth) s₁ s₁ s₂ x.rest x.end x.rest → Copied s₂ x.rest n s₂ s₃ at
        → SteppedAs W f s₃ R (record { kind = 2; place = p }) t (Ok (n - (x.rest - at)))
    unfolding map_outcome unused size scope
    removed u a d = go (uses_none o.lies.rest few u)
      where
        most : n ≤ longest_term
        most = omega (arith, lies_end y.lies, y.array)

        go : (L : Term) × (lower 0 o.B ≡ some L) → SteppedAs W f s₃ R (record { kind = 2; place = p }) t (Ok (n - (x.rest - at)))
        go (L, r) =
            let l = o.lies in
            let z : step R (record { kind = 2; place = p }) t ≡ reached (put o.way (instead o.tail L)) = removes r in
            let sizes : size L ≡ x.end - x.rest = lower_size 0 o.B L r ∙ omega (arith, l.rest.place) in
            let same : part s₁ x.rest x.end ≡ part s x.rest x.end = rw (later_letters g c x.rest (omega (arith, places g))) refl in
            let whole_size = instead_size o.tail L in
            let whole_scope = instead_scope o.tail L in
            let old_scope = tail_scope o.tail in
            step_reached z (put_held y o.way (instead o.tail L) {m = n - (x.rest - at)} (closedness.step_closed (record { kind = 2; place = p }) y.closed_frame y.closed z)
            (omega (arith, lower_scope 0 o.B L r, o.few, o.deep)) (omega (arith, most))
            (omega (arith, sizes, l.rest.place, l.place, o.inside, o.ends, places g)) o.ends
            (subst (Spliced s s₃ n p x.end) (form_letters L) (behind_gap g c
            (dropped (omega (arith, c.same_length, y.array, most)) (omega (arith, places g)) (omega (arith, places g)) o.inside (length_letters x.depth H L ∙ sizes)
            (a.letters_there ∙ ap (sets s₁ x.rest) (ap (map (lowered_letter x.depth)) same ∙ lowered_lies l.rest few r)) a.same_length d))))

-- ---- By the contracts of the calls.
module _ {s : List ℕ} {n p : ℕ} (g : InSomeBody s n p) {v : Result Couple Reason} {x : Couple} (c : Searches s n p v) (e : v ≡ Ok x) where
  abbrev there : SomeCouple s p x
  there = some_couple g c e

  pub gap_moved : {s₁ : List ℕ} → s₁ ≡ paste s p (drop x.between s) (x.abstractor - x.between) → Copied s x.between x.abstractor s s₁ p
  gap_moved q = let o = places there in moved_within (omega (arith, there.array)) (omega (arith, there.array)) q

  module _ {s₁ : List ℕ} (a : Copied s x.between x.abstractor s s₁ p) where
    -- the rest lowered
    pub rest_lowered : {v : List ℕ} → v ≡ map (lowered_letter x.depth) (part s₁ x.rest x.end) → Mapped (lowered_letter x.depth) s₁ s₁ (put_mid x.rest (x.end - x.rest) s₁ v) x.rest x.end x.rest
        × ((x.rest ≤ n) × (n ≤ length (put_mid x.rest (x.end - x.rest) s₁ v)) × (p + (x.abstractor - x.between) + (n - x.rest) ≤ length (put_mid x.rest (x.end - x.rest) s₁ v)))
    rest_lowered {v} q =
        let o = places there in
        let m : Mapped (lowered_letter x.depth) s₁ s₁ (put_mid x.rest (x.end - x.rest) s₁ v) x.rest x.end x.rest = mapped_part (omega arith) (omega (arith, a.same_length, there.array)) q in
        let l : length (put_mid x.rest (x.end - x.rest) s₁ v) ≡ longest_term = m.same_length ∙ a.same_length ∙ there.array in
        (m, (omega (arith, couple_inside g c e), omega (arith, bounds g), omega (arith, bounds g)))

    -- what stands between has moved: the rest is where it was
    pub moved_scope : InScope (part s₁ x.rest x.end) x.depth
    moved_scope = subst (λ v. InScope v x.depth) (ap (take (x.end - x.rest)) (sym (later_letters there a x.rest (omega (arith, places there))))) (in_scope there).0

  module _ {r : ℕ} (q : r ≡ uses_of x.depth (part s x.rest x.end)) where
    pub still : (r ≡ 0 → ⊥) → (w : List ℕ) (f : FrameRecord) → Steps w f s s n (record { kind = 2; place = p }) (Err (NotPossible StillUsed))
    unfolding said
    still u w f = record { all = λ R t y. step_refused (still_uses y (couple_of_body g c e y) (λ v. u (q ∙ v))); same_length = refl }

    pub gone : {s₁ s₂ s₃ : List ℕ} → r ≡ 0 → Copied s x.between x.abstractor s s₁ p → Mapped (lowered_letter x.depth) s₁ s₁ s₂ x.rest x.end x.rest
        → Copied s₂ x.rest n s₂ s₃ (p + (x.abstractor - x.between)) → (w : List ℕ) (f : FrameRecord)
        → Steps w f s s₃ n (record { kind = 2; place = p }) (Ok (n - (x.rest - (p + (x.abstractor - x.between)))))
    gone u a v o w f = record { all = λ R t y. removed y (couple_of_body g c e y) there a (sym q ∙ u) v o; same_length = o.same_length ∙ v.same_length ∙ a.same_length }
