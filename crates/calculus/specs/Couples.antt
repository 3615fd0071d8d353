-- Couples (source document 003, section 3; request (d)): an applicator and an abstractor of one train with wagons between them that match
-- among themselves. That the steps find just these is promise 11.
-- Assumes nothing.
use Rattle.std.specs.Prelude.{ℕ, suc, ◌<◌, ◌≡◌, List, [], ◌∷◌, ◌++◌}
use Rattle.calculus.specs.Terms.{Term, app, abs, size, lift}
use Rattle.calculus.specs.Frames.{pair, Frame, ◌▹◌}
use Rattle.calculus.specs.Steps.{Kind, local, couples, Outcome, reached, map_outcome, at_partner, entry_of, unmatched, step_at, step}
use Rattle.calculus.specs.Whole.{past, at}

pub data Item : Type 0 where
  applicator abstractor : Term → Item

-- The items of s, then B.
unfoldable pub items : List Item → Term → Term
items [] B = B
items (applicator K ∷ s) B = app K (items s B)
items (abstractor U ∷ s) B = abs U (items s B)

-- How many of them bind.
unfoldable pub binders : List Item → ℕ
binders [] = 0
binders (applicator K ∷ s) = binders s
binders (abstractor U ∷ s) = suc (binders s)

-- Items (wagons, in the papers) that match among themselves, as brackets do.
pub data Matched : List Item → Type 0 where
  matched_none : Matched []
  matched_couple : {K : Term} {s r : List Item} (U : Term) → Matched s → Matched r → Matched (applicator K ∷ (s ++ (abstractor U ∷ r)))

-- Place p of what follows s; the frame there, and the applicators that are not yet matched there.
unfoldable pub past_all : List Item → ℕ → ℕ
past_all [] p = p
past_all (applicator K ∷ s) p = past K (past_all s p)
past_all (abstractor U ∷ s) p = past U (past_all s p)

unfoldable pub frame_after : Frame → List Term → List Item → Frame
frame_after R M [] = R
frame_after R M (applicator K ∷ s) = frame_after R (K ∷ M) s
frame_after R M (abstractor U ∷ s) = frame_after (R ▹ entry_of M U) (unmatched couples M) s

unfoldable pub unmatched_after : List Term → List Item → List Term
unmatched_after M [] = M
unmatched_after M (applicator K ∷ s) = unmatched_after (K ∷ M) s
unmatched_after M (abstractor U ∷ s) = unmatched_after (unmatched couples M) s

unfoldable pub lift_all_by : ℕ → List Term → List Term
lift_all_by n [] = []
lift_all_by n (K ∷ M) = lift n 0 K ∷ lift_all_by n M

-- The abstractor of a couple in C: what its applicator needs.
pub record Couple (C : Term) : Type 0 where
  pub between : List Item
  pub matched : Matched between
  pub domain : Term
  pub scope : Term
  pub stands : C ≡ items between (abs domain scope)

-- The applicator of a couple whose abstractor follows s: what that needs; K is its term, lifted past what stands between.
pub record CoupleAfter (s : List Item) (K : Term) : Type 0 where
  pub first : List Item
  pub applied : Term
  pub between : List Item
  pub matched : Matched between
  pub stands : s ≡ first ++ (applicator applied ∷ between)
  pub lifted : K ≡ lift (binders between) 0 applied

-- 11. The steps find couples, and nothing else.
pub record Coupling : Type 0 where
  -- kinds 2 and 3 take what the couple's abstractor is, and leave the wagons between
  pub taken : {s : List Item} (f : Term → Term → Outcome) (K U B : Term) → Matched s
      → at_partner couples f K (items s (abs U B)) 0 ≡ map_outcome (items s) (f (lift (binders s) 0 K) B)
  pub only : {u : Term} (f : Term → Term → Outcome) (K C : Term) → at_partner couples f K C 0 ≡ reached u → Couple C
  -- kind 1 in a body: what stands before the body takes no part; past some wagons the frame has grown by them
  pub in_body : (s : List Item) (R : Frame) (B : Term) (p : ℕ) → step R (at 1 (past_all s p)) (items s B) ≡ map_outcome (items s) (step_at couples local (frame_after R [] s) (unmatched_after [] s) B p)
  -- inside a wagon another train begins
  pub in_applicator : (κ : Kind) (R : Frame) (M : List Term) (K B : Term) (p : ℕ) → p < size K → step_at couples κ R M (app K B) (suc p) ≡ map_outcome (λ X. app X B) (step_at couples κ R [] K p)
  pub in_abstractor : (κ : Kind) (R : Frame) (M : List Term) (U B : Term) (p : ℕ) → p < size U → step_at couples κ R M (abs U B) (suc p) ≡ map_outcome (λ X. abs X B) (step_at couples κ R [] U p)
  -- past matched wagons all applicators before them still wait, lifted past their abstractors; so the entry of a couple's abstractor has the
  -- couple's K, and an entry that has a K is that of a couple's abstractor
  pub waiting : {s : List Item} (M : List Term) → Matched s → unmatched_after M s ≡ lift_all_by (binders s) M
  pub known : {s : List Item} (M : List Term) (K U : Term) → Matched s → entry_of (unmatched_after (K ∷ M) s) U ≡ pair (lift (binders s) 0 K) U
  pub known_only : (s : List Item) (K U : Term) → entry_of (unmatched_after [] s) U ≡ pair K U → CoupleAfter s K
