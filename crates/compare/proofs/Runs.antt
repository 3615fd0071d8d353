-- What the code answers in each case is what the comparison comes to.
-- Assumes nothing.
use Prim.Native.Nat.{ℕ, ◌≤◌, ◌<◌}
use mathlib.Core.Path.{◌≡◌, refl, ap}
use mathlib.Core.Bool.{Bool, true, false}
use mathlib.Core.Option.{none, some}
use mathlib.Core.List.{List, [], ◌∷◌, map}
use lib.ListN.{length, drop}
use Rattle.calculus.specs.Terms.{Term}
use Rattle.calculus.specs.Frames.{Frame}
use Rattle.calculus.specs.Types.{type}
use Rattle.calculus.specs.Steps.{Step}
use Rattle.calculus.specs.Rules.{Group}
use Rattle.letters.specs.Letters.{Lies}
use Rattle.letters.proofs.Letters.{lies_end}
use Rattle.fields.specs.declared.GroupSpan.{GroupSpan}
use Rattle.fields.specs.Fields.{GroupAt, Groups, group_in}
use Rattle.frames.specs.declared.FrameRecord.{FrameRecord}
use Rattle.bodies.specs.Held.{Held, SomeHeld}
use Rattle.parts.specs.Parts.{Compared as Same}
use Rattle.verdict.specs.Bounds.{body_fits}
use Rattle.verdict.specs.Verdict.{same_at, untyped, no_group, type_outgrown, domain_outgrown, place_of, Progress, turned, completed, passed, stopped, OtherSide, right_next, left_reached, side_of, done, identical, forms_meet, side_from, with_group, with_type, to_turn}
use Rattle.verdict.proofs.Turns.{turn_over}
use Rattle.std.specs.Prelude.{Ok, Err}
use Rattle.compare.specs.declared.Side.{Side}
use Rattle.compare.specs.declared.Side.TheVariants.{Left, Right}
use Rattle.compare.specs.declared.Ground.{Ground}
use Rattle.compare.specs.declared.Ground.TheVariants.{BodiesDiffer}
use Rattle.compare.specs.Answers.{side_said, side_number, Compared, ground_says, compared_says}
use Rattle.compare.specs.Replays.{here, Comes, ReplayedAs, as_form, as_refused, as_outgrown, Replays}
use Rattle.compare.specs.Compares.{is_refused, is_step_outgrown, is_different, compare_passed, compare_stopped, Ends}
use Rattle.compare.specs.Sides.{Concludes, Sides}
use Rattle.compare.proofs.Bodies.{other_length, other_letters, all_letters}
use Rattle.compare.proofs.Leading.{ends_at, ends_after, stops_at}

-- ---- The comparison by cases.
module _ (R : Frame) (place : ℕ) (U : Term) (p : Progress) where
  pub next_untyped : (K : Term) → type R K ≡ none → to_turn (same_at place R K U ∷ []) p ≡ done (stopped (untyped place) p)
  unfolding to_turn with_type
  next_untyped K e = rw e

  pub next_typed : (K T : Term) → type R K ≡ some T → to_turn (same_at place R K U ∷ []) p ≡ with_group place R T U p.left [] (to_turn []) p
  unfolding to_turn with_type
  next_typed K T e = rw e

  module _ (T : Term) where
    pub no_groups : p.left ≡ [] → with_group place R T U p.left [] (to_turn []) p ≡ done (stopped (no_group place) p)
    unfolding with_group
    no_groups e = rw e

    module _ {g : Group} {gs : List Group} (e : p.left ≡ g ∷ gs) where
      pub large_type : body_fits R T ≡ false → with_group place R T U p.left [] (to_turn []) p ≡ done (stopped (type_outgrown place) p)
      unfolding with_group
      large_type h = rw (e, h)

      pub large_domain : body_fits R T ≡ true → body_fits R U ≡ false → with_group place R T U p.left [] (to_turn []) p ≡ done (stopped (domain_outgrown place) p)
      unfolding with_group
      large_domain h i = rw (e, h, i)

      pub both_fit : body_fits R T ≡ true → body_fits R U ≡ true → with_group place R T U p.left [] (to_turn []) p ≡ side_from place R (right_next g.right U) 0 g.left T [] (to_turn []) p
      unfolding with_group
      both_fit h i = rw (e, h, i)

-- ---- One side: its form is reached, or it stops.
reached : {side : Side} {w : List ℕ} {f : FrameRecord} {b : List ℕ} {R : Frame} {ss : List Step} {t : Term} {m : ℕ} → ReplayedAs side w f b R ss t (Ok m)
    → (n : ℕ) × (u : Term) × Held w f b m R u × Comes R ss t (λ place o p. side_from place R o n [] u [] (to_turn []) (turned n p))
reached (as_form n {u = u} h c) = (n, u, h, c)

module _ {file : List ℕ} {at : ℕ} {a b : List ℕ} (place : ℕ) (p : Progress) where
  side_stops : (o : OtherSide) {side : Side} {w : List ℕ} {f : FrameRecord} {c : List ℕ} {R : Frame} {ss : List Step} {t : Term} {x : Ground} → side_said side ≡ side_of o
      → ReplayedAs side w f c R ss t (Err x) → Ends file at (ground_says x) a b place p (side_from place R o 0 ss t [] (to_turn []) p)
  unfolding turned place_of
  side_stops o e (as_refused c) = record { run = _; leads = c.leads place o p; says = compare_stopped (is_refused refl (ap side_number e) refl refl) refl refl }
  side_stops o e (as_outgrown c) = record { run = _; leads = c.leads place o p; says = compare_stopped (is_step_outgrown refl refl refl refl) refl refl }

  -- Both forms are reached.
  module _ (R : Frame) (n : ℕ) (l u : Term) where
    forms_agree : {m : ℕ} (gs : List GroupAt) → at < m → Groups file m gs → drop 1 p.left ≡ map (λ h. h.group) gs → identical l u ≡ true
        → Ends file at (compared_says (Ok m)) a b place p (side_from place R (left_reached l) n [] u [] (to_turn []) p)
    unfolding side_from forms_meet to_turn completed
    forms_agree gs s h e q = rw q (record { run = passed (completed p); leads = here; says = compare_passed gs refl s h e refl })

    forms_differ : {i j : ℕ} → Lies a 0 i 0 0 l → Lies b 0 j 0 0 u → identical l u ≡ false
        → Ends file at (ground_says (BodiesDiffer i j)) a b place p (side_from place R (left_reached l) n [] u [] (to_turn []) p)
    unfolding side_from forms_meet place_of
    forms_differ x y q = stops_at (rw q) (is_different refl x y refl) refl

-- ---- Both sides.
-- A form that is reached lies in its array.
pub form_room : {file : List ℕ} {from to : ℕ} {side : Side} {w : List ℕ} {f : FrameRecord} {b b' : List ℕ} {n m : ℕ} → Replays file from to side w f b b' n (Ok m) → SomeHeld w f b n → m ≤ length b'
form_room v s = (lies_end (reached (v.all s.frame s.term s.held)).2.lies).1

module _ {file : List ℕ} {g : GroupSpan} {w : List ℕ} {f : FrameRecord} {a b a' : List ℕ} {n k : ℕ} where
  pub left_stops : {x : Ground} → Replays file g.left g.middle Left w f a a' n (Err x) → Sides file g w f a n b k (ground_says x) a' b
  unfolding side_of
  left_stops v = record { all = λ R T U t u at s gs d place p q. side_stops place p (right_next _ U) refl (v.all R T t) }

  module _ {l : ℕ} (x : Replays file g.left g.middle Left w f a a' n (Ok l)) {b' : List ℕ} where
    -- Its form is reached, and m is said of the right side.
    right : {m : Compared} → ((R : Frame) (U t : Term) → Held w f b k R U → Held w f a' l R t
        → Concludes file g m a' b' (λ place p. side_from place R (left_reached t) 0 (group_in file g).right U [] (to_turn []) p)) → Sides file g w f a n b k m a' b'
    unfolding turned
    right h = record {
      all = λ R T U t u at s gs d place p q. let o = reached (x.all R T t) in
          ends_after o.0 (o.3.leads place (right_next (group_in file g).right U) p)
          (ends_at (turn_over place R (group_in file g).right U o.0 o.1 [] (to_turn []) (turned o.0 p)) (h R U o.1 u o.2 at s gs d place (turned o.0 p) q));
    }

    pub right_stops : {y : Ground} → Replays file g.right g.next Right w f b b' k (Err y) → Sides file g w f a n b k (ground_says y) a' b'
    unfolding side_of
    right_stops v = right (λ R U t u c at s gs d place p q. side_stops place p (left_reached t) refl (v.all R U u))

    module _ {r : ℕ} (y : Replays file g.right g.next Right w f b b' k (Ok r)) where
      -- Both forms are reached, and m is said of them.
      both : {m : Compared} → ((R : Frame) (t u : Term) → Held w f a' l R t → Held w f b' r R u → (i : ℕ)
          → Concludes file g m a' b' (λ place p. side_from place R (left_reached t) i [] u [] (to_turn []) p)) → Sides file g w f a n b k m a' b'
      unfolding turned
      both h = right (λ R U t u c at s gs d place p q. let e = reached (y.all R U u) in
          ends_after e.0 (e.3.leads place (left_reached t) p) (h R t e.1 c e.2 e.0 at s gs d place (turned e.0 p) q))

      differ : ((R : Frame) (t u : Term) → Held w f a' l R t → Held w f b' r R u → identical t u ≡ false) → Sides file g w f a n b k (ground_says (BodiesDiffer l r)) a' b'
      differ h = both (λ R t u c e i at s gs d place p q. forms_differ place p R i t u c.lies e.lies (h R t u c e))

      pub lengths_differ : (l ≡ r → ⊥) → Sides file g w f a n b k (ground_says (BodiesDiffer l r)) a' b'
      lengths_differ h = differ (λ R t u c e. other_length c e h)

      module _ (e : l ≡ r) {v : Bool} (c : Same a' b' l v) where
        pub letters_differ : v ≡ false → Sides file g w f a n b k (ground_says (BodiesDiffer l r)) a' b'
        letters_differ q = differ (λ R t u i j. other_letters i j e c q)

        pub letters_agree : v ≡ true → Sides file g w f a n b k (compared_says (Ok g.next)) a' b'
        letters_agree q = both (λ R t u i j m at s gs d place p h. forms_agree place p R m t u gs s d h (all_letters i j e c q))
