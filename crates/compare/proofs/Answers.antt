-- The answers of `compare_type` and `compare`, by cases.
-- Assumes nothing.
use Prim.Native.Nat.{ℕ, suc, ◌+◌, ◌-◌, ◌≤◌, ◌<◌}
use mathlib.Core.Path.{◌≡◌, refl, ap, sym, subst, ◌∙◌}
use mathlib.Core.Bool.{Bool, true, false}
use mathlib.Core.List.{List, [], ◌∷◌, map}
use native.Mathlib.Omega.{arith}
use native.Mathlib.Numerals.{add-one}
use lib.ListN.{length, drop}
use Rattle.std.specs.Prelude.{Ok, Err}
use Rattle.calculus.specs.Terms.{Term, Closed}
use Rattle.calculus.specs.Frames.{Frame, ClosedFrame}
use Rattle.code.specs.Limits.{longest_term}
use Rattle.code.specs.Claims.{Stands}
use Rattle.code.specs.Scope.{Fits}
use Rattle.code.proofs.Parts.{stands_unique}
use Rattle.fields.specs.declared.GroupSpan.{GroupSpan}
use Rattle.fields.specs.Fields.{GroupAt, Groups, GroupParts, First, span_at}
use Rattle.fields.proofs.Groups.{none_left, some_left, span_of}
use Rattle.frames.specs.declared.FrameRecord.{FrameRecord}
use Rattle.frames.specs.Stored.{Stored}
use Rattle.frames.proofs.Laws.{stored_depth, stored_unique}
use Rattle.letters.specs.Letters.{Lies}
use Rattle.bodies.specs.declared.Reason.{Reason}
use Rattle.bodies.specs.declared.StepError.TheVariants.{NotPossible}
use Rattle.bodies.specs.declared.StepError.TheVariants.{Outgrown as bodies_outgrown}
use Rattle.bodies.specs.Held.{Held, Form, SomeHeld, TypedAs, Types}
use Rattle.bodies.proofs.Using.{refused_type, outgrown_type, held_type}
use Rattle.bodies.proofs.Places.{fits_true}
use Rattle.verdict.specs.Bounds.{body_fits}
use Rattle.verdict.specs.Verdict.{same_at, place_of, Progress, with_group, to_turn}
use Rattle.compare.specs.Answers.{Compared, ground_says}
use Rattle.compare.specs.declared.Ground.TheVariants.{NoType, NoGroupLeft, Outgrown}
use Rattle.compare.specs.Replays.{Loadable, LoadedAs, loaded, too_large, Loads}
use Rattle.compare.specs.Sides.{TwoSides, Sides}
use Rattle.compare.specs.Compares.{Comparing, is_untyped, is_no_group, is_type_outgrown, is_domain_outgrown, Compares, Ends, Typing, ComparesType}
use Rattle.compare.proofs.Bodies.{fits_limits}
use Rattle.compare.proofs.Leading.{finished, ends_at, stops_at}
use Rattle.compare.proofs.Runs.{next_untyped, next_typed, no_groups, large_type, large_domain, both_fit}

first_group : {file : List ℕ} {at : ℕ} {gs : List GroupAt} → at < length file → Groups file at gs → First file at (span_at file at) gs
first_group {file} {at} {gs} l h = (span_of file at (some_left h l)).first gs h

-- ---- The bodies of K and U.
next_place : {w : List ℕ} {i e : ℕ} {t : Term} → Stands w (suc i) e t → Stands w (i + 1) e t
next_place {w} {i} {e} {t} h = subst (λ j. Stands w j e t) (sym (add-one i)) h

no_answer : {A : Type 0} {b : List ℕ} {n : ℕ} {R : Frame} {t : Term} → body_fits R t ≡ true → LoadedAs b n R t false → A
no_answer q (too_large e) = let z : ◌≡◌ {A = ℕ} 0 1 = cc in absurd (omega arith)

lies_of : {b : List ℕ} {n : ℕ} {R : Frame} {t : Term} → LoadedAs b n R t true → (body_fits R t ≡ true) × Lies b 0 n 0 0 t
lies_of (loaded e l) = (e, l)

unfits_of : {b : List ℕ} {n : ℕ} {R : Frame} {t : Term} → LoadedAs b n R t false → body_fits R t ≡ false
unfits_of (too_large e) = e

module _ {file w : List ℕ} {at : ℕ} {f : FrameRecord} {m e : ℕ} (x : Comparing file w at f m e) where
  pub domain_loads : {b : List ℕ} → length b ≡ longest_term → Loadable w b f.len (m + 1) e
  domain_loads l = record { work = x.stored.work; term = x.domain; stands = next_place x.domain_stands; few = x.stored.few; array = l }

  pub applied_loads : {b : List ℕ} → length b ≡ longest_term → Loadable w b f.len (f.end + 1) m
  applied_loads l = record { work = x.stored.work; term = x.applied; stands = next_place x.applied_stands; few = x.stored.few; array = l }

  same_frame : {R : Frame} → Stored w f R → ClosedFrame R
  same_frame s = subst ClosedFrame (stored_unique x.stored s) x.closed_frame

  module _ {R : Frame} (s : Stored w f R) {b b' : List ℕ} (a : length b ≡ longest_term) where
    held : {i j : ℕ} {t : Term} → Loads w b b' f.len i j true → Stands w i j t → Closed f.len t → Held w f b' (j - i) R t
    held {t = t} l h c = let o = lies_of (l.all R t (stored_depth s) h) in
        record { stored = s; closed_frame = same_frame s; array = l.same_length ∙ a; lies = o.1; closed = rw (stored_depth s) c; shallow = (fits_limits R t o.0).1 }

    -- K is within the limits.
    applied_held : {r : Bool} {K : Term} → Loads w b b' f.len (f.end + 1) m r → Stands w (suc f.end) m K → Held w f b' (m - (f.end + 1)) R K
    applied_held {r} {K} l h = go r l
      where
        same : x.applied ≡ K
        same = (stands_unique x.applied_stands h).0

        fits : body_fits R K ≡ true
        fits = let y = subst (Fits f.len) same x.applied_fits in fits_true R K y.short (omega (arith, y.shallow, stored_depth s))

        go : (r : Bool) → Loads w b b' f.len (f.end + 1) m r → Held w f b' (m - (f.end + 1)) R K
        go true l = held l (next_place h) (subst (Closed f.len) same x.applied_closed)
        go false l = no_answer fits (l.all R K (stored_depth s) (next_place h))

    domain_held : {U : Term} → Loads w b b' f.len (m + 1) e true → Stands w (suc m) e U → Held w f b' (e - (m + 1)) R U
    domain_held l h = held l (next_place h) (subst (Closed f.len) (stands_unique x.domain_stands h).0 x.domain_closed)

  pub some_applied : {b b' : List ℕ} {r : Bool} → length b ≡ longest_term → Loads w b b' f.len (f.end + 1) m r → SomeHeld w f b' (m - (f.end + 1))
  some_applied a l = record { frame = x.frame; term = x.applied; held = applied_held x.stored a l x.applied_stands }

  pub two_sides : {g : GroupSpan} {a b b' : List ℕ} {n : ℕ} → GroupParts file at g → SomeHeld w f a n → length b ≡ longest_term → Loads w b b' f.len (m + 1) e true → TwoSides file g w f a n b' (e - (m + 1))
  two_sides o s i l = record {
    left_steps = o.left_steps;
    right_steps = o.right_steps;
    left_body = s;
    right_body = record { frame = x.frame; term = x.domain; held = domain_held x.stored i l x.domain_stands };
  }

  -- ---- With the type at hand.
  module _ {c a b : List ℕ} {n : ℕ} where
    pub typed_no_group : length file ≤ at → ComparesType file w at f m e c n (ground_says NoGroupLeft) a b
    unfolding place_of
    typed_no_group l = record { all = λ R T U gs t i u h place p q. stops_at (no_groups R place U p T (q ∙ ap (map (λ g. g.group)) (none_left h l))) (is_no_group refl refl refl refl) refl }

    module _ {b₀ b' : List ℕ} where
      pub typed_large_domain : at < length file → Loads w b₀ b' f.len (m + 1) e false → ComparesType file w at f m e c n (ground_says Outgrown) a b
      unfolding place_of
      typed_large_domain l y = record {
        all = λ R T U gs t i u h place p q. stops_at (large_domain R place U p T (q ∙ ap (map (λ g. g.group)) (first_group l h).all) i (unfits_of (y.all R U (stored_depth t.stored) (next_place u))))
            (is_domain_outgrown refl refl refl refl) refl;
      }

      pub typed_sides : {g : GroupSpan} {r : Compared} → GroupParts file at g → length b₀ ≡ longest_term → Loads w b₀ b' f.len (m + 1) e true → Sides file g w f c n b' (e - (m + 1)) r a b → ComparesType file w at f m e c n r a b
      typed_sides {g} {r} o k l v = record { all = λ R T U gs t i u h place p q. go R T U gs t i u (o.first gs h) place p q }
        where
          go : (R : Frame) (T U : Term) (gs : List GroupAt) → Held w f c n R T → body_fits R T ≡ true → Stands w (suc m) e U → First file at g gs → (place : ℕ) (p : Progress) → p.left ≡ map (λ h. h.group) gs
              → Ends file at r a b place p (with_group place R T U p.left [] (to_turn []) p)
          go R T U gs t i u h place p q =
              let d = q ∙ ap (map (λ z. z.group)) h.all in
              ends_at (both_fit R place U p T d i (lies_of (l.all R U (stored_depth t.stored) (next_place u))).0)
              (v.all R T U t (domain_held t.stored k l u) at (omega (arith, o.longer)) h.rest h.follow place p (ap (drop 1) d))

  -- ---- With the type's answer.
  module _ {b₀ c c' : List ℕ} {z : Bool} {y : Form} (k : length b₀ ≡ longest_term) (l : Loads w b₀ c f.len (f.end + 1) m z) (t : Types w f c c' (m - (f.end + 1)) y) where
    typed : {r : Form} → y ≡ r → {R : Frame} {K : Term} → Stored w f R → Stands w (suc f.end) m K → TypedAs w f c' R K r
    typed q {R} {K} s h = subst (TypedAs w f c' R K) q (t.all R K (applied_held s k l h))

    module _ {a b : List ℕ} where
      pub untyped_answer : {v : Reason} → y ≡ Err (NotPossible v) → Compares file w at f m e (ground_says NoType) a b
      unfolding place_of
      untyped_answer q = record { all = λ R K U gs s i j h place p d. finished (same_at place R K U ∷ []) (stops_at (next_untyped R place U p K (refused_type (typed q s i))) (is_untyped refl refl refl refl) refl) }

      pub no_group_answer : y ≡ Err bodies_outgrown → length file ≤ at → Compares file w at f m e (ground_says NoGroupLeft) a b
      unfolding place_of
      no_group_answer q v = record {
        all = λ R K U gs s i j h place p d. let o = outgrown_type (typed q s i) in
            finished (same_at place R K U ∷ []) (stops_at (next_typed R place U p K o.0 o.1 ∙ no_groups R place U p o.0 (d ∙ ap (map (λ g. g.group)) (none_left h v))) (is_no_group refl refl refl refl) refl);
      }

      pub large_type_answer : y ≡ Err bodies_outgrown → at < length file → Compares file w at f m e (ground_says Outgrown) a b
      unfolding place_of
      large_type_answer q v = record {
        all = λ R K U gs s i j h place p d. let o = outgrown_type (typed q s i) in
            finished (same_at place R K U ∷ []) (stops_at (next_typed R place U p K o.0 o.1 ∙ large_type R place U p o.0 (d ∙ ap (map (λ g. g.group)) (first_group v h).all) o.2) (is_type_outgrown refl refl refl refl) refl);
      }

    pub typed_long : length c' ≡ longest_term
    typed_long = t.same_length ∙ l.same_length ∙ k

    module _ {n : ℕ} (q : y ≡ Ok n) where
      pub typing : Typing file w at f m e c' n
      typing = let o = held_type (typed q x.stored x.applied_stands) in record { comparing = x; typed = record { frame = x.frame; term = o.0; held = o.2.held } }

      pub typed_answer : {r : Compared} {a b : List ℕ} → ComparesType file w at f m e c' n r a b → Compares file w at f m e r a b
      typed_answer v = record {
        all = λ R K U gs s i j h place p d. let o = held_type (typed q s i) in
            finished (same_at place R K U ∷ []) (ends_at (next_typed R place U p K o.0 o.1) (v.all R o.0 U gs o.2.held o.2.fits j h place p d));
      }
