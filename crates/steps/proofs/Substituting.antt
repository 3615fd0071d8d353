-- The whole substitution: what stands between, and the rest of the couple with K for each use, take the couple's place; and the steps that
-- are none.
-- Assumes nothing.
use Prim.Native.Nat.{ℕ, suc, ◌+◌, ◌-◌, ◌*◌, ◌≤◌, ◌<◌}
use mathlib.Core.Path.{◌≡◌, refl, ap, sym, subst, ◌∙◌}
use mathlib.Core.Option.{some}
use mathlib.Core.List.{List, [], ◌++◌}
use native.Mathlib.Omega.{arith}
use lib.ListN.{length}
use borrow.Author.Tests.{ne_eqb}
use Rattle.std.specs.Prelude.{Ok, Err, Result}
use Rattle.calculus.specs.Terms.{Term, app, size, lift}
use Rattle.calculus.specs.Frames.{Frame, depth}
use Rattle.calculus.specs.Steps.{Kind, local, removal, whole, couples, latest, reach_of, kind_in, reached, map_outcome, substitute, fill, at_partner, step_here, step_of, step_by, step}
use Rattle.calculus.proofs.Lift.{lo, hi, cmp}
use Rattle.calculus.proofs.Closed.{closedness}
use Rattle.calculus.proofs.Places.{step_past}
use Rattle.code.specs.Limits.{longest_term, most_abstractors}
use Rattle.code.specs.Scope.{scope}
use Rattle.code.proofs.Scope.{scope_lift}
use Rattle.parts.specs.Parts.{part}
use Rattle.frames.specs.declared.FrameRecord.{FrameRecord}
use Rattle.frames.proofs.Laws.{stored_depth}
use Rattle.letters.specs.Letters.{letters}
use Rattle.letters.proofs.Letters.{length_letters, lies_taken}
use Rattle.bodies.specs.Ways.{put, depth_at, height_at}
use Rattle.bodies.specs.declared.Reason.{Reason}
use Rattle.bodies.specs.declared.Reason.TheVariants.{UnknownKind, PastEnd}
use Rattle.bodies.specs.declared.StepError.TheVariants.{NotPossible, Outgrown}
use Rattle.bodies.specs.Reasons.{said}
use Rattle.bodies.specs.Held.{Held, Form, SteppedAs, step_refused, step_reached, Steps}
use Rattle.bodies.specs.Moving.{Spliced, DeepestIs}
use Rattle.bodies.proofs.Extents.{first_height}
use Rattle.bodies.proofs.Places.{over_long, too_deep, put_held}
use Rattle.steps.specs.Couples.{InBodyAfter, instead, SomeCouple, remaining, CoupleAt, Searches}
use Rattle.steps.specs.Filling.{filling, deepest_use, UsesAre, Rewritable}
use Rattle.steps.specs.declared.Couple.{Couple}
use Rattle.steps.specs.declared.Uses.{Uses}
use Rattle.steps.proofs.Tails.{partner_along, instead_size, instead_scope, instead_letters}
use Rattle.steps.proofs.Couples.{whole_here, bounds, couple_of_body, some_couple, couple_inside, places}
use Rattle.steps.proofs.Filling.{filled_rest, rest_most, rest_least}
use Rattle.steps.proofs.Writing.{DepthIs, size_is, depth_is}

-- ---- A step of kind 3 on the couple.
module _ {W : List ℕ} {f : FrameRecord} {s : List ℕ} {n p : ℕ} {R : Frame} {t : Term} {x : Couple} (y : Held W f s n R t) (o : CoupleAt s n p R t x) where
  abbrev J : Term
  J = lift o.j 0 o.K

  abbrev result : Term
  result = substitute 0 J o.B

  abbrev form : Term
  form = instead o.tail result

  abbrev H : ℕ
  H = height_at 0 o.way

  reaches : step R (record { kind = 3; place = p }) t ≡ reached (put o.way form)
  unfolding step_here at_partner fill map_outcome
  reaches = whole_here R o.way (partner_along fill o.K o.tail)

  few : suc x.depth + scope o.B < 1022
  few = omega (arith, o.lies.rest_few)

  filling_is : filling s p x ≡ letters x.depth H result
  filling_is = let l = o.lies in
      rw (first_height l.argument (omega (arith, l.argument_few)), lies_taken l.argument, lies_taken l.rest, l.inner)
      (filled_rest x.outer o.j (suc H) l.argument.coded (omega (arith, l.argument_few)) H l.rest.coded (omega (arith, l.rest_few, l.inner)))

  form_is : remaining s x ++ filling s p x ≡ letters (depth_at 0 o.way) H form
  form_is = ap (remaining s x ++◌) filling_is ∙ rw (o.deep, o.lies.inner, ← o.between) (sym (instead_letters x.outer H o.tail result))

  module _ {r : ℕ} (q : r ≡ length (filling s p x)) where
    length_is : r ≡ size result
    length_is = q ∙ ap length filling_is ∙ length_letters x.depth H result

    sizes : (x.end - p ≡ size (app o.K o.C)) × (x.end - x.rest ≡ size o.B) × (size form + (x.rest - x.abstractor) + (x.end - x.rest) ≡ size o.C + r)
    unfolding size
    sizes = (omega (arith, o.ends), omega (arith, o.lies.rest.place), omega (arith, instead_size o.tail result, length_is, o.lies.place, o.lies.rest.place))

    -- what the form has besides the rest
    kept_is : (n - (x.end - p) + (x.abstractor - x.between)) + r + size (app o.K o.C) ≡ n + size form
    unfolding size
    kept_is = omega (arith, sizes, o.lies.order, o.lies.place, o.lies.argument.place, o.lies.rest.place, o.inside, o.ends)

    longer : longest_term < n - (x.end - p) + (x.abstractor - x.between) + r → SteppedAs W f s R (record { kind = 3; place = p }) t (Err Outgrown)
    longer h = step_reached reaches (over_long y o.way form (omega (arith, kept_is)))

    module _ {d : ℕ} (a : DepthIs s p x d) where
      depth_here : d ≡ deepest_use x.depth (letters (suc x.depth) H o.B) + scope J
      depth_here = a.all H (depth R) o.j o.K o.U o.B o.lies ∙ ap (λ z. deepest_use x.depth z + scope o.K) (lies_taken o.lies.rest) ∙ ap (deepest_use x.depth (letters (suc x.depth) H o.B) +◌) (sym (scope_lift o.j 0 o.K))

      deeper : most_abstractors - depth R + 1 < d → SteppedAs W f s R (record { kind = 3; place = p }) t (Err Outgrown)
      deeper h = step_reached reaches (too_deep y o.way form
          (omega (
            arith,
            depth_here,
            o.deep,
            o.lies.inner,
            instead_scope o.tail result,
            scope_lift o.j 0 o.K,
            o.lies.argument_few,
            rest_least x.depth J H o.lies.rest.coded few (omega (arith, depth_here, scope_lift o.j 0 o.K, o.lies.argument_few)),
          )))

      module _ (b : d ≤ most_abstractors - depth R + 1) where
        shallow : depth R + (depth_at 0 o.way + scope form) ≤ most_abstractors
        shallow = let l = o.lies in
            omega (
              arith,
              o.deep,
              l.inner,
              o.few,
              instead_scope o.tail result,
              l.rest_few,
              rest_most x.depth J H (most_abstractors - depth R - x.depth) l.rest.coded few (omega (arith, l.rest_few)) (omega (arith, depth_here, l.rest_few)),
            )

        substituted : {s' : List ℕ} → n - (x.end - p) + (x.abstractor - x.between) + r ≤ longest_term → Spliced s s' n p x.end (remaining s x ++ filling s p x)
            → SteppedAs W f s' R (record { kind = 3; place = p }) t (Ok (n - (x.end - p) + (x.abstractor - x.between) + r))
        substituted {s'} l g = step_reached reaches (put_held y o.way form (closedness.step_closed (record { kind = 3; place = p }) y.closed_frame y.closed reaches) shallow l
            kept_is o.ends (subst (Spliced s s' n p x.end) form_is g))

-- ---- By the contracts of the calls.
module _ {len : ℕ} {s : List ℕ} {n p : ℕ} (g : InBodyAfter len s n p) where
  pub len_most : len ≤ most_abstractors
  len_most = let y = g.some_body.in_body.some_held.held in omega (arith, g.entries, stored_depth y.stored, y.shallow)

  module _ {v : Result Couple Reason} {x : Couple} (c : Searches s n p v) (e : v ≡ Ok x) where
    pub the_couple : SomeCouple s p x
    the_couple = some_couple g.some_body c e

    pub kept_inside : (x.end ≤ n) × (n ≤ longest_term)
    kept_inside = (couple_inside g.some_body c e, (bounds g.some_body).1)

    module _ {y : Uses} (u : UsesAre (part s x.rest x.end) x.depth y) where
      abbrev r : ℕ
      r = x.end - x.rest + y.count * (x.between - p - 2)

      q : r ≡ length (filling s p x)
      q = size_is the_couple u.count_is

      pub long : longest_term < n - (x.end - p) + (x.abstractor - x.between) + r → (w : List ℕ) (f : FrameRecord) → f.len ≡ len → Steps w f s s n (record { kind = 3; place = p }) (Err Outgrown)
      long h w f l = record { all = λ R t h₀. longer h₀ (couple_of_body g.some_body c e h₀) q h; same_length = refl }

      module _ {most : ℕ} (m : DeepestIs (part s (p + 1) x.between) most) where
        abbrev d : ℕ
        d = y.deepest + (most - x.outer)

        a : DepthIs s p x d
        a = depth_is the_couple m u.deepest_is

        pub deep : most_abstractors - len + 1 < d → (w : List ℕ) (f : FrameRecord) → f.len ≡ len → Steps w f s s n (record { kind = 3; place = p }) (Err Outgrown)
        deep h w f l = record { all = λ R t h₀. deeper h₀ (couple_of_body g.some_body c e h₀) q a (omega (arith, stored_depth h₀.stored)); same_length = refl }

        module _ (h : n - (x.end - p) + (x.abstractor - x.between) + r ≤ longest_term) (b : d ≤ most_abstractors - len + 1) where
          pub rewritable : Rewritable s n p x r
          rewritable = let o = the_couple in record {
            couple = o;
            few = omega (arith, a.all o.h o.d o.j o.K o.U o.B o.lies);
            inside = kept_inside.0;
            most = kept_inside.1;
            count_is = q;
            fits = omega (arith, kept_inside, places o);
          }

          pub done : {s' : List ℕ} → Spliced s s' n p x.end (remaining s x ++ filling s p x) → (w : List ℕ) (f : FrameRecord) → f.len ≡ len
              → Steps w f s s' n (record { kind = 3; place = p }) (Ok (n - (x.end - p) + (x.abstractor - x.between) + r))
          done o w f l = record { all = λ R t h₀. substituted h₀ (couple_of_body g.some_body c e h₀) q a (omega (arith, stored_depth h₀.stored)) h o; same_length = o.same_length }

-- ---- No step.
kind_known : (k : ℕ) → 1 ≤ k → k ≤ 3 → (κ : Kind) × (kind_in latest k ≡ some κ)
unfolding kind_in
kind_known k a b = elim (cmp k 1) [
  | lo h ↦ let e : k ≡ 1 = omega arith in (local, rw e refl)
  | hi h ↦ elim (cmp k 2) [
    | lo i ↦ let e : k ≡ 2 = omega arith in (removal, rw e refl)
    | hi i ↦ let e : k ≡ 3 = omega arith in (whole, rw e refl)
  ]
]

module _ {w : List ℕ} {f : FrameRecord} {s : List ℕ} {n : ℕ} where
  pub past_refused : {k p : ℕ} → 1 ≤ k → k ≤ 3 → n ≤ p → Steps w f s s n (record { kind = k; place = p }) (Err (NotPossible PastEnd))
  unfolding step_by step_of reach_of said
  past_refused {k} {p} a b l = let o = kind_known k a b in
      record { all = λ R t y. step_refused {x = PastEnd} (ap (λ z. step_of couples z R t p) o.1 ∙ step_past couples o.0 R [] t p (omega (arith, y.lies.place))); same_length = refl }

  pub kind_refused : {k p : ℕ} → (k ≡ 1 → ⊥) → (k ≡ 2 → ⊥) → (k ≡ 3 → ⊥) → Steps w f s s n (record { kind = k; place = p }) (Err (NotPossible UnknownKind))
  unfolding step_by step_of reach_of kind_in said
  kind_refused {k} {p} a b c = record { all = λ R t y. step_refused {x = UnknownKind} (rw (ne_eqb k 1 a, ne_eqb k 2 b, ne_eqb k 3 c) refl); same_length = refl }

  pub as_kind : {s' : List ℕ} {k k' p : ℕ} {r : Form} → k ≡ k' → Steps w f s s' n (record { kind = k'; place = p }) r → Steps w f s s' n (record { kind = k; place = p }) r
  as_kind q h = rw q h
