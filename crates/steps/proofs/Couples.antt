-- The search for a couple: what stands at a place, where its parts end, and the steps of kinds 2 and 3 that are refused there.
-- Assumes nothing.
use Prim.Native.Nat.{ℕ, suc, ◌+◌, ◌≤◌, ◌<◌}
use mathlib.Core.Path.{◌≡◌, refl, ap, sym, subst, ◌∙◌}
use mathlib.Core.Logic.{⊎_elim}
use mathlib.Core.List.{List, []}
use native.Mathlib.Omega.{arith}
use native.Mathlib.Numerals.{add-one}
use lib.ListN.{length, get_or}
use Rattle.std.specs.Prelude.{None, Some}
use Rattle.std.proofs.lemmas.List.Edits.{get_or-between}
use Rattle.std.specs.Prelude.{Ok, Err, Result}
use Rattle.calculus.specs.Terms.{Term, tau, var, app, abs, size}
use Rattle.calculus.specs.Frames.{Frame, depth}
use Rattle.calculus.specs.Steps.{removal, whole, couples, reach_of, kind_in, wrong_symbol, Outcome, refused, map_outcome, remove, fill, step_here, step_of, step_by, step}
use Rattle.code.specs.Limits.{longest_term, most_abstractors}
use Rattle.code.specs.Scope.{scope}
use Rattle.frames.specs.declared.FrameRecord.{FrameRecord}
use Rattle.parts.specs.Parts.{part}
use Rattle.parts.proofs.Cut.{length_part}
use Rattle.letters.specs.Letters.{applicator, abstractor, symbol_of, depth_of, height_of, Lies}
use Rattle.letters.proofs.Letters.{first, depth_letter, lies_end}
use Rattle.bodies.specs.Ways.{Way, put, frame_at, depth_at, height_at}
use Rattle.bodies.specs.declared.Reason.{Reason}
use Rattle.bodies.specs.declared.Reason.TheVariants.{WrongSymbol, NoPartner}
use Rattle.bodies.specs.declared.StepError.TheVariants.{NotPossible}
use Rattle.bodies.specs.Reasons.{said}
use Rattle.bodies.specs.Held.{Held, SteppedAs, step_refused, Steps}
use Rattle.bodies.specs.Moving.{Ending}
use Rattle.bodies.proofs.Ways.{step_along}
use Rattle.bodies.proofs.Extents.{Parts, app_parts, abs_parts, above}
use Rattle.bodies.proofs.Endings.{ending_is}
use Rattle.bodies.proofs.Places.{At, at_way}
use Rattle.bodies.proofs.Meaning.{way_there}
use Rattle.steps.specs.Lowering.{InScope}
use Rattle.steps.specs.Couples.{InSomeBody, Tail, TailLies, SomeTail, PartnerIs, nobody, somebody, Partnered, SomeCouple, CoupleAt, Places, Sought, no_couple, couple_there, Searches}
use Rattle.steps.specs.declared.Couple.{Couple}
use Rattle.steps.proofs.Tails.{tail_scope, tail_lies, passed_lie, item_end, application_is}

-- ---- A step by what stands at p.
module _ (R : Frame) {t u : Term} {p : ℕ} (w : Way t p u) where
  pub removal_here : {o : Outcome} → step_here couples removal (frame_at R [] w) u ≡ o → step R (record { kind = 2; place = p }) t ≡ map_outcome (put w) o
  unfolding step_by step_of reach_of kind_in
  removal_here e = step_along removal R [] w ∙ ap (map_outcome (put w)) e

  pub whole_here : {o : Outcome} → step_here couples whole (frame_at R [] w) u ≡ o → step R (record { kind = 3; place = p }) t ≡ map_outcome (put w) o
  unfolding step_by step_of reach_of kind_in
  whole_here e = step_along whole R [] w ∙ ap (map_outcome (put w)) e

wrong_here : (F : Frame) (u : Term) → (first u ≡ applicator → ⊥) → (step_here couples removal F u ≡ refused wrong_symbol) × (step_here couples whole F u ≡ refused wrong_symbol)
unfolding step_here first
wrong_here F tau f = (refl, refl)
wrong_here F (var k) f = (refl, refl)
wrong_here F (app K B) f = absurd (f refl)
wrong_here F (abs U B) f = (refl, refl)

-- ---- ⟨K⟩C at place p of a body: where C lies.
record AppAt (s : List ℕ) (n p : ℕ) (R : Frame) (t : Term) : Type 0 where
  K : Term
  C : Term
  way : Way t p (app K C)
  at : At s n p R way

module _ {s : List ℕ} {n p : ℕ} {R : Frame} {t : Term} (x : AppAt s n p R t) where
  abbrev D : ℕ
  D = depth_at 0 x.way

  abbrev H : ℕ
  H = height_at 0 x.way

  abbrev E : ℕ
  E = x.at.there_now.end

  P : Parts s p E D H D applicator x.K x.C
  P = app_parts x.at.there_now.lies

  both_few : (depth R + (D + scope x.K) ≤ most_abstractors) × (depth R + (D + scope x.C) ≤ most_abstractors)
  unfolding scope
  both_few = (omega (arith, x.at.shallow), omega (arith, x.at.shallow))

  module _ {m : ℕ} (i : Ending s n (p + 1) (H + 1) m) where
    m_is : m ≡ P.middle
    m_is = item_end P (omega (arith, both_few)) (omega (arith, both_few)) x.at.there_now.within i

    tail_there : TailLies s n m H E D x.C
    tail_there = record { lies = rw m_is P.rest; few = omega (arith, both_few); inside = x.at.there_now.within }

-- ---- The couple ⟨K⟩..[U]B: K ends at m, the abstractor stands at a, U ends at q, and B at e.
abbrev found_at : (o d m a q e : ℕ) → Couple
found_at o d m a q e = record { outer = o; depth = d; between = m; abstractor = a; rest = q; end = e }

couple_of : {s : List ℕ} {n p m a q e c y j : ℕ} {R : Frame} {t U B : Term} (x : AppAt s n p R t) → Ending s n (p + 1) (H x + 1) m → a ≡ m + y → Tail x.C y 0 j (abs U B)
    → Ending s n (a + 1) (H x + 1) q → Ending s n q (H x) e → c ≡ depth_of (get_or s a 0) → CoupleAt s n p R t (found_at (D x) c m a q e)
unfolding size scope
couple_of {s} {n} {p} {m} {a} {q} {e} {c} {y} {j} {R} {t} {U} {B} x i r w k l z =
    let T = tail_there x i in
    let inner = tail_scope w in
    let Q = abs_parts (subst (λ b. Lies s b (E x) (D x + j) (H x) (abs U B)) (sym r) (tail_lies T.lies w)) in
    let q_is = item_end Q (omega (arith, T.few)) (omega (arith, T.few)) T.inside k in
    let e_is = ending_is l (record {
      after = omega (arith, lies_end Q.rest);
      inside = T.inside;
      high = λ v f g. (above B (omega (arith, T.few)) Q.rest v (omega arith) g).high;
      low = λ v. ⊎_elim (λ f. absurd (omega arith)) (λ f. f) x.at.there_now.next;
    }) in
    let c_is : c ≡ D x + j = z ∙ rw Q.head (depth_letter abstractor (D x + j) (H x) (omega arith) (omega (arith, T.few))) in
    record {
      K = x.K;
      C = x.C;
      U = U;
      B = B;
      q = y;
      j = j;
      way = x.way;
      tail = w;
      deep = refl;
      lies = record {
        argument = rw (add-one p, m_is x i) (P x).inner;
        rest = rw (q_is, e_is, c_is) Q.rest;
        inner = c_is;
        order = omega arith;
        place = omega (arith, Q.inner.place);
        low = x.at.low;
        argument_few = (both_few x).0;
        rest_few = omega (arith, both_few x);
      };
      between = passed_lie T.lies w ∙ rw r refl;
      few = (both_few x).1;
      ends = omega (arith, x.at.there_now.lies.place);
      inside = omega (arith, T.inside);
    }

-- ---- By the contracts of the calls.
module _ {s : List ℕ} {n p : ℕ} (g : InSomeBody s n p) where
  abbrev here : Held g.work g.frames s n g.in_body.some_held.frame g.in_body.some_held.term
  here = g.in_body.some_held.held

  pub bounds : (length s ≡ longest_term) × (n ≤ longest_term) × (p + 1 ≤ n)
  bounds = (here.array, omega (arith, lies_end here.lies, here.array), omega (arith, g.in_body.inside))

  pub wrong : {x : ℕ} → x ≡ symbol_of (get_or s p 0) → (x ≡ applicator → ⊥) → Searches s n p (Err WrongSymbol)
  unfolding said map_outcome
  wrong q z = record {
    all = λ w f R t y. let u = way_there y g.in_body.inside in
        let o = wrong_here (frame_at R [] u.1) u.0 (λ r. z (q ∙ (at_way y u.1).symbol ∙ r)) in
        no_couple (removal_here R u.1 o.0) (whole_here R u.1 o.1);
  }

  module _ (x : symbol_of (get_or s p 0) ≡ applicator) {h : ℕ} (a : h ≡ height_of (get_or s p 0)) {m : ℕ} (i : Ending s n (p + 1) (h + 1) m) where
    found : {w : List ℕ} {f : FrameRecord} {R : Frame} {t : Term} (y : Held w f s n R t) → AppAt s n p R t
    found {R = R} {t} y = let u = way_there y g.in_body.inside in let o = at_way y u.1 in go u.0 u.1 (application_is u.0 o.there_now.lies.coded (sym o.symbol ∙ x))
      where
        go : (u : Term) → Way t p u → (K : Term) × (C : Term) × (u ≡ app K C) → AppAt s n p R t
        go u w (K, C, e) = let v : Way t p (app K C) = subst (Way t p) e w in record { K = K; C = C; way = v; at = at_way y v }

    high_is : {w : List ℕ} {f : FrameRecord} {R : Frame} {t : Term} (y : Held w f s n R t) → h ≡ height_at 0 (found y).way
    high_is y = a ∙ (found y).at.high

    one : {w : List ℕ} {f : FrameRecord} {R : Frame} {t : Term} (y : Held w f s n R t) → Ending s n (p + 1) (height_at 0 (found y).way + 1) m
    one y = subst (λ b. Ending s n (p + 1) (b + 1) m) (high_is y) i

    tail_of : {w : List ℕ} {f : FrameRecord} {R : Frame} {t : Term} (y : Held w f s n R t) → TailLies s n m h (E (found y)) (D (found y)) (found y).C
    tail_of y = subst (λ b. TailLies s n m b (E (found y)) (D (found y)) (found y).C) (sym (high_is y)) (tail_there (found y) (one y))

    pub some_tail : SomeTail s n m h
    some_tail = record { array = here.array; most = bounds.1; low = omega (arith, high_is here, (found here).at.low, i.after); e = E (found here); c = D (found here); C = (found here).C; tail = tail_of here }

    pub alone : Partnered s n m h None → Searches s n p (Err NoPartner)
    unfolding said map_outcome step_here
    alone j = record { all = λ w f R t y. go y (j.all (E (found y)) (D (found y)) (found y).C (tail_of y)) }
      where
        go : {w : List ℕ} {f : FrameRecord} {R : Frame} {t : Term} (y : Held w f s n R t) → PartnerIs m (found y).C None → Sought s n p R t (Err NoPartner)
        go {R = R} y (nobody v) = no_couple (removal_here R (found y).way (v remove (found y).K)) (whole_here R (found y).way (v fill (found y).K))

    module _ {b : ℕ} (j : Partnered s n m h (Some b)) where
      partner : {w : List ℕ} {f : FrameRecord} {R : Frame} {t : Term} (y : Held w f s n R t) → (q : ℕ) × (k : ℕ) × (U : Term) × (B : Term) × (b ≡ m + q) × Tail (found y).C q 0 k (abs U B)
      partner y = go (j.all (E (found y)) (D (found y)) (found y).C (tail_of y))
        where
          go : {C : Term} → PartnerIs m C (Some b) → (q : ℕ) × (k : ℕ) × (U : Term) × (B : Term) × (b ≡ m + q) × Tail C q 0 k (abs U B)
          go (somebody {q = q} {j = k} {U = U} {B = B} r w) = (q, k, U, B, r, w)

      pub partner_inside : b < n
      partner_inside = let T = tail_of here in let o = partner here in omega (arith, lies_end (tail_lies T.lies o.5), T.inside)

      module _ {q : ℕ} (k : Ending s n (b + 1) (h + 1) q) {e : ℕ} (l : Ending s n q h e) {c d : ℕ} (c_is : c ≡ depth_of (get_or s p 0)) (d_is : d ≡ depth_of (get_or s b 0)) where
        coupled : {w : List ℕ} {f : FrameRecord} {R : Frame} {t : Term} (y : Held w f s n R t) → CoupleAt s n p R t (found_at c d m b q e)
        coupled {R = R} {t} y = let o = partner y in
            subst (λ v. CoupleAt s n p R t (found_at v d m b q e)) (sym (c_is ∙ (found y).at.deep))
            (couple_of (found y) (one y) o.4 o.5 (subst (λ v. Ending s n (b + 1) (v + 1) q) (high_is y) k) (subst (λ v. Ending s n q v e) (high_is y) l) d_is)

        pub couple_found : Searches s n p (Ok (found_at c d m b q e))
        couple_found = record { all = λ w f R t y. couple_there (coupled y) }

  -- The couple that was found.
  module _ {r : Result Couple Reason} {x : Couple} (c : Searches s n p r) (e : r ≡ Ok x) where
    pub couple_of_body : {w : List ℕ} {f : FrameRecord} {R : Frame} {t : Term} → Held w f s n R t → CoupleAt s n p R t x
    couple_of_body {w} {f} {R} {t} y = go (subst (Sought s n p R t) e (c.all w f R t y))
      where
        go : Sought s n p R t (Ok x) → CoupleAt s n p R t x
        go (couple_there a) = a

    pub some_couple : SomeCouple s p x
    some_couple = let o = couple_of_body here in record { array = here.array; h = height_at 0 o.way; d = depth g.in_body.some_held.frame; j = o.j; K = o.K; U = o.U; B = o.B; lies = o.lies }

    pub couple_inside : x.end ≤ n
    couple_inside = (couple_of_body here).inside

-- Where it lies.
pub places : {s : List ℕ} {p : ℕ} {x : Couple} → SomeCouple s p x
    → (p + 2 ≤ x.between) × (x.between ≤ x.abstractor) × (x.abstractor < x.rest) × (x.rest < x.end) × (x.end ≤ longest_term) × (x.outer ≤ x.depth) × (suc x.depth ≤ most_abstractors)
places g = let l = g.lies in
    (omega (arith, lies_end l.argument), l.order, omega (arith, l.place), omega (arith, lies_end l.rest), omega (arith, lies_end l.rest, g.array), omega (arith, l.inner), omega (arith, l.rest_few))

-- The letter at j of a part.
pub part_letter : (s : List ℕ) (q e j : ℕ) → j < length (part s q e) → e ≤ length s → get_or (part s q e) j 0 ≡ get_or s (q + j) 0
part_letter s q e j l m = get_or-between s q e j 0 (omega (arith, length_part s q e m))

module _ {s : List ℕ} {p : ℕ} {x : Couple} (g : SomeCouple s p x) where
  pub rest_deep : (j : ℕ) → x.rest ≤ j → j < x.end → x.depth < depth_of (get_or s j 0)
  rest_deep j u v = omega (arith, (above g.B (omega (arith, g.lies.rest_few)) g.lies.rest j u v).deep)

  pub in_scope : InScope (part s x.rest x.end) x.depth × (length (part s x.rest x.end) ≤ longest_term)
  in_scope = let m : x.end ≤ length s = omega (arith, lies_end g.lies.rest) in let n = length_part s x.rest x.end m in (
    record { deep = λ j l. rw (part_letter s x.rest x.end j l m) (rest_deep (x.rest + j) (omega arith) (omega arith)) },
    omega (arith, g.array),
  )

pub found_places : {s : List ℕ} {n p : ℕ} {x : Couple} → InSomeBody s n p → Searches s n p (Ok x) → Places n p x
found_places g c = let o = places (some_couple g c refl) in record { argument = o.0; between = o.1; domain = o.2; rest = o.3; inside = couple_inside g c refl; most = (bounds g).1; inner = o.5 }

-- ---- Where there is none, both kinds are refused.
pub search_refused : {s : List ℕ} {n p : ℕ} {r : Result Couple Reason} {y : Reason} → Searches s n p r → r ≡ Err y → (w : List ℕ) (f : FrameRecord)
    → Steps w f s s n (record { kind = 2; place = p }) (Err (NotPossible y)) × Steps w f s s n (record { kind = 3; place = p }) (Err (NotPossible y))
search_refused {s} {n} {p} {y = y} c e w f = (record { all = λ R t h. (go R t (subst (Sought s n p R t) e (c.all w f R t h))).0; same_length = refl }, record { all = λ R t h. (go R t (subst (Sought s n p R t) e (c.all w f R t h))).1; same_length = refl })
  where
    go : (R : Frame) (t : Term) → Sought s n p R t (Err y) → SteppedAs w f s R (record { kind = 2; place = p }) t (Err (NotPossible y)) × SteppedAs w f s R (record { kind = 3; place = p }) t (Err (NotPossible y))
    go R t (no_couple a b) = (step_refused a, step_refused b)
