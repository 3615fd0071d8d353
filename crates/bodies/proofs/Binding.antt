-- The abstractor that binds a variable within a body, and the K of its couple, by the letters' depths and heights.
-- Assumes nothing.
use Prim.Native.Nat.{ℕ, zero, suc, ◌+◌, ◌-◌, ◌≤◌, ◌<◌}
use mathlib.Core.Path.{◌≡◌, refl, ap, sym, subst, ◌∙◌}
use mathlib.Core.Option.{Option, none, some, map}
use mathlib.Core.List.{List, [], ◌∷◌}
use native.Mathlib.Omega.{arith}
use lib.ListN.{length, get_or}
use Rattle.std.specs.Prelude.{Some, None}
use Rattle.std.specs.Prelude.{Option as Answer}
use Rattle.calculus.specs.Terms.{Term, var, size, lift, lift_all}
use Rattle.calculus.specs.Frames.{Entry, pair, domain, Frame, ◌▹◌, entry_at}
use Rattle.calculus.specs.Steps.{couples, entry_of, unmatched}
use Rattle.calculus.proofs.Lift.{lo, hi, cmp, lift_zero, lift_fusion}
use Rattle.code.specs.Limits.{longest_term, most_abstractors}
use Rattle.code.specs.Scope.{scope}
use Rattle.code.proofs.RoundTrip.{odd}
use Rattle.letters.specs.Letters.{letter, applicator, abstractor, symbol_of, depth_of, height_of, Lies}
use Rattle.letters.proofs.Letters.{first, first_small, symbol_letter, depth_letter, height_letter, head_of, lies_end}
use Rattle.bodies.specs.Ways.{Way, here, in_argument, past_argument, in_domain, past_domain, frame_at, depth_at}
use Rattle.bodies.specs.Finding.{BinderAt, Findable, Found, partner_from, DomainLies, BindsDomain, EntryLies, lies_single, lies_pair, Binds, BoundInside, SomeBound, Finds}
use Rattle.bodies.specs.declared.Part.{Part}
use Rattle.bodies.proofs.Ways.{way_within, means_outside, domain_entry}
use Rattle.bodies.proofs.Extents.{Parts, app_parts, abs_parts, Above, above}
use Rattle.bodies.proofs.Finding.{less_high, at_abstractor, at_partner_lem, at_applicator, all_higher}

-- ---- The applicators not yet matched before place `at` of a train of depth d and height h: M, and where the search finds them.
unfoldable nth : List Term → ℕ → Option Term
nth [] n = none
nth (K ∷ M) zero = some K
nth (K ∷ M) (suc n) = nth M n

data Spot (s : List ℕ) (h at d : ℕ) : Option Term → Answer Part → Type 0 where
  nobody : Spot s h at d none None
  somebody : {a e c : ℕ} {K : Term} → e ≤ at → c ≤ d → get_or s a 0 ≡ letter applicator c h → Lies s (suc a) e c (suc h) K → c + scope K ≤ most_abstractors → Spot s h at d (some (lift (d - c) 0 K)) (Some (record { start = suc a; end = e }))

record Behind (s : List ℕ) (h at d : ℕ) (M : List Term) : Type 0 where
  all : (n : ℕ) → Spot s h at d (nth M n) (partner_from s h at n at)

spot_none : {s : List ℕ} {h at d : ℕ} {r : Answer Part} → Spot s h at d none r → r ≡ None
spot_none nobody = refl

record Somebody (s : List ℕ) (h at d : ℕ) (L : Term) (r : Answer Part) : Type 0 where
  a : ℕ
  e : ℕ
  c : ℕ
  K : Term
  found_at : r ≡ Some (record { start = suc a; end = e })
  lifted : L ≡ lift (d - c) 0 K
  ends : e ≤ at
  less : c ≤ d
  deep : depth_of (get_or s a 0) ≡ c
  lies : Lies s (suc a) e c (suc h) K
  few : c + scope K ≤ most_abstractors

spot_some : {s : List ℕ} {h at d : ℕ} {L : Term} {r : Answer Part} → Spot s h at d (some L) r → Somebody s h at d L r
spot_some {h = h} (somebody {a} {e} {c} {K} x y z l f) = record { a = a; e = e; c = c; K = K; found_at = refl; lifted = refl; ends = x; less = y; deep = rw z (depth_letter applicator c h (omega arith) (omega arith)); lies = l; few = f }

spot_later : {s : List ℕ} {h at at' d : ℕ} {o : Option Term} {r : Answer Part} → at ≤ at' → Spot s h at d o r → Spot s h at' d o r
spot_later l nobody = nobody
spot_later l (somebody {e = i} a b c e f) = somebody {e = i} (omega arith) b c e f

lifted_more : (d c : ℕ) (K : Term) → c ≤ d → lift 1 0 (lift (d - c) 0 K) ≡ lift (suc d - c) 0 K
lifted_more d c K l = lift_fusion 1 0 (d - c) 0 K (omega arith) (omega arith) ∙ ap (λ n. lift n 0 K) (omega arith)

spot_deeper : {s : List ℕ} {h at at' d : ℕ} {o : Option Term} {r : Answer Part} → at ≤ at' → Spot s h at d o r → Spot s h at' (suc d) (map (lift 1 0) o) r
spot_deeper l nobody = nobody
spot_deeper {d = d} l (somebody {e = i} {c = c} {K = K} a b x e f) = rw (lifted_more d c K b) (somebody {e = i} {c = c} (omega arith) (omega arith) x e f)

nth_lifted : (M : List Term) (n : ℕ) → nth (lift_all M) n ≡ map (lift 1 0) (nth M n)
unfolding nth lift_all
nth_lifted [] n = refl
nth_lifted (K ∷ M) zero = refl
nth_lifted (K ∷ M) (suc n) = nth_lifted M n

nth_unmatched : (M : List Term) (n : ℕ) → nth (unmatched couples M) n ≡ map (lift 1 0) (nth M (suc n))
unfolding nth unmatched
nth_unmatched [] n = refl
nth_unmatched (K ∷ M) n = nth_lifted M n

one_less : (n : ℕ) → suc n - 1 ≡ n
one_less n = omega arith

-- No wagon of its train stands before a train.
behind_nothing : {s : List ℕ} {h d : ℕ} → Behind s h 0 d []
unfolding nth partner_from
behind_nothing = record { all = λ n. nobody }

module _ {s : List ℕ} {from e d h d_b x : ℕ} {K B : Term} (P : Parts s from e d h d_b x K B) (c : x < 1024) (b : d + scope K ≤ most_abstractors) where
  height_from : height_of (get_or s from 0) ≡ h
  height_from = rw P.head (height_letter x d h c (omega arith))

  symbol_from : symbol_of (get_or s from 0) ≡ x
  symbol_from = rw P.head (symbol_letter x d h c)

  behind_inside : Behind s (suc h) (suc from) d []
  unfolding nth
  behind_inside = record { all = λ n. subst (Spot s (suc h) (suc from) d none) (sym (less_high s (suc h) from n (suc from) (omega (arith, height_from)))) nobody }

  -- past the wagon
  over : (n : ℕ) → partner_from s h P.middle n P.middle ≡ partner_from s h (suc from) n P.middle
  over n = ap (λ y. partner_from s h y n P.middle) P.inner.place ∙ all_higher s h (suc from) (size K) n P.middle (λ j u v. omega (arith, (above {d = d} K (omega arith) P.inner j u (omega (arith, P.inner.place))).high))

  later : from ≤ P.middle
  later = omega (arith, P.inner.place)

  behind_argument : {M : List Term} → x ≡ applicator → Behind s h from d M → Behind s h P.middle d (K ∷ M)
  unfolding nth
  behind_argument {M} q g = record { all = go }
    where
      go : (n : ℕ) → Spot s h P.middle d (nth (K ∷ M) n) (partner_from s h P.middle n P.middle)
      go zero = rw (over 0 ∙ at_partner_lem s h from 0 P.middle height_from (symbol_from ∙ q) refl)
          (subst (λ y. Spot s h P.middle d (some y) (Some (record { start = suc from; end = P.middle }))) (ap (λ n. lift n 0 K) (omega arith) ∙ lift_zero 0 K)
          (somebody (omega arith) (omega arith) (rw q at P.head) P.inner b))
      go (suc n) = rw (over (suc n) ∙ at_applicator s h from (suc n) P.middle height_from (symbol_from ∙ q) (λ z. omega arith) ∙ ap (λ y. partner_from s h from y from) (one_less n)) (spot_later later (g.all n))

  behind_domain : {M : List Term} → x ≡ abstractor → Behind s h from d M → Behind s h P.middle (suc d) (unmatched couples M)
  behind_domain {M} q g = record {
    all = λ n. rw (over n ∙ at_abstractor s h from n P.middle height_from (λ z. absurd (omega (arith, symbol_from))), nth_unmatched M n) (spot_deeper later (g.all (suc n)));
  }

-- ---- The abstractor [U] at `at` binds variable k at place p of s, which has depth `deep`; what it binds starts at `rest`.
record Bound (s : List ℕ) (p deep k : ℕ) (o : Frame → Option Entry) : Type 0 where
  at : ℕ
  rest : ℕ
  d : ℕ
  h : ℕ
  U : Term
  M : List Term
  depth_there : d + k ≡ deep
  letter_there : get_or s at 0 ≡ letter abstractor d h
  domain_there : Lies s (suc at) rest d (suc h) U
  few : d + scope U ≤ most_abstractors
  before : rest ≤ p
  within : (j : ℕ) → rest ≤ j → j ≤ p → Above s (suc d) h j
  rest_height : height_of (get_or s rest 0) ≡ h
  behind : Behind s h at d M
  means : (R : Frame) → o R ≡ some (entry_of M U)

-- The same of a larger term.
wrap : {s : List ℕ} {p p' deep k : ℕ} {o o' : Frame → Option Entry} (i : Bound s p' deep k o) → p' ≡ p → ((R : Frame) → o' R ≡ some (entry_of i.M i.U)) → Bound s p deep k o'
wrap i q g = record {
  at = i.at;
  rest = i.rest;
  d = i.d;
  h = i.h;
  U = i.U;
  M = i.M;
  depth_there = i.depth_there;
  letter_there = i.letter_there;
  domain_there = i.domain_there;
  few = i.few;
  before = omega (arith, i.before);
  within = λ j x y. i.within j x (omega arith);
  rest_height = i.rest_height;
  behind = i.behind;
  means = g;
}

bound : {s : List ℕ} {from e d h : ℕ} {t u : Term} {p : ℕ} (M : List Term) (k : ℕ) → Lies s from e d h t → d + scope t ≤ most_abstractors → Behind s h from d M → (w : Way t p u) → 1 ≤ k → k + d ≤ depth_at d w
    → Bound s (from + p) (depth_at d w) k (λ R. entry_at (frame_at R M w) k)
unfolding depth_at frame_at scope entry_at
bound M k l b g here x y = absurd (omega arith)
bound {s = s} {from = from} {e = e} {d = d} {h = h} M k l b g (in_argument {K} {B} {p = p} q w) x y =
    let P = app_parts l in
    let i = bound {s = s} {from = suc from} {e = P.middle} {d = d} {h = suc h} [] k P.inner (omega arith) (behind_inside P (omega arith) (omega arith)) w x y in
    wrap i (omega arith) i.means
bound {s = s} {from = from} {e = e} {d = d} {h = h} M k l b g (in_domain {U} {B} {p = p} q w) x y =
    let P = abs_parts l in
    let i = bound {s = s} {from = suc from} {e = P.middle} {d = d} {h = suc h} [] k P.inner (omega arith) (behind_inside P (omega arith) (omega arith)) w x y in
    wrap i (omega arith) i.means
bound {s = s} {from = from} {e = e} {d = d} {h = h} M k l b g (past_argument {K} {B} {p = p} w) x y =
    let P = app_parts l in
    let i = bound {s = s} {from = P.middle} {e = e} {d = d} {h = h} (K ∷ M) k P.rest (omega arith) (behind_argument P (omega arith) (omega arith) refl g) w x y in
    wrap i (omega (arith, P.inner.place)) i.means
bound {s} {from} {e} {d} {h} M k l b g (past_domain {U} {B} {u = u₀} {p = p} w) x y = elim (cmp (k + suc d) (depth_at (suc d) w)) [
  | lo z ↦
      let P = abs_parts l in
      let i = bound {s = s} {from = P.middle} {e = e} {d = suc d} {h = h} (unmatched couples M) k P.rest (omega arith) (behind_domain P (omega arith) (omega arith) refl g) w x z in
      wrap i (omega (arith, P.inner.place)) (λ R. i.means (R ▹ entry_of M U))
  | hi z ↦
      let P = abs_parts l in
      let one : k + suc d - depth_at (suc d) w ≡ 1 = omega arith in
      let v : get_or s P.middle 0 ≡ letter (first B) (suc d) h = head_of P.rest in
      record {
        at = from;
        rest = P.middle;
        d = d;
        h = h;
        U = U;
        M = M;
        depth_there = omega arith;
        letter_there = P.head;
        domain_there = P.inner;
        few = omega arith;
        before = omega (arith, P.inner.place);
        within = λ j u r. above B (omega arith) P.rest j u (omega (arith, P.inner.place, P.rest.place, way_within w, odd u₀));
        rest_height = rw v (height_letter (first B) (suc d) h (first_small P.rest.coded) (omega arith));
        behind = g;
        means = λ R. means_outside (suc d) w (R ▹ entry_of M U) (unmatched couples M) k z ∙ ap (entry_at (R ▹ entry_of M U)) one;
      }
]

-- ---- What the two scans find.
module _ {s : List ℕ} {n p k d : ℕ} {t : Term} {w : Way t p (var k)} (g : BoundInside s n p k d w) where
  abbrev meaning : Frame → Option Entry
  meaning R = entry_at (frame_at R [] w) k

  binds : Bound s p (depth_at 0 w) k meaning
  binds = subst (λ x. Bound s x (depth_at 0 w) k meaning) (omega arith) (bound [] k g.lies (omega (arith, g.shallow)) behind_nothing w g.index (omega (arith, g.inside)))

  depth_is : binds.d ≡ d
  depth_is = omega (arith, binds.depth_there, g.inside)

  binder_at : BinderAt s p d binds.h binds.rest binds.at
  binder_at = subst (λ x. BinderAt s p x binds.h binds.rest binds.at) depth_is (record {
    letter_there = binds.letter_there;
    ordered = omega (arith, lies_end binds.domain_there);
    before = binds.before;
    inner = λ j a b. (above binds.U (omega (arith, binds.few)) binds.domain_there j a b).high;
    deep = λ j a b. (binds.within j a b).deep;
    high = λ j a b. (binds.within j a b).high;
    rest_height = binds.rest_height;
    shallow = omega (arith, binds.few);
  })

  inside_array : length s ≡ longest_term → p < longest_term
  inside_array a = omega (arith, way_within w, odd (var k), g.lies.place, lies_end g.lies)

  module _ {q : ℕ} (e : Found s p d q) where
    q_is : q ≡ binds.at
    q_is = e.all binds.h binds.rest binds.at binder_at

    domain_lies : DomainLies s p d q binds.U
    domain_lies = subst (λ x. DomainLies s p d x binds.U) (sym q_is) (subst (λ x. DomainLies s p x binds.at binds.U) depth_is (record { high = binds.h; rest = binds.rest; letter_there = binds.letter_there; lies = binds.domain_there; before = binds.before; rest_height = binds.rest_height; few = binds.few }))

    pub found_domain : BindsDomain s p d meaning q
    unfolding domain
    found_domain = record { entry = entry_of binds.M binds.U; means = binds.means; lies = subst (DomainLies s p d q) (domain_entry binds.M binds.U) domain_lies }

    module _ {r : Answer Part} (m : r ≡ partner_from s (height_of (get_or s q 0)) q 0 q) where
      height_is : height_of (get_or s q 0) ≡ binds.h
      height_is = ap (λ x. height_of (get_or s x 0)) q_is ∙ rw binds.letter_there (height_letter abstractor binds.d binds.h (omega arith) (omega (arith, binds.few)))

      -- the search goes where the descent says
      searched : r ≡ partner_from s binds.h binds.at 0 binds.at
      searched = m ∙ rw (height_is, q_is) refl

      at_before : binds.at ≤ p
      at_before = omega (arith, lies_end binds.domain_there, binds.before)

      entry_lies : (M : List Term) → Spot s binds.h binds.at binds.d (nth M 0) (partner_from s binds.h binds.at 0 binds.at) → EntryLies s p d r (entry_of M binds.U)
      unfolding entry_of nth
      entry_lies [] v = rw (searched ∙ spot_none v) (lies_single domain_lies)
      entry_lies (K ∷ M) v = let z = spot_some v in
          rw (searched ∙ z.found_at) (subst (λ y. EntryLies s p d (Some (record { start = suc z.a; end = z.e })) (pair y binds.U)) (ap (λ x. lift (x - z.c) 0 z.K) (sym depth_is) ∙ sym z.lifted)
          (lies_pair {c = z.c} {low = suc binds.h} {k = record { start = suc z.a; end = z.e }} {K = z.K} (omega arith) (ap (λ x. depth_of (get_or s x 0)) (omega arith) ∙ z.deep) (omega (arith, z.less, depth_is)) z.lies z.few (omega (arith, z.ends, at_before)) domain_lies))

      found_binds : Binds s p d meaning r
      found_binds = record { entry = entry_of binds.M binds.U; means = binds.means; parts = entry_lies binds.M (binds.behind.all 0) }

module _ {s : List ℕ} {p d : ℕ} (g : SomeBound s p d) where
  pub findable : Findable s p d
  findable = record { array = g.array; inside = inside_array g.bound g.array; h = (binds g.bound).h; rest = (binds g.bound).rest; at = (binds g.bound).at; binder = binder_at g.bound }

  module _ {q : ℕ} (e : Found s p d q) where
    pub abstractor_inside : q < longest_term
    abstractor_inside = omega (arith, q_is g.bound e, lies_end (binds g.bound).domain_there, (binds g.bound).before, inside_array g.bound g.array)

    pub finds : {r : Answer Part} → r ≡ partner_from s (height_of (get_or s q 0)) q 0 q → Finds s p d r
    finds m = record { all = λ n k t w b. found_binds b e m }
