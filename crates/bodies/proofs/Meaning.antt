-- What a variable of a body means, and the laws of local steps and types: both put a term in its place.
-- Assumes nothing.
use Prim.Native.Nat.{ℕ, suc, ◌+◌, ◌-◌, ◌≤◌, ◌<◌}
use mathlib.Core.Path.{◌≡◌, refl, ap, sym, subst, ◌∙◌}
use mathlib.Core.Option.{Option, none, some, map}
use mathlib.Core.List.{List, []}
use native.Mathlib.Omega.{arith}
use native.Mathlib.Numerals.{add-one}
use lib.ListN.{length, get_or}
use Rattle.std.specs.Prelude.{Err, Some, None}
use Rattle.std.specs.Prelude.{Option as Answer}
use Rattle.std.proofs.lemmas.Option.{none-some, same_Some}
use Rattle.calculus.specs.Terms.{Term, tau, var, app, abs, lift}
use Rattle.calculus.specs.Frames.{Entry, single, pair, domain, Frame, entry_at}
use Rattle.calculus.specs.Types.{type, type_of_var}
use Rattle.calculus.specs.Steps.{local, couples, reach_of, kind_in, wrong_symbol, no_partner, reached, refused, map_outcome, reduce_var, step_here, step_of, step_by, step}
use Rattle.calculus.proofs.Lift.{lift_fusion}
use Rattle.calculus.proofs.Closed.{closedness}
use Rattle.calculus.proofs.Ren.{no_some, some_inj}
use Rattle.code.specs.Limits.{longest_term, most_abstractors}
use Rattle.code.specs.Code.{Coded, coded_var}
use Rattle.code.specs.Scope.{scope}
use Rattle.frames.specs.declared.FrameRecord.{FrameRecord}
use Rattle.frames.specs.declared.Span.{Span}
use Rattle.frames.specs.Stored.{EntryParts, span_single, span_pair, Looked, Holding}
use Rattle.frames.proofs.Laws.{stored_depth, span_domain}
use Rattle.letters.specs.Letters.{applicator, symbol_of, depth_of, height_of, Lies}
use Rattle.letters.proofs.Letters.{first, height_letter, lies_end}
use Rattle.bodies.specs.Ways.{Way, put, frame_at, depth_at}
use Rattle.bodies.specs.Reasons.{said}
use Rattle.bodies.specs.Held.{Held, SomeHeld, InBody, Form, SteppedAs, step_refused, step_reached, TypedAs, type_is_none, typed, Steps, Types}
use Rattle.bodies.specs.Finding.{Found, DomainLies, BindsDomain, EntryLies, lies_single, lies_pair, Binds, BoundInside, SomeBound, Finds}
use Rattle.bodies.specs.Moving.{Ending}
use Rattle.bodies.specs.Putting.{SourceIs, in_frame, in_body, Puttable, PutsTerm}
use Rattle.bodies.specs.declared.Part.{Part}
use Rattle.bodies.specs.declared.Holder.TheVariants.{TheFrame, TheBody}
use Rattle.bodies.specs.declared.Reason.TheVariants.{WrongSymbol, NoPartner}
use Rattle.bodies.specs.declared.StepError.TheVariants.{NotPossible}
use Rattle.bodies.specs.declared.Source.{Source}
use Rattle.bodies.proofs.Ways.{place_way, step_along, means_outside, LastIs, ends_tau, ends_variable, last_is, same_frame}
use Rattle.bodies.proofs.Binding.{found_domain}
use Rattle.bodies.proofs.Extents.{above}
use Rattle.bodies.proofs.Endings.{ending_is}
use Rattle.bodies.proofs.Places.{at_way, index_there}

-- ---- A variable, and what is no variable, by the letter's symbol.
variable_is : {k : ℕ} (u : Term) → k ≡ first u → 1 ≤ k → k < applicator → u ≡ var k
unfolding first
variable_is tau e a b = absurd (omega arith)
variable_is (var j) e a b = ap var (sym e)
variable_is (app K B) e a b = absurd (omega arith)
variable_is (abs U B) e a b = absurd (omega arith)

pub index_small : {k : ℕ} → Coded (var k) → (1 ≤ k) × (k ≤ most_abstractors)
index_small (coded_var p q) = (p, q)

module _ {W : List ℕ} {f : FrameRecord} {s : List ℕ} {n p : ℕ} {R : Frame} {t : Term} (y : Held W f s n R t) (l : p < n) where
  pub way_there : (u : Term) × Way t p u
  way_there = place_way t p (omega (arith, y.lies.place))

  variable_way : {k : ℕ} → k ≡ symbol_of (get_or s p 0) → 1 ≤ k → k < applicator → Way t p (var k)
  variable_way {k} e a b = let r = way_there in subst (Way t p) (variable_is r.0 (e ∙ (at_way y r.1).symbol) a b) r.1

  not_variable : {k : ℕ} → k ≡ symbol_of (get_or s p 0) → (1 ≤ k → k < applicator → ⊥) → step R (record { kind = 1; place = p }) t ≡ refused wrong_symbol
  unfolding step_by step_of reach_of kind_in map_outcome step_here first
  not_variable {k} e c = let r = way_there in step_along local R [] r.1 ∙ ap (map_outcome (put r.1)) (go r.0 r.1 (at_way y r.1).there_now.lies.coded (e ∙ (at_way y r.1).symbol))
    where
      go : (u : Term) (w : Way t p u) → Coded u → k ≡ first u → step_here couples local (frame_at R [] w) u ≡ refused wrong_symbol
      go tau w d q = refl
      go (var j) w d q = let z = index_small d in absurd (c (omega arith) (omega arith))
      go (app K B) w d q = refl
      go (abs U B) w d q = refl

pub no_variable : {W : List ℕ} {f : FrameRecord} {s : List ℕ} {n p k : ℕ} → InBody W f s n p → k ≡ symbol_of (get_or s p 0) → (1 ≤ k → k < applicator → ⊥) → Steps W f s s n (record { kind = 1; place = p }) (Err (NotPossible WrongSymbol))
unfolding said
no_variable g e c = record { all = λ R t y. step_refused (not_variable y g.inside e c); same_length = refl }

pub place_inside : {W : List ℕ} {f : FrameRecord} {s : List ℕ} {n p : ℕ} → InBody W f s n p → (p < n) × (n ≤ longest_term) × (length s ≡ longest_term)
place_inside g = let y = g.some_held.held in (g.inside, omega (arith, lies_end y.lies, y.array), y.array)

pub last_in_body : {W : List ℕ} {f : FrameRecord} {s : List ℕ} {n : ℕ} → SomeHeld W f s n → InBody W f s n (n - 1)
last_in_body g = record { some_held = g; inside = omega (arith, lies_end g.held.lies) }

-- ---- A term that variable k at place p is to become, chosen from the entry that it means, stands where x says. It need not stand there
-- as it is meant: only what both are lifted to is one term.
unfoldable pub partner : Entry → Option Term
partner (single U) = none
partner (pair K U) = some K

unfoldable pub own_domain : Entry → Option Term
own_domain e = some (domain e)

pub record Supplied (W s : List ℕ) (p : ℕ) (x : Source) (choose : Entry → Option Term) (R : Frame) {t : Term} {k : ℕ} (w : Way t p (var k)) : Type 0 where
  pub entry : Entry
  pub meant : Term
  pub term : Term
  pub means : entry_at (frame_at R [] w) k ≡ some entry
  pub chosen : choose entry ≡ some meant
  pub lifted : lift k 0 meant ≡ lift x.lift 0 term
  pub source : SourceIs W s p (depth_at 0 w) x term

pub record Supplies (W : List ℕ) (f : FrameRecord) (s : List ℕ) (n p k : ℕ) (x : Source) (choose : Entry → Option Term) : Type 0 where
  pub all : {R : Frame} {t : Term} → Held W f s n R t → (w : Way t p (var k)) → Supplied W s p x choose R w

reduce_partner : (k : ℕ) (e : Entry) {K : Term} → partner e ≡ some K → reduce_var k (some e) ≡ reached (lift k 0 K)
unfolding partner reduce_var
reduce_partner k (single U) q = no_some q
reduce_partner k (pair K U) q = ap (λ x. reached (lift k 0 x)) (some_inj q)

reduce_alone : (k : ℕ) (e : Entry) → partner e ≡ none → reduce_var k (some e) ≡ refused no_partner
unfolding partner reduce_var
reduce_alone k (single U) q = refl
reduce_alone k (pair K U) q = no_some (sym q)

local_here : {p k : ℕ} (R : Frame) {t : Term} (w : Way t p (var k)) {e : Entry} → entry_at (frame_at R [] w) k ≡ some e → step R (record { kind = 1; place = p }) t ≡ map_outcome (put w) (reduce_var k (some e))
unfolding step_by step_of reach_of kind_in step_here
local_here {k = k} R w q = step_along local R [] w ∙ ap (λ o. map_outcome (put w) (reduce_var k o)) q

-- The entry is single.
pub record Alone (W : List ℕ) (f : FrameRecord) (s : List ℕ) (n p k : ℕ) : Type 0 where
  pub all : {R : Frame} {t : Term} → Held W f s n R t → (w : Way t p (var k)) → (o : Entry) × (entry_at (frame_at R [] w) k ≡ some o) × (partner o ≡ none)

module _ {W : List ℕ} {f : FrameRecord} {s : List ℕ} {n p k : ℕ} (g : InBody W f s n p) (e : k ≡ symbol_of (get_or s p 0)) (a : 1 ≤ k) (b : k < applicator) where
  pub puttable : {x : Source} {choose : Entry → Option Term} → Supplies W f s n p k x choose → Puttable W f s n p x
  puttable c = let y = g.some_held.held in let w = variable_way y g.inside e a b in
      record { frame = g.some_held.frame; body = g.some_held.term; k = k; way = w; held = y; term = (c.all y w).term; source = (c.all y w).source }

  pub local_put : {x : Source} {s' : List ℕ} {r : Form} → Supplies W f s n p k x partner → PutsTerm W f s s' n p x r → Steps W f s s' n (record { kind = 1; place = p }) r
  unfolding map_outcome
  local_put {x} {s'} {r} c d = record { all = λ R t y. go R t y (variable_way y g.inside e a b); same_length = d.same_length }
    where
      go : (R : Frame) (t : Term) (y : Held W f s n R t) → Way t p (var k) → SteppedAs W f s' R (record { kind = 1; place = p }) t r
      go R t y w = let z = c.all y w in
          let q : step R (record { kind = 1; place = p }) t ≡ reached (put w (lift x.lift 0 z.term)) = local_here R w z.means ∙ ap (map_outcome (put w)) (reduce_partner k z.entry z.chosen) ∙ ap (λ v. reached (put w v)) z.lifted in
          step_reached q (d.all R t k w z.term y z.source (closedness.step_closed (record { kind = 1; place = p }) y.closed_frame y.closed q))

  pub local_alone : Alone W f s n p k → Steps W f s s n (record { kind = 1; place = p }) (Err (NotPossible NoPartner))
  unfolding map_outcome said
  local_alone c = record { all = λ R t y. go R t y (variable_way y g.inside e a b); same_length = refl }
    where
      go : (R : Frame) (t : Term) (y : Held W f s n R t) → Way t p (var k) → SteppedAs W f s R (record { kind = 1; place = p }) t (Err (NotPossible NoPartner))
      go R t y w = let z = c.all y w in step_refused (local_here R w z.1 ∙ ap (map_outcome (put w)) (reduce_alone k z.0 z.2))

-- ---- The last symbol, and the type.
record LastVariable (t : Term) (q k : ℕ) : Type 0 where
  way : Way t q (var k)
  types : (R : Frame) → type R t ≡ map (put way) (type_of_var k (entry_at (frame_at R [] way) k))

module _ {W : List ℕ} {f : FrameRecord} {s : List ℕ} {n : ℕ} {R : Frame} {t : Term} (y : Held W f s n R t) where
  last_there : LastIs t (n - 1)
  last_there = subst (LastIs t) (omega (arith, y.lies.place)) (last_is t)

  last_tau : symbol_of (get_or s (n - 1) 0) ≡ 0 → type R t ≡ none
  unfolding first
  last_tau e = go last_there
    where
      go : LastIs t (n - 1) → type R t ≡ none
      go (ends_tau w q) = q R
      go (ends_variable w q) = let a = at_way y w in absurd (omega (arith, a.symbol, index_there a))

  last_variable : {k : ℕ} → k ≡ symbol_of (get_or s (n - 1) 0) → 1 ≤ k → LastVariable t (n - 1) k
  unfolding first
  last_variable {k} e l = go last_there
    where
      go : LastIs t (n - 1) → LastVariable t (n - 1) k
      go (ends_tau w q) = absurd (omega (arith, (at_way y w).symbol))
      go (ends_variable w q) = subst (LastVariable t (n - 1)) (sym (e ∙ (at_way y w).symbol)) (record { way = w; types = λ R. q R R [] same_frame })

  pub last_small : symbol_of (get_or s (n - 1) 0) < applicator
  unfolding first
  last_small = go last_there
    where
      go : LastIs t (n - 1) → symbol_of (get_or s (n - 1) 0) < applicator
      go (ends_tau w q) = omega (arith, (at_way y w).symbol)
      go (ends_variable w q) = let a = at_way y w in omega (arith, a.symbol, index_small a.there_now.lies.coded)

module _ {W : List ℕ} {f : FrameRecord} {s : List ℕ} {n k : ℕ} (g : SomeHeld W f s n) (e : k ≡ symbol_of (get_or s (n - 1) 0)) where
  pub no_type_there : k ≡ 0 → Types W f s s n (Err (NotPossible WrongSymbol))
  no_type_there z = record { all = λ R t y. type_is_none (last_tau y (sym e ∙ z)); same_length = refl }

  pub type_put : {x : Source} {s' : List ℕ} {r : Form} → 1 ≤ k → Supplies W f s n (n - 1) k x own_domain → PutsTerm W f s s' n (n - 1) x r → Types W f s s' n r
  unfolding type_of_var own_domain
  type_put {x} {s'} {r} l c d = record { all = λ R t y. go R t y (last_variable y e l); same_length = d.same_length }
    where
      go : (R : Frame) (t : Term) (y : Held W f s n R t) → LastVariable t (n - 1) k → TypedAs W f s' R t r
      go R t y v = let w = v.way in let z = c.all y w in
          let q : type R t ≡ some (put w (lift x.lift 0 z.term)) = v.types R ∙ ap (λ o. map (put w) (type_of_var k o)) z.means ∙ ap (λ u. some (put w (lift k 0 u))) (some_inj z.chosen) ∙ ap (λ u. some (put w u)) z.lifted in
          typed q (d.all R t k w z.term y z.source (closedness.type_closed y.closed_frame y.closed q))

-- ---- The entry that a variable means, within the body.
record DomainThere (s : List ℕ) (p from m c : ℕ) (U : Term) : Type 0 where
  low : ℕ
  lies : Lies s from m c low U
  few : c + scope U ≤ most_abstractors
  before : m ≤ p

module _ {W : List ℕ} {f : FrameRecord} {s : List ℕ} {n p k d : ℕ} (e : d ≡ depth_of (get_or s p 0)) (i : k ≤ d) where
  module _ {R : Frame} {t : Term} (y : Held W f s n R t) (w : Way t p (var k)) where
    bound_there : BoundInside s n p k (d - k) w
    bound_there = let a = at_way y w in record { lies = y.lies; shallow = omega (arith, y.shallow); index = (index_there a).0; inside = omega (arith, a.deep) }

    depth_there : d - k + k ≡ depth_at 0 w
    depth_there = bound_there.inside

  pub some_bound : InBody W f s n p → k ≡ symbol_of (get_or s p 0) → 1 ≤ k → k < applicator → SomeBound s p (d - k)
  some_bound g q a b = let y = g.some_held.held in let w = variable_way y g.inside q a b in
      record { array = y.array; n = n; k = k; term = g.some_held.term; way = w; bound = bound_there y w }

  module _ {r : Answer Part} (c : Finds s p (d - k) r) where
    binds : {R : Frame} {t : Term} (y : Held W f s n R t) (w : Way t p (var k)) → Binds s p (d - k) (λ R. entry_at (frame_at R [] w) k) r
    binds {t = t} y w = c.all n k t w (bound_there y w)

    pub alone_inside : r ≡ None → Alone W f s n p k
    unfolding partner
    alone_inside z = record { all = λ {R} {t} y w. let b = binds y w in (b.entry, b.means R, go b.entry (subst (λ r. EntryLies s p (d - k) r b.entry) z b.parts)) }
      where
        go : (o : Entry) → EntryLies s p (d - k) None o → partner o ≡ none
        go o (lies_single u) = refl

    module _ {K₀ : Part} (z : r ≡ Some K₀) where
      pair_lies : {R : Frame} {t : Term} (y : Held W f s n R t) (w : Way t p (var k)) → EntryLies s p (d - k) (Some K₀) (binds y w).entry
      pair_lies y w = let b = binds y w in subst (λ r. EntryLies s p (d - k) r b.entry) z b.parts

      -- the applicator of the couple
      pub applicator_there : InBody W f s n p → k ≡ symbol_of (get_or s p 0) → 1 ≤ k → k < applicator → (1 ≤ K₀.start) × (K₀.start ≤ p) × (depth_of (get_or s (K₀.start - 1) 0) ≤ d)
      applicator_there g q a b = let y = g.some_held.held in go (pair_lies y (variable_way y g.inside q a b))
        where
          go : {o : Entry} → EntryLies s p (d - k) (Some K₀) o → (1 ≤ K₀.start) × (K₀.start ≤ p) × (depth_of (get_or s (K₀.start - 1) 0) ≤ d)
          go (lies_pair x q i l v j u) = (x, omega (arith, lies_end l), omega arith)

      pub partner_inside : {c₀ : ℕ} → c₀ ≡ depth_of (get_or s (K₀.start - 1) 0) → Supplies W f s n p k (record { holder = TheBody; start = K₀.start; end = K₀.end; lift = d - c₀ }) partner
      unfolding partner
      partner_inside {c₀} c₀_is = record { all = λ {R} {t} y w. let b = binds y w in go R w y b.entry (b.means R) (pair_lies y w) }
        where
          go : (R : Frame) {t : Term} (w : Way t p (var k)) (y : Held W f s n R t) (o : Entry) → entry_at (frame_at R [] w) k ≡ some o → EntryLies s p (d - k) (Some K₀) o
              → Supplied W s p (record { holder = TheBody; start = K₀.start; end = K₀.end; lift = d - c₀ }) partner R w
          go R w y o m (lies_pair {c = c₁} {low = low} {K = L} {U = U} x q h l v j u) = record {
            entry = pair (lift (d - k - c₁) 0 L) U;
            meant = lift (d - k - c₁) 0 L;
            term = L;
            means = m;
            chosen = refl;
            lifted = lift_fusion k 0 (d - k - c₁) 0 L (omega arith) (omega arith) ∙ ap (λ e. lift e 0 L) (omega arith);
            source = in_body {c = c₁} {low = low} refl (omega (arith, depth_there y w)) l v j;
          }

  -- its abstractor alone, whose U ends at m
  module _ {a : ℕ} (c : Found s p (d - k) a) where
    binds_domain : {R : Frame} {t : Term} (y : Held W f s n R t) (w : Way t p (var k)) → BindsDomain s p (d - k) (λ R. entry_at (frame_at R [] w) k) a
    binds_domain y w = found_domain (bound_there y w) c

    pub abstractor_before : InBody W f s n p → k ≡ symbol_of (get_or s p 0) → 1 ≤ k → k < applicator → a < p
    abstractor_before g q x b = let y = g.some_held.held in let u = (binds_domain y (variable_way y g.inside q x b)).lies in omega (arith, lies_end u.lies, u.before)

    module _ {h m : ℕ} (q : h ≡ height_of (get_or s a 0)) (j : Ending s n (a + 1) (h + 1) m) where
      domain_of : {U : Term} {R : Frame} {t : Term} → Held W f s n R t → p < n → DomainLies s p (d - k) a U → DomainThere s p (a + 1) m (d - k) U
      domain_of {U} y l u =
          let h_is : h ≡ u.high = q ∙ rw u.letter_there (height_letter 1023 (d - k) u.high (omega arith) (omega (arith, u.few))) in
          let ends : Ending s n (a + 1) (h + 1) u.rest = record {
            after = omega (arith, lies_end u.lies);
            inside = omega (arith, u.before);
            high = λ z a b. omega (arith, (above U (omega (arith, u.few)) u.lies z (omega arith) b).high);
            low = λ z. omega (arith, u.rest_height);
          } in
          let m_is : m ≡ u.rest = ending_is j ends in
          record { low = suc u.high; lies = rw (m_is, add-one a) u.lies; few = u.few; before = omega (arith, u.before) }

      pub domain_inside : p < n → Supplies W f s n p k (record { holder = TheBody; start = a + 1; end = m; lift = k }) own_domain
      unfolding own_domain
      domain_inside l = record {
        all = λ {R} {t} y w. let b = binds_domain y w in let x = domain_of y l b.lies in
            record { entry = b.entry; meant = domain b.entry; term = domain b.entry; means = b.means R; chosen = refl; lifted = refl; source = in_body {low = x.low} refl (depth_there y w) x.lies x.few x.before };
      }

-- ---- In the frame.
module _ {W : List ℕ} {f : FrameRecord} {s : List ℕ} {n p k d : ℕ} (e : d ≡ depth_of (get_or s p 0)) (i : d < k) where
  means_there : {R : Frame} {t : Term} → Held W f s n R t → (w : Way t p (var k)) → entry_at (frame_at R [] w) k ≡ entry_at R (k - d)
  means_there {R} y w = let a = at_way y w in means_outside 0 w R [] k (omega (arith, a.deep)) ∙ ap (entry_at R) (omega (arith, a.deep))

  few : {R : Frame} {t : Term} → Held W f s n R t → (w : Way t p (var k)) → k ≤ most_abstractors
  few y w = let a = at_way y w in omega (arith, index_there a, a.shallow)

  pub looked_up : InBody W f s n p → k ≡ symbol_of (get_or s p 0) → k < applicator → Holding W f × (1 ≤ k - d) × (k - d ≤ f.len)
  looked_up g q b = let y = g.some_held.held in let w = variable_way y g.inside q (omega arith) b in let a = at_way y w in
      (record { frame = g.some_held.frame; stored = y.stored }, omega arith, omega (arith, a.deep, index_there a, stored_depth y.stored))

  module _ {m : Span} (c : Looked W f (k - d) m) where
    pub alone_outside : m.applied ≡ None → Alone W f s n p k
    unfolding partner
    alone_outside z = record { all = λ {R} {t} y w. let b = c.found R y.stored in (b.0, means_there y w ∙ b.1, go b.0 b.2) }
      where
        go : (o : Entry) → EntryParts W m o → partner o ≡ none
        go o (span_single x u) = refl
        go o (span_pair x j l u) = absurd (none-some _ (sym z ∙ x))

    module _ {a : ℕ} (z : m.applied ≡ Some a) where
      pub partner_outside : Supplies W f s n p k (record { holder = TheFrame; start = a; end = m.domain - 1; lift = k }) partner
      unfolding partner
      partner_outside = record { all = λ {R} {t} y w. let b = c.found R y.stored in go R w y b.0 (means_there y w ∙ b.1) b.2 }
        where
          go : (R : Frame) {t : Term} (w : Way t p (var k)) (y : Held W f s n R t) (o : Entry) → entry_at (frame_at R [] w) k ≡ some o → EntryParts W m o → Supplied W s p (record { holder = TheFrame; start = a; end = m.domain - 1; lift = k }) partner R w
          go R w y o v (span_single x u) = absurd (none-some _ (sym x ∙ z))
          go R w y (pair K U) v (span_pair {k = i} {m = j} x o l u) =
              record { entry = pair K U; meant = K; term = K; means = v; chosen = refl; lifted = refl; source = in_frame refl (few y w) (let e : j ≡ m.domain - 1 = omega arith in rw (e, same_Some i a (sym x ∙ z)) at l) }

      pub domain_positive : InBody W f s n p → 1 ≤ m.domain
      domain_positive g = let b = c.found g.some_held.frame g.some_held.held.stored in go b.0 b.2
        where
          go : (o : Entry) → EntryParts W m o → 1 ≤ m.domain
          go o (span_single x u) = absurd (none-some _ (sym x ∙ z))
          go o (span_pair x j l u) = omega arith

    pub domain_outside : Supplies W f s n p k (record { holder = TheFrame; start = m.domain; end = m.end; lift = k }) own_domain
    unfolding own_domain
    domain_outside = record { all = λ {R} {t} y w. let b = c.found R y.stored in record { entry = b.0; meant = domain b.0; term = domain b.0; means = means_there y w ∙ b.1; chosen = refl; lifted = refl; source = in_frame refl (few y w) (span_domain b.2) } }
