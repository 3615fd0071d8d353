-- From turn to turn; and a comparison, step by step, to its end.
-- Assumes nothing.
use Prim.Native.Nat.{ℕ, zero, suc, ◌+◌, ◌≤◌}
use mathlib.Core.Path.{◌≡◌, refl, ap, sym, ◌∙◌}
use mathlib.Core.Bool.{Bool, true, false}
use mathlib.Core.Option.{Option, none, some}
use mathlib.Core.List.{List, [], ◌∷◌}
use native.Mathlib.Omega.{arith}
use native.Mathlib.Nat.{zero-add, add-zero}
use lib.ListN.{length, drop}
use Rattle.calculus.specs.Terms.{Term}
use Rattle.calculus.specs.Frames.{Frame}
use Rattle.calculus.specs.Types.{type}
use Rattle.calculus.specs.Steps.{Step, Outcome, reached, refused, then_outcome, step, replay_by, replay}
use Rattle.calculus.specs.Rules.{Group, Same, compare, Question, same}
use Rattle.calculus.proofs.Weaken.{reached_inj}
use Rattle.verdict.specs.Bounds.{body_fits}
use Rattle.verdict.specs.Verdict.{Item, same_at, Ground, untyped, no_group, step_refused, type_outgrown, domain_outgrown, step_outgrown, different_bodies, number}
use Rattle.verdict.specs.Verdict.{Progress, turned, completed, Run, stopped, OtherSide, right_next, left_reached, side_of, Configuration, on_step, Status, at_turn, done, identical, forms_meet, side_from, with_group, with_type, to_turn, stepped, turn_by, turn, onward, run_by, run, steps}
use Rattle.verdict.specs.Claims.{FormsFit, no_form, next_form, SameFits, SideStops, stops_refused, stops_outgrown, stops_later, StopsAt, type_is_none, group_missing, outgrown_type, outgrown_domain, left_stops, right_stops, forms_differ}
use Rattle.verdict.proofs.Runs.{identical_eq, identical_refl, not_identical}

suc-add : (j k : ℕ) → suc j + k ≡ suc (j + k)
suc-add j k = omega arith

-- k turns lead from one to the other
pub data Leads : ℕ → Status → Status → Type 0 where
  here : {a : Status} → Leads 0 a a
  by_turn : {k : ℕ} {m : Configuration} {p : Progress} {b : Status} → Leads k (turn m (turned 1 p)) b → Leads (suc k) (at_turn m p) b

pub leads_then : {j k : ℕ} {a b c : Status} → Leads j a b → Leads k b c → Leads (j + k) a c
leads_then {k = k} here e = rw (zero-add k) e
leads_then {k = k} (by_turn {k = j} d) e = rw (suc-add j k) (by_turn (leads_then d e))

pub leads_from : {k : ℕ} {a b c : Status} → a ≡ b → Leads k b c → Leads k a c
leads_from q e = rw q e

pub turn_to : (m : Configuration) (p : Progress) {k : ℕ} {a b : Status} → turn m (turned 1 p) ≡ a → Leads k a b → Leads (suc k) (at_turn m p) b
turn_to m p q e = by_turn (leads_from q e)

pub run_leads : (n : ℕ) {k : ℕ} {a : Status} {x : Run} → Leads k a (done x) → k ≤ n → run n a ≡ x
unfolding run_by onward
run_leads zero here h = refl
run_leads zero (by_turn d) h = let z : ⊥ = omega arith in absurd z
run_leads (suc n) here h = refl
run_leads (suc n) (by_turn d) h = run_leads n d (omega arith)

-- a ground with a number
pub record Numbered (g : Ground) : Type 0 where
  pub least : 7 ≤ number g
  pub most : number g ≤ 12

-- k turns, and nothing else
pub record Moved (k : ℕ) (p q : Progress) : Type 0 where
  pub left : q.left ≡ p.left
  pub comparisons : q.comparisons ≡ p.comparisons
  pub turns : q.turns ≡ p.turns + k

moved_none : (p : Progress) → Moved 0 p p
moved_none p = record { left = refl; comparisons = refl; turns = omega arith }

moved_one : {k : ℕ} {p q : Progress} → Moved k (turned 1 p) q → Moved (suc k) p q
unfolding turned
moved_one m = record { left = m.left; comparisons = m.comparisons; turns = omega (arith, m.turns) }

pub record Reaches (R : Frame) (ss : List Step) (t f : Term) : Type 0 where
  pub reaches : replay R ss t ≡ reached f
  pub fits : FormsFit R ss t

reach_none : {R : Frame} {t f : Term} → t ≡ f → Reaches R [] t f
unfolding replay_by
reach_none q = record { reaches = ap reached q; fits = no_form }

reach_step : {R : Frame} {s : Step} {ss : List Step} {t u f : Term} → step R s t ≡ reached u → body_fits R u ≡ true → Reaches R ss u f → Reaches R (s ∷ ss) t f
unfolding replay_by then_outcome
reach_step {R} {ss = ss} q b i = record { reaches = ap (λ (o : Outcome). then_outcome o (replay R ss)) q ∙ i.reaches; fits = next_form q b i.fits }

-- THE SIDES
-- what the other side comes to
abbrev Meeting : Frame → OtherSide → Term → Type 0
Meeting R (right_next rs r) f = Reaches R rs r f
Meeting R (left_reached l) f = l ≡ f

unfoldable more_steps : OtherSide → ℕ
more_steps (right_next rs r) = length rs
more_steps (left_reached l) = 0

-- why it stops: at a step of the side; after the left side, on the right one; or at the two forms
data Halting (place : ℕ) (R : Frame) : OtherSide → ℕ → List Step → Term → Ground → Type 0 where
  in_side : {o : OtherSide} {n : ℕ} {ss : List Step} {t : Term} {g : Ground} → SideStops place (side_of o) R n ss t g → Halting place R o n ss t g
  turned_over : {n : ℕ} {ss rs : List Step} {t l r : Term} {g : Ground} → Reaches R ss t l → Halting place R (left_reached l) 0 rs r g → Halting place R (right_next rs r) n ss t g
  differ : {n : ℕ} {ss : List Step} {t l r : Term} → Reaches R ss t r → (l ≡ r → ⊥) → Halting place R (left_reached l) n ss t (different_bodies place l r)

halts_later : {place n : ℕ} {R : Frame} {o : OtherSide} {s : Step} {ss : List Step} {t u : Term} {g : Ground} → step R s t ≡ reached u → body_fits R u ≡ true → Halting place R o (suc n) ss u g
    → Halting place R o n (s ∷ ss) t g
halts_later q h (in_side a) = in_side (stops_later q a)
halts_later q h (turned_over l a) = turned_over (reach_step q h l) a
halts_later q h (differ r d) = differ (reach_step q h r) d

-- the form that the steps of a body within the limits reach
last_fits : {R : Frame} {ss : List Step} {t f : Term} → body_fits R t ≡ true → FormsFit R ss t → replay R ss t ≡ reached f → body_fits R f ≡ true
unfolding replay_by then_outcome
last_fits b no_form e = rw (← reached_inj e) b
last_fits {R} b (next_form {ss = ss} h c d) e = last_fits c d (ap (λ (x : Outcome). then_outcome x (replay R ss)) (sym h) ∙ e)

halts_at : {place : ℕ} {R : Frame} {K U T : Term} {qs : List Question} {g : Group} {gs : List Group} {x : Ground} → type R K ≡ some T → body_fits R T ≡ true → body_fits R U ≡ true
    → Halting place R (right_next g.right U) 0 g.left T x → StopsAt (same (compare R K U) ∷ qs) (g ∷ gs) x
unfolding side_of
halts_at h a b (in_side s) = left_stops h s
halts_at h a b (turned_over l (in_side s)) = right_stops h l.reaches s
halts_at h a b (turned_over l (differ r d)) = forms_differ h l.reaches r.reaches (last_fits a l.fits l.reaches) (last_fits b r.fits r.reaches) d

-- the bodies are found identical, and what is asked after at_turn on; or it stops
data Joined (place : ℕ) (R : Frame) (o : OtherSide) (n : ℕ) (ss : List Step) (t : Term) (p : Progress) (go : List Item → Status) : Type 0 where
  joins : (f : Term) (k : ℕ) (q : Progress) → Meeting R o f → Reaches R ss t f → k ≡ length ss + more_steps o → Moved k p q
      → ((rest : List Item) → Leads k (go rest) (to_turn rest (completed q))) → Joined place R o n ss t p go
  halts : (g : Ground) (k : ℕ) (q : Progress) → Halting place R o n ss t g → Numbered g → k ≤ length ss + more_steps o → Moved k p q
      → ((rest : List Item) → Leads k (go rest) (done (stopped g q))) → Joined place R o n ss t p go

module _ (place : ℕ) (R : Frame) (o : OtherSide) where
  abbrev JoinedFrom : ℕ → List Step → Term → Progress → Type 0
  JoinedFrom n ss t p = Joined place R o n ss t p (λ rest. side_from place R o n ss t rest (to_turn rest) p)

  -- a step more
  join_step : (n : ℕ) (s : Step) (ss : List Step) (t : Term) (p : Progress) → ((u : Term) → JoinedFrom (suc n) ss u (turned 1 p)) → JoinedFrom n (s ∷ ss) t p
  unfolding side_from turn_by stepped number
  join_step n s ss t p = go (step R s t) refl
    where
      stop : (g : Ground) → Halting place R o n (s ∷ ss) t g → Numbered g → ((rest : List Item) → turn (on_step place R o n s ss t rest) (turned 1 p) ≡ done (stopped g (turned 1 p))) → JoinedFrom n (s ∷ ss) t p
      stop g y x e = halts g 1 (turned 1 p) y x (omega arith) (moved_one (moved_none (turned 1 p))) (λ rest. turn_to (on_step place R o n s ss t rest) p (e rest) here)

      at : (u : Term) → step R s t ≡ reached u → JoinedFrom (suc n) ss u (turned 1 p) → (b : Bool) → body_fits R u ≡ b → JoinedFrom n (s ∷ ss) t p
      at u q (joins f k x a b c m e) true h = joins f (suc k) x a (reach_step q h b) (omega arith) (moved_one m) (λ rest. turn_to (on_step place R o n s ss t rest) p (rw (q, h)) (e rest))
      at u q (halts g k x y a c m e) true h = halts g (suc k) x (halts_later q h y) a (omega arith) (moved_one m) (λ rest. turn_to (on_step place R o n s ss t rest) p (rw (q, h)) (e rest))
      at u q j false h = stop (step_outgrown place (side_of o) n) (in_side (stops_outgrown q h)) (omega arith) (λ rest. rw (q, h))

      go : (x : Outcome) → step R s t ≡ x → ((u : Term) → JoinedFrom (suc n) ss u (turned 1 p)) → JoinedFrom n (s ∷ ss) t p
      go (refused why) q ih = stop (step_refused place (side_of o) n why) (in_side (stops_refused q)) (omega arith) (λ rest. rw q)
      go (reached u) q ih = at u q (ih u) (body_fits R u) refl

right_ends : (place : ℕ) (R : Frame) (l : Term) (n : ℕ) (ss : List Step) (t : Term) (p : Progress) → JoinedFrom place R (left_reached l) n ss t p
unfolding side_from forms_meet more_steps number
right_ends place R l n [] t p = go (identical l t) refl
  where
    go : (b : Bool) → identical l t ≡ b → JoinedFrom place R (left_reached l) n [] t p
    go true q = joins t 0 p (identical_eq l t q) (reach_none refl) refl (moved_none p) (λ rest. leads_from (rw q) here)
    go false q = halts (different_bodies place l t) 0 p (differ (reach_none refl) (not_identical l t q)) (omega arith) (omega arith) (moved_none p) (λ rest. leads_from (rw q) here)
right_ends place R l n (s ∷ ss) t p = join_step place R (left_reached l) n s ss t p (λ u. right_ends place R l (suc n) ss u (turned 1 p))

-- where the left side is through, the right side begins
pub turn_over : (place : ℕ) (R : Frame) (rs : List Step) (r : Term) (n : ℕ) (l : Term) (rest : List Item) (more : Progress → Status) (p : Progress)
    → side_from place R (right_next rs r) n [] l rest more p ≡ side_from place R (left_reached l) 0 rs r rest more p
unfolding side_from
turn_over place R [] r n l rest more p = refl
turn_over place R (s ∷ rs) r n l rest more p = refl

left_ends : (place : ℕ) (R : Frame) (rs : List Step) (r : Term) (n : ℕ) (ss : List Step) (t : Term) (p : Progress) → JoinedFrom place R (right_next rs r) n ss t p
unfolding more_steps
left_ends place R rs r n [] t p = go (right_ends place R t 0 rs r p)
  where
    go : JoinedFrom place R (left_reached t) 0 rs r p → JoinedFrom place R (right_next rs r) n [] t p
    go (joins f k q a b c m e) = joins f k q b (reach_none a) (omega arith) m (λ rest. leads_from (turn_over place R rs r n t rest (to_turn rest) p) (e rest))
    go (halts g k q y x c m e) = halts g k q (turned_over (reach_none refl) y) x (omega arith) m (λ rest. leads_from (turn_over place R rs r n t rest (to_turn rest) p) (e rest))
left_ends place R rs r n (s ∷ ss) t p = join_step place R (right_next rs r) n s ss t p (λ u. left_ends place R rs r (suc n) ss u (turned 1 p))

-- the steps of a comparison that is met
record Through (p : Progress) (k : ℕ) (go : List Item → Status) : Type 0 where
  end : Progress
  moved : Moved k p end
  leads : (rest : List Item) → Leads k (go rest) (to_turn rest (completed end))

module _ (place : ℕ) (R : Frame) (o : OtherSide) (f : Term) (j : ℕ)
    (base : (n : ℕ) (p : Progress) → Through p j (λ rest. side_from place R o n [] f rest (to_turn rest) p)) where
  through : (n : ℕ) (ss : List Step) (t : Term) (p : Progress) → FormsFit R ss t → replay R ss t ≡ reached f → Through p (length ss + j) (λ rest. side_from place R o n ss t rest (to_turn rest) p)
  unfolding side_from turn_by stepped replay_by then_outcome
  through n [] t p no_form e = let q : t ≡ f = reached_inj e in rw (q, zero-add j) (base n p)
  through n (s ∷ ss) t p (next_form {u = u} h b d) e =
      let i = through (suc n) ss u (turned 1 p) d (ap (λ (x : Outcome). then_outcome x (replay R ss)) (sym h) ∙ e) in
      rw (suc-add (length ss) j) (record { end = i.end; moved = moved_one i.moved; leads = λ rest. turn_to (on_step place R o n s ss t rest) p (rw (h, b)) (i.leads rest) })

through_both : (place : ℕ) (R : Frame) (f : Term) (ss : List Step) (l : Term) (rs : List Step) (r : Term) (p : Progress) → FormsFit R ss l → replay R ss l ≡ reached f → FormsFit R rs r → replay R rs r ≡ reached f
    → Through p (length ss + length rs) (λ rest. side_from place R (right_next rs r) 0 ss l rest (to_turn rest) p)
unfolding side_from forms_meet
through_both place R f ss l rs r p a b c d = through place R (right_next rs r) f (length rs) left_through 0 ss l p a b
  where
    right_through : (n : ℕ) (q : Progress) → Through q 0 (λ rest. side_from place R (left_reached f) n [] f rest (to_turn rest) q)
    right_through n q = record { end = q; moved = moved_none q; leads = λ rest. leads_from (rw (identical_refl f)) here }

    left_through : (n : ℕ) (q : Progress) → Through q (length rs) (λ rest. side_from place R (right_next rs r) n [] f rest (to_turn rest) q)
    left_through n q =
        let i = rw (add-zero (length rs)) at (through place R (left_reached f) f 0 right_through 0 rs r q c d) in
        record { end = i.end; moved = i.moved; leads = λ rest. leads_from (turn_over place R rs r n f rest (to_turn rest) q) (i.leads rest) }

-- A COMPARISON, to its end
pub record Meets (place : ℕ) (R : Frame) (K U : Term) (p q : Progress) (k : ℕ) : Type 0 where
  pub met : Same R K U
  pub fits : SameFits met
  pub taken : p.left ≡ met.group ∷ q.left
  pub counted : q.comparisons ≡ suc p.comparisons
  pub turns : q.turns ≡ p.turns + k
  pub many : k ≡ length met.group.left + length met.group.right
  pub leads : (rest : List Item) → Leads k (to_turn (same_at place R K U ∷ rest) p) (to_turn rest q)

pub record Refuses (place : ℕ) (R : Frame) (K U : Term) (p : Progress) (g : Ground) (q : Progress) (k : ℕ) : Type 0 where
  pub numbered : Numbered g
  pub stops_at : (qs : List Question) → StopsAt (same (compare R K U) ∷ qs) p.left g
  pub moved : Moved k p q
  pub many : k ≤ steps p.left
  pub leads : (rest : List Item) → Leads k (to_turn (same_at place R K U ∷ rest) p) (done (stopped g q))

pub data Compared (place : ℕ) (R : Frame) (K U : Term) (p : Progress) : Type 0 where
  meets : {q : Progress} {k : ℕ} → Meets place R K U p q k → Compared place R K U p
  refuses : {g : Ground} {q : Progress} {k : ℕ} → Refuses place R K U p g q k → Compared place R K U p

module _ (place : ℕ) (R : Frame) (K U : Term) (p : Progress) where
  at_once : (g : Ground) → Numbered g → ((qs : List Question) → StopsAt (same (compare R K U) ∷ qs) p.left g) → ((rest : List Item) → to_turn (same_at place R K U ∷ rest) p ≡ done (stopped g p)) → Compared place R K U p
  at_once g n x e = refuses (record { numbered = n; stops_at = x; moved = moved_none p; many = omega arith; leads = λ rest. leads_from (e rest) here })

  of_sides : (T : Term) (g : Group) (gs : List Group) → type R K ≡ some T → p.left ≡ g ∷ gs → body_fits R T ≡ true → body_fits R U ≡ true
      → ((rest : List Item) → to_turn (same_at place R K U ∷ rest) p ≡ side_from place R (right_next g.right U) 0 g.left T rest (to_turn rest) p)
      → JoinedFrom place R (right_next g.right U) 0 g.left T p → Compared place R K U p
  unfolding completed steps more_steps
  of_sides T g gs h l a b e (joins f k q y x c m d) = meets {q = completed q} (record {
    met = record { typ = T; typed = h; group = g; form = f; left_reaches = x.reaches; right_reaches = y.reaches };
    fits = record { type_fits = a; domain_fits = b; left_fits = x.fits; right_fits = y.fits };
    taken = l ∙ ap (λ (n : List Group). g ∷ drop 1 n) (sym l ∙ sym m.left);
    counted = ap suc m.comparisons;
    turns = m.turns;
    many = c;
    leads = λ rest. leads_from (e rest) (d rest);
  })
  of_sides T g gs h l a b e (halts j k q y n c m d) =
      refuses (record { numbered = n; stops_at = λ qs. rw l (halts_at h a b y); moved = m; many = omega (arith, ap steps l); leads = λ rest. leads_from (e rest) (d rest) })

  pub comparing : Compared place R K U p
  unfolding to_turn with_type with_group number
  comparing = typed (type R K) refl
    where
      fitting : (T : Term) (g : Group) (gs : List Group) → type R K ≡ some T → p.left ≡ g ∷ gs → (a b : Bool) → body_fits R T ≡ a → body_fits R U ≡ b → Compared place R K U p
      fitting T g gs h l true true x y = of_sides T g gs h l x y (λ rest. rw (h, l, x, y)) (left_ends place R g.right U 0 g.left T p)
      fitting T g gs h l false b x y = at_once (type_outgrown place) (omega arith) (λ qs. rw l (outgrown_type h x)) (λ rest. rw (h, l, x))
      fitting T g gs h l true false x y = at_once (domain_outgrown place) (omega arith) (λ qs. rw l (outgrown_domain h y)) (λ rest. rw (h, l, x, y))

      grouped : (T : Term) → type R K ≡ some T → (gs : List Group) → p.left ≡ gs → Compared place R K U p
      grouped T h [] l = at_once (no_group place) (omega arith) (λ qs. rw l (group_missing h)) (λ rest. rw (h, l))
      grouped T h (g ∷ gs) l = fitting T g gs h l (body_fits R T) (body_fits R U) refl refl

      typed : (o : Option Term) → type R K ≡ o → Compared place R K U p
      typed none h = at_once (untyped place) (omega arith) (λ qs. type_is_none h) (λ rest. rw h)
      typed (some T) h = grouped T h p.left refl

pub compare_complete : (place : ℕ) (R : Frame) (K U : Term) (s : Same R K U) (gs : List Group) (p : Progress) → SameFits s → p.left ≡ s.group ∷ gs
    → (q : Progress) × (k : ℕ) × Meets place R K U p q k × (q.left ≡ gs)
unfolding to_turn with_type with_group completed
compare_complete place R K U s gs p f l =
    let t = through_both place R s.form s.group.left s.typ s.group.right U p f.left_fits s.left_reaches f.right_fits s.right_reaches in
    let d : drop 1 t.end.left ≡ gs = ap (drop 1) (t.moved.left ∙ l) in (
      completed t.end,
      length s.group.left + length s.group.right,
      record {
        met = s;
        fits = f;
        taken = l ∙ ap (λ (n : List Group). s.group ∷ n) (sym d);
        counted = ap suc t.moved.comparisons;
        turns = t.moved.turns;
        many = refl;
        leads = λ rest. leads_from (rw (s.typed, l, f.type_fits, f.domain_fits)) (t.leads rest);
      },
      d,
    )
