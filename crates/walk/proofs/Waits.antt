-- An applicator: its K waits, (iii) and (ix).
-- Assumes nothing.
use Prim.Native.Nat.{ℕ, suc, ◌+◌, ◌-◌, ◌*◌, ◌≤◌, ◌<◌, max}
use mathlib.Core.Path.{◌≡◌, refl, ap, sym, ◌∙◌}
use mathlib.Core.Bool.{Bool, true, false, cond}
use mathlib.Core.List.{List, [], ◌∷◌}
use native.Mathlib.Omega.{arith}
use native.Mathlib.Numerals.{add-one}
use lib.ListN.{length, get_or}
use Rattle.std.specs.Prelude.{None}
use Rattle.calculus.specs.Terms.{Term, app, size, lift, Closed, closed_app}
use Rattle.calculus.specs.Frames.{Frame}
use Rattle.calculus.specs.Walks.{states_of}
use Rattle.calculus.proofs.Lift.{lo, hi, cmp, lift_zero, size_lift}
use Rattle.code.specs.Limits.{longest_state}
use Rattle.code.specs.Claims.{Stands}
use Rattle.code.specs.Scope.{scope}
use Rattle.code.proofs.Parts.{stands_start, stands_end}
use Rattle.code.proofs.Scope.{scope_lift}
use Rattle.frames.specs.Stored.{Agree}
use Rattle.frames.specs.declared.FrameRecord.{FrameRecord}
use Rattle.frames.proofs.Entries.{agree_refl, agree_part, stands_agree}
use Rattle.frames.proofs.Laws.{stored_agree}
use Rattle.texts.specs.Texts.{Origin}
use Rattle.texts.proofs.Origins.{origin_app}
use Rattle.verdict.specs.Bounds.{waiting_size, waiting_scope}
use Rattle.verdict.specs.Verdict.{Progress, finish}
use Rattle.waiting.specs.Waiting.{Waiting, terms_of, slot_of, slot_in, low_of, Waits, Queue, queue_none, queue_one, Kept, KeptSlot, Noted}
use Rattle.waiting.specs.Writing.{Moved}
use Rattle.waiting.proofs.Bytes.{stands_same}
use Rattle.waiting.proofs.Texts.{positive, Two, text_app}
use Rattle.waiting.proofs.Queues.{queue_length, queue_keep, queue_agree, queue_base, seen, waits_at, low_same, kept_through}
use Rattle.walk.specs.State.{Text, Arrays, state_of, rest_of, agenda_of, OwnText, StateAt}
use Rattle.walk.specs.Clauses.{past_of, longest_list, slot_for, WaitReady, PutAside, aside_copied, aside_own, Becomes, becomes_state}
use Rattle.walk.specs.declared.WalkState.{WalkState}
use Rattle.walk.specs.declared.Turned.TheVariants.{State}
use Rattle.walk.proofs.Rules.{rest_app_own, rest_app_copied}
use Rattle.walk.proofs.Measures.{fewer_app}
use Rattle.walk.proofs.States.{no_confusion, notes_keep, Room, body_size, body_scope_lem, own_low, origin_bound}

-- the arrays with other bytes and another list
abbrev pub aside_arrays : Arrays → (w q : List ℕ) → Arrays
aside_arrays m w q = record { work = w; list = q; domains = m.domains; origins = m.origins; reach = m.reach }

stands_from : {s : List ℕ} {a b e : ℕ} {K : Term} → a ≡ b → Stands s (a + 1) e K → Stands s (suc b) e K
stands_from {a = a} q h = rw (← q, ← add-one a) h

-- K is moved behind its applicator
moved_inside : {t w w' : List ℕ} {p p' n at e : ℕ} {K : Term} → Moved t w w' p (1 + n) at → at + (1 + n) ≤ length w → n ≡ size K → p' ≡ p → Stands t (p' + 1) e K → Stands w' (suc at) (suc at + size K) K
moved_inside {t} {w} {w'} {p} {p'} {n} {at} {e} {K} m l q r h =
    let i : e - (p' + 1) ≡ size K = omega (arith, h.place) in
    rw i at (stands_same {w = w'} {to = suc at} (λ j g. let a : suc at + j ≡ at + (1 + j) = omega arith in let b : p + (1 + j) ≡ p' + 1 + j = omega arith in ap (λ k. get_or w' k 0) a ∙ m.same (1 + j) (omega arith) ∙ ap (λ k. get_or t k 0) b) (omega (arith, m.same_length)) h)

fewer_is : (b : Bool) (R : Frame) (W W' Q Q' : List Waiting) (B K X : Term) → B ≡ app K X → suc (states_of (state_of b R W' Q' X)) ≤ states_of (state_of b R W Q B)
fewer_is b R W W' Q Q' B K X e = rw e (fewer_app b R W W' Q Q' K X)

pub no_queue : {y : Bool} {t s q : List ℕ} {d limit base before top : ℕ} {Q : List Waiting} → Q ≡ [] → top ≡ base → Queue y t s q d limit base before top Q
no_queue e h = rw e (queue_none h)

module _ {x : Text} {m : Arrays} {f : FrameRecord} {s : WalkState} {R : Frame} {W Q : List Waiting} {B : Term} {p : Progress} (z : StateAt x m f s R W Q B p) (h : get_or (cond s.in_term x.term m.work) s.from 0 ≡ 0xfe) where
  pub two_app : Two (cond s.in_term x.term m.work) s.from z.end z.text app
  two_app = text_app z.stands h

  applied : Term
  applied = lift s.shift s.cut two_app.one

  rest : Term
  rest = lift s.shift s.cut two_app.two

  is_app : B ≡ app applied rest
  unfolding lift applied rest
  is_app = z.seen ∙ ap (lift s.shift s.cut) two_app.is

  pub origins_app : Origin x.term (s.origin + 1) two_app.one × Origin x.term (s.origin + 1 + size two_app.one) two_app.two
  origins_app = origin_app (rw two_app.is at z.origin)

  sizes : size B ≡ suc (size two_app.one + size two_app.two)
  unfolding size
  sizes = body_size z ∙ ap size two_app.is

  scopes : scope B ≡ max (scope two_app.one) (scope two_app.two)
  unfolding scope
  scopes = body_scope_lem z ∙ ap scope two_app.is

  parts_closed : Closed f.len applied × Closed f.len rest
  parts_closed = go (rw is_app at z.closed)
    where
      go : {K X : Term} → Closed f.len (app K X) → Closed f.len K × Closed f.len X
      go (closed_app a b) = (a, b)

  -- copied text does not stand in the term
  not_met : {A : Type 0} → s.own ≡ false → s.in_term ≡ true → A
  unfolding size
  not_met a b = let k = z.met a b in absurd (omega (arith, ap size k.1, ap size two_app.is, positive two_app.one))

  -- in the term's own text
  first_own : s.own ≡ true → Stands x.term (s.from + 1) two_app.mid two_app.one
  first_own i = rw (ap (λ k. cond k x.term m.work) (z.own_text i).in_term) at two_app.first

  before_rest : s.own ≡ true → {n : ℕ} → n ≡ size two_app.one → s.from + 1 + n < length x.term
  before_rest i e =
      let u = ap (λ k. cond k x.term m.work) (z.own_text i).in_term in
      let v : Stands x.term two_app.mid z.end two_app.two = rw u at two_app.second in
      omega (arith, two_app.first.place, stands_start v, stands_end v)

  pub wait_ready : (o : Room f s B) {n : ℕ} → n ≡ size two_app.one → WaitReady x.term m.work m.list f.len s n
  wait_ready o {n} e = record {
    origin_small = omega (arith, origin_bound z);
    from_small = from_small;
    len_small = omega (arith, z.held.stored.few);
    shift_small = omega (arith, z.shift_bound);
    cut_small = omega (arith, z.cut_bound, z.held.stored.few);
    scope_small = omega (arith, z.held.scope_bound);
    top_small = omega (arith, queue_length z.held.copies, z.held.few_waiting, z.held.place_bound, z.held.term_short, z.held.size_is, z.held.size_bound);
    size_small = omega (arith, z.held.size_bound);
    n_small = omega (arith, sizes, o.fits);
    work_long = z.held.stored.work;
    listed = z.held.listed;
    own_room = λ i. let t = z.own_text i in let u = before_rest i e in (omega (arith, u, t.at_place), omega (arith, u, t.at_place, t.packed, z.held.term_short), own_low z i);
  }
    where
      from_small : s.from < 65536
      from_small = by_source s.in_term refl
        where
          by_source : (b : Bool) → s.in_term ≡ b → s.from < 65536
          by_source true e = omega (arith, stands_start (rw e at z.stands), stands_end (rw e at z.stands), z.held.term_short)
          by_source false e = omega (arith, stands_start (rw e at z.stands), stands_end (rw e at z.stands), z.held.stored.work)

  module _ (o : Room f s B) {n y : ℕ} (e : n ≡ size two_app.one) (c : y ≡ scope two_app.one) {w q : List ℕ} {at : ℕ} (h' : PutAside x.term m.work w m.list s n at) (d : Noted m.list q s.top (slot_for f.len at s)) (l : 6 * s.top + 6 ≤ length m.list) where
    -- what is as it was
    pub aside_same : (length w ≡ longest_state) × Agree m.work w 0 f.end × Agree m.work w (low_of m.list s.middle) longest_state
    aside_same = go h'
      where
        go : PutAside x.term m.work w m.list s n at → (length w ≡ longest_state) × Agree m.work w 0 f.end × Agree m.work w (low_of m.list s.middle) longest_state
        go (aside_copied i a b) = rw a (z.held.stored.work, agree_refl, agree_refl)
        go (aside_own i a b) =
            let t = z.own_text i in
            let u = before_rest i e in
            (b.same_length ∙ z.held.stored.work, agree_part b.below (omega arith) (omega (arith, a, u, t.packed, t.at_place, z.held.term_short)), agree_part b.above (omega (arith, a, ap (low_of m.list) t.tops)) (omega arith))

    source_now : (b : Bool) → s.in_term ≡ b → {i j : ℕ} {X : Term} → j ≤ z.end → Stands (cond b x.term m.work) i j X → Stands (cond b x.term w) i j X
    source_now true i j k = k
    source_now false i j k = stands_agree k (agree_part aside_same.1 (omega arith) (omega (arith, z.inside i))) (omega (arith, z.inside i, z.held.stored.inside, aside_same.0))

    next_text : Stands (cond s.in_term x.term w) (s.from + 1 + n) z.end two_app.two
    next_text = let i : s.from + 1 + n ≡ two_app.mid = omega (arith, two_app.first.place) in rw i (source_now s.in_term refl (omega arith) two_app.second)

    -- K as it waits, in a string that it stands in
    waits : (b : Bool) (place : ℕ) {t : List ℕ} {limit : ℕ} → Stands t (suc (cond b s.origin at)) two_app.mid two_app.one → two_app.mid ≤ limit → place ≡ s.origin
        → Waits x.term t f.len limit (slot_in b q s.top) (record { place = place; term = applied })
    unfolding applied
    waits b place g i j = waits_at (ap (seen b) (sym d.slot)) (record {
      raw = two_app.one;
      end = two_app.mid;
      stands = g;
      inside = i;
      origin = origins_app.0;
      shift_bound = z.shift_bound;
      cut_bound = omega (arith, z.cut_bound, z.held.stored.few);
      part = record {
        closed = parts_closed.0;
        shallow = omega (arith, o.body_fits_lem, scopes, scope_lift s.shift s.cut two_app.one);
        short = omega (arith, sizes, origin_bound z, size_lift s.shift s.cut two_app.one);
      };
      deep = omega arith;
      is_place = j;
      seen = sym (ap (λ i. lift i 0 (lift s.shift s.cut two_app.one)) (omega arith) ∙ lift_zero 0 (lift s.shift s.cut two_app.one));
    })

    slot_scope : (slot_of q s.top).scope ≡ s.scope
    slot_scope = ap (λ u. u.scope) d.slot

    here : Waiting
    here = record { place = s.origin; term = applied }

    size_waits : waiting_size (applied ∷ []) ≡ 1 + n
    unfolding waiting_size applied
    size_waits = omega (arith, size_lift s.shift s.cut two_app.one)

    scope_waits : scope applied ≡ y
    unfolding applied
    scope_waits = scope_lift s.shift s.cut two_app.one ∙ sym c

    -- what waits now
    abbrev now_w : Bool → List Waiting
    now_w b = cond b (here ∷ W) W

    abbrev now_q : Bool → List Waiting
    now_q b = cond b Q (here ∷ Q)

    queue_w : (b : Bool) → s.own ≡ b → Queue true x.term x.term q f.len (length x.term) s.bottom 0 (cond b (s.top + 1) s.middle) (now_w b)
    unfolding here waiting_scope terms_of
    queue_w true i =
        let t = z.own_text i in
        let g : waiting_scope (terms_of Q) ≡ 0 = ap (λ k. waiting_scope (terms_of k)) t.no_copies in
        queue_one {W = W} (add-one s.top) (omega (arith, queue_base z.held.waits, t.tops)) (waits true s.origin (stands_from (t.at_place ∙ sym t.itself) (first_own i)) (omega (arith, before_rest i e, two_app.first.place)) refl) (slot_scope ∙ omega (arith, z.held.scope_is))
        (rw (← t.tops) (queue_keep d.below (omega (arith, t.tops)) z.held.waits))
    queue_w false i = queue_keep d.below (queue_base z.held.copies) z.held.waits

    copied_at : s.own ≡ false → at ≡ s.from
    copied_at i = go h'
      where
        go : PutAside x.term m.work w m.list s n at → at ≡ s.from
        go (aside_copied j a b) = b
        go (aside_own j a b) = no_confusion (sym i ∙ j)

    queue_q : (b : Bool) → s.own ≡ b → Queue false x.term w q f.len f.end (cond b (s.top + 1) s.middle) (waiting_scope (terms_of (now_w b))) (s.top + 1) (now_q b)
    unfolding here terms_of
    queue_q true i = no_queue (z.own_text i).no_copies refl
    queue_q false i = by_source s.in_term refl
      where
        by_source : (k : Bool) → s.in_term ≡ k → Queue false x.term w q f.len f.end s.middle (waiting_scope (terms_of W)) (s.top + 1) (here ∷ Q)
        by_source true j = not_met i j
        by_source false j =
            let u : Stands w (s.from + 1) two_app.mid two_app.one = source_now false j (omega (arith, stands_start two_app.second)) (rw (ap (λ k. cond k x.term m.work) j) at two_app.first) in
            queue_one {W = Q} (add-one s.top) (queue_base z.held.copies) (waits false s.origin (stands_from (sym (copied_at i)) u) (omega (arith, stands_start two_app.second, z.inside j)) refl) (slot_scope ∙ z.held.scope_is)
            (queue_keep d.below (omega arith) (queue_agree aside_same.1 (omega (arith, aside_same.0, z.held.stored.inside)) (omega arith) z.held.copies))

    -- the bytes of what waits in the term's own text
    slot_place : ((slot_of q s.top).place ≡ s.origin) × ((slot_of q s.top).at ≡ at)
    slot_place = (ap (λ u. u.place) d.slot, ap (λ u. u.at) d.slot)

    low_now : low_of q s.top ≡ low_of m.list s.top
    low_now = sym (low_same s.top d.below (omega arith))

    earlier : (j : ℕ) → s.bottom ≤ j → j < s.middle → KeptSlot x.term w q m.reach j
    earlier = kept_through m.list z.held.kept (agree_part d.below (omega arith) (omega (arith, queue_base z.held.copies))) (agree_part aside_same.2 (omega arith) (omega arith)) z.held.stored.work aside_same.0 (omega arith)

    kept_last : s.own ≡ true → KeptSlot x.term w q m.reach s.top
    kept_last i = put_at slot_place.0 slot_place.1 low_now (go h')
      where
        put_at : {place place' at at' before before' : ℕ} → place ≡ place' → at ≡ at' → before ≡ before' → Kept x.term w m.reach place' at' before' → Kept x.term w m.reach place at before
        put_at a b c k = rw (a, b, c) k

        go : PutAside x.term m.work w m.list s n at → Kept x.term w m.reach s.origin at (low_of m.list s.top)
        go (aside_copied j a b) = no_confusion (sym j ∙ i)
        go (aside_own j a b) =
            let t = z.own_text i in
            record {
              term = two_app.one;
              end = two_app.mid;
              stands = stands_from (t.at_place ∙ sym t.itself) (first_own i);
              apart = omega (arith, a);
              there = λ k. moved_inside b (omega (arith, a, own_low z i, z.held.stored.work)) e t.at_place (first_own i);
            }

    kept_now : (b : Bool) → s.own ≡ b → (j : ℕ) → s.bottom ≤ j → j < cond b (s.top + 1) s.middle → KeptSlot x.term w q m.reach j
    kept_now true i j g k = elim (cmp s.top j) [
      | lo u ↦ let v : j ≡ s.top = omega arith in rw v (kept_last i)
      | hi u ↦ earlier j g (omega (arith, (z.own_text i).tops))
    ]
    kept_now false i j g k = earlier j g k

    size_now : (b : Bool) → s.size + (1 + n) ≡ waiting_size (terms_of (now_w b)) + waiting_size (terms_of (now_q b))
    unfolding here waiting_size terms_of
    size_now true = omega (arith, z.held.size_is, size_waits)
    size_now false = omega (arith, z.held.size_is, size_waits)

    scope_now : (b : Bool) → max s.scope y ≡ max (waiting_scope (terms_of (now_w b))) (waiting_scope (terms_of (now_q b)))
    unfolding here waiting_scope terms_of
    scope_now true = omega (arith, z.held.scope_is, scope_waits)
    scope_now false = omega (arith, z.held.scope_is, scope_waits)

    few_now : (b : Bool) → s.own ≡ b → cond b (s.top + 1) s.middle + cond b (s.top + 1) s.middle ≤ cond b (s.from + 1 + n) s.place
    few_now true i = let t = z.own_text i in omega (arith, z.held.few_waiting, t.tops, t.at_place, positive two_app.one)
    few_now false i = z.held.few_waiting

    place_now : (b : Bool) → s.own ≡ b → cond b (s.from + 1 + n) s.place < length x.term
    place_now true i = before_rest i e
    place_now false i = z.held.place_bound

    abbrev pub next_app : WalkState
    next_app = past_of s n s.cut (cond s.own (s.top + 1) s.middle) (s.top + 1) (s.size + (1 + n)) (max s.scope y) s.next s.comparisons

    own_now : (b : Bool) → s.own ≡ b → s.own ≡ true → OwnText (aside_arrays m w q) f next_app (now_q b)
    unfolding low_of
    own_now true i j = go h'
      where
        u : cond s.own (s.from + 1 + n) s.place ≡ s.from + 1 + n
        u = ap (λ k. cond k (s.from + 1 + n) s.place) i

        v : cond s.own (s.top + 1) s.middle ≡ s.top + 1
        v = ap (λ k. cond k (s.top + 1) s.middle) i

        last : low_of q (s.top + 1) ≡ at
        last = ap (low_of q) (add-one s.top) ∙ slot_place.1

        go : PutAside x.term m.work w m.list s n at → OwnText (aside_arrays m w q) f next_app Q
        go (aside_copied k a b) = no_confusion (sym k ∙ i)
        go (aside_own k a b) = let t = z.own_text i in record {
          in_term = t.in_term;
          at_place = sym u;
          itself = omega (arith, u, t.at_place, t.itself);
          unlifted = t.unlifted;
          no_copies = t.no_copies;
          tops = v;
          low = omega (arith, low_same s.bottom d.below (omega (arith, queue_base z.held.waits, queue_base z.held.copies)), t.low);
          packed = omega (arith, last, a, u, t.packed, t.at_place);
        }
    own_now false i j = no_confusion (sym i ∙ j)

    state_now : (b : Bool) → s.own ≡ b → StateAt x (aside_arrays m w q) f next_app R (now_w b) (now_q b) rest p
    unfolding rest
    state_now b i =
        let g : cond s.own (s.top + 1) s.middle ≡ cond b (s.top + 1) s.middle = ap (λ k. cond k (s.top + 1) s.middle) i in
        let k : cond s.own (s.from + 1 + n) s.place ≡ cond b (s.from + 1 + n) s.place = ap (λ k. cond k (s.from + 1 + n) s.place) i in
        record {
          held = record {
            term_short = z.held.term_short;
            stored = stored_agree z.held.stored aside_same.1 aside_same.0;
            sound = z.held.sound;
            notes = notes_keep aside_same.1 (omega (arith, aside_same.0, z.held.stored.inside)) (omega arith) agree_refl agree_refl z.held.notes;
            domains_long = z.held.domains_long;
            origins_long = z.held.origins_long;
            waits = rw g (queue_w b i);
            kept = rw g (kept_now b i);
            copies = rw g (queue_q b i);
            listed = omega (arith, d.same_length, l);
            few_waiting = omega (arith, g, k, few_now b i);
            place_bound = omega (arith, k, place_now b i);
            size_is = size_now b;
            scope_is = scope_now b;
            size_bound = omega (arith, o.fits, sizes);
            scope_bound = omega (arith, z.held.scope_bound, o.body_fits_lem, scopes);
          };
          text = two_app.two;
          end = z.end;
          stands = next_text;
          inside = z.inside;
          origin = rw e origins_app.1;
          seen = refl;
          shift_bound = z.shift_bound;
          cut_bound = z.cut_bound;
          closed = parts_closed.1;
          own_text = own_now b i;
          met = λ j k. not_met j k;
          inner = λ j. no_confusion j;
          reached = z.reached;
        }

    applied_size : size applied ≡ n
    unfolding applied
    applied_size = size_lift s.shift s.cut two_app.one ∙ sym e

    run_now : (b : Bool) → s.own ≡ b → finish (rest_of b s.place R W Q B) p ≡ finish (agenda_of false b (cond b (s.from + 1 + n) s.place) R (now_w b) (now_q b) rest) p
    unfolding here
    run_now true i =
        let t = z.own_text i in
        let j : suc s.place + size applied ≡ s.from + 1 + n = omega (arith, t.at_place, applied_size) in
        own_run (is_app) t.no_copies t.itself j
      where
        own_run : {B : Term} {Q : List Waiting} {origin next : ℕ} → B ≡ app applied rest → Q ≡ [] → origin ≡ s.place → suc s.place + size applied ≡ next
            → finish (rest_of true s.place R W Q B) p ≡ finish (agenda_of false true next R (record { place = origin; term = applied } ∷ W) Q rest) p
        own_run a c g h = rw (a, c, g, ← h) (rest_app_own s.place R W applied rest p)
    run_now false i = copied_run is_app
      where
        copied_run : {B : Term} → B ≡ app applied rest → finish (rest_of false s.place R W Q B) p ≡ finish (agenda_of false false s.place R W (record { place = s.origin; term = applied } ∷ Q) rest) p
        copied_run a = rw a (rest_app_copied s.place s.origin R W Q applied rest p)

    pub app_becomes : (a b : List ℕ) → Becomes x (aside_arrays m w q) f s a b (State next_app None) (states_of (state_of s.own R W Q B)) (finish (rest_of s.own s.place R W Q B) p)
    app_becomes a b = becomes_state (state_now s.own refl) refl (fewer_is s.own R W (now_w s.own) Q (now_q s.own) B applied rest is_app) (run_now s.own refl)

  -- the list has room for all that can wait
  pub full_short : (o : Room f s B) → length m.list < 6 * s.top + 6 → length m.list < longest_list
  full_short o l = omega (arith, queue_length z.held.copies, z.held.few_waiting, z.held.place_bound, z.held.term_short, z.held.size_is, o.fits, sizes, positive two_app.one, positive two_app.two)
