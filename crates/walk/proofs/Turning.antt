-- A turn as a whole: the test, the terminals, and what follows a wagon.
-- Assumes nothing.
use Prim.Native.Nat.{ℕ, suc, ◌+◌, ◌-◌, ◌*◌, ◌≤◌, ◌<◌, max}
use mathlib.Core.Path.{◌≡◌, refl, ap, sym, ◌∙◌}
use mathlib.Core.Bool.{Bool, true, false, cond, not}
use mathlib.Core.Option.{some}
use mathlib.Core.List.{List, [], ◌∷◌}
use native.Mathlib.Omega.{arith}
use lib.ListN.{length, get_or}
use Rattle.std.specs.Prelude.{None, Err}
use Rattle.calculus.specs.Terms.{Term, tau, var, app, abs, size, lift, lift_index, Closed, closed_var}
use Rattle.calculus.specs.Frames.{Entry, domain, Frame, entry_at}
use Rattle.calculus.specs.Walks.{states_of}
use Rattle.calculus.proofs.Lift.{Cmp, lo, hi, cmp}
use Rattle.calculus.proofs.End.{domains, domain_at}
use Rattle.code.specs.Limits.{longest_term, longest_state, most_abstractors}
use Rattle.code.specs.Scope.{scope}
use Rattle.code.proofs.Parts.{stands_start}
use Rattle.frames.specs.declared.FrameRecord.{FrameRecord}
use Rattle.frames.proofs.Entries.{agree_refl, agree_part}
use Rattle.frames.proofs.Laws.{stored_depth}
use Rattle.compare.specs.declared.Ground.TheVariants.{Outgrown}
use Rattle.texts.proofs.Origins.{origin_size, origin_scope, origin_inside}
use Rattle.verdict.specs.Bounds.{state_fits}
use Rattle.verdict.specs.Verdict.{something_waits, not_reached, Progress, Run, passed, stopped, turned, finish}
use Rattle.waiting.specs.Waiting.{Waiting, places, slot_of}
use Rattle.waiting.proofs.Texts.{positive, text_tau, text_var, text_app, text_abs, text_in}
use Rattle.waiting.proofs.Queues.{queue_empty, queue_base, queue_count, queue_last, descends}
use Rattle.walk.specs.State.{Text, Arrays, state_of, rest_of, agenda_of, StateAt, Stated}
use Rattle.walk.specs.Clauses.{within, stopped_by, met_of, typed_of, halts_waiting, halts_outgrown, says_passed, says_stopped, says_never, says_full, Becomes, becomes_answer, becomes_state, becomes_inner, Comes, comes_now, Keeps, Onward, AbstractorAt, SizesKnown, Wagons, Turns, Known, TestAs, test_made, test_is, DueAs, due_first, not_due, TauTurn, tau_never, tau_passes, tau_waits, WaitReady, WaitTurn, wait_full, wait_goes}
use Rattle.walk.specs.declared.WalkState.{WalkState}
use Rattle.walk.specs.declared.Turned.{Turned}
use Rattle.walk.specs.declared.Turned.TheVariants.{Answer, State, Inner}
use Rattle.walk.proofs.Rules.{run_outgrown, run_tau_passes, run_tau_waits, run_tau_never, run_met, run_typed, run_copied_app, run_copied_abs}
use Rattle.walk.proofs.Measures.{fewer_met, fewer_typed}
use Rattle.walk.proofs.States.{no_confusion, sound_closed, Meant, meant, reached_turned, body_size, body_scope_lem, origin_bound, state_fits_lem, room}
use Rattle.walk.proofs.Waits.{aside_arrays, two_app, origins_app, wait_ready, aside_same, app_becomes, full_short}

pub is_false : (b : Bool) → not b ≡ true → b ≡ false
is_false true e = sym e
is_false false e = refl

pub is_true : (b : Bool) → not b ≡ false → b ≡ true
is_true true e = refl
is_true false e = sym e

-- nothing written
pub keeps_all : {x : Text} {m : Arrays} {f : FrameRecord} {s : WalkState} → Stated x m f s → {len end bottom : ℕ} → Keeps m m len end bottom
keeps_all g = record { work_long = g.at.held.stored.work; work_below = agree_refl; work_above = agree_refl; reach_grows = omega arith; list_long = refl; list_below = agree_refl; domains_long = refl; domains_below = agree_refl; origins_long = refl; origins_below = agree_refl }

becomes_at : {x : Text} {m : Arrays} {f : FrameRecord} {s : WalkState} {a b : List ℕ} {r : Turned} {n : ℕ} {v w : Run} → v ≡ w → Becomes x m f s a b r n w → Becomes x m f s a b r n v
becomes_at e h = rw e h

comes_at : {x : Text} {m : Arrays} {f : FrameRecord} {s : WalkState} {a b : List ℕ} {r : Turned} {n : ℕ} {v w : Run} → v ≡ w → Comes x m f s a b r n w → Comes x m f s a b r n v
comes_at e h = rw e h

-- the same state a turn later
later : {x : Text} {m : Arrays} {f : FrameRecord} {s : WalkState} {R : Frame} {W Q : List Waiting} {B : Term} {p : Progress} → StateAt x m f s R W Q B p → StateAt x m f s R W Q B (turned 1 p)
later z = record {
  held = z.held;
  text = z.text;
  end = z.end;
  stands = z.stands;
  inside = z.inside;
  origin = z.origin;
  seen = z.seen;
  shift_bound = z.shift_bound;
  cut_bound = z.cut_bound;
  closed = z.closed;
  own_text = z.own_text;
  met = z.met;
  inner = z.inner;
  reached = reached_turned 1 z.reached;
}

-- ---- The test.
abbrev pub Fitted : Text → Arrays → FrameRecord → WalkState → Type 0
Fitted x m f s = (R : Frame) (W Q : List Waiting) (B : Term) (p : Progress) → StateAt x m f s R W Q B p → state_fits (state_of s.own R W Q B) ≡ true

-- what was checked inside was within the limits
fitted_checked : {x : Text} {m : Arrays} {f : FrameRecord} {s : WalkState} → s.checked ≡ true → Fitted x m f s
fitted_checked c R W Q B p z = (z.inner c).fitted

module _ {x : Text} {m : Arrays} {f : FrameRecord} {s : WalkState} {sizes scopes : List ℕ} (k : Known x.term sizes scopes) where
  module _ {n y : ℕ} (i : n ≡ get_or sizes s.origin 0) (j : y ≡ get_or scopes s.origin 0) where
    tested : {ok : Bool} → ok ≡ within (f.end + (s.size + n)) (f.len + max s.scope y) → {R : Frame} {W Q : List Waiting} {B : Term} {p : Progress} → StateAt x m f s R W Q B p → state_fits (state_of s.own R W Q B) ≡ ok
    tested h {B = B} z =
        let a : n ≡ size B = i ∙ origin_size k.sized z.origin ∙ sym (body_size z) in
        let b : y ≡ scope B = j ∙ origin_scope k.sized z.origin ∙ sym (body_scope_lem z) in
        state_fits_lem z ∙ numbers a b ∙ sym h
      where
        numbers : {n n' y y' : ℕ} → n ≡ n' → y ≡ y' → within (f.end + (s.size + n')) (f.len + max s.scope y') ≡ within (f.end + (s.size + n)) (f.len + max s.scope y)
        numbers a b = rw (a, b)

    fitted : {ok : Bool} → ok ≡ within (f.end + (s.size + n)) (f.len + max s.scope y) → ok ≡ true → Fitted x m f s
    fitted h e R W Q B p z = tested h z ∙ e

    turns_outgrown : {ok : Bool} → ok ≡ within (f.end + (s.size + n)) (f.len + max s.scope y) → ok ≡ false → s.checked ≡ false → Stated x m f s → (a b : List ℕ)
        → Turns x m m f s a b (Answer (Err (stopped_by Outgrown s.place s)))
    unfolding agenda_of turned
    turns_outgrown h e c g a b = record {
      keeps = keeps_all g;
      onward = record { end_grows = omega arith; len_grows = omega arith; same_bottom = refl; further = omega arith };
      all = λ R W Q B p z. comes_now (becomes_at (agenda_false c R W Q B p ∙ run_outgrown s.own s.place R W Q B p (tested h z ∙ e))
          (becomes_answer (says_stopped (halts_outgrown refl refl refl refl refl) (sym z.reached.counted))));
    }
      where
        agenda_false : s.checked ≡ false → (R : Frame) (W Q : List Waiting) (B : Term) (p : Progress) → finish (agenda_of s.checked s.own s.place R W Q B) p ≡ finish (agenda_of false s.own s.place R W Q B) p
        agenda_false c R W Q B p = ap (λ b. finish (agenda_of b s.own s.place R W Q B) p) c

  -- by the test
  pub fitted_test : {ok : Bool} → ok ≡ true → TestAs sizes scopes f.len f.end s ok → Fitted x m f s
  fitted_test h (test_made e) = fitted_checked e
  fitted_test h (test_is c e) = fitted refl refl e h

  pub outgrown_test : {ok : Bool} → ok ≡ false → TestAs sizes scopes f.len f.end s ok → Stated x m f s → (a b : List ℕ) → Turns x m m f s a b (Answer (Err (stopped_by Outgrown s.place s)))
  outgrown_test h (test_made e) g a b = no_confusion (sym h)
  outgrown_test h (test_is c e) g a b = turns_outgrown refl refl e h c g a b

  pub origin_in : Stated x m f s → (s.origin < length sizes) × (s.origin < length scopes)
  origin_in g = let z = g.at in (omega (arith, origin_inside z.origin, positive z.text, k.sizes_long), omega (arith, origin_inside z.origin, positive z.text, k.scopes_long))

pub fits_bounds : {x : Text} {m : Arrays} {f : FrameRecord} {s : WalkState} → Stated x m f s → (s.size < 65536) × (s.scope < 65536) × (f.len < 65536) × (f.end < 65536)
fits_bounds g = let z = g.at in (omega (arith, z.held.size_bound), omega (arith, z.held.scope_bound), omega (arith, z.held.stored.few), omega (arith, z.held.stored.inside))

pub symbol_in : {x : Text} {m : Arrays} {f : FrameRecord} {s : WalkState} → Stated x m f s → (s.from < length (cond s.in_term x.term m.work)) × (length m.work ≡ longest_state)
symbol_in g = (text_in g.at.stands, g.at.held.stored.work)

-- ---- Terminals.
module _ {x : Text} {m : Arrays} {f : FrameRecord} {s : WalkState} (g : Stated x m f s) (fit : Fitted x m f s) (c : get_or (cond s.in_term x.term m.work) s.from 0 < 0xfe) where
  -- no wagon, so nothing inside was checked
  not_checked : {R : Frame} {W Q : List Waiting} {B : Term} {p : Progress} → StateAt x m f s R W Q B p → s.checked ≡ false
  not_checked z = go s.checked refl
    where
      go : (b : Bool) → s.checked ≡ b → b ≡ false
      go true e =
          let i = z.inner e in
          let j = ap (λ k. get_or (cond k x.term m.work) s.from 0) (z.own_text i.is_own).in_term in
          absurd (omega (arith, i.wagon, j))
      go false e = refl

  agenda_is : {R : Frame} {W Q : List Waiting} {B : Term} {p : Progress} → StateAt x m f s R W Q B p → finish (agenda_of s.checked s.own s.place R W Q B) p ≡ finish (agenda_of false s.own s.place R W Q B) p
  agenda_is {R} {W} {Q} {B} {p} z = ap (λ b. finish (agenda_of b s.own s.place R W Q B) p) (not_checked z)

  -- (i) and (vi)
  module _ (h : get_or (cond s.in_term x.term m.work) s.from 0 ≡ 0) where
    is_tau : {R : Frame} {W Q : List Waiting} {B : Term} {p : Progress} → StateAt x m f s R W Q B p → B ≡ tau
    unfolding lift
    is_tau z = z.seen ∙ ap (lift s.shift s.cut) (text_tau z.stands h)

    says_answer : {R : Frame} {W Q : List Waiting} {B : Term} {p : Progress} (z : StateAt x m f s R W Q B p) (fits : state_fits (state_of s.own R W Q B) ≡ true) {r : Turned} {n : ℕ} (a b : List ℕ) → TauTurn m.list s r
        → Becomes x m f s a b r n (finish (agenda_of false s.own s.place R W Q B) p)
    unfolding turned places
    says_answer {R} {W} {Q} {B} {p} z fits a b (tau_never i) =
        let l = queue_last z.held.copies (λ e. omega arith) in
        becomes_at (never s.own not_own (is_tau z) l.is fits) (becomes_answer (says_never refl))
      where
        not_own : s.own ≡ false
        not_own = go s.own refl
          where
            go : (b : Bool) → s.own ≡ b → b ≡ false
            go true e = absurd (omega (arith, (z.own_text e).tops))
            go false e = refl

        never : (b : Bool) {Q : List Waiting} {B : Term} {w : Waiting} {Q' : List Waiting} → b ≡ false → B ≡ tau → Q ≡ w ∷ Q' → state_fits (state_of b R W Q B) ≡ true
            → finish (agenda_of false b s.place R W Q B) p ≡ stopped (not_reached s.place) (turned 1 p)
        never b {w = w} {Q' = Q'} c d e f = rw (c, d, e) (run_tau_never s.place R W w Q' p (rw (c, d, e) at f))
    says_answer {R} {W} {Q} {B} {p} z fits a b (tau_passes i j) =
        let t : Q ≡ [] = queue_empty z.held.copies (omega (arith, queue_base z.held.copies)) in
        let w : W ≡ [] = queue_empty z.held.waits (omega (arith, queue_base z.held.copies, queue_base z.held.waits)) in
        becomes_at (passes s.own (is_tau z) w t fits) (becomes_answer (says_passed (reached_turned 1 z.reached)))
      where
        passes : (b : Bool) {W Q : List Waiting} {B : Term} → B ≡ tau → W ≡ [] → Q ≡ [] → state_fits (state_of b R W Q B) ≡ true → finish (agenda_of false b s.place R W Q B) p ≡ passed (turned 1 p)
        passes b c d e f = rw (c, d, e) (run_tau_passes b s.place R p (rw (c, d, e) at f))
    says_answer {R} {W} {Q} {B} {p} z fits a b (tau_waits i j) =
        let t : Q ≡ [] = queue_empty z.held.copies (omega (arith, queue_base z.held.copies)) in
        let l = queue_last z.held.waits (λ e. j (omega (arith, queue_base z.held.copies))) in
        let k : s.top ≡ s.middle = omega (arith, queue_base z.held.copies) in
        let v : (slot_of m.list (s.top - 1)).place ≡ l.last.place = ap (λ i. (slot_of m.list (i - 1)).place) k ∙ sym l.slot.is_place in
        let n : s.top - s.bottom ≡ length (places W) = omega (arith, queue_count z.held.waits) in
        becomes_at (waits s.own (is_tau z) l.is t fits) (becomes_answer (says_stopped (halts_waiting refl v (n ∙ ap (λ k. length (places k)) l.is) refl refl) (sym z.reached.counted)))
      where
        waits : (b : Bool) {W Q : List Waiting} {B : Term} {w : Waiting} {W' : List Waiting} → B ≡ tau → W ≡ w ∷ W' → Q ≡ [] → state_fits (state_of b R W Q B) ≡ true
            → finish (agenda_of false b s.place R W Q B) p ≡ stopped (something_waits w.place (length (places (w ∷ W')))) (turned 1 p)
        waits b {w = w} {W' = W'} c d e f = rw (c, d, e) (run_tau_waits b s.place R w W' p (rw (c, d, e) at f))

    pub turns_tau : {r : Turned} (a b : List ℕ) → TauTurn m.list s r → Onward f s r → Turns x m m f s a b r
    turns_tau a b d n = record { keeps = keeps_all g; onward = n; all = λ R W Q B p z. comes_now (becomes_at (agenda_is z) (says_answer z (fit R W Q B p z) a b d)) }

  -- A variable.
  module _ (h : get_or (cond s.in_term x.term m.work) s.from 0 ≡ 0 → ⊥) where
    text_is : {R : Frame} {W Q : List Waiting} {B : Term} {p : Progress} (z : StateAt x m f s R W Q B p) → z.text ≡ var (get_or (cond s.in_term x.term m.work) s.from 0)
    text_is z = (text_var z.stands h c).is

    -- (vii)
    met_state : {R : Frame} {W Q : List Waiting} {B : Term} {p : Progress} → StateAt x m f s R W Q B p → StateAt x m f (met_of s) R W Q B (turned 1 p)
    met_state z = record {
      held = z.held;
      text = z.text;
      end = z.end;
      stands = z.stands;
      inside = z.inside;
      origin = z.origin;
      seen = z.seen;
      shift_bound = z.shift_bound;
      cut_bound = z.cut_bound;
      closed = z.closed;
      own_text = λ i. no_confusion i;
      met = λ i j. (get_or (cond s.in_term x.term m.work) s.from 0, text_is z);
      inner = λ i. no_confusion i;
      reached = reached_turned 1 z.reached;
    }

    var_is : {R : Frame} {W Q : List Waiting} {B : Term} {p : Progress} (z : StateAt x m f s R W Q B p) {k : ℕ} → k ≡ lift_index s.shift s.cut (get_or (cond s.in_term x.term m.work) s.from 0) → B ≡ var k
    unfolding lift
    var_is z e = z.seen ∙ ap (lift s.shift s.cut) (text_is z) ∙ ap var (sym e)

    pub turns_met : s.own ≡ true → (a b : List ℕ) → Turns x m m f s a b (State (met_of s) None)
    turns_met i a b = record {
      keeps = keeps_all g;
      onward = record { end_grows = omega arith; len_grows = omega arith; same_bottom = refl; further = omega arith };
      all = λ R W Q B p z. comes_now (becomes_at (agenda_is z) (becomes_state (met_state z) refl (fewer s.own R W i (z.own_text i).no_copies (var_is z refl)) (run s.own R W p i (z.own_text i).no_copies (var_is z refl) (fit R W Q B p z))));
    }
      where
        fewer : (b : Bool) (R : Frame) (W : List Waiting) {Q : List Waiting} {B : Term} {k : ℕ} → b ≡ true → Q ≡ [] → B ≡ var k → suc (states_of (state_of false R W Q B)) ≤ states_of (state_of b R W Q B)
        fewer b R W {k = k} c d e = rw (c, d, e) (fewer_met R W k)

        run : (b : Bool) (R : Frame) (W : List Waiting) {Q : List Waiting} {B : Term} {k : ℕ} (p : Progress) → b ≡ true → Q ≡ [] → B ≡ var k → state_fits (state_of b R W Q B) ≡ true
            → finish (agenda_of false b s.place R W Q B) p ≡ finish (agenda_of false false s.place R W Q B) (turned 1 p)
        run b R W {k = k} p c d e f = rw (c, d, e) (run_met s.place R W k p (rw (c, d, e) at f))

    -- (viii)
    module _ {k : ℕ} (e : k ≡ lift_index s.shift s.cut (get_or (cond s.in_term x.term m.work) s.from 0)) where
      index_in : {R : Frame} {W Q : List Waiting} {B : Term} {p : Progress} → StateAt x m f s R W Q B p → (1 ≤ k) × (k ≤ f.len)
      index_in z = go (rw (var_is z e) at z.closed)
        where
          go : Closed f.len (var k) → (1 ≤ k) × (k ≤ f.len)
          go (closed_var i j) = (i, j)

      pub index_bounds : (1 ≤ k) × (k ≤ f.len) × (f.len ≤ most_abstractors)
      index_bounds = let i = index_in g.at in (i.0, i.1, g.at.held.stored.few)

      typed_state : {R : Frame} {W Q : List Waiting} {B : Term} {p : Progress} (z : StateAt x m f s R W Q B p) (t : Meant x.term m f.end f.len k R)
          → StateAt x m f (typed_of s k (get_or m.domains (f.len - k) 0) (get_or m.origins (f.len - k) 0)) R W Q (lift k 0 (domain t.entry)) (turned 1 p)
      typed_state z t = record {
        held = z.held;
        text = domain t.entry;
        end = t.end;
        stands = t.stands;
        inside = λ i. t.inside;
        origin = t.origin;
        seen = refl;
        shift_bound = omega (arith, (index_in z).1, z.held.stored.few);
        cut_bound = omega arith;
        closed = rw (stored_depth z.held.stored) at (domain_at k (domains (sound_closed z.held.sound)) t.means);
        own_text = λ i. no_confusion i;
        met = λ i j. no_confusion j;
        inner = λ i. no_confusion i;
        reached = reached_turned 1 z.reached;
      }

      pub turns_typed : s.own ≡ false → (a b : List ℕ) → Turns x m m f s a b (State (typed_of s k (get_or m.domains (f.len - k) 0) (get_or m.origins (f.len - k) 0)) None)
      turns_typed i a b = record {
        keeps = keeps_all g;
        onward = record { end_grows = omega arith; len_grows = omega arith; same_bottom = refl; further = omega arith };
        all = λ R W Q B p z.
            let t = meant k z.held.notes (index_in z).0 (index_in z).1 in
            comes_now (becomes_at (agenda_is z) (becomes_state (typed_state z t) refl (fewer s.own R W Q i t.means (var_is z e)) (run s.own R W Q p i t.means (var_is z e) (fit R W Q B p z))));
      }
        where
          fewer : (b : Bool) (R : Frame) (W Q : List Waiting) {B : Term} {k : ℕ} {y : Entry} → b ≡ false → entry_at R k ≡ some y → B ≡ var k → suc (states_of (state_of false R W Q (lift k 0 (domain y)))) ≤ states_of (state_of b R W Q B)
          fewer b R W Q {k = k} {y = y} c d e = rw (c, e) (fewer_typed R W Q k y d)

          run : (b : Bool) (R : Frame) (W Q : List Waiting) {B : Term} {k : ℕ} {y : Entry} (p : Progress) → b ≡ false → entry_at R k ≡ some y → B ≡ var k → state_fits (state_of b R W Q B) ≡ true
              → finish (agenda_of false b s.place R W Q B) p ≡ finish (agenda_of false false s.place R W Q (lift k 0 (domain y))) (turned 1 p)
          run b R W Q {k = k} {y = y} p c d e f = rw (c, e) (run_typed s.place R W Q k y p d (rw (c, e) at f))

-- ---- Wagons.
module _ {x : Text} {m : Arrays} {f : FrameRecord} {s : WalkState} (g : Stated x m f s) (fit : Fitted x m f s) (c : 0xfe ≤ get_or (cond s.in_term x.term m.work) s.from 0) where
  -- what stands inside is due
  pub turns_inner : s.own ≡ true → s.checked ≡ false → (a b : List ℕ) → Turns x m m f s a b Inner
  turns_inner i j a b = record {
    keeps = keeps_all g;
    onward = record { end_grows = omega arith; len_grows = omega arith; same_bottom = refl; further = omega arith };
    all = λ R W Q B p z. comes_now (becomes_inner z i j (omega (arith, c, ap (λ k. get_or (cond k x.term m.work) s.from 0) (z.own_text i).in_term)) (fit R W Q B p z) (omega arith) (ap (λ b. finish (agenda_of b s.own s.place R W Q B) p) j));
  }

  -- the run of a state is that of what is left of it
  wagon_run : (s.own ≡ true → s.checked ≡ true) → {R : Frame} {W Q : List Waiting} {B : Term} {p : Progress} → StateAt x m f s R W Q B p
      → (q : Progress) × StateAt x m f s R W Q B q × (finish (agenda_of s.checked s.own s.place R W Q B) p ≡ finish (rest_of s.own s.place R W Q B) q)
  unfolding agenda_of lift
  wagon_run due {R} {W} {Q} {B} {p} z = by_check s.checked refl s.own refl
    where
      at_app : {B K X : Term} → B ≡ app K X → state_fits (state_of false R W Q B) ≡ true → finish (agenda_of false false s.place R W Q B) p ≡ finish (rest_of false s.place R W Q B) (turned 1 p)
      at_app {K = K} {X = X} e fits = rw e (run_copied_app s.place R W Q K X p (rw e at fits))

      at_abs : {B U X : Term} → B ≡ abs U X → state_fits (state_of false R W Q B) ≡ true → finish (agenda_of false false s.place R W Q B) p ≡ finish (rest_of false s.place R W Q B) (turned 1 p)
      at_abs {U = U} {X = X} e fits = rw e (run_copied_abs s.place R W Q U X p (rw e at fits))

      by_wagon : Cmp (get_or (cond s.in_term x.term m.work) s.from 0) 0xfe → state_fits (state_of false R W Q B) ≡ true → finish (agenda_of false false s.place R W Q B) p ≡ finish (rest_of false s.place R W Q B) (turned 1 p)
      by_wagon (lo a) fits = let t = text_app z.stands (omega arith) in at_app (z.seen ∙ ap (lift s.shift s.cut) t.is) fits
      by_wagon (hi a) fits = let t = text_abs z.stands c (λ e. omega arith) in at_abs (z.seen ∙ ap (lift s.shift s.cut) t.is) fits

      by_check : (b : Bool) → s.checked ≡ b → (e : Bool) → s.own ≡ e → (q : Progress) × StateAt x m f s R W Q B q × (finish (agenda_of s.checked s.own s.place R W Q B) p ≡ finish (rest_of s.own s.place R W Q B) q)
      by_check true h e i = (p, z, ap (λ b. finish (agenda_of b s.own s.place R W Q B) p) h)
      by_check false h true i = no_confusion (sym h ∙ due i)
      by_check false h false i = (turned 1 p, later z, both h i (by_wagon (cmp _ 0xfe) (ap (λ b. state_fits (state_of b R W Q B)) (sym i) ∙ fit R W Q B p z)))
        where
          both : {b e : Bool} → b ≡ false → e ≡ false → finish (agenda_of false false s.place R W Q B) p ≡ finish (rest_of false s.place R W Q B) (turned 1 p) → finish (agenda_of b e s.place R W Q B) p ≡ finish (rest_of e s.place R W Q B) (turned 1 p)
          both i j r = rw (i, j) r

  pub turns_wagon : {m' : Arrays} {a b : List ℕ} {r : Turned} → (s.own ≡ true → s.checked ≡ true) → Wagons x m m' f s a b r → Turns x m m' f s a b r
  turns_wagon due w = record {
    keeps = w.keeps;
    onward = w.onward;
    all = λ R W Q B p z. let q = wagon_run due z in comes_at q.2 (w.all R W Q B q.0 q.1);
  }

  -- ⟨K⟩ waits
  module _ {sizes scopes : List ℕ} (k : Known x.term sizes scopes) {n y : ℕ} (i : n ≡ get_or sizes (s.origin + 1) 0) (j : y ≡ get_or scopes (s.origin + 1) 0) (h : get_or (cond s.in_term x.term m.work) s.from 0 ≡ 0xfe) where
    applied_size : {R : Frame} {W Q : List Waiting} {B : Term} {p : Progress} (z : StateAt x m f s R W Q B p) → n ≡ size (two_app z h).one
    applied_size z = i ∙ origin_size k.sized (origins_app z h).0

    applied_scope : {R : Frame} {W Q : List Waiting} {B : Term} {p : Progress} (z : StateAt x m f s R W Q B p) → y ≡ scope (two_app z h).one
    applied_scope z = j ∙ origin_scope k.sized (origins_app z h).0

    pub ready_to_wait : WaitReady x.term m.work m.list f.len s n
    ready_to_wait = let z = g.at in wait_ready z h (room z (fit _ _ _ _ _ z)) (applied_size z)

    waited : {w q : List ℕ} {r : Turned} (a b : List ℕ) → WaitTurn x.term m.work w m.list q f.len s n y r → Wagons x m (aside_arrays m w q) f s a b r
    waited a b (wait_full i e l) = record {
      keeps = all_same i e (keeps_all g);
      onward = record { end_grows = omega arith; len_grows = omega arith; same_bottom = refl; further = omega arith };
      all = λ R W Q B p z. comes_now (becomes_answer (says_full (omega (arith, ap length e, full_short z h (room z (fit R W Q B p z)) l))));
    }
      where
        all_same : {w q : List ℕ} → w ≡ m.work → q ≡ m.list → Keeps m m f.len f.end s.bottom → Keeps m (aside_arrays m w q) f.len f.end s.bottom
        all_same i e t = rw (i, e) t
    waited {w} {q} a b (wait_goes l o d) = record {
      keeps =
          let z = g.at in
          let t = aside_same z h (room z (fit _ _ _ _ _ z)) (applied_size z) (applied_scope z) o d l in
          record {
            work_long = t.0;
            work_below = t.1;
            work_above = agree_part t.2 (omega (arith, descends m.list z.held.kept s.middle s.bottom (omega arith) (queue_base z.held.waits) (omega arith))) (omega arith);
            reach_grows = omega arith;
            list_long = d.same_length;
            list_below = agree_part d.below (omega arith) (omega (arith, queue_base z.held.waits, queue_base z.held.copies));
            domains_long = refl;
            domains_below = agree_refl;
            origins_long = refl;
            origins_below = agree_refl;
          };
      onward = record { end_grows = omega arith; len_grows = omega arith; same_bottom = refl; further = place_later s.own refl };
      all = λ R W Q B p z. comes_now (app_becomes z h (room z (fit R W Q B p z)) (applied_size z) (applied_scope z) o d l a b);
    }
      where
        place_later : (b : Bool) → s.own ≡ b → s.place ≤ cond b (s.from + 1 + n) s.place
        place_later true e = omega (arith, (g.at.own_text e).at_place)
        place_later false e = omega arith

    pub turns_wait : {w q : List ℕ} {r : Turned} (a b : List ℕ) → (s.own ≡ true → s.checked ≡ true) → WaitTurn x.term m.work w m.list q f.len s n y r → Turns x m (aside_arrays m w q) f s a b r
    turns_wait a b due w = turns_wagon due (waited a b w)

  -- [U]
  pub abstractor_at : {sizes scopes : List ℕ} → Known x.term sizes scopes → {n : ℕ} → n ≡ get_or sizes (s.origin + 1) 0 → (get_or (cond s.in_term x.term m.work) s.from 0 ≡ 0xfe → ⊥) → (s.own ≡ true → s.checked ≡ true) → AbstractorAt x m f s n
  abstractor_at k i other due = record { wagon = record { stated = g; fitted = fit; due = due }; high = c; no_app = other; domain_size = λ t o. i ∙ origin_size k.sized o }

  -- a term stands inside
  pub inside_origin : {sizes scopes : List ℕ} → Known x.term sizes scopes → (s.origin + 1 < length sizes) × (s.origin + 1 < length scopes)
  inside_origin k = let z = g.at in let e = body_size z in (omega (arith, wagon_size z, origin_inside z.origin, k.sizes_long), omega (arith, wagon_size z, origin_inside z.origin, k.scopes_long))
    where
      wagon_size : {R : Frame} {W Q : List Waiting} {B : Term} {p : Progress} (z : StateAt x m f s R W Q B p) → 2 ≤ size z.text
      wagon_size z = go (cmp (get_or (cond s.in_term x.term m.work) s.from 0) 0xfe)
        where
          go : Cmp (get_or (cond s.in_term x.term m.work) s.from 0) 0xfe → 2 ≤ size z.text
          go (lo a) = let t = text_app z.stands (omega arith) in omega (arith, z.stands.place, stands_start t.first, stands_start t.second)
          go (hi a) = let t = text_abs z.stands c (λ e. omega arith) in omega (arith, z.stands.place, stands_start t.first, stands_start t.second)

pub sizes_known : {t sizes scopes : List ℕ} → Known t sizes scopes → SizesKnown t sizes
sizes_known k = record { sizes_are = λ o X h. origin_size k.sized h; long = k.sizes_long }

pub due_is : {s : WalkState} (b : Bool) → s.own ≡ b → s.checked ≡ false → DueAs s b
due_is true e c = due_first e c
due_is false e c = not_due (λ i. no_confusion (sym e ∙ i))

pub test_by : {sizes scopes : List ℕ} {len end : ℕ} {s : WalkState} {ok : Bool} {n y : ℕ} → s.checked ≡ false → ok ≡ within (end + (s.size + n)) (len + max s.scope y) → n ≡ get_or sizes s.origin 0 → y ≡ get_or scopes s.origin 0
    → TestAs sizes scopes len end s ok
test_by {ok = ok} c e i j = test_is {ok = ok} c (rw (← i, ← j) e)

pub tau_onward : {q : List ℕ} {f : FrameRecord} {s : WalkState} {r : Turned} → TauTurn q s r → Onward f s r
tau_onward (tau_never i) = record { end_grows = omega arith; len_grows = omega arith; same_bottom = refl; further = omega arith }
tau_onward (tau_passes i j) = record { end_grows = omega arith; len_grows = omega arith; same_bottom = refl; further = omega arith }
tau_onward (tau_waits i j) = record { end_grows = omega arith; len_grows = omega arith; same_bottom = refl; further = omega arith }

pub tau_ready : {x : Text} {m : Arrays} {f : FrameRecord} {s : WalkState} → Stated x m f s → (s.bottom ≤ s.top) × (6 * s.top ≤ length m.list)
tau_ready g = (omega (arith, queue_base g.at.held.waits, queue_base g.at.held.copies), g.at.held.listed)

-- in the term's own text Y is empty
pub own_tops : {x : Text} {m : Arrays} {f : FrameRecord} {s : WalkState} → Stated x m f s → s.own ≡ true → s.middle ≡ s.top
own_tops g o = (g.at.own_text o).tops

pub tops_in_order : {x : Text} {m : Arrays} {f : FrameRecord} {s : WalkState} → Stated x m f s → s.middle ≤ s.top
tops_in_order g = queue_base g.at.held.copies

pub origin_small : {x : Text} {m : Arrays} {f : FrameRecord} {s : WalkState} → Stated x m f s → s.origin < longest_term
origin_small g = omega (arith, origin_bound g.at, positive g.body)
