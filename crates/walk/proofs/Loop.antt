-- The loop of turns, and what stands inside a wagon.
-- Assumes nothing.
use Prim.Native.Nat.{ℕ, suc, ◌+◌, ◌≤◌, ◌<◌}
use mathlib.Core.Path.{◌≡◌, refl, ap, sym, ◌∙◌}
use mathlib.Core.Bool.{Bool, true, false, cond}
use mathlib.Core.List.{List, []}
use native.Mathlib.Omega.{arith}
use native.Mathlib.Numerals.{add-one}
use lib.ListN.{length, get_or}
use Rattle.std.specs.Prelude.{Option, Result, Ok, Err}
use Rattle.calculus.specs.Terms.{Term, app, abs, lift, Closed, closed_app, closed_abs}
use Rattle.calculus.specs.Frames.{Frame}
use Rattle.calculus.specs.Walks.{states_of}
use Rattle.calculus.proofs.Lift.{Cmp, lo, hi, cmp, lift_zero}
use Rattle.code.specs.Limits.{longest_term, most_abstractors}
use Rattle.code.specs.Claims.{Stands}
use Rattle.code.proofs.Parts.{stands_start, stands_end}
use Rattle.frames.specs.Stored.{pushed}
use Rattle.frames.specs.declared.FrameRecord.{FrameRecord}
use Rattle.frames.proofs.Entries.{agree_part, agree_trans}
use Rattle.frames.proofs.Laws.{stored_agree}
use Rattle.compare.specs.Answers.{compared_says}
use Rattle.compare.specs.declared.Ground.{Ground as Halt}
use Rattle.compare.specs.Compares.{Comparing, Compares}
use Rattle.texts.proofs.Origins.{origin_own}
use Rattle.verdict.specs.Bounds.{state_fits, waiting_size, waiting_scope}
use Rattle.verdict.specs.Verdict.{Progress, Run, and_then, turned, finish}
use Rattle.waiting.specs.Waiting.{Waiting, terms_of, low_of, queue_none}
use Rattle.waiting.proofs.Texts.{text_app, text_abs}
use Rattle.waiting.proofs.Queues.{queue_base, queue_keep, low_same, descends, kept_through}
use Rattle.walk.specs.State.{Text, Arrays, Reached, state_of, rest_of, agenda_of, OwnText, StateAt, Stated}
use Rattle.walk.specs.Clauses.{stopped_by, completed_of, inner_of, checked_of, with_entry, Says, says_passed, says_stopped, says_never, says_full, Becomes, becomes_answer, becomes_state, becomes_inner, Keeps, Onward, Comes, comes_now, comes_compared, settled_of, Turns, Settles, InnerAt, Checks}
use Rattle.walk.specs.declared.WalkState.{WalkState}
use Rattle.walk.specs.declared.Walked.{Walked as Passed}
use Rattle.walk.specs.declared.Stop.{Stop}
use Rattle.walk.specs.declared.Turned.{Turned}
use Rattle.walk.specs.declared.Turned.TheVariants.{Answer, State, Inner, Compare}
use Rattle.walk.proofs.Rules.{run_inner_app, run_inner_abs}
use Rattle.walk.proofs.Falls.{degree_and_size, falls_on}
use Rattle.walk.proofs.Measures.{falling, falling_is}
use Rattle.walk.proofs.States.{no_confusion, notes_keep, reached_turned, own_low}
use Rattle.walk.proofs.Waits.{no_queue}
use Rattle.walk.proofs.Enter.{reached_inside}
use Rattle.walk.proofs.Turning.{keeps_all}

app_inside : {d : ℕ} {K X : Term} → Closed d (app K X) → Closed d K
app_inside (closed_app a b) = a

abs_inside : {d : ℕ} {U X : Term} → Closed d (abs U X) → Closed d U
abs_inside (closed_abs a b) = a

-- ---- What stands inside the first wagon of the term's own text.
record Inside (x : Text) (m : Arrays) (f : FrameRecord) (s : WalkState) (R : Frame) (W Q : List Waiting) (B : Term) (p : Progress) : Type 0 where
  inner : Term
  at : StateAt x m f (inner_of s) R [] [] inner (turned 1 p)
  run : finish (agenda_of false s.own s.place R W Q B) p ≡ and_then (finish (agenda_of false true (s.place + 1) R [] [] inner) (turned 1 p)) (finish (rest_of s.own s.place R W Q B))

module _ {x : Text} {m : Arrays} {f : FrameRecord} {s : WalkState} {R : Frame} {W Q : List Waiting} {B : Term} {p : Progress} (z : StateAt x m f s R W Q B p) (i : s.own ≡ true) (h : 0xfe ≤ get_or x.term s.from 0) where
  own : OwnText m f s Q
  own = z.own_text i

  stands_own : Stands x.term s.place z.end z.text
  unfolding own
  stands_own = rw (own.in_term, own.at_place) at z.stands

  is_text : B ≡ z.text
  unfolding own
  is_text = z.seen ∙ ap (λ n. lift n s.cut z.text) own.unlifted ∙ lift_zero s.cut z.text

  inner_at : {X : Term} {e : ℕ} → Stands x.term (s.place + 1) e X → Closed f.len X → StateAt x m f (inner_of s) R [] [] X (turned 1 p)
  unfolding waiting_size waiting_scope terms_of
  inner_at {X} {e} d c = record {
    held = record {
      term_short = z.held.term_short;
      stored = z.held.stored;
      sound = z.held.sound;
      notes = z.held.notes;
      domains_long = z.held.domains_long;
      origins_long = z.held.origins_long;
      waits = queue_none refl;
      kept = λ j g h. absurd (omega arith);
      copies = queue_none refl;
      listed = z.held.listed;
      few_waiting = omega (arith, z.held.few_waiting, own.tops);
      place_bound = omega (arith, stands_start d, stands_end d);
      size_is = refl;
      scope_is = refl;
      size_bound = omega arith;
      scope_bound = omega arith;
    };
    text = X;
    end = e;
    stands = d;
    inside = λ j. no_confusion (sym j);
    origin = origin_own d;
    seen = sym (lift_zero 0 X);
    shift_bound = omega arith;
    cut_bound = omega arith;
    closed = c;
    own_text = λ j. record { in_term = refl; at_place = refl; itself = refl; unlifted = refl; no_copies = refl; tops = refl; low = own_low z i; packed = omega (arith, own.packed) };
    met = λ j. no_confusion (sym j);
    inner = λ j. no_confusion j;
    reached = reached_turned 1 z.reached;
  }

  inside : state_fits (state_of s.own R W Q B) ≡ true → Inside x m f s R W Q B p
  inside fits = go (cmp (get_or x.term s.place 0) 0xfe)
    where
      high : 0xfe ≤ get_or x.term s.place 0
      high = rw own.at_place at h

      app_run : (b : Bool) {Q : List Waiting} {B K X : Term} → b ≡ true → Q ≡ [] → B ≡ app K X → state_fits (state_of b R W Q B) ≡ true
          → finish (agenda_of false b s.place R W Q B) p ≡ and_then (finish (agenda_of false true (s.place + 1) R [] [] K) (turned 1 p)) (finish (rest_of b s.place R W Q B))
      app_run b {K = K} {X = X} c d e g = rw (c, d, e, add-one s.place) (run_inner_app s.place R W K X p (rw (c, d, e) at g))

      abs_run : (b : Bool) {Q : List Waiting} {B K X : Term} → b ≡ true → Q ≡ [] → B ≡ abs K X → state_fits (state_of b R W Q B) ≡ true
          → finish (agenda_of false b s.place R W Q B) p ≡ and_then (finish (agenda_of false true (s.place + 1) R [] [] K) (turned 1 p)) (finish (rest_of b s.place R W Q B))
      abs_run b {K = K} {X = X} c d e g = rw (c, d, e, add-one s.place) (run_inner_abs s.place R W K X p (rw (c, d, e) at g))

      go : Cmp (get_or x.term s.place 0) 0xfe → Inside x m f s R W Q B p
      go (lo a) =
          let t = text_app stands_own (omega (arith, high)) in
          let e = is_text ∙ t.is in
          record { inner = t.one; at = inner_at t.first (app_inside (rw e at z.closed)); run = app_run s.own i own.no_copies e fits }
      go (hi a) =
          let t = text_abs stands_own high (λ o. omega arith) in
          let e = is_text ∙ t.is in
          record { inner = t.one; at = inner_at t.first (abs_inside (rw e at z.closed)); run = abs_run s.own i own.no_copies e fits }

  -- the same state once that has been checked
  checked_at : state_fits (state_of s.own R W Q B) ≡ true → {m' : Arrays} {next comparisons : ℕ} {q : Progress} → Keeps m m' f.len f.end s.top → Reached x.file next comparisons q
      → StateAt x m' f (checked_of s next comparisons) R W Q B q
  checked_at fits {m'} k r = record {
    held = record {
      term_short = z.held.term_short;
      stored = stored_agree z.held.stored k.work_below k.work_long;
      sound = z.held.sound;
      notes = notes_keep k.work_below (omega (arith, k.work_long, z.held.stored.inside)) (omega arith) k.domains_below k.origins_below z.held.notes;
      domains_long = k.domains_long ∙ z.held.domains_long;
      origins_long = k.origins_long ∙ z.held.origins_long;
      waits = queue_keep k.list_below (queue_base z.held.copies) z.held.waits;
      kept = kept_through m.list z.held.kept (agree_part k.list_below (omega arith) (omega (arith, own.tops))) (agree_part k.work_above (omega (arith, ap (low_of m.list) own.tops)) (omega arith)) z.held.stored.work k.work_long k.reach_grows;
      copies = no_queue own.no_copies (sym own.tops);
      listed = omega (arith, k.list_long, z.held.listed);
      few_waiting = z.held.few_waiting;
      place_bound = z.held.place_bound;
      size_is = z.held.size_is;
      scope_is = z.held.scope_is;
      size_bound = z.held.size_bound;
      scope_bound = z.held.scope_bound;
    };
    text = z.text;
    end = z.end;
    stands = same_source s.in_term x.term m.work m'.work own.in_term z.stands;
    inside = λ j. no_confusion (sym j ∙ own.in_term);
    origin = z.origin;
    seen = z.seen;
    shift_bound = z.shift_bound;
    cut_bound = z.cut_bound;
    closed = z.closed;
    own_text = λ j. record {
      in_term = own.in_term;
      at_place = own.at_place;
      itself = own.itself;
      unlifted = own.unlifted;
      no_copies = own.no_copies;
      tops = own.tops;
      low = omega (arith, own.low, low_same s.bottom k.list_below (omega (arith, queue_base z.held.waits, own.tops)));
      packed = omega (arith, own.packed, low_same s.top k.list_below (omega arith));
    };
    met = λ j. no_confusion (sym j ∙ i);
    inner = λ j. record { is_own = i; wagon = h; fitted = fits };
    reached = r;
  }
    where
      same_source : (b : Bool) (t w w' : List ℕ) {p e : ℕ} {X : Term} → b ≡ true → Stands (cond b t w) p e X → Stands (cond b t w') p e X
      same_source b t w w' e d = rw e (rw e at d)

-- ---- The loop.
-- the state that the run y goes on from
pub record Now (x : Text) (m : Arrays) (f : FrameRecord) (s : WalkState) (y : Run) : Type 0 where
  pub frame : Frame
  pub ww : List Waiting
  pub qq : List Waiting
  pub body : Term
  pub progress : Progress
  pub at : StateAt x m f s frame ww qq body progress
  pub same : y ≡ finish (agenda_of s.checked s.own s.place frame ww qq body) progress

pub record Going (x : Text) (m₀ : Arrays) (f₀ : FrameRecord) (s₀ : WalkState) (m : Arrays) (f : FrameRecord) (s : WalkState) : Type 0 where
  pub start : Stated x m₀ f₀ s₀
  pub keeps : Keeps m₀ m f₀.len f₀.end s₀.bottom
  pub end_grown : f₀.end ≤ f.end
  pub len_grown : f₀.len ≤ f.len
  pub same_bottom : s.bottom ≡ s₀.bottom
  pub further : s₀.place ≤ s.place
  pub all : (R : Frame) (W Q : List Waiting) (B : Term) (p : Progress) → StateAt x m₀ f₀ s₀ R W Q B p → Now x m f s (finish (agenda_of s₀.checked s₀.own s₀.place R W Q B) p)

pub going_start : {x : Text} {m : Arrays} {f : FrameRecord} {s : WalkState} → Stated x m f s → Going x m f s m f s
going_start g = record {
  start = g;
  keeps = keeps_all g;
  end_grown = omega arith;
  len_grown = omega arith;
  same_bottom = refl;
  further = omega arith;
  all = λ R W Q B p z. record { frame = R; ww = W; qq = Q; body = B; progress = p; at = z; same = refl };
}

says_at : {file : List ℕ} {long : ℕ} {a b : List ℕ} {r : Result Passed Stop} {y z : Run} → y ≡ z → Says file long a b r z → Says file long a b r y
says_at e h = rw e h

then_not : {file : List ℕ} {long : ℕ} {a b : List ℕ} {r : Stop} {y : Run} (h : Progress → Run) → Says file long a b (Err r) y → Says file long a b (Err r) (and_then y h)
unfolding and_then
then_not h (says_stopped a b) = says_stopped a b
then_not h (says_never a) = says_never a
then_not h (says_full a) = says_full a

-- what is kept by one after the other
keeps_both : {m m' m'' : Arrays} {len len' end end' bottom bottom' : ℕ} → len ≤ len' → end ≤ end' → bottom ≤ bottom' → low_of m'.list bottom' ≤ low_of m'.list bottom → Keeps m m' len end bottom → Keeps m' m'' len' end' bottom' → Keeps m m'' len end bottom
keeps_both {m} {m'} {bottom = bottom} i j k l a b = record {
  work_long = b.work_long;
  work_below = agree_trans a.work_below (agree_part b.work_below (omega arith) j);
  work_above = agree_trans (agree_part a.work_above (omega (arith, b.reach_grows)) (omega arith)) (agree_part b.work_above (omega (arith, low_same bottom a.list_below (omega arith))) (omega arith));
  reach_grows = omega (arith, a.reach_grows, b.reach_grows);
  list_long = b.list_long ∙ a.list_long;
  list_below = agree_trans a.list_below (agree_part b.list_below (omega arith) (omega arith));
  domains_long = b.domains_long ∙ a.domains_long;
  domains_below = agree_trans a.domains_below (agree_part b.domains_below (omega arith) i);
  origins_long = b.origins_long ∙ a.origins_long;
  origins_below = agree_trans a.origins_below (agree_part b.origins_below (omega arith) i);
}

says_long : {file : List ℕ} {long long' : ℕ} {a b : List ℕ} {r : Result Passed Stop} {y : Run} → long' ≡ long → Says file long a b r y → Says file long' a b r y
says_long e h = rw e h

module _ {x : Text} {m₀ : Arrays} {f₀ : FrameRecord} {s₀ : WalkState} {m : Arrays} {f : FrameRecord} {s : WalkState} (g : Going x m₀ f₀ s₀ m f s) where
  first : Now x m f s (finish (agenda_of s₀.checked s₀.own s₀.place g.start.frame g.start.ww g.start.qq g.start.body) g.start.progress)
  first = g.all g.start.frame g.start.ww g.start.qq g.start.body g.start.progress g.start.at

  pub now_stated : Stated x m f s
  now_stated = record { frame = first.frame; ww = first.ww; qq = first.qq; body = first.body; progress = first.progress; at = first.at }

  module _ {m' : Arrays} {a b : List ℕ} {r : Turned} (t : Settles x m m' f s a b r) where
    kept : Keeps m₀ m' f₀.len f₀.end s₀.bottom
    kept = keeps_both g.len_grown g.end_grown (omega (arith, g.same_bottom)) (omega (arith, ap (low_of m.list) g.same_bottom)) g.keeps t.keeps

    becomes : (R : Frame) (W Q : List Waiting) (B : Term) (p : Progress) → StateAt x m₀ f₀ s₀ R W Q B p → (y : Run) × (n : ℕ) × Becomes x m' f s a b r n y × (finish (agenda_of s₀.checked s₀.own s₀.place R W Q B) p ≡ y)
    becomes R W Q B p z = let n = g.all R W Q B p z in (_, _, t.all n.frame n.ww n.qq n.body n.progress n.at, n.same)

  -- an answer
  pub going_done : {m' : Arrays} {a b : List ℕ} {out : Result Passed Stop} → Settles x m m' f s a b (Answer out) → Checks x m₀ m' f₀ s₀ a b out
  going_done {m'} {a} {b} {out} t = record { keeps = kept t; all = λ R W Q B p z. let n = becomes t R W Q B p z in says_at n.3 (says_long (sym g.keeps.list_long ∙ sym t.keeps.list_long) (go n.2)) }
    where
      go : {n : ℕ} {y : Run} → Becomes x m' f s a b (Answer out) n y → Says x.file (length m'.list) a b out y
      go (becomes_answer i) = i

  -- another state
  module _ {m' : Arrays} {a b : List ℕ} {t : WalkState} {e : Option ℕ} (h : Settles x m m' f s a b (State t e)) where
    onward : {n : ℕ} {y v : Run} → v ≡ y → Becomes x m' f s a b (State t e) n y → Now x m' (with_entry e f) t v
    onward q (becomes_state {R = R} {W = W} {Q = Q} {B = B} {p = p} i k l o) = record {
      frame = R;
      ww = W;
      qq = Q;
      body = B;
      progress = p;
      at = i;
      same = q ∙ o ∙ ap (λ c. finish (agenda_of c t.own t.place R W Q B) p) (sym k);
    }

    pub going_on : Going x m₀ f₀ s₀ m' (with_entry e f) t
    going_on = record {
      start = g.start;
      keeps = kept h;
      end_grown = omega (arith, g.end_grown, h.onward.end_grows);
      len_grown = omega (arith, g.len_grown, h.onward.len_grows);
      same_bottom = h.onward.same_bottom ∙ g.same_bottom;
      further = omega (arith, g.further, h.onward.further);
      all = λ R W Q B p z. let n = becomes h R W Q B p z in onward n.3 n.2;
    }

    pub going_falls : falling x m' (with_entry e f) t < falling x m f s
    going_falls = go (h.all first.frame first.ww first.qq first.body first.progress first.at) (falling_is first.at)
      where
        two : (c : Bool) (n : ℕ) → n + n ≤ cond c (n + n) (suc (n + n))
        two true n = omega arith
        two false n = omega arith

        go : {n : ℕ} {y : Run} → Becomes x m' f s a b (State t e) n y → falling x m f s ≡ cond s.checked (n + n) (suc (n + n)) → falling x m' (with_entry e f) t < falling x m f s
        go {n} (becomes_state {R = R} {W = W} {Q = Q} {B = B} i k l o) q =
            let d = states_of (state_of t.own R W Q B) in
            let u : falling x m' (with_entry e f) t ≡ suc (d + d) = falling_is i ∙ ap (λ c. cond c (d + d) (suc (d + d))) k in
            omega (arith, u, q, two s.checked n, l)

  -- what stands inside is due
  module _ {m' : Arrays} {a b : List ℕ} (t : Settles x m m' f s a b Inner) where
    record Due (R : Frame) (W Q : List Waiting) (B : Term) (p : Progress) (v : Run) : Type 0 where
      at : StateAt x m' f s R W Q B p
      is_own : s.own ≡ true
      fresh : s.checked ≡ false
      high : 0xfe ≤ get_or x.term s.from 0
      fits : state_fits (state_of s.own R W Q B) ≡ true
      same : v ≡ finish (agenda_of false s.own s.place R W Q B) p

    record SomeDue (v : Run) : Type 0 where
      frame : Frame
      ww : List Waiting
      qq : List Waiting
      body : Term
      progress : Progress
      due : Due frame ww qq body progress v

    due_of : {n : ℕ} {y v : Run} → v ≡ y → Becomes x m' f s a b Inner n y → SomeDue v
    due_of q (becomes_inner {R = R} {W = W} {Q = Q} {B = B} {p = p} j k l o u w v) = record { frame = R; ww = W; qq = Q; body = B; progress = p; due = record { at = j; is_own = k; fresh = l; high = o; fits = u; same = q ∙ v } }

    first_due : SomeDue (finish (agenda_of s.checked s.own s.place first.frame first.ww first.qq first.body) first.progress)
    first_due = due_of refl (t.all first.frame first.ww first.qq first.body first.progress first.at)

    pub inner_due : InnerAt x m' f s
    inner_due = let d = first_due in record { stated = record { frame = d.frame; ww = d.ww; qq = d.qq; body = d.body; progress = d.progress; at = d.due.at }; is_own = d.due.is_own; high = d.due.high }

    module _ {m'' : Arrays} {c d : List ℕ} {q : Result Passed Stop} (k : Checks x m' m'' f (inner_of s) c d q) where
      lower : low_of m'.list s.top ≤ low_of m'.list s₀.bottom
      lower =
          let z = first_due.due.at in
          let o = z.own_text first_due.due.is_own in
          omega (arith, descends m'.list z.held.kept s.top s.bottom (omega arith) (omega (arith, queue_base z.held.waits, o.tops)) (omega (arith, o.tops)), ap (low_of m'.list) g.same_bottom)

      kept_inside : Keeps m₀ m'' f₀.len f₀.end s₀.bottom
      kept_inside = keeps_both g.len_grown g.end_grown (omega (arith, g.same_bottom, queue_base first_due.due.at.held.waits, queue_base first_due.due.at.held.copies)) lower (kept t) k.keeps

      inner_says : {v : Run} (u : SomeDue v) → (y : Run) × Says x.file (length m'.list) c d q y × (v ≡ and_then y (finish (rest_of s.own s.place u.frame u.ww u.qq u.body)))
      unfolding agenda_of
      inner_says u =
          let i = inside u.due.at u.due.is_own u.due.high u.due.fits in
          (_, k.all u.frame [] [] i.inner (turned 1 u.progress) i.at, u.due.same ∙ i.run)

      dues : (R : Frame) (W Q : List Waiting) (B : Term) (p : Progress) → StateAt x m₀ f₀ s₀ R W Q B p → SomeDue (finish (agenda_of s₀.checked s₀.own s₀.place R W Q B) p)
      dues R W Q B p z = let n = becomes t R W Q B p z in due_of n.3 n.2

    pub inner_stops : {m'' : Arrays} {c d : List ℕ} {r : Stop} → Checks x m' m'' f (inner_of s) c d (Err r) → Checks x m₀ m'' f₀ s₀ c d (Err r)
    inner_stops k = record { keeps = kept_inside k; all = λ R W Q B p z. let i = inner_says k (dues k R W Q B p z) in says_at i.2 (says_long (sym (kept t).list_long) (then_not _ i.1)) }

    module _ {m'' : Arrays} {c d : List ℕ} {q : Passed} (k : Checks x m' m'' f (inner_of s) c d (Ok q)) where
      resumed : {v : Run} → SomeDue v → Now x m'' f (checked_of s q.next q.comparisons) v
      unfolding and_then agenda_of
      resumed u = let i = inner_says k u in go i.1 i.2
        where
          go : {y v : Run} → Says x.file (length m'.list) c d (Ok q) y → v ≡ and_then y (finish (rest_of s.own s.place u.frame u.ww u.qq u.body)) → Now x m'' f (checked_of s q.next q.comparisons) v
          go (says_passed {q = w} j) l = record { frame = u.frame; ww = u.ww; qq = u.qq; body = u.body; progress = w; at = checked_at u.due.at u.due.is_own u.due.high u.due.fits k.keeps j; same = l }

      pub going_resumed : Going x m₀ f₀ s₀ m'' f (checked_of s q.next q.comparisons)
      going_resumed = record {
        start = g.start;
        keeps = kept_inside k;
        end_grown = g.end_grown;
        len_grown = g.len_grown;
        same_bottom = g.same_bottom;
        further = g.further;
        all = λ R W Q B p z. resumed (dues k R W Q B p z);
      }

      pub resumed_falls : falling x m'' f (checked_of s q.next q.comparisons) < falling x m f s
      unfolding and_then agenda_of
      resumed_falls = go (t.all first.frame first.ww first.qq first.body first.progress first.at) (falling_is first.at)
        where
          smaller : {R : Frame} {W Q : List Waiting} {B : Term} {p : Progress} {y : Run} → Says x.file (length m'.list) c d (Ok q) y → StateAt x m' f s R W Q B p → s.own ≡ true → 0xfe ≤ get_or x.term s.from 0 → state_fits (state_of s.own R W Q B) ≡ true
              → falling x m'' f (checked_of s q.next q.comparisons) ≡ states_of (state_of s.own R W Q B) + states_of (state_of s.own R W Q B)
          smaller (says_passed j) z l h u = falling_is (checked_at z l h u k.keeps j)

          go : {n : ℕ} {y : Run} → Becomes x m' f s a b Inner n y → falling x m f s ≡ cond s.checked (n + n) (suc (n + n)) → falling x m'' f (checked_of s q.next q.comparisons) < falling x m f s
          go {n} (becomes_inner {R = R} {p = p} z l h u v w e) g =
              let t = inside z l u v in
              let s₁ = smaller (k.all R [] [] t.inner (turned 1 p) t.at) z l u v in
              let s₂ : falling x m f s ≡ suc (n + n) = g ∙ ap (λ b. cond b (n + n) (suc (n + n))) h in
              omega (arith, s₁, s₂, w)

-- ---- A turn with its comparison.
module _ {x : Text} {m m' : Arrays} {f : FrameRecord} {s : WalkState} {a b : List ℕ} where
  settles_by : {r : Turned} → ((n : ℕ) (y : Run) → Comes x m' f s a b r n y → Becomes x m' f s a b r n y) → Turns x m m' f s a b r → Settles x m m' f s a b r
  settles_by h t = record { keeps = t.keeps; onward = t.onward; all = λ R W Q B p z. h _ _ (t.all R W Q B p z) }

  pub settles_answer : {out : Result Passed Stop} → Turns x m m' f s a b (Answer out) → Settles x m m' f s a b (Answer out)
  settles_answer {out} = settles_by go
    where
      go : (n : ℕ) (y : Run) → Comes x m' f s a b (Answer out) n y → Becomes x m' f s a b (Answer out) n y
      go n y (comes_now i) = i

  pub settles_state : {t : WalkState} {e : Option ℕ} → Turns x m m' f s a b (State t e) → Settles x m m' f s a b (State t e)
  settles_state {t} {e} = settles_by go
    where
      go : (n : ℕ) (y : Run) → Comes x m' f s a b (State t e) n y → Becomes x m' f s a b (State t e) n y
      go n y (comes_now i) = i

  pub settles_inner : Turns x m m' f s a b Inner → Settles x m m' f s a b Inner
  settles_inner = settles_by go
    where
      go : (n : ℕ) (y : Run) → Comes x m' f s a b Inner n y → Becomes x m' f s a b Inner n y
      go n y (comes_now i) = i

module _ {x : Text} {m m' : Arrays} {f : FrameRecord} {s : WalkState} {a b : List ℕ} {t : WalkState} {place k e : ℕ} (h : Turns x m m' f s a b (Compare t place k e)) where
  pub compare_due : Stated x m f s → Comparing x.file m'.work s.next f k e
  compare_due g = go (h.all g.frame g.ww g.qq g.body g.progress g.at)
    where
      go : {n : ℕ} {y : Run} → Comes x m' f s a b (Compare t place k e) n y → Comparing x.file m'.work s.next f k e
      go (comes_now i) = elim i [ ]
      go (comes_compared i j) = i

  settles_compared : Stated x m f s → (c : Result ℕ Halt) {l u : List ℕ} → Compares x.file m'.work s.next f k e (compared_says c) l u → Settles x m m' f s l u (settled_of s t place e c)
  settles_compared g c {l} {u} q = record {
    keeps = h.keeps;
    onward = on c h.onward;
    all = λ R W Q B p z. go (h.all R W Q B p z);
  }
    where
      go : {n : ℕ} {y : Run} → Comes x m' f s a b (Compare t place k e) n y → Becomes x m' f s l u (settled_of s t place e c) n y
      go (comes_now i) = elim i [ ]
      go (comes_compared i j) = j c l u q

      on : (c : Result ℕ Halt) → Onward f s (Compare t place k e) → Onward f s (settled_of s t place e c)
      on (Ok next) o = record { end_grows = o.end_grows; len_grows = o.len_grows; same_bottom = o.same_bottom; further = o.further }
      on (Err halt) o = record { end_grows = omega arith; len_grows = omega arith; same_bottom = refl; further = omega arith }

-- ---- The frame after a turn.
module _ {x : Text} {m₀ : Arrays} {f₀ : FrameRecord} {s₀ : WalkState} {m : Arrays} {f : FrameRecord} {s : WalkState} (g : Going x m₀ f₀ s₀ m f s) {m' : Arrays} where
  pub on_bounds : {t : WalkState} {e : ℕ} → Going x m₀ f₀ s₀ m' (pushed f e) t → (f.end < 65536) × (f.len < most_abstractors)
  on_bounds n =
      let z = (now_stated n).at in
      let y = (now_stated g).at in
      (omega (arith, y.held.stored.inside), omega (arith, z.held.stored.few))

  module _ {a b : List ℕ} {t : WalkState} {o : Option ℕ} (h : Turns x m m' f s a b (State t o)) where
    pub goes_to : {f' : FrameRecord} → with_entry o f ≡ f' → Going x m₀ f₀ s₀ m' f' t
    goes_to i = rw i at (going_on g (settles_state h))

    pub falls_to : {f' : FrameRecord} → with_entry o f ≡ f' → falling x m' f' t < falling x m f s
    falls_to i = rw i at (going_falls g (settles_state h))

-- what stands inside a wagon, as a state of its own
pub inner_stated : {x : Text} {m : Arrays} {f : FrameRecord} {s : WalkState} → InnerAt x m f s → Stated x m f (inner_of s)
inner_stated {x} {m} {f} {s} g = go (cmp (get_or x.term s.place 0) 0xfe)
  where
    z : StateAt x m f s g.stated.frame g.stated.ww g.stated.qq g.stated.body g.stated.progress
    z = g.stated.at

    high : 0xfe ≤ get_or x.term s.place 0
    high = rw (z.own_text g.is_own).at_place at g.high

    go : Cmp (get_or x.term s.place 0) 0xfe → Stated x m f (inner_of s)
    go (lo a) =
        let t = text_app (stands_own z g.is_own g.high) (omega (arith, high)) in
        record { frame = _; ww = []; qq = []; body = t.one; progress = _; at = inner_at z g.is_own g.high t.first (app_inside (rw (is_text z g.is_own g.high ∙ t.is) at z.closed)) }
    go (hi a) =
        let t = text_abs (stands_own z g.is_own g.high) high (λ o. omega arith) in
        record { frame = _; ww = []; qq = []; body = t.one; progress = _; at = inner_at z g.is_own g.high t.first (abs_inside (rw (is_text z g.is_own g.high ∙ t.is) at z.closed)) }

pub inner_place : {x : Text} {m : Arrays} {f : FrameRecord} {s : WalkState} → InnerAt x m f s → s.place < longest_term
inner_place g = omega (arith, g.stated.at.held.place_bound, g.stated.at.held.term_short)

-- the cycle's number falls
pub inside_falls : {x : Text} {m₀ : Arrays} {f₀ : FrameRecord} {s₀ : WalkState} {m : Arrays} {f : FrameRecord} {s : WalkState} → Going x m₀ f₀ s₀ m f s → degree_and_size x.term (s.place + 1) < degree_and_size x.term s₀.place
inside_falls {x} {s₀ = s₀} {s = s} g = falls_on x.term s₀.place s.place g.further g.start.at.held.place_bound

-- ---- After a comparison.
module _ {x : Text} {m₀ : Arrays} {f₀ : FrameRecord} {s₀ : WalkState} {m : Arrays} {f : FrameRecord} {s : WalkState} (g : Going x m₀ f₀ s₀ m f s) {m' : Arrays} {a b : List ℕ} {t : WalkState} {place k e : ℕ} (h : Turns x m m' f s a b (Compare t place k e))
    {l u : List ℕ} where
  made : (c : Result ℕ Halt) → Compares x.file m'.work s.next f k e (compared_says c) l u → Settles x m m' f s l u (settled_of s t place e c)
  made c q = settles_compared h (now_stated g) c q

  pub compared_stops : {halt : Halt} → Compares x.file m'.work s.next f k e (compared_says (Err halt)) l u → Checks x m₀ m' f₀ s₀ l u (Err (stopped_by halt place s))
  compared_stops {halt} q = going_done g (made (Err halt) q)

  module _ {next : ℕ} (q : Compares x.file m'.work s.next f k e (compared_says (Ok next)) l u) where
    pub compared_goes : Going x m₀ f₀ s₀ m' (pushed f e) (completed_of t next)
    compared_goes = going_on g (made (Ok next) q)

    pub compared_falls : falling x m' (pushed f e) (completed_of t next) < falling x m f s
    compared_falls = going_falls g (made (Ok next) q)

pub compared_few : {x : Text} {m₀ : Arrays} {f₀ : FrameRecord} {s₀ : WalkState} {m : Arrays} {f : FrameRecord} {s : WalkState} {n : ℕ} → Going x m₀ f₀ s₀ m f s → s.comparisons ≡ n + 1 → n < 65536
compared_few g e = let r = (now_stated g).at.reached in omega (arith, r.few, reached_inside r)
