-- An abstractor: the entry that it makes, (iv), (v) and (x) to (xii).
-- Assumes nothing.
use Prim.Native.Nat.{ℕ, zero, suc, ◌+◌, ◌-◌, ◌≤◌, ◌<◌, max}
use mathlib.Core.Path.{◌≡◌, refl, ap, sym, ◌∙◌}
use mathlib.Core.Bool.{Bool, true, false, cond}
use mathlib.Core.Logic.{◌⊎◌, inl, inr, ⊎_elim}
use mathlib.Core.List.{List, [], ◌∷◌}
use native.Mathlib.Omega.{arith}
use native.Mathlib.Numerals.{add-one}
use lib.ListN.{length, get_or, length-set}
use Rattle.std.specs.Prelude.{Some, Result, Ok, Err}
use Rattle.calculus.specs.Terms.{Term, abs, size, lift, Closed, closed_abs}
use Rattle.calculus.specs.Frames.{Entry, single, pair, domain, Frame, ◌▹◌}
use Rattle.calculus.specs.Walks.{states_of}
use Rattle.calculus.proofs.Lift.{lift_zero, size_lift}
use Rattle.code.specs.Limits.{longest_file, longest_state, most_abstractors}
use Rattle.code.specs.Claims.{Stands}
use Rattle.code.specs.Scope.{scope}
use Rattle.code.proofs.Parts.{stands_start, stands_end, stands_unique}
use Rattle.code.proofs.Scope.{scope_lift, closed_coded}
use Rattle.fields.proofs.Groups.{room as room_left}
use Rattle.frames.specs.Stored.{Stored, Agree, EntryBytes, bytes_single, bytes_pair, pushed}
use Rattle.frames.specs.declared.FrameRecord.{FrameRecord}
use Rattle.frames.proofs.Entries.{agree_refl, agree_part, agree_trans, stands_agree, bytes_start}
use Rattle.frames.proofs.Laws.{stored_depth, stored_push, stored_agree}
use Rattle.compare.specs.Answers.{Compared, ground_says, compared_says}
use Rattle.compare.specs.declared.Ground.{Ground as Halt}
use Rattle.compare.specs.Compares.{Comparing, CompareSays, compare_passed, compare_stopped, Compares}
use Rattle.compare.proofs.Grounds.{ground_number, ground_stops}
use Rattle.texts.specs.Texts.{Origin}
use Rattle.texts.proofs.Origins.{origin_abs, origin_lift}
use Rattle.verdict.specs.Bounds.{waiting_size, waiting_scope}
use Rattle.verdict.specs.Verdict.{same_at, Progress, Run, and_then, finish}
use Rattle.waiting.specs.Waiting.{Waiting, terms_of, lift_waiting, Part, slot_of, low_of, Waits, Queue, KeptSlot}
use Rattle.waiting.specs.Writing.{WrittenTerm, PutAsked, Puts}
use Rattle.waiting.specs.declared.Slot.{Slot}
use Rattle.waiting.proofs.Texts.{positive, Two, text_abs}
use Rattle.waiting.proofs.Queues.{size_lifted, scope_lifted, queue_empty, queue_base, Last, queue_last, queue_deeper, queue_agree, queue_before, raw_size, now_part, waits_writable, waits_written, seen, waits_at, kept_through}
use Rattle.walk.specs.State.{Text, Arrays, Sound, sound_single, sound_pair, Reached, state_of, rest_of, agenda_of, OwnText, StateAt}
use Rattle.walk.specs.Clauses.{stopped_by, past_of, settled_of, DepthsKnown, halts_compared, says_stopped, Becomes, becomes_answer, becomes_state}
use Rattle.walk.specs.declared.WalkState.{WalkState}
use Rattle.walk.specs.declared.Turned.{Turned}
use Rattle.walk.specs.declared.Turned.TheVariants.{Answer, State}
use Rattle.walk.proofs.Rules.{rest_alone, rest_waiting, rest_copied}
use Rattle.walk.proofs.Measures.{fewer_abs}
use Rattle.walk.proofs.Waits.{no_queue}
use Rattle.walk.proofs.States.{no_confusion, sound_closed, entry_arrays, notes_push, Room, body_size, body_scope_lem, origin_bound}

-- the next group is inside the file
pub reached_inside : {file : List ℕ} {next count : ℕ} {p : Progress} → Reached file next count p → next ≤ longest_file
reached_inside r = omega (arith, r.file_bound, room_left r.stand)

origin_is : {t : List ℕ} {o : ℕ} {X Y : Term} → X ≡ Y → Origin t o X → Origin t o Y
origin_is e h = rw (← e) h

part_at : {d d' : ℕ} {t : Term} → d ≡ d' → Part d t → Part d' t
part_at e q = rw (← e) q

single_bytes : {w w' : List ℕ} {p e : ℕ} {U : Term} → WrittenTerm 0xff w w' p e U → EntryBytes w' p (single U) e
single_bytes u = bytes_single u.marked u.stands

pair_bytes : {w w₁ w₂ : List ℕ} {p m e : ℕ} {K U : Term} → WrittenTerm 0xfe w w₁ p m K → WrittenTerm 0xff w₁ w₂ m e U → EntryBytes w₂ p (pair K U) e
pair_bytes {p = p} {m = m} k u = bytes_pair (u.below.same p (omega arith) (omega (arith, stands_start k.stands)) ∙ k.marked)
    (stands_agree k.stands (agree_part u.below (omega arith) (omega arith)) (omega (arith, stands_start u.stands, stands_end u.stands))) u.marked u.stands

none_lifted : {Q : List Waiting} → Q ≡ [] → lift_waiting Q ≡ []
unfolding lift_waiting
none_lifted e = rw e

fewer_is : (b : Bool) (R : Frame) (W W' Q Q' : List Waiting) (e : Entry) (B U X : Term) → B ≡ abs U X → domain e ≡ U → suc (states_of (state_of b (R ▹ e) W' Q' X)) ≤ states_of (state_of b R W Q B)
fewer_is b R W W' Q Q' e B U X h g = rw (h, ← g) (fewer_abs b R W W' Q Q' e X)

queue_to : {y : Bool} {t s q : List ℕ} {d limit base before top top' : ℕ} {W : List Waiting} → top ≡ top' → Queue y t s q d limit base before top W → Queue y t s q d limit base before top' W
queue_to e x = rw (← e) x

-- the runs of what is left
run_alone : (b : Bool) (place : ℕ) {next : ℕ} (R : Frame) {W Q : List Waiting} {B U X : Term} (p : Progress) → B ≡ abs U X → W ≡ [] → Q ≡ [] → cond b (suc place + size U) place ≡ next
    → finish (rest_of b place R W Q B) p ≡ finish (agenda_of false b next (R ▹ single U) (lift_waiting W) (lift_waiting Q) X) p
unfolding lift_waiting
run_alone b place R {U = U} {X = X} p e w q g = rw (e, w, q, ← g) (rest_alone b place R U X p)

run_copied : (b : Bool) (place next : ℕ) (R : Frame) (W : List Waiting) {Q Q' : List Waiting} {B U X : Term} {w : Waiting} (p : Progress) → b ≡ false → B ≡ abs U X → Q ≡ w ∷ Q'
    → finish (rest_of b place R W Q B) p ≡ finish (agenda_of false b (cond b next place) (R ▹ pair w.term U) (lift_waiting W) (lift_waiting Q') X) p
run_copied b place next R W {Q' = Q'} {U = U} {X = X} {w = w} p c e q = rw (c, e, q) (rest_copied place R W w Q' U X p)

run_waiting : (b : Bool) (place : ℕ) {next : ℕ} (R : Frame) {W W' Q : List Waiting} {B U X : Term} {w : Waiting} (p : Progress) → B ≡ abs U X → W ≡ w ∷ W' → Q ≡ [] → cond b (suc place + size U) place ≡ next
    → finish (rest_of b place R W Q B) p ≡ and_then (finish (same_at w.place R w.term U ∷ []) p) (finish (agenda_of false b next (R ▹ pair w.term U) (lift_waiting W') [] X))
run_waiting b place R {W' = W'} {U = U} {X = X} {w = w} p e h q g = rw (e, h, q, ← g) (rest_waiting b place R w W' U X p)

low_last : (q : List ℕ) (j : ℕ) → 1 ≤ j → low_of q j ≡ (slot_of q (j - 1)).at
unfolding low_of
low_last q zero h = absurd (omega arith)
low_last q (suc j) h = ap (λ i. (slot_of q i).at) (omega arith)

-- The waiting applicator w, as v says, whose K stands in the term or in the work array, and which can be entered with a U of n bytes.
pub record Taken (x : Text) (m : Arrays) (f : FrameRecord) (n : ℕ) (b : Bool) (v : Slot) (w : Waiting) : Type 0 where
  pub limit : ℕ
  pub slot : Waits x.term (cond b x.term m.work) f.len limit v w
  pub fits : f.end + (suc (size w.term) + suc n) ≤ longest_state
  pub shallow : f.len + scope w.term ≤ most_abstractors

module _ {x : Text} {m : Arrays} {f : FrameRecord} {s : WalkState} {R : Frame} {W Q : List Waiting} {B : Term} {p : Progress} (z : StateAt x m f s R W Q B p) (o : Room f s B)
    (hi : 0xfe ≤ get_or (cond s.in_term x.term m.work) s.from 0) (no : get_or (cond s.in_term x.term m.work) s.from 0 ≡ 0xfe → ⊥) where
  pub two_abs : Two (cond s.in_term x.term m.work) s.from z.end z.text abs
  two_abs = text_abs z.stands hi no

  pub taken : Term
  taken = lift s.shift s.cut two_abs.one

  rest : Term
  rest = lift s.shift (suc s.cut) two_abs.two

  is_abs : B ≡ abs taken rest
  unfolding lift taken rest
  is_abs = z.seen ∙ ap (lift s.shift s.cut) two_abs.is

  pub origins_abs : Origin x.term (s.origin + 1) two_abs.one × Origin x.term (s.origin + 1 + size two_abs.one) two_abs.two
  origins_abs = origin_abs (rw two_abs.is at z.origin)

  sizes : size B ≡ suc (size two_abs.one + size two_abs.two)
  unfolding size
  sizes = body_size z ∙ ap size two_abs.is

  scopes : scope B ≡ max (scope two_abs.one) (suc (scope two_abs.two))
  unfolding scope
  scopes = body_scope_lem z ∙ ap scope two_abs.is

  parts_closed : Closed f.len taken × Closed (suc f.len) rest
  parts_closed = go (rw is_abs at z.closed)
    where
      go : {U X : Term} → Closed f.len (abs U X) → Closed f.len U × Closed (suc f.len) X
      go (closed_abs a b) = (a, b)

  not_met : {A : Type 0} → s.own ≡ false → s.in_term ≡ true → A
  unfolding size
  not_met a b = let k = z.met a b in absurd (omega (arith, ap size k.1, ap size two_abs.is, positive two_abs.one))

  pub fewer_entries : f.len < most_abstractors
  fewer_entries = omega (arith, o.body_fits_lem, scopes)

  taken_size : size taken ≡ size two_abs.one
  unfolding taken
  taken_size = size_lift s.shift s.cut two_abs.one

  taken_part : Part f.len taken
  unfolding taken
  taken_part = record {
    closed = parts_closed.0;
    shallow = omega (arith, o.body_fits_lem, scopes, scope_lift s.shift s.cut two_abs.one);
    short = omega (arith, sizes, origin_bound z, taken_size);
  }

  taken_origin : Origin x.term (s.origin + 1) taken
  unfolding taken
  taken_origin = origin_lift s.shift s.cut origins_abs.0

  module _ {n : ℕ} (e : n ≡ size two_abs.one) where
    mid : s.from + 1 + n ≡ two_abs.mid
    mid = omega (arith, two_abs.first.place)

    pub past_bounds : (n < 65536) × (s.from < 65536) × (s.origin < 65536)
    past_bounds = (omega (arith, sizes, o.fits), by_source s.in_term refl, omega (arith, origin_bound z))
      where
        by_source : (b : Bool) → s.in_term ≡ b → s.from < 65536
        by_source true e = omega (arith, stands_start (rw e at z.stands), stands_end (rw e at z.stands), z.held.term_short)
        by_source false e = omega (arith, stands_start (rw e at z.stands), stands_end (rw e at z.stands), z.held.stored.work)

    -- U, where the bytes below the frame's end are as they were
    module _ {w₁ : List ℕ} (l : length w₁ ≡ longest_state) (g : Agree m.work w₁ 0 f.end) where
      source_now : (b : Bool) → s.in_term ≡ b → {q e : ℕ} {X : Term} → e ≤ z.end → Stands (cond b x.term m.work) q e X → Stands (cond b x.term w₁) q e X
      source_now true i j h = h
      source_now false i j h = stands_agree h (agree_part g (omega arith) (omega (arith, z.inside i))) (omega (arith, z.inside i, z.held.stored.inside))

      first_now : Stands (cond s.in_term x.term w₁) (s.from + 1) (s.from + 1 + n) two_abs.one
      first_now = rw mid (source_now s.in_term refl (omega (arith, stands_start two_abs.second)) two_abs.first)

      second_now : Stands (cond s.in_term x.term w₁) (s.from + 1 + n) z.end two_abs.two
      second_now = rw mid (source_now s.in_term refl (omega arith) two_abs.second)

      pub domain_writable : {to : ℕ} → f.end ≤ to → to + suc (size two_abs.one) ≤ longest_state → {depths : List ℕ} → DepthsKnown x.term depths
          → PutAsked x.term depths w₁ s.in_term (s.from + 1) (s.from + 1 + n) (s.origin + 1) to s.shift s.cut 0
      unfolding taken
      domain_writable {to} a r k = (
        omega (arith, z.shift_bound),
        omega (arith, z.cut_bound, z.held.stored.few),
        omega arith,
        (λ i. inl (omega (arith, mid, stands_start two_abs.second, z.inside i))),
        record {
          work = l;
          raw = two_abs.one;
          stands = first_now;
          first = closed_coded taken_part.closed taken_part.shallow;
          second = rw (lift_zero 0 (lift s.shift s.cut two_abs.one)) (closed_coded taken_part.closed taken_part.shallow);
          room = r;
        },
        record { deep = k.deep; long = k.long; origin = λ X h. origin_is (stands_unique (first_now) h).0 origins_abs.0 },
      )

      pub domain_written : {w₂ : List ℕ} {to r : ℕ} → Puts 0xff (cond s.in_term x.term w₁) w₁ w₂ (s.from + 1) (s.from + 1 + n) s.shift s.cut 0 to r → WrittenTerm 0xff w₁ w₂ to r taken
      unfolding taken
      domain_written u = rw (lift_zero 0 (lift s.shift s.cut two_abs.one)) at (u.all two_abs.one first_now)

    -- the state after the entry
    place_now : (b : Bool) → s.own ≡ b → cond b (s.from + 1 + n) s.place < length x.term
    place_now true i =
        let u = ap (λ k. cond k x.term m.work) (z.own_text i).in_term in
        let v : Stands x.term two_abs.mid z.end two_abs.two = rw u at two_abs.second in
        omega (arith, mid, stands_start v, stands_end v)
    place_now false i = z.held.place_bound

    place_later : (b : Bool) → s.own ≡ b → s.place ≤ cond b (s.from + 1 + n) s.place
    place_later true i = omega (arith, (z.own_text i).at_place)
    place_later false i = omega arith

    pub further : s.place ≤ cond s.own (s.from + 1 + n) s.place
    further = place_later s.own refl

    entered : (t : Entry) {w₂ : List ℕ} {at b middle top total widest next comparisons : ℕ} {W' Q' : List Waiting} {q : Progress} → domain t ≡ taken → Sound (R ▹ t) → length w₂ ≡ longest_state → Agree m.work w₂ 0 f.end → Agree m.work w₂ b longest_state
        → EntryBytes w₂ f.end t b → Stands w₂ at b taken → Queue true x.term x.term m.list f.len (length x.term) s.bottom 0 middle W' → Queue false x.term m.work m.list f.len f.end middle (waiting_scope (terms_of W')) top Q'
        → middle ≤ s.middle → top ≤ s.top → (s.own ≡ true → (Q' ≡ []) × (middle ≡ top) × (b + low_of m.list s.top ≤ f.end + suc n + low_of m.list top))
        → total ≡ waiting_size (terms_of W') + waiting_size (terms_of Q') → widest ≡ max (waiting_scope (terms_of W')) (waiting_scope (terms_of Q')) → total ≤ longest_state → widest ≤ most_abstractors → Reached x.file next comparisons q
        → StateAt x (entry_arrays m w₂ f.len at (s.origin + 1) b) (pushed f b) (past_of s n (s.cut + 1) middle top total widest next comparisons) (R ▹ t) (lift_waiting W') (lift_waiting Q') rest q
    unfolding rest
    entered t {w₂} {at} {b} {middle} {top} {total} {widest} {next} {comparisons} {W'} {Q'} td d l a a' y k v u mt tp ow si sc sb cb r =
        let later = further in
        let inside_now = place_now s.own refl in
        record {
          held = record {
            term_short = z.held.term_short;
            stored = stored_push z.held.stored a l y fewer_entries;
            sound = d;
            notes = notes_push b {e = b} a (omega (arith, l, z.held.stored.inside)) (omega (arith, bytes_start y)) (omega (arith, z.held.domains_long, fewer_entries)) (omega (arith, z.held.origins_long, fewer_entries)) z.held.notes (rw td k) (omega arith) (rw td taken_origin);
            domains_long = length-set m.domains f.len at ∙ z.held.domains_long;
            origins_long = length-set m.origins f.len (s.origin + 1) ∙ z.held.origins_long;
            waits = rw (add-one f.len) (queue_deeper v);
            kept = λ j g h. kept_through m.list z.held.kept agree_refl (agree_part a' (omega arith) (omega arith)) z.held.stored.work l (omega arith) j g (omega arith);
            copies = rw (add-one f.len) (queue_before (sym (scope_lifted W')) (queue_deeper (queue_agree a (omega (arith, l, z.held.stored.inside)) (omega (arith, bytes_start y)) u)));
            listed = omega (arith, z.held.listed);
            few_waiting = omega (arith, later, z.held.few_waiting);
            place_bound = inside_now;
            size_is = omega (arith, si, size_lifted W', size_lifted Q');
            scope_is = omega (arith, sc, scope_lifted W', scope_lifted Q');
            size_bound = sb;
            scope_bound = cb;
          };
          text = two_abs.two;
          end = z.end;
          stands = second_now l a;
          inside = λ i. omega (arith, z.inside i, bytes_start y);
          origin = rw e origins_abs.1;
          seen = ap (λ c. lift s.shift c two_abs.two) (sym (add-one s.cut));
          shift_bound = z.shift_bound;
          cut_bound = omega (arith, z.cut_bound);
          closed = rw (add-one f.len) parts_closed.1;
          own_text = λ i. own_now i (ow i);
          met = λ i j. not_met i j;
          inner = λ i. no_confusion i;
          reached = r;
        }
      where
        own_now : s.own ≡ true → (Q' ≡ []) × (middle ≡ top) × (b + low_of m.list s.top ≤ f.end + suc n + low_of m.list top)
            → OwnText (entry_arrays m w₂ f.len at (s.origin + 1) b) (pushed f b) (past_of s n (s.cut + 1) middle top total widest next comparisons) (lift_waiting Q')
        own_now i g =
            let t = z.own_text i in
            let u : cond s.own (s.from + 1 + n) s.place ≡ s.from + 1 + n = ap (λ k. cond k (s.from + 1 + n) s.place) i in
            record { in_term = t.in_term; at_place = sym u; itself = omega (arith, u, t.at_place, t.itself); unlifted = t.unlifted; no_copies = none_lifted g.0; tops = g.1; low = t.low; packed = omega (arith, u, t.at_place, t.packed, g.2) }

    -- where the rest is
    place_is : (b : Bool) → s.own ≡ b → cond b (suc s.place + size taken) s.place ≡ cond b (s.from + 1 + n) s.place
    place_is true i = omega (arith, (z.own_text i).at_place, taken_size)
    place_is false i = refl

    -- (iv) and (x)
    module _ (q : s.bottom ≡ s.top) where
      no_w : W ≡ []
      no_w = queue_empty z.held.waits (omega (arith, queue_base z.held.waits, queue_base z.held.copies))

      no_q : Q ≡ []
      no_q = queue_empty z.held.copies (omega (arith, queue_base z.held.waits, queue_base z.held.copies))

      pub alone_room : f.end + suc (size two_abs.one) ≤ longest_state
      alone_room = omega (arith, o.fits, sizes)

      pub alone_becomes : {w₂ : List ℕ} {b : ℕ} (a c : List ℕ) → WrittenTerm 0xff m.work w₂ f.end b taken
          → Becomes x (entry_arrays m w₂ f.len (f.end + 1) (s.origin + 1) b) f s a c (State (past_of s n (s.cut + 1) s.middle s.top s.size s.scope s.next s.comparisons) (Some b))
          (states_of (state_of s.own R W Q B)) (finish (rest_of s.own s.place R W Q B) p)
      unfolding domain
      alone_becomes a c u = becomes_state
          (entered (single taken) refl (sound_single z.held.sound (part_at (sym (stored_depth z.held.stored)) taken_part)) u.work u.below u.above (single_bytes u) (rw add-one u.stands) z.held.waits z.held.copies
          (omega arith) (omega arith) (λ i. (no_q, (z.own_text i).tops, omega (arith, u.stands.place, taken_size))) z.held.size_is z.held.scope_is z.held.size_bound z.held.scope_bound z.reached)
          refl (fewer_is s.own R W (lift_waiting W) Q (lift_waiting Q) (single taken) B taken rest is_abs refl) (run_alone s.own s.place R p is_abs no_w no_q (place_is s.own refl))

    -- the last that waits, as v says, in the term or in the work array
    module _ {b : Bool} {v : Slot} {w : Waiting} (l : Taken x m f n b v w) {k : ℕ} (g : k ≡ size l.slot.raw) where
      pub last_size : size w.term ≡ k
      last_size = raw_size l.slot ∙ sym g

      last_end : v.at + 1 + k ≡ l.slot.end
      last_end = omega (arith, l.slot.stands.place)

      slot_stands : Stands (cond b x.term m.work) (v.at + 1) l.slot.end l.slot.raw
      slot_stands = rw add-one l.slot.stands

      pub applied_asked : (b ≡ false → (v.at + 1 + k ≤ f.end) ⊎ (f.end + 1 + k ≤ v.at + 1)) → {depths : List ℕ} → DepthsKnown x.term depths
          → PutAsked x.term depths m.work b (v.at + 1) (v.at + 1 + k) (v.place + 1) f.end v.shift v.cut (f.len - v.depth)
      applied_asked apart d = (
        omega (arith, l.slot.shift_bound),
        omega (arith, l.slot.cut_bound),
        omega (arith, z.held.stored.few),
        (λ i. ⊎_elim (λ h. inl h) (λ h. inr (omega arith)) (apart i)),
        rw last_end (waits_writable l.slot z.held.stored.work (omega (arith, l.fits)) l.shallow),
        record { deep = d.deep; long = d.long; origin = λ X h. origin_is (stands_unique slot_stands (rw last_end at h)).0 l.slot.origin },
      )

      module _ {w₁ : List ℕ} {a : ℕ} (u : Puts 0xfe (cond b x.term m.work) m.work w₁ (v.at + 1) (v.at + 1 + k) v.shift v.cut (f.len - v.depth) f.end a) where
        applied_written : WrittenTerm 0xfe m.work w₁ f.end a w.term
        applied_written = waits_written l.slot (rw last_end at u)

        pub applied_past : (a ≡ f.end + suc (size w.term)) × (f.end ≤ a) × (a + suc (size two_abs.one) ≤ longest_state)
        applied_past = let h = applied_written.stands.place in (omega arith, omega arith, omega (arith, l.fits))

        pub domain_asked : {depths : List ℕ} → DepthsKnown x.term depths → PutAsked x.term depths w₁ s.in_term (s.from + 1) (s.from + 1 + n) (s.origin + 1) a s.shift s.cut 0
        domain_asked d = domain_writable applied_written.work applied_written.below applied_past.1 applied_past.2 d

        module _ {w₂ : List ℕ} {c : ℕ} (t : Puts 0xff (cond s.in_term x.term w₁) w₁ w₂ (s.from + 1) (s.from + 1 + n) s.shift s.cut 0 a c) where
          domain_whole : WrittenTerm 0xff w₁ w₂ a c taken
          domain_whole = domain_written applied_written.work applied_written.below t

          pub pair_below : (length w₂ ≡ longest_state) × Agree m.work w₂ 0 f.end × Agree m.work w₂ c longest_state
          pair_below = (
            domain_whole.work,
            agree_trans applied_written.below (agree_part domain_whole.below (omega arith) applied_past.1),
            agree_trans (agree_part applied_written.above (omega (arith, stands_start domain_whole.stands)) (omega arith)) domain_whole.above,
          )

          pub pair_end : (c ≡ f.end + suc k + suc n) × (f.end ≤ c)
          pair_end = let h = domain_whole.stands.place in (omega (arith, applied_past.0, last_size, taken_size), omega (arith, applied_past.1))

          applied_now : Stands w₂ (suc f.end) a w.term
          applied_now = stands_agree applied_written.stands (agree_part domain_whole.below (omega arith) (omega arith)) (omega (arith, domain_whole.work, stands_start domain_whole.stands, stands_end domain_whole.stands))

          applied_part : Part f.len w.term
          applied_part = now_part l.slot l.shallow

          pair_sound : Sound (R ▹ pair w.term taken)
          pair_sound = sound_pair z.held.sound (part_at (sym (stored_depth z.held.stored)) applied_part) (part_at (sym (stored_depth z.held.stored)) taken_part)

          -- with the last taken
          pair_entered : {middle top total widest next comparisons : ℕ} {W' Q' : List Waiting} {y : Progress} → Queue true x.term x.term m.list f.len (length x.term) s.bottom 0 middle W'
              → Queue false x.term m.work m.list f.len f.end middle (waiting_scope (terms_of W')) top Q' → middle ≤ s.middle → top ≤ s.top
              → (s.own ≡ true → (Q' ≡ []) × (middle ≡ top) × (c + low_of m.list s.top ≤ f.end + suc n + low_of m.list top))
              → total ≡ waiting_size (terms_of W') + waiting_size (terms_of Q') → widest ≡ max (waiting_scope (terms_of W')) (waiting_scope (terms_of Q')) → total ≤ longest_state → widest ≤ most_abstractors → Reached x.file next comparisons y
              → StateAt x (entry_arrays m w₂ f.len (a + 1) (s.origin + 1) c) (pushed f c) (past_of s n (s.cut + 1) middle top total widest next comparisons) (R ▹ pair w.term taken) (lift_waiting W') (lift_waiting Q') rest y
          unfolding domain
          pair_entered = entered (pair w.term taken) refl pair_sound domain_whole.work pair_below.1 pair_below.2 (pair_bytes applied_written domain_whole) (rw add-one domain_whole.stands)

          now_stored : Stored w₂ f R
          now_stored = stored_agree z.held.stored pair_below.1 domain_whole.work

          -- to be compared
          pub comparing : Comparing x.file w₂ s.next f a c
          comparing = record {
            frame = R;
            stored = now_stored;
            closed_frame = sound_closed z.held.sound;
            applied = w.term;
            domain = taken;
            applied_closed = applied_part.closed;
            applied_fits = record { short = applied_part.short; shallow = applied_part.shallow };
            domain_closed = taken_part.closed;
            applied_stands = applied_now;
            domain_stands = domain_whole.stands;
            groups = z.reached.groups;
            stand = z.reached.stand;
          }

    -- (xii)
    module _ (y : s.middle < s.top) where
      is_copied : s.own ≡ false
      is_copied = by_text s.own refl
        where
          by_text : (b : Bool) → s.own ≡ b → b ≡ false
          by_text true i = absurd (omega (arith, (z.own_text i).tops))
          by_text false i = refl

      pub last_copied : Last false x.term m.work m.list f.len f.end s.middle (waiting_scope (terms_of W)) s.top Q
      last_copied = queue_last z.held.copies (λ i. omega arith)

      sizes_copied : (waiting_size (terms_of Q) ≡ suc (size last_copied.last.term) + waiting_size (terms_of last_copied.others)) × (waiting_scope (terms_of Q) ≡ max (scope last_copied.last.term) (waiting_scope (terms_of last_copied.others)))
      unfolding waiting_size waiting_scope terms_of
      sizes_copied = (ap (λ k. waiting_size (terms_of k)) last_copied.is, ap (λ k. waiting_scope (terms_of k)) last_copied.is)

      module _ {v : Slot} (q : v ≡ slot_of m.list (s.top - 1)) where
        pub taken_copied : Taken x m f n false v last_copied.last
        taken_copied = record {
          limit = f.end;
          slot = waits_at (sym q) last_copied.slot;
          fits = omega (arith, o.fits, sizes, z.held.size_is, sizes_copied.0);
          shallow = omega (arith, o.waits_fit, z.held.scope_is, sizes_copied.1);
        }

        module _ {k : ℕ} (g : k ≡ size taken_copied.slot.raw) where
          pub copied_size : (1 + k ≤ s.size) × (v.at + 1 + k ≤ f.end)
          unfolding taken_copied
          copied_size = (omega (arith, z.held.size_is, sizes_copied.0, last_size taken_copied g), omega (arith, taken_copied.slot.stands.place, taken_copied.slot.inside))

          module _ {w₁ w₂ : List ℕ} {a b : ℕ} (u : Puts 0xfe m.work m.work w₁ (v.at + 1) (v.at + 1 + k) v.shift v.cut (f.len - v.depth) f.end a)
              (t : Puts 0xff (cond s.in_term x.term w₁) w₁ w₂ (s.from + 1) (s.from + 1 + n) s.shift s.cut 0 a b) where
            pub copied_becomes : (c d : List ℕ) → Becomes x (entry_arrays m w₂ f.len (a + 1) (s.origin + 1) b) f s c d
                (State (past_of s n (s.cut + 1) s.middle (s.top - 1) (s.size - (1 + k)) v.scope s.next s.comparisons) (Some b)) (states_of (state_of s.own R W Q B)) (finish (rest_of s.own s.place R W Q B) p)
            unfolding domain
            copied_becomes c d =
                let l = last_copied in
                becomes_state
                (pair_entered taken_copied g u t z.held.waits l.rest (omega arith) (omega arith) (λ i. no_confusion (sym is_copied ∙ i))
                (omega (arith, z.held.size_is, sizes_copied.0, last_size taken_copied g)) (ap (λ r. r.scope) q ∙ l.scope_below) (omega (arith, z.held.size_bound)) (omega (arith, ap (λ r. r.scope) q, l.scope_below, z.held.scope_is, z.held.scope_bound, sizes_copied.1)) z.reached)
                refl (fewer_is s.own R W (lift_waiting W) Q (lift_waiting l.others) (pair l.last.term taken) B taken rest is_abs refl)
                (run_copied s.own s.place (s.from + 1 + n) R W p is_copied is_abs l.is)

    -- (v) and (xi)
    module _ (y : s.top ≤ s.middle) (ne : s.bottom ≡ s.top → ⊥) where
      no_copies : Q ≡ []
      no_copies = queue_empty z.held.copies (omega (arith, queue_base z.held.copies))

      same_tops : s.top ≡ s.middle
      same_tops = omega (arith, queue_base z.held.copies)

      pub last_waiting : Last true x.term x.term m.list f.len (length x.term) s.bottom 0 s.middle W
      last_waiting = queue_last z.held.waits (λ i. ne (omega (arith, same_tops)))

      pub one_waits : (s.bottom < s.top) × (1 ≤ s.top)
      one_waits = (omega (arith, queue_base z.held.waits, same_tops, ne), omega (arith, queue_base z.held.waits, same_tops, ne))

      sizes_waiting : (waiting_size (terms_of W) ≡ suc (size last_waiting.last.term) + waiting_size (terms_of last_waiting.others)) × (waiting_scope (terms_of W) ≡ max (scope last_waiting.last.term) (waiting_scope (terms_of last_waiting.others)))
      unfolding waiting_size waiting_scope terms_of
      sizes_waiting = (ap (λ k. waiting_size (terms_of k)) last_waiting.is, ap (λ k. waiting_scope (terms_of k)) last_waiting.is)

      none_copied : (waiting_size (terms_of Q) ≡ 0) × (waiting_scope (terms_of Q) ≡ 0)
      unfolding waiting_size waiting_scope terms_of
      none_copied = (ap (λ k. waiting_size (terms_of k)) no_copies, ap (λ k. waiting_scope (terms_of k)) no_copies)

      -- its bytes at the end of the work array
      last_kept : KeptSlot x.term m.work m.list m.reach (s.middle - 1)
      last_kept = z.held.kept (s.middle - 1) (omega (arith, one_waits.0, same_tops)) (omega (arith, one_waits.1, same_tops))

      last_there : m.reach ≤ (slot_of m.list (s.middle - 1)).at → Stands m.work (suc (slot_of m.list (s.middle - 1)).at) (suc (slot_of m.list (s.middle - 1)).at + size last_waiting.slot.raw) last_waiting.slot.raw
      last_there h = same_term (stands_unique last_kept.stands last_waiting.slot.stands).0 (last_kept.there h)
        where
          same_term : {X Y : Term} {i : ℕ} → X ≡ Y → Stands m.work i (i + size X) X → Stands m.work i (i + size Y) Y
          same_term e d = rw (← e) d

      module _ {v : Slot} (q : v ≡ slot_of m.list (s.top - 1)) where
        slot_is : v ≡ slot_of m.list (s.middle - 1)
        slot_is = rw (← same_tops) q

        -- read from the term, or from the work array where no frame was written over it
        pub taken_waiting : (b : Bool) → (b ≡ false → m.reach ≤ v.at) → Taken x m f n b (seen b v) last_waiting.last
        taken_waiting true h = record {
          limit = length x.term;
          slot = waits_at (ap (seen true) (sym slot_is)) last_waiting.slot;
          fits = omega (arith, o.fits, sizes, z.held.size_is, sizes_waiting.0);
          shallow = omega (arith, o.waits_fit, z.held.scope_is, sizes_waiting.1);
        }
        taken_waiting false h =
            let there = last_there (omega (arith, ap (λ u. u.at) slot_is, h refl)) in
            let r = last_waiting.slot in
            record {
              limit = longest_state;
              slot = waits_at (ap (seen false) (sym slot_is)) (record {
                raw = r.raw;
                end = suc (slot_of m.list (s.middle - 1)).at + size r.raw;
                stands = there;
                inside = omega (arith, stands_end there, z.held.stored.work);
                origin = r.origin;
                shift_bound = r.shift_bound;
                cut_bound = r.cut_bound;
                part = r.part;
                deep = r.deep;
                is_place = r.is_place;
                seen = r.seen;
              });
              fits = omega (arith, o.fits, sizes, z.held.size_is, sizes_waiting.0);
              shallow = omega (arith, o.waits_fit, z.held.scope_is, sizes_waiting.1);
            }

        module _ {b : Bool} (h : b ≡ false → m.reach ≤ v.at) {k : ℕ} (g : k ≡ size (taken_waiting b h).slot.raw) where
          abbrev here : Taken x m f n b (seen b v) last_waiting.last
          here = taken_waiting b h

          pub waiting_size_lem : 1 + k ≤ s.size
          waiting_size_lem = omega (arith, z.held.size_is, sizes_waiting.0, last_size here g)

          taken_room : low_of m.list s.top + suc k ≤ low_of m.list (s.top - 1)
          taken_room = omega (arith, low_last m.list s.top one_waits.1, ap (λ i. (slot_of m.list (i - 1)).at) same_tops, ap (λ i. low_of m.list (i - 1)) same_tops, last_kept.apart, ap size (stands_unique last_kept.stands last_waiting.slot.stands).0, raw_size last_waiting.slot, last_size here g)

          module _ {w₁ w₂ : List ℕ} {a c : ℕ} (u : Puts 0xfe (cond b x.term m.work) m.work w₁ (cond b v.place v.at + 1) (cond b v.place v.at + 1 + k) v.shift v.cut (f.len - v.depth) f.end a)
              (t : Puts 0xff (cond s.in_term x.term w₁) w₁ w₂ (s.from + 1) (s.from + 1 + n) s.shift s.cut 0 a c)
              {d : Compared} {left right : List ℕ} (r : Compares x.file w₂ s.next f a c d left right) where
            abbrev the_run : Run
            the_run = finish (same_at last_waiting.last.place R last_waiting.last.term taken ∷ []) p

            compared : CompareSays x.file s.next d left right last_waiting.last.place p the_run
            compared = r.all R last_waiting.last.term taken z.reached.groups (now_stored here g u t) (applied_now here g u t) (domain_whole here g u t).stands z.reached.stand last_waiting.last.place p z.reached.left

            place_of_v : v.place ≡ last_waiting.last.place
            place_of_v = ap (λ u. u.place) slot_is ∙ sym last_waiting.slot.is_place

            abbrev After : Frame → Progress → Run
            After R = finish (agenda_of false s.own (cond s.own (s.from + 1 + n) s.place) (R ▹ pair last_waiting.last.term taken) (lift_waiting last_waiting.others) [] rest)

            run_is : finish (rest_of s.own s.place R W Q B) p ≡ and_then the_run (After R)
            run_is = run_waiting s.own s.place R p is_abs last_waiting.is no_copies (place_is s.own refl)

            abbrev Comes_to : Turned → Run → Type 0
            Comes_to i y = Becomes x (entry_arrays m w₂ f.len (a + 1) (s.origin + 1) c) f s left right i (states_of (state_of s.own R W Q B)) y

            becomes_at : {i : Turned} {v w : Run} → v ≡ w → Comes_to i w → Comes_to i v
            becomes_at e h = rw e h

            pub waiting_stops : (h : Halt) → d ≡ ground_says h → Comes_to (Answer (Err (stopped_by h v.place s))) (finish (rest_of s.own s.place R W Q B) p)
            unfolding and_then
            waiting_stops h e = becomes_at run_is (go (rw e at compared))
              where
                go : {r : Run} → CompareSays x.file s.next (ground_says h) left right last_waiting.last.place p r → Comes_to (Answer (Err (stopped_by h v.place s))) (and_then r (After R))
                go (compare_passed gs i j k l m) = absurd (ground_stops h i)
                go (compare_stopped i j k) = becomes_answer (says_stopped (halts_compared i refl (place_of_v ∙ sym j) refl refl refl) (sym z.reached.counted ∙ sym k))

            -- what is taken makes room at the end of the work array
            low_above : c + low_of m.list s.top ≤ f.end + suc n + low_of m.list (s.top - 1)
            low_above = omega (arith, (pair_end here g u t).0, taken_room)

            pub waiting_becomes : d.number ≡ 0
                → Comes_to (State (past_of s n (s.cut + 1) (s.top - 1) (s.top - 1) (s.size - (1 + k)) v.scope d.next (s.comparisons + 1)) (Some c)) (finish (rest_of s.own s.place R W Q B) p)
            unfolding and_then domain lift_waiting terms_of waiting_size waiting_scope
            waiting_becomes h = becomes_at run_is (go compared)
              where
                go : {r : Run} → CompareSays x.file s.next d left right last_waiting.last.place p r
                    → Comes_to (State (past_of s n (s.cut + 1) (s.top - 1) (s.top - 1) (s.size - (1 + k)) v.scope d.next (s.comparisons + 1)) (Some c)) (and_then r (After R))
                go (compare_stopped i j k) = absurd ((ground_number i).1 h)
                go (compare_passed {q = d} gs i j l e c) =
                    let w = last_waiting in
                    becomes_state {W = lift_waiting w.others} {Q = []} {p = d}
                    (pair_entered here g u t {W' = w.others} {Q' = []} (queue_to (ap (λ i. i - 1) (sym same_tops)) w.rest) (no_queue refl refl) (omega (arith, same_tops)) (omega arith) (λ i. (refl, refl, low_above))
                    (omega (arith, z.held.size_is, sizes_waiting.0, last_size here g, none_copied.0)) (ap (λ r. r.scope) slot_is ∙ w.scope_below ∙ omega arith) (omega (arith, z.held.size_bound))
                    (omega (arith, ap (λ r. r.scope) slot_is, w.scope_below, z.held.scope_is, z.held.scope_bound, sizes_waiting.1))
                    (record { groups = gs; stand = l; left = e; counted = omega (arith, c, z.reached.counted); few = omega (arith, j, z.reached.few); file_bound = z.reached.file_bound }))
                    refl (fewer_is s.own R W (lift_waiting w.others) Q [] (pair w.last.term taken) B taken rest is_abs refl) refl

          -- by the comparison
          pub waiting_settles : {w₁ w₂ : List ℕ} {a c : ℕ} (u : Puts 0xfe (cond b x.term m.work) m.work w₁ (cond b v.place v.at + 1) (cond b v.place v.at + 1 + k) v.shift v.cut (f.len - v.depth) f.end a)
              → Puts 0xff (cond s.in_term x.term w₁) w₁ w₂ (s.from + 1) (s.from + 1 + n) s.shift s.cut 0 a c
              → (d : Result ℕ Halt) {left right : List ℕ} → Compares x.file w₂ s.next f a c (compared_says d) left right
              → Becomes x (entry_arrays m w₂ f.len (a + 1) (s.origin + 1) c) f s left right (settled_of s (past_of s n (s.cut + 1) (s.top - 1) (s.top - 1) (s.size - (1 + k)) v.scope s.next s.comparisons) v.place c d)
              (states_of (state_of s.own R W Q B)) (finish (rest_of s.own s.place R W Q B) p)
          waiting_settles u t (Ok next) r = waiting_becomes u t r refl
          waiting_settles u t (Err h) r = waiting_stops u t r h refl
