-- The waiting applicators in an array.
-- Assumes nothing.
use Prim.Native.Nat.{ℕ, zero, suc, ◌+◌, ◌-◌, ◌*◌, ◌≤◌, ◌<◌, max}
use mathlib.Core.Path.{◌≡◌, refl, ap, sym, ◌∙◌}
use mathlib.Core.Bool.{Bool, cond}
use mathlib.Core.List.{List, [], ◌∷◌}
use native.Mathlib.Omega.{arith}
use native.Mathlib.Numerals.{add-one}
use lib.ListN.{length}
use Rattle.calculus.specs.Terms.{Term, size, lift, Closed}
use Rattle.calculus.specs.Rules.{lift_all}
use Rattle.calculus.proofs.Lift.{lo, hi, cmp, lift_fusion, size_lift, lift_closed}
use Rattle.code.specs.Limits.{longest_state, most_abstractors}
use Rattle.code.specs.Scope.{scope}
use Rattle.code.proofs.Parts.{stands_end}
use Rattle.code.proofs.Scope.{scope_lift, closed_coded}
use Rattle.frames.specs.Stored.{Agree}
use Rattle.frames.proofs.Entries.{agree_part, stands_agree}
use Rattle.verdict.specs.Bounds.{waiting_size, waiting_scope}
use Rattle.waiting.specs.Waiting.{Waiting, terms_of, places, lift_waiting, Part, slot_of, slot_in, low_of, Waits, Queue, queue_none, queue_one, Kept, KeptSlot}
use Rattle.waiting.specs.Writing.{WrittenTerm, Writable, Puts}
use Rattle.waiting.specs.declared.Slot.{Slot}
use Rattle.waiting.proofs.Texts.{positive}

-- ---- The list, lifted.
pub terms_lift : (W : List Waiting) → terms_of (lift_waiting W) ≡ lift_all (terms_of W)
unfolding terms_of lift_waiting lift_all
terms_lift [] = refl
terms_lift (w ∷ W) = ap (λ (l : List Term). lift 1 0 w.term ∷ l) (terms_lift W)

pub places_lift : (W : List Waiting) → places (lift_waiting W) ≡ places W
unfolding places lift_waiting
places_lift [] = refl
places_lift (w ∷ W) = ap (λ (l : List ℕ). w.place ∷ l) (places_lift W)

pub places_length : (W : List Waiting) → length (places W) ≡ length (terms_of W)
unfolding places terms_of
places_length [] = refl
places_length (w ∷ W) = ap suc (places_length W)

pub size_lifted : (W : List Waiting) → waiting_size (terms_of (lift_waiting W)) ≡ waiting_size (terms_of W)
unfolding waiting_size terms_of lift_waiting
size_lifted [] = refl
size_lifted (w ∷ W) = omega (arith, size_lift 1 0 w.term, size_lifted W)

pub scope_lifted : (W : List Waiting) → waiting_scope (terms_of (lift_waiting W)) ≡ waiting_scope (terms_of W)
unfolding waiting_scope terms_of lift_waiting
scope_lifted [] = refl
scope_lifted (w ∷ W) = omega (arith, scope_lift 1 0 w.term, scope_lifted W)

-- ---- The array.
-- each has at least two symbols
pub queue_length : {y : Bool} {t s q : List ℕ} {d limit base before top : ℕ} {W : List Waiting} → Queue y t s q d limit base before top W → top + top ≤ base + base + waiting_size (terms_of W)
unfolding waiting_size terms_of
queue_length (queue_none a) = omega arith
queue_length (queue_one {w = w} a b x m r) = omega (arith, queue_length r, positive w.term)

-- so many wait
pub queue_count : {y : Bool} {t s q : List ℕ} {d limit base before top : ℕ} {W : List Waiting} → Queue y t s q d limit base before top W → top ≡ base + length (places W)
unfolding places
queue_count (queue_none a) = omega arith
queue_count (queue_one a b x m r) = omega (arith, queue_count r)

-- the last
pub record Last (y : Bool) (t s q : List ℕ) (d limit base before top : ℕ) (W : List Waiting) : Type 0 where
  pub last : Waiting
  pub others : List Waiting
  pub is : W ≡ last ∷ others
  pub slot : Waits t s d limit (slot_in y q (top - 1)) last
  pub scope_below : (slot_of q (top - 1)).scope ≡ max before (waiting_scope (terms_of others))
  pub rest : Queue y t s q d limit base before (top - 1) others

module _ {y : Bool} {t s q : List ℕ} {d limit base before top : ℕ} where
  pub queue_empty : {W : List Waiting} → Queue y t s q d limit base before top W → top ≡ base → W ≡ []
  queue_empty (queue_none a) h = refl
  queue_empty (queue_one a b x m r) h = absurd (omega arith)

  pub queue_base : {W : List Waiting} → Queue y t s q d limit base before top W → base ≤ top
  queue_base (queue_none a) = omega arith
  queue_base (queue_one a b x m r) = omega arith

  pub queue_last : {W : List Waiting} → Queue y t s q d limit base before top W → (top ≡ base → ⊥) → Last y t s q d limit base before top W
  queue_last (queue_none a) h = absurd (h a)
  queue_last (queue_one {j = j} {w = w} {W = W} a b x m r) h =
      let i : top - 1 ≡ j = omega arith in
      record { last = w; others = W; is = refl; slot = rw i x; scope_below = rw i m; rest = rw i r }

-- ---- A waiting term.
module _ {t s : List ℕ} {d limit : ℕ} {v : Slot} {x : Waiting} (h : Waits t s d limit v x) where
  pub raw_size : size x.term ≡ size h.raw
  raw_size = rw h.seen (size_lift (d - v.depth) 0 (lift v.shift v.cut h.raw) ∙ size_lift v.shift v.cut h.raw)

  -- as it stands now
  now_closed : Closed d x.term
  now_closed = let e : v.depth + (d - v.depth) ≡ d = omega (arith, h.deep) in rw h.seen (rw e at (lift_closed (d - v.depth) 0 h.part.closed))

  pub now_part : d + scope x.term ≤ most_abstractors → Part d x.term
  now_part l = record { closed = now_closed; shallow = l; short = omega (arith, raw_size, size_lift v.shift v.cut h.raw, h.part.short) }

  -- written at the end of a frame
  pub waits_writable : {w : List ℕ} {to : ℕ} → length w ≡ longest_state → to + suc (size x.term) ≤ longest_state → d + scope x.term ≤ most_abstractors
      → Writable s w (v.at + 1) h.end v.shift v.cut (d - v.depth) to
  waits_writable l r m = record {
    work = l;
    raw = h.raw;
    stands = rw add-one h.stands;
    first = closed_coded h.part.closed h.part.shallow;
    second = rw h.seen at (closed_coded now_closed m);
    room = omega (arith, raw_size);
  }

  pub waits_written : {w w' : List ℕ} {to r : ℕ} → Puts 0xfe s w w' (v.at + 1) h.end v.shift v.cut (d - v.depth) to r → WrittenTerm 0xfe w w' to r x.term
  waits_written u = rw h.seen (u.all h.raw (rw add-one h.stands))

-- one abstractor passed
waits_deeper : {t s : List ℕ} {d limit : ℕ} {v : Slot} {w : Waiting} → Waits t s d limit v w → Waits t s (suc d) limit v (record { place = w.place; term = lift 1 0 w.term })
waits_deeper {d = d} {v = v} {w = w} x = record {
  raw = x.raw;
  end = x.end;
  stands = x.stands;
  inside = x.inside;
  origin = x.origin;
  shift_bound = x.shift_bound;
  cut_bound = x.cut_bound;
  part = x.part;
  deep = omega (arith, x.deep);
  is_place = x.is_place;
  seen = ap (lift 1 0) x.seen ∙ lift_fusion 1 0 (d - v.depth) 0 (lift v.shift v.cut x.raw) (omega arith) (omega arith) ∙ ap (λ n. lift n 0 (lift v.shift v.cut x.raw)) (omega (arith, x.deep));
}

pub queue_deeper : {y : Bool} {t s q : List ℕ} {d limit base before top : ℕ} {W : List Waiting} → Queue y t s q d limit base before top W → Queue y t s q (suc d) limit base before top (lift_waiting W)
unfolding lift_waiting
queue_deeper (queue_none a) = queue_none a
queue_deeper (queue_one {W = W} a b x m r) = queue_one {W = lift_waiting W} a b (waits_deeper x) (omega (arith, m, scope_lifted W)) (queue_deeper r)

-- other bytes, of which those below the limit are the same
pub queue_agree : {y : Bool} {t s s' q : List ℕ} {d limit limit' base before top : ℕ} {W : List Waiting} → Agree s s' 0 limit → limit ≤ length s' → limit ≤ limit'
    → Queue y t s q d limit base before top W → Queue y t s' q d limit' base before top W
queue_agree a l h (queue_none b) = queue_none b
queue_agree {limit = limit} {limit' = limit'} a l h (queue_one b c x m r) = queue_one b c (record {
  raw = x.raw;
  end = x.end;
  stands = stands_agree x.stands (agree_part a (omega arith) x.inside) (omega (arith, x.inside));
  inside = omega (arith, x.inside);
  origin = x.origin;
  shift_bound = x.shift_bound;
  cut_bound = x.cut_bound;
  part = x.part;
  deep = x.deep;
  is_place = x.is_place;
  seen = x.seen;
}) m (queue_agree a l h r)

-- another array, of which the slots below the top are the same
slot_same : {q q' : List ℕ} {k : ℕ} (j : ℕ) → Agree q q' 0 (6 * k) → j < k → slot_of q j ≡ slot_of q' j
slot_same {q} {q'} {k} j a h = rw (
  a.same (6 * j) (omega arith) (omega arith),
  a.same (6 * j + 1) (omega arith) (omega arith),
  a.same (6 * j + 2) (omega arith) (omega arith),
  a.same (6 * j + 3) (omega arith) (omega arith),
  a.same (6 * j + 4) (omega arith) (omega arith),
  a.same (6 * j + 5) (omega arith) (omega arith),
)

pub waits_at : {t s : List ℕ} {d limit : ℕ} {v v' : Slot} {w : Waiting} → v ≡ v' → Waits t s d limit v w → Waits t s d limit v' w
waits_at e x = rw (← e) x

-- a slot as it is seen
abbrev pub seen : Bool → Slot → Slot
seen y v = record { place = v.place; at = cond y v.place v.at; depth = v.depth; shift = v.shift; cut = v.cut; scope = v.scope }

pub queue_keep : {y : Bool} {t s q q' : List ℕ} {d limit base before top k : ℕ} {W : List Waiting} → Agree q q' 0 (6 * k) → top ≤ k → Queue y t s q d limit base before top W → Queue y t s q' d limit base before top W
queue_keep a h (queue_none b) = queue_none b
queue_keep {y = y} a h (queue_one {j = j} b c x m r) =
    let e = slot_same j a (omega arith) in
    queue_one b c (waits_at (ap (seen y) e) x) (sym (ap (λ u. u.scope) e) ∙ m) (queue_keep a (omega arith) r)

pub queue_before : {y : Bool} {t s q : List ℕ} {d limit base before before' top : ℕ} {W : List Waiting} → before ≡ before' → Queue y t s q d limit base before top W → Queue y t s q d limit base before' top W
queue_before e x = rw (← e) x

-- ---- Bytes at the end of the work array.
pub low_same : {q q' : List ℕ} {k : ℕ} (j : ℕ) → Agree q q' 0 (6 * k) → j ≤ k → low_of q j ≡ low_of q' j
unfolding low_of
low_same zero a h = refl
low_same (suc j) a h = ap (λ u. u.at) (slot_same j a (omega arith))

module _ (q : List ℕ) {t w : List ℕ} {reach base top : ℕ} (kept : (j : ℕ) → base ≤ j → j < top → KeptSlot t w q reach j) where
  -- the later, the lower
  pub descends : (i j : ℕ) → base ≤ j → j ≤ i → i ≤ top → low_of q i ≤ low_of q j
  unfolding low_of
  descends zero j a b c = let e : j ≡ 0 = omega arith in rw e (omega arith)
  descends (suc i) j a b c = elim (cmp j i) [
    | lo h ↦ omega (arith, (kept i (omega arith) (omega arith)).apart, descends i j a h (omega arith))
    | hi h ↦ let e : j ≡ suc i = omega arith in rw e (omega arith)
  ]

  -- other bytes, of which those at the end are the same where no frame was written, and another list that begins alike
  pub kept_through : {w' q' : List ℕ} {reach' : ℕ} → Agree q q' 0 (6 * top) → Agree w w' (max (low_of q top) reach') longest_state → length w ≡ longest_state → length w' ≡ longest_state → reach ≤ reach'
      → (j : ℕ) → base ≤ j → j < top → KeptSlot t w' q' reach' j
  unfolding low_of
  kept_through {w'} {q'} {reach'} a g l l' r j b c =
      let x = kept j b c in
      let e = slot_same j a c in
      moved (ap (λ u. u.place) e) (ap (λ u. u.at) e) (low_same j a (omega arith)) (record {
        term = x.term;
        end = x.end;
        stands = x.stands;
        apart = x.apart;
        there = λ h. stands_agree (x.there (omega arith)) (agree_part g (omega (arith, descends top (suc j) (omega arith) c (omega arith))) (omega (arith, stands_end (x.there (omega arith))))) (omega (arith, stands_end (x.there (omega arith))));
      })
    where
      moved : {place place' at at' before before' : ℕ} → place ≡ place' → at ≡ at' → before ≡ before' → Kept t w' reach' place at before → Kept t w' reach' place' at' before'
      moved e f g x = rw (← e, ← f, ← g) x
