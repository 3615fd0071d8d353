-- An abstractor entered, as a whole: what its functions are asked, and what they return.
-- Assumes nothing.
use Prim.Native.Nat.{ℕ, suc, ◌+◌, ◌-◌, ◌*◌, ◌≤◌, ◌<◌, max}
use mathlib.Core.Path.{◌≡◌, refl, ap, sym, ◌∙◌}
use mathlib.Core.Bool.{Bool, true, false, cond}
use mathlib.Core.Logic.{◌⊎◌, inl, inr}
use mathlib.Core.List.{List}
use native.Mathlib.Omega.{arith}
use lib.ListN.{length, get_or, length-set}
use Rattle.std.specs.Prelude.{Some}
use Rattle.calculus.specs.Terms.{Term, size}
use Rattle.calculus.specs.Frames.{Frame}
use Rattle.code.specs.Limits.{longest_state, most_abstractors}
use Rattle.code.proofs.Parts.{stands_start}
use Rattle.frames.specs.Stored.{Agree}
use Rattle.frames.specs.declared.FrameRecord.{FrameRecord}
use Rattle.frames.proofs.Entries.{agree_refl, agree_part, agree_set}
use Rattle.compare.specs.Compares.{Comparing}
use Rattle.texts.proofs.Origins.{origin_inside}
use Rattle.verdict.specs.Verdict.{Progress, Run}
use Rattle.waiting.specs.Waiting.{Waiting, slot_of}
use Rattle.waiting.specs.Writing.{PutAsked, Puts}
use Rattle.waiting.specs.declared.Slot.{Slot}
use Rattle.waiting.proofs.Texts.{positive}
use Rattle.waiting.proofs.Queues.{seen}
use Rattle.walk.specs.State.{Text, Arrays, StateAt}
use Rattle.walk.specs.Clauses.{past_of, Becomes, comes_now, comes_compared, Keeps, Onward, AbstractorAt, SizesKnown, DepthsKnown, Wagons}
use Rattle.walk.specs.declared.WalkState.{WalkState}
use Rattle.walk.specs.declared.Turned.{Turned}
use Rattle.walk.specs.declared.Turned.TheVariants.{State, Compare}
use Rattle.walk.proofs.States.{no_confusion, entry_arrays, Room, room, origin_bound}
use Rattle.walk.proofs.Enter.{Taken, two_abs, origins_abs, fewer_entries, past_bounds, further, domain_writable, domain_written, alone_room, alone_becomes, last_size, applied_asked, applied_past, domain_asked, pair_below, pair_end, comparing, last_copied, taken_copied, copied_size, copied_becomes, last_waiting, taken_waiting, one_waits, waiting_size_lem, waiting_settles}

settled_to : {x : Text} {m : Arrays} {f : FrameRecord} {s : WalkState} {a b : List ℕ} {r r' : Turned} {n : ℕ} {y : Run} → r ≡ r' → Becomes x m f s a b r' n y → Becomes x m f s a b r n y
settled_to e h = rw e h

module _ {x : Text} {m : Arrays} {f : FrameRecord} {s : WalkState} {n : ℕ} (g : AbstractorAt x m f s n) where
  module _ {R : Frame} {W Q : List Waiting} {B : Term} {p : Progress} (z : StateAt x m f s R W Q B p) where
    pub has_room : Room f s B
    has_room = room z (g.wagon.fitted R W Q B p z)

    pub size_here : n ≡ size (two_abs z has_room g.high g.no_app).one
    size_here = g.domain_size _ (origins_abs z has_room g.high g.no_app).0

  abbrev pub here : StateAt x m f s g.wagon.stated.frame g.wagon.stated.ww g.wagon.stated.qq g.wagon.stated.body g.wagon.stated.progress
  here = g.wagon.stated.at

  pub abs_bounds : (n < 65536) × (s.from < 65536) × (s.origin < 65536) × (s.origin + 1 < 65536) × (f.len < most_abstractors) × (s.cut ≤ f.len) × (f.end + 1 < 65536)
  abs_bounds =
      let b = past_bounds here (has_room here) g.high g.no_app (size_here here) in
      (b.0, b.1, b.2, omega (arith, origin_bound here), fewer_entries here (has_room here) g.high g.no_app, here.cut_bound, omega (arith, here.held.stored.inside))

  -- what stays, and what goes on
  kept : (at : ℕ) {w₂ : List ℕ} {e : ℕ} → length w₂ ≡ longest_state → Agree m.work w₂ 0 f.end → Agree m.work w₂ e longest_state → Keeps m (entry_arrays m w₂ f.len at (s.origin + 1) e) f.len f.end s.bottom
  kept at l a b = record {
    work_long = l;
    work_below = a;
    work_above = agree_part b (omega arith) (omega arith);
    reach_grows = omega arith;
    list_long = refl;
    list_below = agree_refl;
    domains_long = length-set m.domains f.len at;
    domains_below = agree_set m.domains f.len at (omega arith);
    origins_long = length-set m.origins f.len (s.origin + 1);
    origins_below = agree_set m.origins f.len (s.origin + 1) (omega arith);
  }

  goes : {cut middle top total widest next comparisons b : ℕ} → f.end ≤ b → Onward f s (State (past_of s n cut middle top total widest next comparisons) (Some b))
  goes h = record { end_grows = h; len_grows = omega arith; same_bottom = refl; further = further here (has_room here) g.high g.no_app (size_here here) }

  -- nothing waits
  pub alone_asked : s.bottom ≡ s.top → {depths : List ℕ} → DepthsKnown x.term depths → PutAsked x.term depths m.work s.in_term (s.from + 1) (s.from + 1 + n) (s.origin + 1) f.end s.shift s.cut 0
  alone_asked q d = domain_writable here (has_room here) g.high g.no_app (size_here here) here.held.stored.work agree_refl (omega arith) (alone_room here (has_room here) g.high g.no_app (size_here here) q) d

  pub alone_wagons : {w₂ : List ℕ} {b : ℕ} (a c : List ℕ) → s.bottom ≡ s.top → Puts 0xff (cond s.in_term x.term m.work) m.work w₂ (s.from + 1) (s.from + 1 + n) s.shift s.cut 0 f.end b
      → Wagons x m (entry_arrays m w₂ f.len (f.end + 1) (s.origin + 1) b) f s a c (State (past_of s n (s.cut + 1) s.middle s.top s.size s.scope s.next s.comparisons) (Some b))
  alone_wagons a c q u =
      let t = domain_written here (has_room here) g.high g.no_app (size_here here) here.held.stored.work agree_refl u in
      record {
        keeps = kept (f.end + 1) t.work t.below t.above;
        onward = goes (omega (arith, stands_start t.stands));
        all = λ R W Q B p z. comes_now (alone_becomes z (has_room z) g.high g.no_app (size_here z) q a c (domain_written z (has_room z) g.high g.no_app (size_here z) z.held.stored.work agree_refl u));
      }

  -- something waits
  pub one_listed : s.top ≤ s.middle → (s.bottom ≡ s.top → ⊥) → (1 ≤ s.top) × (6 * s.top ≤ length m.list)
  one_listed y ne = ((one_waits here (has_room here) g.high g.no_app (size_here here) y ne).1, here.held.listed)

  -- the last that waits is written before U
  module _ {b : Bool} {v : Slot} {w : Waiting} (l : Taken x m f n b v w) where
    last_inside : (v.place + 1 < length x.term) × (v.depth ≤ f.len)
    last_inside = (omega (arith, origin_inside l.slot.origin, positive l.slot.raw), l.slot.deep)

    module _ {sizes : List ℕ} (known : SizesKnown x.term sizes) {k : ℕ} (h : k ≡ get_or sizes (v.place + 1) 0) where
      last_known : k ≡ size l.slot.raw
      last_known = h ∙ known.sizes_are _ _ l.slot.origin

      last_asked : (b ≡ false → (v.at + 1 + k ≤ f.end) ⊎ (f.end + 1 + k ≤ v.at + 1)) → {depths : List ℕ} → DepthsKnown x.term depths
          → PutAsked x.term depths m.work b (v.at + 1) (v.at + 1 + k) (v.place + 1) f.end v.shift v.cut (f.len - v.depth)
      last_asked apart d = applied_asked here (has_room here) g.high g.no_app (size_here here) l last_known apart d

      module _ {w₁ : List ℕ} {a : ℕ} (u : Puts 0xfe (cond b x.term m.work) m.work w₁ (v.at + 1) (v.at + 1 + k) v.shift v.cut (f.len - v.depth) f.end a) where
        pub pair_middle : a + 1 < 65536
        pair_middle = omega (arith, applied_past here (has_room here) g.high g.no_app (size_here here) l last_known u)

        pub pair_domain : {depths : List ℕ} → DepthsKnown x.term depths → PutAsked x.term depths w₁ s.in_term (s.from + 1) (s.from + 1 + n) (s.origin + 1) a s.shift s.cut 0
        pair_domain d = domain_asked here (has_room here) g.high g.no_app (size_here here) l last_known u d

        module _ {w₂ : List ℕ} {c : ℕ} (t : Puts 0xff (cond s.in_term x.term w₁) w₁ w₂ (s.from + 1) (s.from + 1 + n) s.shift s.cut 0 a c) where
          pair_ends : (c ≡ f.end + suc k + suc n) × (f.end ≤ c)
          pair_ends = pair_end here (has_room here) g.high g.no_app (size_here here) l last_known u t

          pair_kept : Keeps m (entry_arrays m w₂ f.len (a + 1) (s.origin + 1) c) f.len f.end s.bottom
          pair_kept = let p = pair_below here (has_room here) g.high g.no_app (size_here here) l last_known u t in kept (a + 1) p.0 p.1 p.2

          pair_comparing : Comparing x.file w₂ s.next f a c
          pair_comparing = comparing here (has_room here) g.high g.no_app (size_here here) l last_known u t

  module _ {v : Slot} (q : v ≡ slot_of m.list (s.top - 1)) where
    -- the last of Y
    module _ (y : s.middle < s.top) where
      abbrev pub copied_last : {R : Frame} {W Q : List Waiting} {B : Term} {p : Progress} (z : StateAt x m f s R W Q B p) → Taken x m f n false v (last_copied z (has_room z) g.high g.no_app (size_here z) y).last
      copied_last z = taken_copied z (has_room z) g.high g.no_app (size_here z) y q

      pub copied_slot : (v.place + 1 < length x.term) × (v.depth ≤ f.len)
      copied_slot = last_inside (copied_last here)

      module _ {sizes : List ℕ} (known : SizesKnown x.term sizes) {k : ℕ} (h : k ≡ get_or sizes (v.place + 1) 0) where
        pub copied_bounds : (1 + k ≤ s.size) × (v.at + 1 + k ≤ f.end)
        copied_bounds = copied_size here (has_room here) g.high g.no_app (size_here here) y q (last_known (copied_last here) known h)

        pub copied_asked : {depths : List ℕ} → DepthsKnown x.term depths → PutAsked x.term depths m.work false (v.at + 1) (v.at + 1 + k) (v.place + 1) f.end v.shift v.cut (f.len - v.depth)
        copied_asked d = last_asked (copied_last here) known h (λ i. inl copied_bounds.1) d

        pub copied_wagons : {w₁ w₂ : List ℕ} {a b : ℕ} → Puts 0xfe m.work m.work w₁ (v.at + 1) (v.at + 1 + k) v.shift v.cut (f.len - v.depth) f.end a
            → Puts 0xff (cond s.in_term x.term w₁) w₁ w₂ (s.from + 1) (s.from + 1 + n) s.shift s.cut 0 a b
            → (c d : List ℕ) → Wagons x m (entry_arrays m w₂ f.len (a + 1) (s.origin + 1) b) f s c d (State (past_of s n (s.cut + 1) s.middle (s.top - 1) (s.size - (1 + k)) v.scope s.next s.comparisons) (Some b))
        copied_wagons u t c d = record {
          keeps = pair_kept (copied_last here) known h u t;
          onward = goes (pair_ends (copied_last here) known h u t).1;
          all = λ R W Q B p z. comes_now (copied_becomes z (has_room z) g.high g.no_app (size_here z) y q (last_known (copied_last z) known h) u t c d);
        }

    -- the last of W
    module _ (y : s.top ≤ s.middle) (ne : s.bottom ≡ s.top → ⊥) where
      abbrev pub waiting_last : (b : Bool) → (b ≡ false → m.reach ≤ v.at) → {R : Frame} {W Q : List Waiting} {B : Term} {p : Progress} (z : StateAt x m f s R W Q B p) → Taken x m f n b (seen b v) (last_waiting z (has_room z) g.high g.no_app (size_here z) y ne).last
      waiting_last b i z = taken_waiting z (has_room z) g.high g.no_app (size_here z) y ne q b i

      pub waiting_slot : (v.place + 1 < length x.term) × (v.depth ≤ f.len)
      waiting_slot = last_inside (waiting_last true (λ i. no_confusion (sym i)) here)

      module _ {sizes : List ℕ} (known : SizesKnown x.term sizes) {k : ℕ} (h : k ≡ get_or sizes (v.place + 1) 0) where
        pub waiting_bounds : (f.end + (1 + k) + (1 + n) ≤ longest_state) × (1 + k ≤ s.size)
        waiting_bounds =
            let l = waiting_last true (λ i. no_confusion (sym i)) here in
            let e = last_known l known h in
            (omega (arith, l.fits, last_size here (has_room here) g.high g.no_app (size_here here) l e), waiting_size_lem here (has_room here) g.high g.no_app (size_here here) y ne q (λ i. no_confusion (sym i)) e)

        -- b says that it is read from the term, since frames were or will be written past its bytes in the work array
        module _ {b : Bool} (i : b ≡ false → max m.reach (f.end + (1 + k) + (1 + n)) ≤ v.at) where
          pub waiting_asked : {depths : List ℕ} → DepthsKnown x.term depths
              → PutAsked x.term depths m.work b (cond b v.place v.at + 1) (cond b v.place v.at + 1 + k) (v.place + 1) f.end v.shift v.cut (f.len - v.depth)
          waiting_asked d = last_asked (waiting_last b (λ j. omega (arith, i j)) here) known h (λ j. inr (omega (arith, i j, ap (λ k. cond k v.place v.at) j))) d

          module _ {w₁ w₂ : List ℕ} {a c : ℕ} (u : Puts 0xfe (cond b x.term m.work) m.work w₁ (cond b v.place v.at + 1) (cond b v.place v.at + 1 + k) v.shift v.cut (f.len - v.depth) f.end a)
              (t : Puts 0xff (cond s.in_term x.term w₁) w₁ w₂ (s.from + 1) (s.from + 1 + n) s.shift s.cut 0 a c) where
            abbrev Next : WalkState
            Next = past_of s n (s.cut + 1) (s.top - 1) (s.top - 1) (s.size - (1 + k)) v.scope s.next s.comparisons

            -- the comparison is due, and then the state that follows
            pub waiting_wagons : (l r : List ℕ) → Wagons x m (entry_arrays m w₂ f.len (a + 1) (s.origin + 1) (f.end + (1 + k) + (1 + n))) f s l r (Compare Next v.place a c)
            waiting_wagons l r =
                let o = waiting_last b (λ j. omega (arith, i j)) here in
                ends_at (omega (arith, (pair_ends o known h u t).0)) (record {
                  keeps = pair_kept o known h u t;
                  onward = record { end_grows = (pair_ends o known h u t).1; len_grows = omega arith; same_bottom = refl; further = further here (has_room here) g.high g.no_app (size_here here) };
                  all = λ R W Q B p z. comes_compared (pair_comparing o known h u t) (λ e l r d. waiting_settles z (has_room z) g.high g.no_app (size_here z) y ne q (λ j. omega (arith, i j)) (last_known (waiting_last b (λ j. omega (arith, i j)) z) known h) u t e d);
                })
              where
                ends_at : {i e : ℕ} {l r : List ℕ} {y : Turned} → i ≡ e → Wagons x m (entry_arrays m w₂ f.len (a + 1) (s.origin + 1) i) f s l r y → Wagons x m (entry_arrays m w₂ f.len (a + 1) (s.origin + 1) e) f s l r y
                ends_at e o = rw (← e) o
