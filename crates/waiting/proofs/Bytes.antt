-- Bytes moved and written, and numbers noted.
-- Assumes nothing.
use Prim.Native.Nat.{ℕ, ◌+◌, ◌-◌, ◌≤◌, ◌<◌}
use mathlib.Core.Path.{◌≡◌, refl, ap, sym, ◌∙◌}
use mathlib.Core.Bool.{Bool, true, false, cond}
use mathlib.Core.Logic.{◌⊎◌, inl, inr, ⊎_elim}
use mathlib.Core.List.{List, ◌++◌}
use native.Mathlib.Omega.{arith}
use native.Mathlib.Numerals.{add-one}
use lib.ListN.{length, get_or, set, take, drop, length-set, length-take, length-drop, take-append-drop}
use lib.Seq.{get_or-set_same, get_or-set_other, set-set, ext_get_or, get_or-take, get_or-drop}
use Rattle.calculus.specs.Terms.{Term, lift, lift_index}
use Rattle.calculus.proofs.Lift.{lo, hi, cmp, size_lift}
use Rattle.code.specs.Limits.{longest_state}
use Rattle.code.specs.Code.{encode}
use Rattle.code.specs.Claims.{Stands}
use Rattle.code.proofs.RoundTrip.{length_encode}
use Rattle.code.proofs.Parts.{stands_start, stands_end, stands_taken, stands_unique}
use Rattle.frames.specs.Stored.{Agree}
use Rattle.frames.proofs.Entries.{agree_refl, agree_part, agree_trans, agree_set, agree_take}
use Rattle.parts.proofs.Stores.{drop_sets}
use Rattle.indices.specs.Passes.{Replaced}
use Rattle.indices.proofs.Replace.{lifted_stands, before_same}
use Rattle.texts.proofs.Origins.{origin_lift, origin_inside}
use Rattle.texts.proofs.Depths.{origin_depth}
use Rattle.waiting.specs.Writing.{Moved, Raised, Copied, Placed, Writable, Puts}
use Rattle.waiting.proofs.Copies.{one_index, one_lifted}

-- ---- Bytes moved.
-- a store below what is looked at
agree_below : (w : List ℕ) {p e : ℕ} (i b : ℕ) → i < p → Agree w (set w i b) p e
agree_below w i b h = record { same = λ j f g. get_or-set_other w i j b 0 (λ z. omega arith) }

pub moved_none : (s w : List ℕ) (p to : ℕ) → Moved s w w p 0 to
moved_none s w p to = record { same_length = refl; below = agree_refl; above = agree_refl; same = λ i h. absurd (omega arith) }

pub moved_more : {s w w' : List ℕ} {p i to : ℕ} (v : ℕ) → to + i < length w → v ≡ get_or s (p + i) 0 → Moved s w w' p i to → Moved s w (set w' (to + i) v) p (i + 1) to
moved_more {s} {w} {w'} {p} {i} {to} v h e m = record {
  same_length = length-set w' (to + i) v ∙ m.same_length;
  below = agree_trans m.below (agree_set w' (to + i) v (omega arith));
  above = agree_trans (agree_part m.above (omega arith) (omega arith)) (agree_below w' (to + i) v (omega arith));
  same = λ j g. elim (cmp i j) [
    | lo a ↦ let q : j ≡ i = omega arith in rw q (get_or-set_same w' (to + i) v 0 (omega (arith, m.same_length)) ∙ e)
    | hi a ↦ get_or-set_other w' (to + i) (to + j) v 0 (λ z. omega arith) ∙ m.same j a
  ];
}

-- A term stands where its bytes stand.
pub stands_same : {s w : List ℕ} {p e to : ℕ} {K : Term} → ((i : ℕ) → i < e - p → get_or w (to + i) 0 ≡ get_or s (p + i) 0) → to + (e - p) ≤ length w → Stands s p e K → Stands w to (to + (e - p)) K
stands_same {s} {w} {p} {e} {to} {K} m l h = record {
  rest = drop (e - p) (drop to w);
  bytes = sym (take-append-drop (e - p) (drop to w)) ∙ ap (◌++ drop (e - p) (drop to w)) (part ∙ stands_taken h);
  coded = h.coded;
  place = omega (arith, h.place);
}
  where
    cut : (x : List ℕ) (i : ℕ) → i + (e - p) ≤ length x → length (take (e - p) (drop i x)) ≡ e - p
    cut x i f = simp (length-take, length-drop) (omega arith)

    at : (x : List ℕ) (j i : ℕ) → i < e - p → get_or (take (e - p) (drop j x)) i 0 ≡ get_or x (j + i) 0
    at x j i f = get_or-take (e - p) (drop j x) i 0 f ∙ get_or-drop j x i 0

    low : p + (e - p) ≤ length s
    low = omega (arith, stands_end h, stands_start h)

    part : take (e - p) (drop to w) ≡ take (e - p) (drop p s)
    part = ext_get_or 0 (take (e - p) (drop to w)) (take (e - p) (drop p s)) (cut w to l ∙ sym (cut s p low))
        (λ i f. let n : i < e - p = rw (cut w to l) at f in at w to i n ∙ m i n ∙ sym (at s p i n))

stands_moved : {s w w' : List ℕ} {p e to : ℕ} {K : Term} → Moved s w w' p (e - p) to → to + (e - p) ≤ length w → Stands s p e K → Stands w' to (to + (e - p)) K
stands_moved m l h = stands_same m.same (omega (arith, m.same_length)) h

-- A store beside what is moved makes no difference.
pub moved_mark : (b : Bool) (t w : List ℕ) (i v : ℕ) {w₁ : List ℕ} {p n to : ℕ} → (b ≡ false → (p + n ≤ i) ⊎ (i < p)) → Moved (cond b t (set w i v)) (set w i v) w₁ p n to → Moved (cond b t w) (set w i v) w₁ p n to
moved_mark true t w i v h m = m
moved_mark false t w i v {p = p} h m = record { same_length = m.same_length; below = m.below; above = m.above; same = λ j g. m.same j g ∙ get_or-set_other w i (p + j) v 0 (λ z. ⊎_elim (λ a. omega arith) (λ a. omega arith) (h refl)) }

-- ---- A mark and a term written.
-- what is behind a term that is lifted in place
after_same : (n c : ℕ) {w w' : List ℕ} {from e : ℕ} {t : Term} → Replaced (lift n c) w w' from e → Stands w from e t → {end : ℕ} → Agree w w' e end
after_same n c {w} {w'} {from} {e} {t} r h = record {
  same = λ i f g. let q : e + (i - e) ≡ i = omega arith in
      ap (λ j. get_or w' j 0) (sym q) ∙ sym (get_or-drop e w' (i - e) 0) ∙ ap (λ l. get_or l (i - e) 0) (ap (drop e) (r.bytes t h) ∙ drop_sets (encode (lift n c t)) w from e (omega (arith, length_encode (lift n c t), size_lift n c t, h.place))) ∙ get_or-drop e w (i - e) 0 ∙ ap (λ j. get_or w j 0) q;
}

module _ (mark : ℕ) {p e n c k to : ℕ} {s w : List ℕ} (x : Writable s w p e n c k to) where
  pub whole : (p ≤ e) × (e ≤ length s) × (to + 1 + (e - p) ≤ longest_state) × (p < e)
  whole = (omega (arith, x.stands.place), stands_end x.stands, omega (arith, x.stands.place, x.room), stands_start x.stands)

  module _ {w₁ : List ℕ} (m : Moved s (set w to mark) w₁ p (e - p) (to + 1)) where
    copied : Stands w₁ (to + 1) (to + 1 + (e - p)) x.raw
    copied = stands_moved m (omega (arith, whole.2, length-set w to mark, x.work)) x.stands

    copied_length : length w₁ ≡ longest_state
    copied_length = m.same_length ∙ length-set w to mark ∙ x.work

    pub first_asked : {t depths : List ℕ} {o : ℕ} → Placed t depths s p e o → Copied w₁ depths (to + 1) (to + 1 + (e - p)) o n c
    first_asked g = let y = g.origin x.raw x.stands in
        record { work = copied_length; term = x.raw; stands = copied; coded = x.first; inside = omega (arith, origin_inside y, g.long); deep = origin_depth g.deep y }

    module _ {w₂ : List ℕ} (r : Replaced (lift n c) w₁ w₂ (to + 1) (to + 1 + (e - p))) where
      once : Stands w₂ (to + 1) (to + 1 + (e - p)) (lift n c x.raw)
      once = lifted_stands n c r copied x.first

      pub second_asked : {t depths : List ℕ} {o : ℕ} → Placed t depths s p e o → Copied w₂ depths (to + 1) (to + 1 + (e - p)) o k 0
      second_asked g = let y = origin_lift n c (g.origin x.raw x.stands) in
          record { work = r.same_length ∙ copied_length; term = lift n c x.raw; stands = once; coded = x.second; inside = omega (arith, origin_inside y, g.long); deep = origin_depth g.deep y }

      module _ {w₃ : List ℕ} (q : Replaced (lift k 0) w₂ w₃ (to + 1) (to + 1 + (e - p))) where
        twice : Stands w₃ (to + 1) (to + 1 + (e - p)) (lift k 0 (lift n c x.raw))
        twice = lifted_stands k 0 q once x.second

        front : Agree w₁ w₃ 0 (to + 1)
        front = agree_trans (agree_take (to + 1) (before_same r copied (to + 1) (omega arith)))
            (agree_take (to + 1) (before_same q once (to + 1) (omega arith)))

        back : Agree w₁ w₃ (to + 1 + (e - p)) longest_state
        back = agree_trans (after_same n c r copied) (after_same k 0 q once)

        pub puts : Puts mark s w w₃ p e n c k to (to + 1 + (e - p))
        puts = record {
          all = λ K h. rw (stands_unique h x.stands).0 (record {
            work = q.same_length ∙ r.same_length ∙ copied_length;
            below = agree_trans (agree_trans (agree_set w to mark (omega arith)) (agree_part m.below (omega arith) (omega arith))) (agree_part front (omega arith) (omega arith));
            above = agree_trans (agree_below w to mark (omega arith)) (agree_trans m.above back);
            marked = front.same to (omega arith) (omega arith) ∙ m.below.same to (omega arith) (omega arith) ∙ get_or-set_same w to mark 0 (omega (arith, x.work, whole.2));
            stands = rw (← add-one to) twice;
          });
        }

  -- ---- One byte: copied, lifted and lifted again where it stands.
  module _ (z : e - p ≡ 1) {b : ℕ} (qb : b ≡ get_or s p 0) where
    one_end : e ≡ p + 1
    one_end = omega (arith, whole.3)

    pub byte_asked : b < 254 → lift_index n c b < 256
    byte_asked l = rw qb (one_index n c x.stands one_end x.first (rw qb at l))

    room : to + 1 < length (set w to mark)
    room = omega (arith, whole.2, length-set w to mark, x.work)

    there : (r : ℕ) → get_or (set (set w to mark) (to + 1) r) (to + 1) 0 ≡ r
    there r = get_or-set_same (set w to mark) (to + 1) r 0 room

    one_moved : Moved s (set w to mark) (set (set w to mark) (to + 1) b) p (e - p) (to + 1)
    one_moved = record {
      same_length = length-set (set w to mark) (to + 1) b;
      below = agree_set (set w to mark) (to + 1) b (omega arith);
      above = agree_below (set w to mark) (to + 1) b (omega arith);
      same = λ i g. let q : to + 1 + i ≡ to + 1 = omega arith in let y : p ≡ p + i = omega arith in
          ap (λ j. get_or (set (set w to mark) (to + 1) b) j 0) q ∙ there b ∙ qb ∙ ap (λ j. get_or s j 0) y;
    }

    module _ {b₁ : ℕ} (f : Raised n c b b₁) where
      one_first : Replaced (lift n c) (set (set w to mark) (to + 1) b) (set (set w to mark) (to + 1) b₁) (to + 1) (to + 1 + (e - p))
      one_first = rw (set-set (set w to mark) (to + 1) b b₁) at (one_lifted n c (copied one_moved) (omega arith) {r = b₁} (rw (there b) f))

      pub again_asked : b₁ < 254 → lift_index k 0 b₁ < 256
      again_asked l = rw (there b₁) at (one_index k 0 (once one_moved one_first) (omega arith) x.second (rw (there b₁) l))

      pub one_puts : {b₂ : ℕ} → Raised k 0 b₁ b₂ → Puts mark s w (set (set w to mark) (to + 1) b₂) p e n c k to (to + 1 + (e - p))
      one_puts {b₂} g = puts one_moved one_first (rw (set-set (set w to mark) (to + 1) b₁ b₂) at (one_lifted k 0 (once one_moved one_first) (omega arith) {r = b₂} (rw (there b₁) g)))

-- ---- Old and new place apart.
module _ {p e to : ℕ} (l : p ≤ e) where
  pub apart_copy : (e ≤ to) ⊎ (to + 1 + (e - p) ≤ p) → (p + (e - p) ≤ to + 1) ⊎ (to + 1 + (e - p) ≤ p)
  apart_copy = ⊎_elim (λ a. inl (omega arith)) (λ a. inr a)

  pub apart_mark : (e ≤ to) ⊎ (to + 1 + (e - p) ≤ p) → (p + (e - p) ≤ to) ⊎ (to < p)
  apart_mark = ⊎_elim (λ a. inl (omega arith)) (λ a. inr (omega arith))

-- ---- From the term, or from the work array.
pub source_length : (t w : List ℕ) (b : Bool) (i v : ℕ) → length (cond b t (set w i v)) ≡ length (cond b t w)
source_length t w true i v = refl
source_length t w false i v = length-set w i v
