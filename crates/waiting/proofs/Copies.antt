-- Copies lifted byte by byte.
-- Assumes nothing.
use Prim.Native.Nat.{ℕ, suc, ◌+◌, ◌-◌, ◌≤◌, ◌<◌}
use mathlib.Core.Path.{◌≡◌, refl, ap, sym, ◌∙◌}
use mathlib.Core.List.{List, ◌∷◌}
use native.Mathlib.Omega.{arith}
use native.Mathlib.Numerals.{add-one}
use lib.ListN.{length, get_or, set, drop, length-set, get_or-append, drop_of_length-le}
use lib.Seq.{sets, drop-cons, get_or-drop, get_or-set_other}
use borrow.Author.Tests.{lt-ltb, le-ltb}
use Rattle.calculus.specs.Terms.{Term, size, lift, lift_index}
use Rattle.calculus.proofs.Lift.{lo, hi, cmp, size_lift, index_low, index_high}
use Rattle.code.specs.Code.{encode, Coded, coded_var}
use Rattle.code.specs.Claims.{Stands}
use Rattle.code.proofs.RoundTrip.{length_encode, encode_bytes}
use Rattle.code.proofs.Parts.{Head, head_tau, head_var, head_app, head_abs, head, stands_start, stands_end, stands_unique}
use Rattle.indices.specs.Passes.{Replaced}
use Rattle.indices.proofs.Pending.{lift_byte}
use Rattle.texts.specs.Texts.{depth_in}
use Rattle.texts.proofs.Depths.{lifted_byte_lem}
use Rattle.waiting.specs.Writing.{Raised, Copied}

-- ---- One byte.
-- Past the cut-off is what is more than it and the abstractors in scope.
module _ (n low d b : ℕ) {x y : ℕ} (f : (b < 254 → x ≡ b) × (254 ≤ b → x ≡ 0)) (e : y ≡ x - low) where
  pub raised_up : d < y → Raised n (low + d) b (b + n)
  raised_up l = record { index = λ h. sym (index_high n (low + d) b (omega (arith, f.0 h))); operator = λ h. absurd (omega (arith, f.1 h)) }

  pub raised_small : d < y → (b < 254 → lift_index n (low + d) b < 256) → b + n < 256
  raised_small l g = elim (cmp 254 b) [
    | lo a ↦ absurd (omega (arith, f.1 a))
    | hi a ↦ omega (arith, g a, index_high n (low + d) b (omega (arith, f.0 a)))
  ]

  pub raised_not : y ≤ d → Raised n (low + d) b b
  raised_not l = record { index = λ h. sym (index_low n (low + d) b (omega (arith, f.0 h))); operator = λ h. refl }

module _ (n d b : ℕ) where
  index_fits : lift_byte n d b < 256 → b < 254 → lift_index n d b < 256
  unfolding lift_byte
  index_fits l h = rw (lt-ltb b 254 h) at l

  raised_byte : {r : ℕ} → Raised n d b r → r ≡ lift_byte n d b
  unfolding lift_byte
  raised_byte x = elim (cmp 254 b) [ lo a ↦ x.operator a ∙ rw (le-ltb b 254 a) | hi a ↦ x.index a ∙ rw (lt-ltb b 254 a) ]

-- ---- A term of one byte.
module _ {s : List ℕ} {p e : ℕ} {X : Term} (n c : ℕ) (h : Stands s p e X) (q : e ≡ p + 1) where
  pub one_index : Coded (lift n c X) → get_or s p 0 < 254 → lift_index n c (get_or s p 0) < 256
  unfolding lift
  one_index f l = go X (head h) f
    where
      go : (X : Term) → Head s p e X → Coded (lift n c X) → lift_index n c (get_or s p 0) < 256
      go X (head_tau b z) f = omega (arith, index_low n c (get_or s p 0) (omega arith))
      go X (head_var {k} b x y z) (coded_var u v) = rw b (omega arith)
      go X (head_app b k m) f = absurd (omega arith)
      go X (head_abs b k m) f = absurd (omega arith)

  pub one_lifted : {r : ℕ} → Raised n c (get_or s p 0) r → Replaced (lift n c) s (set s p r) p e
  unfolding lift encode
  one_lifted {r} x = record { bytes = λ t k. go t k (head k); same_length = length-set s p r }
    where
      go : (t : Term) → Stands s p e t → Head s p e t → set s p r ≡ sets s p (encode (lift n c t))
      go t k (head_tau b z) = ap (set s p) (x.index (omega arith) ∙ index_low n c (get_or s p 0) (omega arith) ∙ b)
      go t k (head_var b u v z) = ap (set s p) (x.index (omega arith) ∙ ap (lift_index n c) b)
      go t k (head_app b u v) = absurd (omega (arith, stands_start u, stands_start v))
      go t k (head_abs b u v) = absurd (omega (arith, stands_start u, stands_start v))

-- ---- All of them: what is lifted so far, followed by what is to be written, is the whole.
pub record Lifting (w₀ w : List ℕ) (from i n c : ℕ) (X : Term) : Type 0 where
  pub result : sets w (from + i) (drop i (encode (lift n c X))) ≡ sets w₀ from (encode (lift n c X))
  pub same_length : length w ≡ length w₀
  pub rest : (k : ℕ) → from + i ≤ k → get_or w k 0 ≡ get_or w₀ k 0

module _ {w₀ depths : List ℕ} {from e o n c : ℕ} (x : Copied w₀ depths from e o n c) where
  pub ends : (from ≤ e) × (o < length depths)
  ends = (omega (arith, stands_start x.stands), omega (arith, stands_start x.stands, x.stands.place, x.inside))

  pub lifting_start : Lifting w₀ w₀ from 0 n c x.term
  lifting_start = let q : from + 0 ≡ from = omega arith in record { result = rw q; same_length = refl; rest = λ k l. refl }

  module _ {w : List ℕ} {i : ℕ} (v : Lifting w₀ w from i n c x.term) where
    module _ (l : i < e - from) where
      inner : i < size x.term
      inner = omega (arith, x.stands.place)

      pub place_in : (from + i < 8192) × (o + i < length depths)
      place_in = (omega (arith, x.stands.place, inner, stands_end x.stands, x.work), omega (arith, x.inside, inner))

      depth_here : get_or depths (o + i) 0 ≡ get_or depths o 0 + depth_in x.term i
      depth_here = x.deep i inner

      pub depth_more : get_or depths o 0 ≤ get_or depths (o + i) 0
      depth_more = omega (arith, depth_here)

      byte_here : get_or w (from + i) 0 ≡ get_or (encode x.term) i 0
      byte_here = v.rest (from + i) (omega arith) ∙ sym (get_or-drop from w₀ i 0) ∙ ap (λ s. get_or s i 0) x.stands.bytes
          ∙ get_or-append (encode x.term) x.stands.rest 0 i (omega (arith, length_encode x.term, inner))

      byte_next : get_or (encode (lift n c x.term)) i 0 ≡ lift_byte n (c + depth_in x.term i) (get_or w (from + i) 0)
      byte_next = rw byte_here (lifted_byte_lem n c x.stands.coded i inner)

      byte_fits : lift_byte n (c + depth_in x.term i) (get_or w (from + i) 0) < 256
      byte_fits = rw byte_next at (encode_bytes x.coded i)

      known : c + (get_or depths (o + i) 0 - get_or depths o 0) ≡ c + depth_in x.term i
      known = omega (arith, depth_here)

      pub lifting_fits : get_or w (from + i) 0 < 254 → lift_index n (c + (get_or depths (o + i) 0 - get_or depths o 0)) (get_or w (from + i) 0) < 256
      lifting_fits h = rw known (index_fits n (c + depth_in x.term i) (get_or w (from + i) 0) byte_fits h)

      pub lifting_next : {r : ℕ} → Raised n (c + (get_or depths (o + i) 0 - get_or depths o 0)) (get_or w (from + i) 0) r → Lifting w₀ (set w (from + i) r) from (i + 1) n c x.term
      lifting_next {r} z =
          let q : r ≡ lift_byte n (c + depth_in x.term i) (get_or w (from + i) 0) = raised_byte n (c + depth_in x.term i) (get_or w (from + i) 0) (rw known at z) in
          let next : drop i (encode (lift n c x.term)) ≡ r ∷ drop (i + 1) (encode (lift n c x.term)) = drop-cons (encode (lift n c x.term)) i 0 (omega (arith, length_encode (lift n c x.term), size_lift n c x.term, inner)) ∙ rw (byte_next, q, add-one i) in
          let y : suc (from + i) ≡ from + (i + 1) = omega arith in
          record {
            result = ap (λ k. sets (set w (from + i) r) k (drop (i + 1) (encode (lift n c x.term)))) (sym y) ∙ sym (ap (sets w (from + i)) next) ∙ v.result;
            same_length = length-set w (from + i) r ∙ v.same_length;
            rest = λ k h. get_or-set_other w (from + i) k r 0 (λ z. omega arith) ∙ v.rest k (omega arith);
          }

    pub lifting_end : e - from ≤ i → Replaced (lift n c) w₀ w from e
    lifting_end l = record {
      bytes = λ t h. rw (stands_unique h x.stands).0 (rw (drop_of_length-le (encode (lift n c x.term)) {i = i} (omega (arith, length_encode (lift n c x.term), size_lift n c x.term, x.stands.place))) at v.result);
      same_length = v.same_length;
    }
