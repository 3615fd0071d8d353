-- The bytes of an entry and of entries one after the other.
-- Assumes nothing.
use Prim.Native.Nat.{ℕ, suc, ◌+◌, ◌-◌, ◌≤◌, ◌<◌}
use mathlib.Core.Path.{◌≡◌, refl, ap, sym, ◌∙◌}
use mathlib.Core.List.{List, ◌++◌}
use native.Mathlib.Omega.{arith}
use lib.ListN.{length, get_or, set, take, drop, length-take, length-drop, take-append-drop}
use lib.Seq.{ext_get_or, get_or-take, get_or-drop, get_or-set_other}
use Rattle.calculus.specs.Terms.{Term}
use Rattle.calculus.specs.Frames.{Entry, single, Frame, depth}
use Rattle.code.specs.Claims.{Stands}
use Rattle.code.proofs.Parts.{stands_start, stands_end, stands_taken, stands_unique}
use Rattle.verdict.specs.Bounds.{frame_size}
use Rattle.frames.specs.Stored.{EntryBytes, bytes_single, bytes_pair, Entries, no_entry, one_entry, Agree}

-- ---- An entry.
pub bytes_start : {w : List ℕ} {p e : ℕ} {x : Entry} → EntryBytes w p x e → suc p < e
bytes_start (bytes_single b u) = stands_start u
bytes_start (bytes_pair b k c u) = omega (arith, stands_start k, stands_start u)

pub bytes_end : {w : List ℕ} {p e : ℕ} {x : Entry} → EntryBytes w p x e → e ≤ length w
bytes_end (bytes_single b u) = stands_end u
bytes_end (bytes_pair b k c u) = stands_end u

pub bytes_unique : {w : List ℕ} {p e e' : ℕ} {x y : Entry} → EntryBytes w p x e → EntryBytes w p y e' → (x ≡ y) × (e ≡ e')
bytes_unique (bytes_single b u) (bytes_single b' u') = let q = stands_unique u u' in (ap single q.0, q.1)
bytes_unique (bytes_single b u) (bytes_pair b' k' c' u') = absurd (omega arith)
bytes_unique (bytes_pair b k c u) (bytes_single b' u') = absurd (omega arith)
bytes_unique {w} {p} {e} {e'} (bytes_pair {m = m} {K = K} {U = U} b k c u) (bytes_pair {m = m'} {K = K'} {U = U'} b' k' c' u') =
    let q = stands_unique k k' in
    let v : Stands w (suc m) e' U' = rw q.1 u' in
    let z = stands_unique u v in
    let x : K ≡ K' = q.0 in
    let y : U ≡ U' = z.0 in
    (cc, z.1)

-- ---- The bytes of a part decide what stands there.
pub agree_part : {w v : List ℕ} {p e p' e' : ℕ} → Agree w v p e → p ≤ p' → e' ≤ e → Agree w v p' e'
agree_part a x y = record { same = λ i f g. a.same i (omega arith) (omega arith) }

pub agree_refl : {w : List ℕ} {p e : ℕ} → Agree w w p e
agree_refl = record { same = λ i f g. refl }

pub agree_trans : {w v u : List ℕ} {p e : ℕ} → Agree w v p e → Agree v u p e → Agree w u p e
agree_trans a b = record { same = λ i f g. b.same i f g ∙ a.same i f g }

pub agree_set : (w : List ℕ) {p e : ℕ} (i b : ℕ) → e ≤ i → Agree w (set w i b) p e
agree_set w i b h = record { same = λ j f g. get_or-set_other w i j b 0 (λ z. omega arith) }

pub agree_take : {w v : List ℕ} (e : ℕ) → take e v ≡ take e w → Agree w v 0 e
agree_take {w} {v} e q = record { same = λ i f g. sym (get_or-take e v i 0 g) ∙ ap (λ l. get_or l i 0) q ∙ get_or-take e w i 0 g }

pub stands_agree : {w v : List ℕ} {p e : ℕ} {t : Term} → Stands w p e t → Agree w v p e → e ≤ length v → Stands v p e t
stands_agree {w} {v} {p} {e} {t} h a l = record {
  rest = drop (e - p) (drop p v);
  bytes = sym (take-append-drop (e - p) (drop p v)) ∙ ap (◌++ drop (e - p) (drop p v)) (part ∙ stands_taken h);
  coded = h.coded;
  place = h.place;
}
  where
    cut : (s : List ℕ) → e ≤ length s → length (take (e - p) (drop p s)) ≡ e - p
    cut s m = simp (length-take, length-drop) (omega arith)

    at : (s : List ℕ) (i : ℕ) → i < e - p → get_or (take (e - p) (drop p s)) i 0 ≡ get_or s (p + i) 0
    at s i m = get_or-take (e - p) (drop p s) i 0 m ∙ get_or-drop p s i 0

    part : take (e - p) (drop p v) ≡ take (e - p) (drop p w)
    part = ext_get_or 0 (take (e - p) (drop p v)) (take (e - p) (drop p w)) (cut v l ∙ sym (cut w (stands_end h)))
        (λ i m. let n : i < e - p = rw (cut v l) at m in at v i n ∙ a.same (p + i) (omega arith) (omega arith) ∙ sym (at w i n))

pub bytes_agree : {w v : List ℕ} {p e : ℕ} {x : Entry} → EntryBytes w p x e → Agree w v p e → e ≤ length v → EntryBytes v p x e
bytes_agree {p = p} (bytes_single b u) a l =
    bytes_single (a.same p (omega arith) (omega (arith, stands_start u)) ∙ b) (stands_agree u (agree_part a (omega arith) (omega arith)) l)
bytes_agree {p = p} (bytes_pair {m = m} b k c u) a l =
    let x = stands_start k in
    let y = stands_start u in
    bytes_pair (a.same p (omega arith) (omega arith) ∙ b) (stands_agree k (agree_part a (omega arith) (omega arith)) (omega arith))
    (a.same m (omega arith) (omega arith) ∙ c) (stands_agree u (agree_part a (omega arith) (omega arith)) l)

-- ---- Entries.
pub entries_agree : {w v starts others : List ℕ} {n e : ℕ} {R : Frame} → Entries w starts n e R → Agree w v 0 e → e ≤ length v → Agree starts others 0 n → Entries v others n e R
entries_agree (no_entry q r) a l b = no_entry q r
entries_agree (one_entry {j = j} q d s x) a l b =
    let y = bytes_start x in
    one_entry q (entries_agree d (agree_part a (omega arith) (omega arith)) (omega arith) (agree_part b (omega arith) (omega arith)))
    (b.same j (omega arith) (omega arith) ∙ s) (bytes_agree x (agree_part a (omega arith) (omega arith)) l)

pub entries_depth : {w starts : List ℕ} {n e : ℕ} {R : Frame} → Entries w starts n e R → depth R ≡ n
unfolding depth
entries_depth (no_entry q r) = sym q
entries_depth (one_entry q d s x) = ap suc (entries_depth d) ∙ sym q

pub entries_size : {w starts : List ℕ} {n e : ℕ} {R : Frame} → Entries w starts n e R → frame_size R ≡ e
unfolding frame_size
entries_size (no_entry q r) = sym r
entries_size (one_entry q d s (bytes_single b u)) = omega (arith, entries_size d, u.place)
entries_size (one_entry q d s (bytes_pair b k c u)) = omega (arith, entries_size d, k.place, u.place)

pub entries_unique : {w starts : List ℕ} {n n' e e' : ℕ} {R R' : Frame} → Entries w starts n e R → Entries w starts n' e' R' → n ≡ n' → R ≡ R'
entries_unique (no_entry q r) (no_entry q' r') z = refl
entries_unique (no_entry q r) (one_entry q' d' s' x') z = absurd (omega arith)
entries_unique (one_entry q d s x) (no_entry q' r') z = absurd (omega arith)
entries_unique {w} {starts} (one_entry {j = j} {p = p} {e = e} {x = y} q d s x) (one_entry {j = j'} {p = p'} {e = e'} {x = y'} q' d' s' x') z =
    let i : j ≡ j' = omega arith in
    let g = ap (λ k. get_or starts k 0) i in
    let o : p ≡ p' = cc in
    let v : EntryBytes w p y' e' = rw o x' in
    let a = (bytes_unique x v).0 in
    let b = entries_unique d d' i in
    cc
