-- A stored frame: its depth, its size, what decides it, one entry more, and the entry that an index means.
-- Assumes nothing.
use Prim.Native.Nat.{ℕ, zero, suc, ◌+◌, ◌-◌, ◌≤◌, ◌<◌}
use mathlib.Core.Path.{◌≡◌, refl, sym, ap, ◌∙◌}
use mathlib.Core.Option.{none, some, some-injective}
use mathlib.Core.List.{List}
use native.Mathlib.Omega.{arith}
use native.Mathlib.Numerals.{add-one}
use lib.ListN.{length, get_or, length-set}
use lib.Seq.{get_or-set_same}
use Rattle.std.specs.Prelude.{Some, None}
use Rattle.calculus.specs.Frames.{Entry, domain, Frame, ε, ◌▹◌, depth, entry_at}
use Rattle.code.specs.Limits.{longest_state, most_abstractors}
use Rattle.std.specs.Prelude as prelude
use Rattle.std.specs.Prelude.{Some, None, IsSome}
use Rattle.code.specs.Code.{term_end, end_of}
use Rattle.code.specs.Claims.{Stands}
use Rattle.code.proofs.FirstZero.{standing}
use Rattle.code.proofs.Parts.{stands_start, stands_end}
use Rattle.calculus.proofs.Ren.{no_some}
use Rattle.calculus.proofs.Weaken.{entry_at_zero}
use Rattle.verdict.specs.Bounds.{frame_size}
use Rattle.frames.specs.Stored.{EntryBytes, bytes_single, bytes_pair, Entries, no_entry, one_entry, Stored, Holding, Agree, pushed, EntryParts, span_single, span_pair, SomeTermFrom, EndAt, EntryAt, Parted, Looked}
use Rattle.frames.specs.Claims.{FrameLaws}
use Rattle.frames.specs.declared.FrameRecord.{FrameRecord}
use Rattle.frames.specs.declared.Span.{Span}
use Rattle.frames.proofs.Entries.{bytes_start, bytes_end, agree_refl, agree_set, stands_agree, entries_agree, entries_depth, entries_size, entries_unique}

-- ---- What the record and the bytes say of the frame.
module _ {w : List ℕ} {r : FrameRecord} {R : Frame} (h : Stored w r R) where
  pub stored_depth : depth R ≡ r.len
  stored_depth = entries_depth h.entries

  pub stored_size : frame_size R ≡ r.end
  stored_size = entries_size h.entries

  -- no other frame is held
  pub stored_unique : {R' : Frame} → Stored w r R' → R ≡ R'
  stored_unique k = entries_unique h.entries k.entries refl

  -- the bytes below the end decide
  pub stored_agree : {v : List ℕ} → Agree w v 0 r.end → length v ≡ longest_state → Stored v r R
  stored_agree {v} a l = record {
    work = l;
    room = h.room;
    few = h.few;
    inside = h.inside;
    entries = entries_agree h.entries a (omega (arith, h.inside)) agree_refl;
  }

  -- w changes only above the frame, where the new entry was written.
  pub stored_push : {v : List ℕ} {x : Entry} {e : ℕ} → Agree w v 0 r.end → length v ≡ longest_state → EntryBytes v r.end x e → r.len < most_abstractors → Stored v (pushed r e) (R ▹ x)
  stored_push {v} {x} {e} a l b f =
      let z : length r.starts ≡ most_abstractors = h.room in
      record {
        work = l;
        room = length-set r.starts r.len _ ∙ h.room;
        few = omega arith;
        inside = omega (arith, bytes_end b);
        entries = one_entry {n = r.len + 1} {j = r.len} (omega arith) (entries_agree h.entries a (omega (arith, h.inside)) (agree_set r.starts r.len _ (omega arith))) (get_or-set_same r.starts r.len _ 0 (omega arith)) b;
      }

-- ---- An index that means nothing.
pub entry_none : (R : Frame) (k : ℕ) → depth R < k → entry_at R k ≡ none
unfolding entry_at depth
entry_none ε k h = refl
entry_none (R ▹ x) zero h = refl
entry_none (R ▹ x) (suc zero) h = absurd (omega arith)
entry_none (R ▹ x) (suc (suc k)) h = entry_none R (suc k) (omega arith)

-- ---- The entry that an index means.
-- Where the k-th entry from the end ends: at e for the last, and else where the next one starts.
pub data Ends (starts : List ℕ) (n e k e' : ℕ) : Type 0 where
  ends_last : k ≡ 1 → e' ≡ e → Ends starts n e k e'
  ends_inner : 2 ≤ k → e' ≡ get_or starts (n - k + 1) 0 → Ends starts n e k e'

pub record Here (w starts : List ℕ) (n e k e' : ℕ) (R : Frame) : Type 0 where
  pub entry : Entry
  pub means : entry_at R k ≡ some entry
  pub bytes : EntryBytes w (get_or starts (n - k) 0) entry e'
  pub before : e' ≤ e

at_place : {w : List ℕ} {p p' e e' : ℕ} {x : Entry} → EntryBytes w p x e → p' ≡ p → e' ≡ e → EntryBytes w p' x e'
at_place b q r = rw (q, r) b

ends_before : {starts : List ℕ} {n j e p e' : ℕ} (k : ℕ) → n ≡ suc j → get_or starts j 0 ≡ p → suc (suc k) ≤ n → Ends starts n e (suc (suc k)) e' → Ends starts j p (suc k) e'
ends_before k q s h (ends_last x y) = absurd (omega arith)
ends_before {starts} {n} {j} zero q s h (ends_inner x y) = ends_last refl (y ∙ ap (λ i. get_or starts i 0) same ∙ s)
  where
    same : n - 2 + 1 ≡ j
    same = omega arith
ends_before {starts} {n} {j} (suc k) q s h (ends_inner x y) = ends_inner (omega arith) (y ∙ ap (λ i. get_or starts i 0) same)
  where
    same : n - suc (suc (suc k)) + 1 ≡ j - suc (suc k) + 1
    same = omega arith

pub here : {w starts : List ℕ} {n e e' : ℕ} {R : Frame} (k : ℕ) → Entries w starts n e R → 1 ≤ k → k ≤ n → Ends starts n e k e' → Here w starts n e k e' R
unfolding entry_at
here k (no_entry q r) a b g = absurd (omega arith)
here zero (one_entry q d s b) a c g = absurd (omega arith)
here (suc zero) (one_entry q d s b) a c (ends_inner x y) = absurd (omega arith)
here {starts = starts} {n = n} (suc zero) (one_entry {j = j} {x = x} q d s b) a c (ends_last z y) =
    let i : n - 1 ≡ j = omega arith in
    record { entry = x; means = refl; bytes = at_place b (ap (λ k. get_or starts k 0) i ∙ s) y; before = omega arith }
here {starts = starts} {n = n} (suc (suc k)) (one_entry {j = j} q d s b) a c g =
    let h = here (suc k) d (omega arith) (omega arith) (ends_before k q s c g) in
    let f = bytes_start b in
    let i : n - suc (suc k) ≡ j - suc k = omega arith in
    record { entry = h.entry; means = h.means; bytes = at_place h.bytes (ap (λ k. get_or starts k 0) i) refl; before = omega (arith, h.before) }

-- ---- The U of an entry.
pub span_domain : {w : List ℕ} {s : Span} {x : Entry} → EntryParts w s x → Stands w s.domain s.end (domain x)
unfolding domain
span_domain (span_single a u) = u
span_domain (span_pair a b k u) = u

-- ---- What the code finds: where a term ends, the parts of an entry, and the entry that an index means.
pub end_at : {w : List ℕ} {p e : ℕ} (r : prelude.Option ℕ) → end_of r ≡ term_end w p → r ≡ Some e → EndAt w p e
end_at {e = e} r q is = record { ends = λ e' t h. some-injective e e' (ap end_of (sym is) ∙ q ∙ standing h) }

pub ends_somewhere : {w : List ℕ} {p : ℕ} (r : prelude.Option ℕ) → SomeTermFrom w p → end_of r ≡ term_end w p → IsSome r
ends_somewhere (Some e) h q = refl
ends_somewhere None h q = absurd (no_some (q ∙ standing h.stands))

module _ {w : List ℕ} {p e : ℕ} where
  pub entry_room : EntryAt w p e → suc p < longest_state
  entry_room h = omega (arith, bytes_start h.bytes, bytes_end h.bytes, h.work)

  pub single_parts : get_or w p 0 ≡ 0xff → Parted w p e (record { applied = None; domain = p + 1; end = e })
  single_parts q = record { ends = refl; parts = go }
    where
      go : (x : Entry) → EntryBytes w p x e → EntryParts w (record { applied = None; domain = p + 1; end = e }) x
      go x (bytes_single {U = U} b u) = span_single {U = U} refl (rw add-one u)
      go x (bytes_pair b k c u) = absurd (omega arith)

  module _ (n : get_or w p 0 ≡ 0xff → ⊥) where
    pub applied_stands : EntryAt w p e → SomeTermFrom w (p + 1)
    applied_stands h = go h.entry h.bytes
      where
        go : (x : Entry) → EntryBytes w p x e → SomeTermFrom w (p + 1)
        go x (bytes_single b u) = absurd (n b)
        go x (bytes_pair {m = m} {K = K} b k c u) = record { work = h.work; end = m; term = K; stands = rw add-one k }

    pub applied_room : {m : ℕ} → EntryAt w p e → EndAt w (p + 1) m → m < longest_state
    applied_room {m} h a = go h.entry h.bytes
      where
        go : (x : Entry) → EntryBytes w p x e → m < longest_state
        go x (bytes_single b u) = absurd (n b)
        go x (bytes_pair {m = i} {K = K} b k c u) = omega (arith, a.ends i K (rw add-one k), stands_start u, stands_end u, h.work)

    pub pair_parts : {m : ℕ} → EndAt w (p + 1) m → Parted w p e (record { applied = Some (p + 1); domain = m + 1; end = e })
    pair_parts {m} a = record { ends = refl; parts = go }
      where
        go : (x : Entry) → EntryBytes w p x e → EntryParts w (record { applied = Some (p + 1); domain = m + 1; end = e }) x
        go x (bytes_single b u) = absurd (n b)
        go x (bytes_pair {m = i} {K = K} {U = U} b k c u) =
            let q : m ≡ i = a.ends i K (rw add-one k) in
            span_pair {m = m} {K = K} {U = U} refl (add-one m) (rw (q, add-one) k) (rw (q, add-one) u)

module _ {w : List ℕ} {r : FrameRecord} {k p e : ℕ} (l : 1 ≤ k) (m : k ≤ r.len) (g : Ends r.starts r.len r.end k e) (q : p ≡ get_or r.starts (r.len - k) 0) where
  pub entry_bounds : Holding w r → EntryAt w p e
  entry_bounds h =
      let x = here k h.stored.entries l m g in
      record { work = h.stored.work; entry = x.entry; bytes = at_place x.bytes q refl }

  pub looked : {s : Span} → Holding w r → Parted w p e s → Looked w r k s
  looked h d = record {
    found = λ R t. let x = here k t.entries l m g in (x.entry, x.means, d.parts x.entry (at_place x.bytes q refl));
    end_inside = omega (arith, d.ends, (here k h.stored.entries l m g).before);
  }

pub frame_laws_hold : FrameLaws
frame_laws_hold = record {
  depth_is_len = stored_depth;
  size_is_end = stored_size;
  no_other = stored_unique;
  none_at_zero = entry_at_zero;
  none_past = λ {w} {r} {R} h k l. entry_none R k (omega (arith, stored_depth h));
  part_decides = stands_agree;
  bytes_decide = stored_agree;
  push_holds = stored_push;
}
