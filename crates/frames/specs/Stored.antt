-- A frame stored in a work array (document 01, 'The frame record holds an array of entry starts beside its bytes').
-- Assumes nothing.
use Rattle.std.specs.Prelude.{ℕ, suc, ◌+◌, ◌≤◌, ◌<◌, ◌≡◌, List, length, get_or, set, Some, None}
use Rattle.std.proofs.Math.Option.{some}
use Rattle.calculus.specs.Terms.{Term}
use Rattle.calculus.specs.Frames.{Entry, single, pair, Frame, ε, ◌▹◌, entry_at}
use Rattle.code.specs.Limits.{longest_state, most_abstractors}
use Rattle.code.specs.Claims.{Stands}
use Rattle.frames.specs.declared.FrameRecord.{FrameRecord}
use Rattle.frames.specs.declared.Span.{Span}

-- An entry as bytes, from p up to e: ff U, or fe K ff U.
pub data EntryBytes (w : List ℕ) : ℕ → Entry → ℕ → Type 0 where
  bytes_single : {p e : ℕ} {U : Term} → get_or w p 0 ≡ 0xff → Stands w (suc p) e U → EntryBytes w p (single U) e
  bytes_pair : {p m e : ℕ} {K U : Term} → get_or w p 0 ≡ 0xfe → Stands w (suc p) m K → get_or w m 0 ≡ 0xff → Stands w (suc m) e U → EntryBytes w p (pair K U) e

-- n entries stand one after the other from 0 up to e; starts has the place of each.
pub data Entries (w starts : List ℕ) : ℕ → ℕ → Frame → Type 0 where
  no_entry : {n e : ℕ} → n ≡ 0 → e ≡ 0 → Entries w starts n e ε
  one_entry : {n j p e : ℕ} {R : Frame} {x : Entry} → n ≡ suc j → Entries w starts j p R → get_or starts j 0 ≡ p → EntryBytes w p x e → Entries w starts n e (R ▹ x)

-- The record holds the frame R, with its bytes in w.
pub record Stored (w : List ℕ) (r : FrameRecord) (R : Frame) : Type 0 where
  pub work : length w ≡ longest_state
  pub room : length r.starts ≡ most_abstractors
  pub few : r.len ≤ most_abstractors
  pub inside : r.end ≤ longest_state
  pub entries : Entries w r.starts r.len r.end R

-- Some frame is held.
pub record Holding (w : List ℕ) (r : FrameRecord) : Type 0 where
  pub frame : Frame
  pub stored : Stored w r frame

-- w and v have the same bytes from a place up to e.
pub record Agree (w v : List ℕ) (from e : ℕ) : Type 0 where
  pub same : (i : ℕ) → from ≤ i → i < e → get_or v i 0 ≡ get_or w i 0

-- The record of the empty frame.
pub record EmptyRecord (r : FrameRecord) : Type 0 where
  pub no_entries : r.len ≡ 0
  pub no_bytes : r.end ≡ 0
  pub holds : (w : List ℕ) → length w ≡ longest_state → Stored w r ε

-- The record of these parts.
abbrev pub record_of : List ℕ → ℕ → ℕ → FrameRecord
record_of starts len end = record { starts = starts; len = len; end = end }

-- The record with one more entry, whose bytes end at e.
abbrev pub pushed : FrameRecord → ℕ → FrameRecord
pushed r e = record { starts = set r.starts r.len r.end; len = r.len + 1; end = e }

-- Where the parts of an entry stand: U from `domain` up to `end`; K from `applied`, if there is one, up to one before `domain`.
pub data EntryParts (w : List ℕ) (s : Span) : Entry → Type 0 where
  span_single : {U : Term} → s.applied ≡ None → Stands w s.domain s.end U → EntryParts w s (single U)
  span_pair : {k m : ℕ} {K U : Term} → s.applied ≡ Some k → s.domain ≡ suc m → Stands w k m K → Stands w s.domain s.end U → EntryParts w s (pair K U)

-- Some term stands in the work array from p.
pub record SomeTermFrom (w : List ℕ) (p : ℕ) : Type 0 where
  pub work : length w ≡ longest_state
  pub end : ℕ
  pub term : Term
  pub stands : Stands w p end term

-- A term that stands from p ends at e.
pub record EndAt (w : List ℕ) (p e : ℕ) : Type 0 where
  pub ends : (e' : ℕ) (t : Term) → Stands w p e' t → e ≡ e'

-- Some entry stands in the work array from p up to e.
pub record EntryAt (w : List ℕ) (p e : ℕ) : Type 0 where
  pub work : length w ≡ longest_state
  pub entry : Entry
  pub bytes : EntryBytes w p entry e

-- The parts of the entry that stands from p up to e.
pub record Parted (w : List ℕ) (p e : ℕ) (s : Span) : Type 0 where
  pub ends : s.end ≡ e
  pub parts : (x : Entry) → EntryBytes w p x e → EntryParts w s x

-- What index k means in the frame.
pub record Looked (w : List ℕ) (r : FrameRecord) (k : ℕ) (s : Span) : Type 0 where
  pub found : (R : Frame) → Stored w r R → (x : Entry) × (entry_at R k ≡ some x) × EntryParts w s x
  pub end_inside : s.end ≤ r.end
