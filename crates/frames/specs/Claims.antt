-- What this crate promises of a stored frame. The function `frame_laws` (src/lib.rt) ensures it.
-- Assumes nothing.
use Rattle.std.specs.Prelude.{ℕ, ◌≤◌, ◌<◌, ◌≡◌, List, length}
use Rattle.std.proofs.Math.Option.{none}
use Rattle.calculus.specs.Terms.{Term}
use Rattle.calculus.specs.Frames.{Entry, Frame, ◌▹◌, depth, entry_at}
use Rattle.code.specs.Limits.{longest_state, most_abstractors}
use Rattle.code.specs.Claims.{Stands}
use Rattle.verdict.specs.Bounds.{frame_size}
use Rattle.frames.specs.Stored.{EntryBytes, Stored, Agree, pushed}
use Rattle.frames.specs.declared.FrameRecord.{FrameRecord}

pub record FrameLaws : Type 0 where
  pub depth_is_len : {w : List ℕ} {r : FrameRecord} {R : Frame} → Stored w r R → depth R ≡ r.len
  pub size_is_end : {w : List ℕ} {r : FrameRecord} {R : Frame} → Stored w r R → frame_size R ≡ r.end
  pub no_other : {w : List ℕ} {r : FrameRecord} {R : Frame} → Stored w r R → {R' : Frame} → Stored w r R' → R ≡ R'
  -- an index that means no entry
  pub none_at_zero : (R : Frame) → entry_at R 0 ≡ none
  pub none_past : {w : List ℕ} {r : FrameRecord} {R : Frame} → Stored w r R → (k : ℕ) → r.len < k → entry_at R k ≡ none
  -- what stands in a part depends on the bytes of that part alone
  pub part_decides : {w v : List ℕ} {p e : ℕ} {t : Term} → Stands w p e t → Agree w v p e → e ≤ length v → Stands v p e t
  pub bytes_decide : {w : List ℕ} {r : FrameRecord} {R : Frame} → Stored w r R → {v : List ℕ} → Agree w v 0 r.end → length v ≡ longest_state → Stored v r R
  -- an entry written at the frame's end
  pub push_holds : {w : List ℕ} {r : FrameRecord} {R : Frame} → Stored w r R → {v : List ℕ} {x : Entry} {e : ℕ} → Agree w v 0 r.end → length v ≡ longest_state
      → EntryBytes v r.end x e → r.len < most_abstractors → Stored v (pushed r e) (R ▹ x)
