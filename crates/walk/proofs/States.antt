-- States: the test of the limits, the notes of a frame, and what stays when arrays change.
-- Assumes nothing.
use Prim.Native.Nat.{ℕ, zero, suc, ◌+◌, ◌-◌, ◌≤◌, ◌<◌, max}
use mathlib.Core.Path.{◌≡◌, refl, ap, sym, ◌∙◌}
use mathlib.Core.Bool.{Bool, true, false, cond}
use mathlib.Core.Option.{some}
use mathlib.Core.List.{List, []}
use native.Mathlib.Omega.{arith}
use lib.Dec.{leb}
use lib.ListN.{length, get_or, set}
use lib.Seq.{get_or-set_same}
use borrow.Author.Tests.{le-leb, lt-leb, leb-true}
use Rattle.calculus.specs.Terms.{Term, size}
use Rattle.calculus.specs.Frames.{Entry, domain, Frame, ◌▹◌, entry_at, ClosedFrame, closed_empty, closed_entry, closed_single, closed_pair}
use Rattle.calculus.proofs.Lift.{lo, hi, cmp, size_lift}
use Rattle.code.specs.Limits.{longest_term, longest_state, most_abstractors}
use Rattle.code.specs.Claims.{Stands}
use Rattle.code.specs.Scope.{scope}
use Rattle.code.proofs.Scope.{scope_lift}
use Rattle.frames.specs.Stored.{Agree}
use Rattle.frames.specs.declared.FrameRecord.{FrameRecord}
use Rattle.frames.proofs.Entries.{agree_part, agree_set, stands_agree}
use Rattle.frames.proofs.Laws.{stored_depth, stored_size}
use Rattle.texts.specs.Texts.{Origin}
use Rattle.texts.proofs.Origins.{origin_inside}
use Rattle.verdict.specs.Bounds.{frame_scope, waiting_size, waiting_scope, state_size, state_scope, state_fits}
use Rattle.verdict.specs.Verdict.{Progress, turned}
use Rattle.verdict.proofs.Runs.{cond_both}
use Rattle.waiting.specs.Waiting.{Waiting, terms_of, low_of}
use Rattle.waiting.proofs.Queues.{queue_base, descends}
use Rattle.walk.specs.State.{Text, Arrays, Sound, sound_empty, sound_single, sound_pair, Notes, no_notes, one_note, Reached, state_of, StateAt}
use Rattle.walk.specs.Clauses.{within}
use Rattle.walk.specs.declared.WalkState.{WalkState}

-- ---- Tests.
pub no_confusion : {A : Type 0} → false ≡ true → A
no_confusion e = let z : ◌≡◌ {A = ℕ} 0 1 = ap (λ b. cond b 1 0) e in absurd (omega arith)

-- ---- A sound frame.
pub sound_closed : {R : Frame} → Sound R → ClosedFrame R
sound_closed sound_empty = closed_empty
sound_closed (sound_single s u) = closed_entry (sound_closed s) (closed_single u.closed)
sound_closed (sound_pair s k u) = closed_entry (sound_closed s) (closed_pair k.closed u.closed)

sound_scope : {R : Frame} → Sound R → frame_scope R ≤ most_abstractors
unfolding frame_scope
sound_scope sound_empty = omega arith
sound_scope (sound_single s u) = omega (arith, sound_scope s, u.shallow)
sound_scope (sound_pair s k u) = omega (arith, sound_scope s, k.shallow, u.shallow)

-- ---- Notes.
-- what index k means, by its note
pub record Meant (t : List ℕ) (m : Arrays) (limit n k : ℕ) (R : Frame) : Type 0 where
  pub entry : Entry
  pub means : entry_at R k ≡ some entry
  pub end : ℕ
  pub stands : Stands m.work (get_or m.domains (n - k) 0) end (domain entry)
  pub inside : end ≤ limit
  pub origin : Origin t (get_or m.origins (n - k) 0) (domain entry)

pub meant : {t : List ℕ} {m : Arrays} {limit n : ℕ} {R : Frame} (k : ℕ) → Notes t m limit n R → 1 ≤ k → k ≤ n → Meant t m limit n k R
unfolding entry_at
meant k (no_notes e) a b = absurd (omega arith)
meant zero (one_note e d s i o) a b = absurd (omega arith)
meant {n = n} (suc zero) (one_note {j = j} {e = e} {x = x} q d s i o) a b =
    let h : n - 1 ≡ j = omega arith in
    record { entry = x; means = refl; end = e; stands = rw h s; inside = i; origin = rw h o }
meant {n = n} (suc (suc k)) (one_note {j = j} q d s i o) a b =
    let r = meant (suc k) d (omega arith) (omega arith) in
    let h : n - suc (suc k) ≡ j - suc k = omega arith in
    record { entry = r.entry; means = r.means; end = r.end; stands = rw h r.stands; inside = r.inside; origin = rw h r.origin }

-- other bytes, of which those below the limit are the same, and other notes, of which the first n are
pub notes_keep : {t : List ℕ} {m m' : Arrays} {limit limit' n : ℕ} {R : Frame} → Agree m.work m'.work 0 limit → limit ≤ length m'.work → limit ≤ limit'
    → Agree m.domains m'.domains 0 n → Agree m.origins m'.origins 0 n → Notes t m limit n R → Notes t m' limit' n R
notes_keep a l h d o (no_notes e) = no_notes e
notes_keep {m = m} {m' = m'} a l h d o (one_note {j = j} {e = e} {x = x} q r s i g) =
    let u : get_or m'.domains j 0 ≡ get_or m.domains j 0 = d.same j (omega arith) (omega arith) in
    let v : get_or m'.origins j 0 ≡ get_or m.origins j 0 = o.same j (omega arith) (omega arith) in
    one_note {e = e} {x = x} q (notes_keep a l h (agree_part d (omega arith) (omega arith)) (agree_part o (omega arith) (omega arith)) r)
    (rw u (stands_agree s (agree_part a (omega arith) i) (omega arith))) (omega arith) (rw v g)

-- the arrays with one more entry, whose bytes end at e
abbrev pub entry_arrays : Arrays → List ℕ → (n at origin e : ℕ) → Arrays
entry_arrays m w n at origin e = record { work = w; list = m.list; domains = set m.domains n at; origins = set m.origins n origin; reach = max m.reach e }

-- an entry noted
pub notes_push : (k : ℕ) {t : List ℕ} {m : Arrays} {w : List ℕ} {limit limit' n e at origin : ℕ} {R : Frame} {x : Entry} → Agree m.work w 0 limit → limit ≤ length w → limit ≤ limit' → n < length m.domains → n < length m.origins
    → Notes t m limit n R → Stands w at e (domain x) → e ≤ limit' → Origin t origin (domain x)
    → Notes t (entry_arrays m w n at origin k) limit' (n + 1) (R ▹ x)
notes_push k {t} {m} {w} {n = n} {e = u} {at = at} {origin = origin} {x = x} a l h i j d s e o =
    one_note {n = n + 1} {j = n} {e = u} {x = x} (omega arith) (notes_keep a l h (agree_set m.domains n at (omega arith)) (agree_set m.origins n origin (omega arith)) d)
    (rw (get_or-set_same m.domains n at 0 i) s) e (rw (get_or-set_same m.origins n origin 0 j) o)

-- ---- How far a check has come.
pub reached_turned : {file : List ℕ} {next count : ℕ} {p : Progress} (n : ℕ) → Reached file next count p → Reached file next count (turned n p)
unfolding turned
reached_turned n r = record { groups = r.groups; stand = r.stand; left = r.left; counted = r.counted; few = r.few; file_bound = r.file_bound }

-- ---- The limits.
same_leb : (x y n : ℕ) → (x ≤ n → y ≤ n) → (y ≤ n → x ≤ n) → leb x n ≡ leb y n
same_leb x y n f g = elim (cmp x n) [
  | lo a ↦ le-leb x n a ∙ sym (le-leb y n (f a))
  | hi a ↦ elim (cmp y n) [ lo b ↦ absurd (omega (arith, g b)) | hi b ↦ lt-leb x n a ∙ sym (lt-leb y n b) ]
]

same_cond : {a a' b b' : Bool} → a ≡ a' → b ≡ b' → cond a b false ≡ cond a' b' false
same_cond p q = rw (p, q)

-- A state within the limits.
pub record Room (f : FrameRecord) (s : WalkState) (B : Term) : Type 0 where
  pub fits : f.end + (s.size + size B) ≤ longest_state
  pub waits_fit : f.len + s.scope ≤ most_abstractors
  pub body_fits_lem : f.len + scope B ≤ most_abstractors

module _ {x : Text} {m : Arrays} {f : FrameRecord} {s : WalkState} {R : Frame} {W Q : List Waiting} {B : Term} {p : Progress} (z : StateAt x m f s R W Q B p) where
  pub body_size : size B ≡ size z.text
  body_size = ap size z.seen ∙ size_lift s.shift s.cut z.text

  pub body_scope_lem : scope B ≡ scope z.text
  body_scope_lem = ap scope z.seen ∙ scope_lift s.shift s.cut z.text

  -- where the bytes of what waits begin
  pub own_low : s.own ≡ true → low_of m.list s.top ≤ longest_state
  own_low i = let t = z.own_text i in omega (arith, t.low, descends m.list z.held.kept s.top s.bottom (omega arith) (omega (arith, queue_base z.held.waits, t.tops)) (omega (arith, t.tops)))

  pub origin_bound : s.origin + size B ≤ longest_term
  origin_bound = omega (arith, body_size, origin_inside z.origin, z.held.term_short)

  pub state_fits_lem : state_fits (state_of s.own R W Q B) ≡ within (f.end + (s.size + size B)) (f.len + max s.scope (scope B))
  unfolding state_of state_fits state_size state_scope waiting_size waiting_scope terms_of
  state_fits_lem = by_text s.own refl
    where
      by_text : (b : Bool) → s.own ≡ b → state_fits (state_of b R W Q B) ≡ within (f.end + (s.size + size B)) (f.len + max s.scope (scope B))
      by_text true e =
          let q : Q ≡ [] = (z.own_text e).no_copies in
          let i : waiting_size (terms_of Q) ≡ 0 = ap (λ l. waiting_size (terms_of l)) q in
          let j : waiting_scope (terms_of Q) ≡ 0 = ap (λ l. waiting_scope (terms_of l)) q in
          let k : f.end + (waiting_size (terms_of W) + size B) ≡ f.end + (s.size + size B) = omega (arith, z.held.size_is) in
          rw (stored_size z.held.stored, stored_depth z.held.stored) (same_cond (ap (λ n. leb n longest_state) k)
          (same_leb (max (frame_scope R) (f.len + max (waiting_scope (terms_of W)) (scope B))) (f.len + max s.scope (scope B)) most_abstractors (λ h. omega (arith, z.held.scope_is)) (λ h. omega (arith, z.held.scope_is, sound_scope z.held.sound))))
      by_text false e =
          let k : f.end + (waiting_size (terms_of W) + (waiting_size (terms_of Q) + size B)) ≡ f.end + (s.size + size B) = omega (arith, z.held.size_is) in
          rw (stored_size z.held.stored, stored_depth z.held.stored) (same_cond (ap (λ n. leb n longest_state) k)
          (same_leb (max (frame_scope R) (f.len + max (waiting_scope (terms_of W)) (max (waiting_scope (terms_of Q)) (scope B)))) (f.len + max s.scope (scope B)) most_abstractors (λ h. omega (arith, z.held.scope_is)) (λ h. omega (arith, z.held.scope_is, sound_scope z.held.sound))))

  pub room : state_fits (state_of s.own R W Q B) ≡ true → Room f s B
  room h =
      let c = cond_both _ _ (sym state_fits_lem ∙ h) in
      let a = leb-true (f.end + (s.size + size B)) longest_state c.0 in
      let b = leb-true (f.len + max s.scope (scope B)) most_abstractors c.1 in
      record { fits = a; waits_fit = omega arith; body_fits_lem = omega arith }
