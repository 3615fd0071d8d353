-- The abstractor that binds a variable within a body, and the K of its couple, by the letters.
-- Assumes nothing.
use Rattle.std.specs.Prelude.{ℕ, zero, suc, ◌+◌, ◌-◌, ◌≤◌, ◌<◌, ◌≡◌, cond, List, [], ltb, eqb, length, get_or, Some, None}
use Rattle.std.specs.Prelude.{Option as Answer}
use Rattle.std.proofs.Math.Option.{Option, some}
use Rattle.calculus.specs.Terms.{Term, var, lift}
use Rattle.calculus.specs.Frames.{Entry, single, pair, domain, Frame, entry_at}
use Rattle.code.specs.Limits.{longest_term, most_abstractors}
use Rattle.code.specs.Scope.{scope}
use Rattle.letters.specs.Letters.{depths, letter, applicator, abstractor, symbol_of, depth_of, height_of, Lies}
use Rattle.bodies.specs.Ways.{Way, frame_at, depth_at}
use Rattle.bodies.specs.declared.Part.{Part}

-- An abstractor of depth d and height h stands at `at`; its U ends at `rest`; place p is in its scope.
pub record BinderAt (s : List ℕ) (p d h rest at : ℕ) : Type 0 where
  pub letter_there : get_or s at 0 ≡ letter abstractor d h
  pub ordered : at < rest
  pub before : rest ≤ p
  pub inner : (j : ℕ) → at < j → j < rest → h < height_of (get_or s j 0)
  pub deep : (j : ℕ) → rest ≤ j → j ≤ p → d < depth_of (get_or s j 0)
  pub high : (j : ℕ) → rest ≤ j → j ≤ p → h ≤ height_of (get_or s j 0)
  pub rest_height : height_of (get_or s rest 0) ≡ h
  pub shallow : d < depths

pub record Findable (s : List ℕ) (p d : ℕ) : Type 0 where
  pub array : length s ≡ longest_term
  pub inside : p < longest_term
  pub h : ℕ
  pub rest : ℕ
  pub at : ℕ
  pub binder : BinderAt s p d h rest at

pub record Found (s : List ℕ) (p d r : ℕ) : Type 0 where
  pub all : (h rest at : ℕ) → BinderAt s p d h rest at → r ≡ at

-- The search to the left of place i, in a train of height h, for the applicator that matches an abstractor, where n abstractors between
-- are still to be matched and the wagon after i starts at `next`: the K of that applicator, if there is one.
unfoldable pub partner_from : List ℕ → ℕ → (i n next : ℕ) → Answer Part
partner_from s h zero n next = None
partner_from s h (suc i) n next =
    let x = get_or s i 0 in
    let matched = cond (eqb n 0) (Some (record { start = suc i; end = next })) (partner_from s h i (n - 1) i) in
    let item = cond (eqb (symbol_of x) applicator) matched (partner_from s h i (suc n) i) in
    let inside = partner_from s h i n next in
    cond (ltb (height_of x) h) None (cond (eqb (height_of x) h) item inside)

-- THE FINDER. The U of an abstractor of depth d at q lies there, and ends before place p.
pub record DomainLies (s : List ℕ) (p d q : ℕ) (U : Term) : Type 0 where
  pub high : ℕ
  pub rest : ℕ
  pub letter_there : get_or s q 0 ≡ letter abstractor d high
  pub lies : Lies s (suc q) rest d (suc high) U
  pub before : rest ≤ p
  pub rest_height : height_of (get_or s rest 0) ≡ high
  pub few : d + scope U ≤ most_abstractors

-- The U of the entry that the descent makes of it is that one.
pub record BindsDomain (s : List ℕ) (p d : ℕ) (meaning : Frame → Option Entry) (q : ℕ) : Type 0 where
  pub entry : Entry
  pub means : (R : Frame) → meaning R ≡ some entry
  pub lies : DomainLies s p d q (domain entry)

-- The whole entry lies there: its K where r says, which is lifted past the abstractors between, as it stands there.
pub data EntryLies (s : List ℕ) (p d : ℕ) : Answer Part → Entry → Type 0 where
  lies_single : {q : ℕ} {U : Term} → DomainLies s p d q U → EntryLies s p d None (single U)
  lies_pair : {q c low : ℕ} {k : Part} {K U : Term} → 1 ≤ k.start → depth_of (get_or s (k.start - 1) 0) ≡ c → c ≤ d → Lies s k.start k.end c low K → c + scope K ≤ most_abstractors → k.end ≤ p
      → DomainLies s p d q U → EntryLies s p d (Some k) (pair (lift (d - c) 0 K) U)

pub record Binds (s : List ℕ) (p d : ℕ) (meaning : Frame → Option Entry) (r : Answer Part) : Type 0 where
  pub entry : Entry
  pub means : (R : Frame) → meaning R ≡ some entry
  pub parts : EntryLies s p d r entry

-- Variable k at place p of the term t in s is bound within t, by an abstractor of depth d.
pub record BoundInside (s : List ℕ) (n p k d : ℕ) {t : Term} (w : Way t p (var k)) : Type 0 where
  pub lies : Lies s 0 n 0 0 t
  pub shallow : scope t ≤ most_abstractors
  pub index : 1 ≤ k
  pub inside : d + k ≡ depth_at 0 w

pub record SomeBound (s : List ℕ) (p d : ℕ) : Type 0 where
  pub array : length s ≡ longest_term
  pub n : ℕ
  pub k : ℕ
  pub term : Term
  pub way : Way term p (var k)
  pub bound : BoundInside s n p k d way

pub record Finds (s : List ℕ) (p d : ℕ) (r : Answer Part) : Type 0 where
  pub all : (n k : ℕ) (t : Term) (w : Way t p (var k)) → BoundInside s n p k d w → Binds s p d (λ R. entry_at (frame_at R [] w) k) r
