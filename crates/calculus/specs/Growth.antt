-- Growth of a frame, and lines put in front (request (h)). Limits are left aside.
-- Assumes nothing.
use Rattle.std.specs.Prelude.{ℕ, zero, suc, ◌≡◌, List, [], ◌∷◌, ◌++◌, map}
use Rattle.calculus.specs.Terms.{Term, tau, var, app, abs, Closed, lift}
use Rattle.calculus.specs.Frames.{Entry, single, pair, Frame, ε, ◌▹◌, depth, ClosedEntry, map_entry}
use Rattle.calculus.specs.Rules.{Group, Same, State, own, copied, Comparison, compare, Next, With}
use Rattle.calculus.specs.Walks.{End, WalkFrom}

-- THE RELATION
-- ρ renames the indices that point outside a term: index j + 1 becomes ρ j + 1. Past an abstractor, whose own index stays 1, it is `up ρ`.
unfoldable pub up : (ℕ → ℕ) → ℕ → ℕ
up ρ zero = zero
up ρ (suc j) = suc (ρ j)

unfoldable pub rename : (ℕ → ℕ) → Term → Term
rename ρ tau = tau
rename ρ (var zero) = var zero
rename ρ (var (suc j)) = var (suc (ρ j))
rename ρ (app K B) = app (rename ρ K) (rename ρ B)
rename ρ (abs U B) = abs (rename ρ U) (rename (up ρ) B)

-- Grown ρ R R': R' is R with any entries inserted anywhere and any of its single abstractors made pairs; ρ leads past what was inserted.
-- Nothing is asked of what is new.
pub data Grown : (ℕ → ℕ) → Frame → Frame → Type 0 where
  as_it_was : {R : Frame} → Grown (λ j. j) R R
  inserted : {ρ : ℕ → ℕ} {R R' : Frame} (e : Entry) → Grown ρ R R' → Grown (λ j. suc (ρ j)) R (R' ▹ e)
  kept : {ρ : ℕ → ℕ} {R R' : Frame} (e : Entry) → Grown ρ R R' → Grown (up ρ) (R ▹ e) (R' ▹ map_entry (rename ρ) e)
  paired : {ρ : ℕ → ℕ} {R R' : Frame} (K U : Term) → Grown ρ R R' → Grown (up ρ) (R ▹ single U) (R' ▹ pair K (rename ρ U))

-- Onward ρ R R' σ S S': S is R with some entries after it, S' is R' with the same, renamed; past these ρ is σ.
pub data Onward : (ℕ → ℕ) → Frame → Frame → (ℕ → ℕ) → Frame → Frame → Type 0 where
  here : {ρ : ℕ → ℕ} {R R' : Frame} → Onward ρ R R' ρ R R'
  further : {ρ σ : ℕ → ℕ} {R R' S S' : Frame} (e : Entry) → Onward ρ R R' σ S S' → Onward ρ R R' (up σ) (S ▹ e) (S' ▹ map_entry (rename σ) e)

-- A state after R, or further on, and the same state after R': all that stands after the frame is renamed.
pub data GrownState (ρ : ℕ → ℕ) (R R' : Frame) : State → State → Type 0 where
  grown_own : {σ : ℕ → ℕ} {S S' : Frame} {W : List Term} {B : Term} → Onward ρ R R' σ S S' → GrownState ρ R R' (own S W B) (own S' (map (rename σ) W) (rename σ B))
  grown_copied : {σ : ℕ → ℕ} {S S' : Frame} {W Y : List Term} {B : Term} → Onward ρ R R' σ S S'
      → GrownState ρ R R' (copied S W Y B) (copied S' (map (rename σ) W) (map (rename σ) Y) (rename σ B))

pub data GrownComparison (ρ : ℕ → ℕ) (R R' : Frame) : Comparison → Comparison → Type 0 where
  grown_compare : {σ : ℕ → ℕ} {S S' : Frame} {K U : Term} → Onward ρ R R' σ S S' → GrownComparison ρ R R' (compare S K U) (compare S' (rename σ K) (rename σ U))

-- One by one, in one order.
pub data GrownComparisons (ρ : ℕ → ℕ) (R R' : Frame) : List Comparison → List Comparison → Type 0 where
  grown_none : GrownComparisons ρ R R' [] []
  grown_more : {c c' : Comparison} {cs cs' : List Comparison} → GrownComparison ρ R R' c c' → GrownComparisons ρ R R' cs cs' → GrownComparisons ρ R R' (c ∷ cs) (c' ∷ cs')

-- The walk from s demands the comparisons cs, grown, and ends as e.
pub record GrownWalk (ρ : ℕ → ℕ) (R R' : Frame) (next : State → Next) (s : State) (cs : List Comparison) (e : End) : Type 0 where
  pub comparisons : List Comparison
  pub grown : GrownComparisons ρ R R' cs comparisons
  pub walk : WalkFrom next s comparisons e

-- What is new in a growth is closed at its place.
abbrev pub NewClosed : {ρ : ℕ → ℕ} {R R' : Frame} → Grown ρ R R' → Type 0
NewClosed as_it_was = Unit {0}
NewClosed (inserted {R' = R'} e g) = ClosedEntry (depth R') e × NewClosed g
NewClosed (kept e g) = NewClosed g
NewClosed (paired {R' = R'} K U g) = Closed (depth R') K × NewClosed g

-- BY THEMSELVES
-- A growth where what stands after the frame is changed by f.
pub record GrownBy (f : Term → Term) (R R' : Frame) : Type 0 where
  pub renaming : ℕ → ℕ
  pub grown : Grown renaming R R'
  pub renames : (t : Term) → rename renaming t ≡ f t

-- The entries of L, then those of R, as they stand; and a state with L before its frame, with nothing altered.
unfoldable pub before : Frame → Frame → Frame
before L ε = L
before L (R ▹ e) = before L R ▹ e

unfoldable pub in_front : Frame → State → State
in_front L (own R W B) = own (before L R) W B
in_front L (copied R W Y B) = copied (before L R) W Y B

-- LINES
-- A line, [U] or ⟨K⟩[U], before a text; the lines of a frame before it.
unfoldable pub line : Entry → Term → Term
line (single U) B = abs U B
line (pair K U) B = app K (abs U B)

unfoldable pub lines : Frame → Term → Term
lines ε B = B
lines (R ▹ e) B = lines R (line e B)

-- Each line is correct at its place, after those before it, as the text [U]τ or ⟨K⟩[U]τ; the groups of all, first line first.
pub data Lines (next : State → Next) : Frame → List Group → Type 0 where
  no_line : Lines next ε []
  one_line : {R : Frame} {gs hs : List Group} (e : Entry) → Lines next R gs → With next (own R [] (line e tau)) hs → Lines next (R ▹ e) (gs ++ hs)

-- The lines of R with their groups, what stands after them with its own, and gs are these one after the other.
pub record Parts (next : State → Next) (R : Frame) (t : Term) (gs : List Group) : Type 0 where
  pub of_lines : List Group
  pub of_rest : List Group
  pub each : Lines next R of_lines
  pub rest : With next (own R [] t) of_rest
  pub all : gs ≡ of_lines ++ of_rest

-- The lines of a text whose frame grows, with their groups before and after: those of what is new stand at its place, which for the K
-- of a new pair is before those of U, and for the comparison after them; all others stay.
pub data GrownLines (next : State → Next) : (ℕ → ℕ) → Frame → List Group → Frame → List Group → Type 0 where
  lines_kept : {R : Frame} {gs : List Group} → Lines next R gs → GrownLines next (λ j. j) R gs R gs
  line_inserted : {ρ : ℕ → ℕ} {R R' : Frame} {gs gs' hs : List Group} (e : Entry) → GrownLines next ρ R gs R' gs'
      → With next (own R' [] (line e tau)) hs → GrownLines next (λ j. suc (ρ j)) R gs (R' ▹ e) (gs' ++ hs)
  line_kept : {ρ : ℕ → ℕ} {R R' : Frame} {gs gs' hs : List Group} (e : Entry) → GrownLines next ρ R gs R' gs'
      → With next (own R [] (line e tau)) hs → GrownLines next (up ρ) (R ▹ e) (gs ++ hs) (R' ▹ map_entry (rename ρ) e) (gs' ++ hs)
  line_paired : {ρ : ℕ → ℕ} {R R' : Frame} {gs gs' hs ks : List Group} (K U : Term) → GrownLines next ρ R gs R' gs'
      → With next (own R [] U) hs → With next (own R' [] K) ks → (s : Same R' K (rename ρ U))
      → GrownLines next (up ρ) (R ▹ single U) (gs ++ hs) (R' ▹ pair K (rename ρ U)) (gs' ++ (ks ++ (hs ++ (s.group ∷ []))))
