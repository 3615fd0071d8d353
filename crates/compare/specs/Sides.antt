-- Both sides of a comparison, each in an array of its own, replayed and compared.
-- Assumes nothing.
use Rattle.std.specs.Prelude.{ℕ, ◌<◌, ◌≡◌, length, drop, List, [], map}
use Rattle.code.specs.Limits.{longest_term}
use Rattle.calculus.specs.Terms.{Term}
use Rattle.calculus.specs.Frames.{Frame}
use Rattle.fields.specs.declared.GroupSpan.{GroupSpan}
use Rattle.fields.specs.Fields.{StepRange, GroupAt, group_in, Groups}
use Rattle.frames.specs.declared.FrameRecord.{FrameRecord}
use Rattle.bodies.specs.Held.{Held, SomeHeld}
use Rattle.verdict.specs.Verdict.{Progress, right_next, Status, side_from, to_turn}
use Rattle.compare.specs.Answers.{Compared}
use Rattle.compare.specs.Compares.{Ends}

-- The two arrays that a comparison is lent. What they hold does not matter.
pub record Buffers (a b : List ℕ) : Type 0 where
  pub left_long : length a ≡ longest_term
  pub right_long : length b ≡ longest_term

-- The group's steps stand in the file, and a body is held in each array.
pub record TwoSides (file : List ℕ) (g : GroupSpan) (w : List ℕ) (f : FrameRecord) (a : List ℕ) (n : ℕ) (b : List ℕ) (k : ℕ) : Type 0 where
  pub left_steps : StepRange file g.left g.middle
  pub right_steps : StepRange file g.right g.next
  pub left_body : SomeHeld w f a n
  pub right_body : SomeHeld w f b k

-- What the answer r says of a status of the comparison with the group g, whatever comes before it; a and b are the arrays after it.
abbrev pub Concludes : List ℕ → GroupSpan → Compared → List ℕ → List ℕ → (ℕ → Progress → Status) → Type 0
Concludes file g r a b s = (at : ℕ) → at < g.next → (gs : List GroupAt) → Groups file g.next gs → (place : ℕ) (p : Progress) → drop 1 p.left ≡ map (λ h. h.group) gs → Ends file at r a b place p (s place p)

-- For every two bodies that the arrays hold.
pub record Sides (file : List ℕ) (g : GroupSpan) (w : List ℕ) (f : FrameRecord) (a : List ℕ) (n : ℕ) (b : List ℕ) (k : ℕ) (r : Compared) (a' b' : List ℕ) : Type 0 where
  pub all : (R : Frame) (T U : Term) → Held w f a n R T → Held w f b k R U
      → Concludes file g r a' b' (λ place p. side_from place R (right_next (group_in file g).right U) 0 (group_in file g).left T [] (to_turn []) p)
