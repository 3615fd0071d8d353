-- A file as it is written from a term's bytes and groups.
-- Assumes nothing.
use Rattle.std.specs.Prelude.{ℕ, ◌+◌, ◌/◌, ◌%◌, ◌<◌, List, [], ◌∷◌, ◌++◌, length}
use Rattle.calculus.specs.Steps.{Step}
use Rattle.calculus.specs.Rules.{Group}
use Rattle.code.specs.Code.{Bytes}
use Rattle.fields.specs.Fields.{GroupAt}

-- Tag, length with the high byte first, body.
abbrev pub write_field : ℕ → List ℕ → List ℕ
write_field tag b = tag ∷ length b / 256 ∷ length b % 256 ∷ b

unfoldable pub write_steps : List Step → List ℕ
write_steps [] = []
write_steps (x ∷ xs) = x.kind ∷ x.place / 256 ∷ x.place % 256 ∷ write_steps xs

unfoldable pub write_groups : List Group → List ℕ
write_groups [] = []
write_groups (g ∷ gs) = write_field 2 (write_steps g.left) ++ (write_field 3 (write_steps g.right) ++ write_groups gs)

unfoldable pub write_file : List ℕ → List Group → List ℕ
write_file b gs = write_field 1 b ++ write_groups gs

-- The groups with their places, the first at a given one.
unfoldable pub groups_placed : ℕ → List Group → List GroupAt
groups_placed at [] = []
groups_placed at (g ∷ gs) =
    record { head = at; group = g } ∷ groups_placed (at + 6 + length (write_steps g.left) + length (write_steps g.right)) gs

-- What can be written in bytes.
pub record InBytes (s : List ℕ) : Type 0 where
  pub small : Bytes s

pub data StepsFit : List Step → Type 0 where
  none : StepsFit []
  step : {x : Step} {xs : List Step} → x.kind < 256 → x.place < 65536 → StepsFit xs → StepsFit (x ∷ xs)

pub data GroupsFit : List Group → Type 0 where
  none : GroupsFit []
  group : {g : Group} {gs : List Group} → StepsFit g.left → StepsFit g.right → GroupsFit gs → GroupsFit (g ∷ gs)
