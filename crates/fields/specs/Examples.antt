-- Document 01's readings of small files.
-- Assumes nothing.
use Rattle.std.specs.Prelude.{ℕ, ◌≡◌, List, [], ◌∷◌}
use Rattle.fields.specs.Fields.{GroupAt, refused, accepted, read_file}

-- 01 00 01 00, a file with the term tau and no group; and what follows it.
abbrev pub tau_then : List ℕ → List ℕ
tau_then s = 1 ∷ 0 ∷ 1 ∷ 0 ∷ s

abbrev pub empty_at : ℕ → GroupAt
empty_at at = record { head = at; group = record { left = []; right = [] } }

pub record Examples : Type 0 where
  pub empty : read_file [] ≡ refused 1 0
  pub short_body : read_file (1 ∷ 0 ∷ 2 ∷ 0 ∷ []) ≡ refused 1 0
  pub other_tag : read_file (2 ∷ 0 ∷ 0 ∷ []) ≡ refused 2 0
  pub head_first : read_file (7 ∷ 0 ∷ []) ≡ refused 1 0
  pub tag_first : read_file (2 ∷ 0 ∷ 255 ∷ []) ≡ refused 2 0
  pub term_only : read_file (tau_then []) ≡ accepted 4 []
  pub no_right : read_file (tau_then (2 ∷ 0 ∷ 0 ∷ [])) ≡ refused 1 7
  pub one_group : read_file (tau_then (2 ∷ 0 ∷ 0 ∷ 3 ∷ 0 ∷ 0 ∷ [])) ≡ accepted 4 (empty_at 4 ∷ [])
  pub no_multiple : read_file (tau_then (2 ∷ 0 ∷ 1 ∷ 0 ∷ [])) ≡ refused 2 4
  pub short_left : read_file (tau_then (2 ∷ 0 ∷ 3 ∷ 1 ∷ 0 ∷ [])) ≡ refused 1 4
  pub right_tag : read_file (tau_then (2 ∷ 0 ∷ 0 ∷ 2 ∷ 0 ∷ 0 ∷ [])) ≡ refused 2 7
  pub high_byte_first : read_file (tau_then (2 ∷ 0 ∷ 0 ∷ 3 ∷ 0 ∷ 3 ∷ 1 ∷ 2 ∷ 5 ∷ []))
      ≡ accepted 4 (record { head = 4; group = record { left = []; right = record { kind = 1; place = 517 } ∷ [] } } ∷ [])
