-- What this crate promises of the definitions. A function of src/lib.rt ensures each numbered record.
-- Assumes nothing.
use Rattle.std.specs.Prelude.{ℕ, ◌+◌, ◌*◌, ◌≤◌, ◌<◌, ◌≡◌, ◌↔◌, List, [], ◌∷◌, map, length}
use Rattle.calculus.specs.Rules.{Group}
use Rattle.fields.specs.Fields.{Layout}
use Rattle.fields.specs.Fields.{body_end, read_step, read_steps, GroupAt, refused, accepted}
use Rattle.code.specs.Limits.{longest_file}
use Rattle.code.specs.Refusals.{cut_short, too_long}
use Rattle.code.specs.Refusals as refusals
use Rattle.fields.specs.Fields.{read_file, layout_of, term_bytes, Whole, GroupHere, Groups, StepRange}
use Rattle.fields.specs.Files.{write_file, groups_placed, InBytes, GroupsFit}

-- The file s has its term's body up to e and the groups gs.
pub record HasFields (s : List ℕ) (e : ℕ) (gs : List GroupAt) : Type 0 where
  pub fits : length s ≤ longest_file
  pub term : Whole 1 1 s 0
  pub ends : e ≡ body_end s 0
  pub groups : Groups s e gs

-- The numbers r of an accepted file.
pub record AcceptedLayout (s : List ℕ) (r : Layout) : Type 0 where
  pub place : r.place ≡ 0
  pub list : List GroupAt
  pub counted : r.groups ≡ length list
  pub is : HasFields s r.end list

-- 1. Which files are accepted, and how their groups and steps follow one another.
pub record Reading : Type 0 where
  pub exactly : (s : List ℕ) (e : ℕ) (gs : List GroupAt) → (read_file s ≡ accepted e gs) ↔ HasFields s e gs
  pub if_accepted : (s : List ℕ) {r : Layout} → r ≡ layout_of (read_file s) → r.number ≡ refusals.accepted → AcceptedLayout s r
  pub if_refused : (s : List ℕ) {r : Layout} → r ≡ layout_of (read_file s) → (r.number ≡ refusals.accepted → ⊥)
      → (read_file s ≡ refused r.number r.place) × (r.end ≡ 0)
  -- a refusal has one of the numbers 1 to 4
  pub numbers : (s : List ℕ) {n p : ℕ} → read_file s ≡ refused n p → (cut_short ≤ n) × (n ≤ too_long)
  pub inside : (s : List ℕ) {r : Layout} → r ≡ layout_of (read_file s) → r.end ≤ length s
  pub term_length : {s : List ℕ} {e : ℕ} {gs : List GroupAt} → HasFields s e gs → 3 + length (term_bytes s e) ≡ e
  pub room : {s : List ℕ} {at : ℕ} {gs : List GroupAt} → Groups s at gs → at + 6 * length gs ≤ length s
  pub few : {s : List ℕ} {e : ℕ} {gs : List GroupAt} → HasFields s e gs → 3 < e → length gs ≤ 10921
  pub none_left : {s : List ℕ} {at : ℕ} {gs : List GroupAt} → Groups s at gs → length s ≤ at → gs ≡ []
  pub some_left : {s : List ℕ} {at : ℕ} {gs : List GroupAt} → Groups s at gs → at < length s → GroupHere s at
  pub no_step : (s : List ℕ) (at : ℕ) → read_steps s at at ≡ []
  pub next_step : {s : List ℕ} {from to : ℕ} → StepRange s from to → from < to
      → (read_steps s from to ≡ read_step s from ∷ read_steps s (from + 3) to) × StepRange s (from + 3) to

-- 2. A file that is written is read back; and every accepted file is one that is written.
pub record Writing : Type 0 where
  pub read_back : (b : List ℕ) (gs : List Group) → length (write_file b gs) ≤ longest_file
      → read_file (write_file b gs) ≡ accepted (3 + length b) (groups_placed (3 + length b) gs)
  pub same_term : (b : List ℕ) (gs : List Group) → term_bytes (write_file b gs) (3 + length b) ≡ b
  pub same_groups : (at : ℕ) (gs : List Group) → map (λ g. g.group) (groups_placed at gs) ≡ gs
  pub in_bytes : (b : List ℕ) (gs : List Group) → length (write_file b gs) ≤ longest_file → InBytes b → GroupsFit gs → InBytes (write_file b gs)
  pub only_written : {s : List ℕ} {e : ℕ} {gs : List GroupAt} → InBytes s → read_file s ≡ accepted e gs → s ≡ write_file (term_bytes s e) (map (λ g. g.group) gs)
  pub fitting : {s : List ℕ} {e : ℕ} {gs : List GroupAt} → InBytes s → read_file s ≡ accepted e gs → GroupsFit (map (λ g. g.group) gs)
