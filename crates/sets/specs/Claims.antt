-- What the answer to a set says, and the promises of request (e).
-- Assumes nothing.
use Rattle.std.specs.Prelude.{ℕ, ◌+◌, ◌≤◌, ◌<◌, ◌≡◌, ◌↔◌, List, [], ◌∷◌, ◌++◌, length, get_or}
use Rattle.calculus.specs.Terms.{applicators}
use Rattle.code.specs.Refusals.{accepted, too_long, not_a_set}
use Rattle.code.specs.Code.{Bytes}
use Rattle.fields.specs.Files.{write_field, InBytes}
use Rattle.files.specs.Check.{check_file}
use Rattle.files.specs.Claims.{Accepted, Refused}
use Rattle.sets.specs.Sets.{SetAnswer, longest_set, file_tag, refused_file, refused_set, accepted_set, check_set}

-- A set as it is written.
unfoldable pub write_set : List (List ℕ) → List ℕ
write_set [] = []
write_set (f ∷ fs) = write_field file_tag f ++ write_set fs

-- s is a set with the files fs: it is not too long, there is a file, every field is whole with tag 5, and nothing else stands in it.
pub record HoldsFiles (s : List ℕ) (fs : List (List ℕ)) : Type 0 where
  pub fits : length s ≤ longest_set
  pub some_file : 0 < length fs
  pub written : s ≡ write_set fs

-- The file with a number is accepted by 'check a file'; and what its refusal says.
abbrev pub FileAccepted : List (List ℕ) → ℕ → Type 0
FileAccepted fs i = (check_file (get_or fs i [])).number ≡ accepted

abbrev pub FileRefused : List (List ℕ) → ℕ → Type 0
FileRefused fs i = let a = check_file (get_or fs i []) in Refused (get_or fs i []) a.number a.comparisons a.degree

-- Every one of fs is accepted, with all that this says of a file: among it, its term is correct under the plain rules. The comparisons, the
-- applicators of the terms and the groups of the files, each added up.
pub data AllAccepted : List (List ℕ) → (comparisons applicators groups : ℕ) → Type 0 where
  none : AllAccepted [] 0 0 0
  next : {f : List ℕ} {fs : List (List ℕ)} {c n g : ℕ} → (check_file f).number ≡ accepted → (a : Accepted f (check_file f).comparisons (check_file f).degree)
      → AllAccepted fs c n g → AllAccepted (f ∷ fs) ((check_file f).comparisons + c) (applicators a.term + n) (length a.steps + g)

-- What it is for the set s to be accepted with that answer.
pub record SetAccepted (s : List ℕ) (a : SetAnswer) : Type 0 where
  pub files : List (List ℕ)
  pub holds : HoldsFiles s files
  pub answer : a ≡ accepted_set (length files) a.comparisons
  pub all_applicators : ℕ
  pub all_groups : ℕ
  pub each : AllAccepted files a.comparisons all_applicators all_groups
  -- comparisons = applicators of all its terms = groups of all its files
  pub all_compared : a.comparisons ≡ all_applicators
  pub group_each : a.comparisons ≡ all_groups

-- No whole field with tag 5 stands after the files fs, where one is due: something is left, or there is no file.
pub record NoField (fs : List (List ℕ)) (rest : List ℕ) : Type 0 where
  pub none_whole : (f w : List ℕ) → rest ≡ write_field file_tag f ++ w → ⊥
  pub due : rest ≡ [] → fs ≡ []

-- What it is for it to be refused with that answer.
pub data SetRefused (s : List ℕ) : SetAnswer → Type 0 where
  over_long : longest_set < length s → SetRefused s (refused_set too_long 0)
  no_set : (fs : List (List ℕ)) (rest : List ℕ) → length s ≤ longest_set → s ≡ write_set fs ++ rest → NoField fs rest
      → SetRefused s (refused_set not_a_set (length (write_set fs)))
  -- the first file that is refused, all before it accepted, with its own answer and all that this says of a file
  one_file : (fs : List (List ℕ)) (i : ℕ) → HoldsFiles s fs → i < length fs → ((j : ℕ) → j < i → FileAccepted fs j) → (FileAccepted fs i → ⊥)
      → FileRefused fs i → SetRefused s (refused_file i (check_file (get_or fs i [])))

pub record AcceptedSets : Type 0 where
  -- accepted exactly if there is a file, every field is whole with tag 5, and every file is accepted by 'check a file'
  pub exactly : (s : List ℕ) → Bytes s
      → ((check_set s).number ≡ accepted) ↔ ((fs : List (List ℕ)) × HoldsFiles s fs × ((i : ℕ) → i < length fs → FileAccepted fs i))
  -- and every choice of files gives such a string of bytes, if it is not too long
  pub packed : (fs : List (List ℕ)) → 0 < length fs → length (write_set fs) ≤ longest_set → ((i : ℕ) → i < length fs → InBytes (get_or fs i []))
      → Bytes (write_set fs) × HoldsFiles (write_set fs) fs

-- The contract of the call 'check a set': the five numbers are those of the definition; and what the acceptance of s means, and its refusal.
pub record SetChecked (s : List ℕ) (r : SetAnswer) : Type 0 where
  pub answer : r ≡ check_set s
  pub acceptance : r.number ≡ accepted → SetAccepted s r
  pub refusal : (r.number ≡ accepted → ⊥) → SetRefused s r
