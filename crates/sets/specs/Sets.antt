-- Checking a set of files (document 02, (e)). A set is a run of fields with tag 5, each holding a whole file.
-- Assumes nothing.
use Rattle.std.specs.Prelude.{ℕ, Result, Ok, Err, ◌+◌, cond, List, [], ◌∷◌, length, ltb, eqb}
use Rattle.code.specs.Refusals.{accepted, too_long, not_a_set, number_of}
use Rattle.code.specs.declared.refusal.Refusal.{Refusal}
use Rattle.fields.specs.Fields.{Field, Fault, End}
use Rattle.fields.specs.Fields.{field_at, body_at, Sequence, broken, sequence, sequence_from}
use Rattle.files.specs.Check.{CheckAnswer, check_file}
use Rattle.checker.specs.Answer.{before_walk}
use Rattle.sets.specs.declared.SetChecked.{SetChecked}
use Rattle.sets.specs.declared.SetRefused.{SetRefused}

-- The refused file's number, from 0, with its own number, place, comparisons and degree; or how many files, 0, 0, the comparisons in all, 0.
pub record SetAnswer : Type 0 where
  pub file : ℕ
  pub number : ℕ
  pub place : ℕ
  pub comparisons : ℕ
  pub degree : ℕ

-- '65,535 bytes in all', heads included.
abbrev pub longest_set : ℕ
longest_set = 65535

abbrev pub file_tag : ℕ
file_tag = 5

-- The field at a place: its end; or 16, at its head, for a field cut short or another tag.
unfoldable pub or_not_a_set : ℕ → Field → Field
or_not_a_set at (Fault n p) = Fault not_a_set at
or_not_a_set at (End e) = End e

unfoldable pub file_end : List ℕ → ℕ → Field
file_end s at = or_not_a_set at (field_at file_tag 1 s at)

-- The files from a place on.
abbrev pub files_from : List ℕ → ℕ → Sequence (List ℕ)
files_from s at = sequence_from (file_end s) (body_at s) (length s) (length s) at

-- The set: its length, 16 if it is empty, then all heads, before any check.
unfoldable pub read_set : List ℕ → Sequence (List ℕ)
unfolding or_not_a_set file_end sequence_from
read_set s = cond (ltb longest_set (length s)) (broken too_long 0) (cond (eqb (length s) 0) (broken not_a_set 0) (files_from s 0))

-- The refused file's number and its own answer.
abbrev pub refused_file : ℕ → CheckAnswer → SetAnswer
refused_file i a = record { file = i; number = a.number; place = a.place; comparisons = a.comparisons; degree = a.degree }

-- The set's own refusal.
abbrev pub refused_set : (number place : ℕ) → SetAnswer
refused_set n p = record { file = 0; number = n; place = p; comparisons = 0; degree = 0 }

-- How many files, and the comparisons in all.
abbrev pub accepted_set : (files comparisons : ℕ) → SetAnswer
accepted_set n c = record { file = n; number = accepted; place = 0; comparisons = c; degree = 0 }

-- The files one after the other, up to the first that is refused: i came before these, with c comparisons.
unfoldable pub check_files : (i c : ℕ) → List (List ℕ) → SetAnswer
check_files i c [] = accepted_set i c
check_files i c (f ∷ fs) =
    let a = check_file f in
    cond (eqb a.number accepted) (check_files (i + 1) (c + a.comparisons) fs) (refused_file i a)

-- What is read of a set, or from a place in it on: a refusal, or the files.
unfoldable pub check_from : (i c : ℕ) → Sequence (List ℕ) → SetAnswer
check_from i c (broken n p) = refused_set n p
check_from i c (sequence fs) = check_files i c fs

-- The answer of the call 'check a set'.
unfoldable pub check_set : List ℕ → SetAnswer
unfolding read_set check_files check_from
check_set s = check_from 0 0 (read_set s)

-- The five numbers, for each case of the code's answer.
abbrev pub set_says : Result SetChecked SetRefused → SetAnswer
set_says (Ok c) = accepted_set c.files c.comparisons
set_says (Err r) = let x = r.refused in record { file = r.file; number = number_of x.refusal.condition; place = x.refusal.place; comparisons = x.comparisons; degree = x.degree }

-- The set's own refusal.
abbrev pub own_refusal : Refusal → SetRefused
own_refusal r = record { file = 0; refused = before_walk r }
