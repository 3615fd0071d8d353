-- What the parts of `examine_file` make of its answer.
-- Assumes nothing.
use Prim.Native.Nat.{ℕ}
use mathlib.Core.Path.{◌≡◌, refl, ap, ◌∙◌}
use mathlib.Core.List.{List, []}
use native.Mathlib.Omega.{arith}
use Rattle.std.proofs.Common.{Ok, Err}
use Rattle.code.specs.Refusals.{number_of}
use Rattle.code.specs.declared.refusal.Refusal.{Refusal}
use Rattle.code.proofs.Refusals.{refusal_number}
use Rattle.fields.specs.Fields.{read_file, term_bytes, layout_of, layout_says}
use Rattle.fields.proofs.Groups.{if_accepted, if_refused, accepts}
use Rattle.fields.specs.declared.Layout as declared
use Rattle.examine.specs.Inspect.{examined, term_answer, term_says}
use Rattle.examine.proofs.Laws.{accepted_answer, refused_answer}
use Rattle.files.specs.File.{FileAnswer, Opened, open_term, open_fields, open_file, file_answer_of, file_answer}

-- The answer, where it is known what opening finds.
answered : (s : List ℕ) {o : Opened} {a : FileAnswer} → open_file s ≡ o → a ≡ file_answer_of s o → a ≡ file_answer s
unfolding file_answer
answered s h e = rw h e

pub fields_refused : (s : List ℕ) (x : Refusal) → layout_says (Err x) ≡ layout_of (read_file s) → record { number = number_of x.condition; place = x.place; part = [] } ≡ file_answer s
unfolding open_file open_fields file_answer_of
fields_refused s x is = answered s (ap (open_fields s) (if_refused s is (λ z. omega (arith, refusal_number x.condition))).0) refl

module _ (s : List ℕ) (l : declared.Layout) (is : layout_says (Ok l) ≡ layout_of (read_file s)) where
  opened_term : open_file s ≡ open_term l.end (if_accepted s is refl).list (examined (term_bytes s l.end))
  unfolding open_file open_fields
  opened_term = ap (open_fields s) (accepts (if_accepted s is refl).is)

  pub term_refused : (x : Refusal) → term_says (Err x) ≡ term_answer (term_bytes s l.end) → record { number = number_of x.condition; place = x.place; part = [] } ≡ file_answer s
  unfolding open_term file_answer_of
  term_refused x q = answered s (opened_term ∙ ap (open_term l.end _) (refused_answer (term_bytes s l.end) x q)) refl

  pub term_accepted : (d : ℕ) → term_says (Ok d) ≡ term_answer (term_bytes s l.end) → record { number = 0; place = 0; part = term_bytes s l.end } ≡ file_answer s
  unfolding open_term file_answer_of
  term_accepted d q = answered s (opened_term ∙ ap (open_term l.end _) (accepted_answer (term_bytes s l.end) q).is) refl
