-- From a call's answer to the numbers given.
-- Assumes nothing.
use Prim.Native.Nat.{ℕ}
use mathlib.Core.Path.{◌≡◌, refl, ap}
use mathlib.Core.List.{List, [], ◌∷◌}
use Rattle.std.specs.Prelude as prelude
use Rattle.std.proofs.Common.{Result, Ok, Err, Some, None}
use Rattle.std.specs.Result.{result_transpose}
use Rattle.code.specs.declared.refusal.Refusal.{Refusal}
use Rattle.examine.specs.Inspect.{TermAnswer, term_says}
use Rattle.calls.specs.Answers.{Written, type_says, step_says}
use Rattle.explaining.specs.Explain.{Explanation, cause_number, first_of, second_of, third_of, explained_says}
use Rattle.checker.specs.declared.Checked.{Checked}
use Rattle.explaining.specs.declared.Explained.{Explained}
use Rattle.exports.specs.Numbers.{result_numbers, term_numbers, none_of, Given, Explains}

pub given_term : (r : Result ℕ Refusal) {a : TermAnswer} → term_says r ≡ a → result_numbers r ≡ term_numbers a
unfolding term_says
given_term (Ok n) h = ap term_numbers h
given_term (Err r) h = ap term_numbers h

pub given_none : (r : Result (prelude.Option ℕ) Refusal) {out before : List ℕ} {w : Written} → type_says r out ≡ w → result_transpose r ≡ None → (1 ≡ none_of w) × Given w before before out
given_none (Ok None) h e = rw (← h) (refl, record { numbers = refl; buffer = refl })
given_none (Ok (Some n)) h e = absurd cc
given_none (Err r) h e = absurd cc

pub given_type : (r : Result (prelude.Option ℕ) Refusal) {x : Result ℕ Refusal} {out before : List ℕ} {w : Written} → type_says r out ≡ w → result_transpose r ≡ Some x → (0 ≡ none_of w) × Given w before (result_numbers x) out
given_type (Ok None) h e = absurd cc
given_type (Ok (Some n)) {x} h e = let p : Ok n ≡ x = cc in rw (← h, ← p) (refl, record { numbers = refl; buffer = refl })
given_type (Err r) {x} h e = let p : Err r ≡ x = cc in rw (← h, ← p) (refl, record { numbers = refl; buffer = refl })

pub given_step : (r : Result ℕ Refusal) {out before : List ℕ} {w : Written} → step_says r out ≡ w → Given w before (result_numbers r) out
given_step (Ok n) h = rw (← h) (record { numbers = refl; buffer = refl })
given_step (Err r) h = rw (← h) (record { numbers = refl; buffer = refl })

pub given_checked : {c : Checked} {left right : List ℕ} {x : Explanation} → explained_says (Ok c) left right ≡ x → Explains x (0 ∷ 0 ∷ c.comparisons ∷ c.degree ∷ 0 ∷ 0 ∷ 0 ∷ 0 ∷ []) left right
given_checked h = rw (← h) (record { numbers = refl; left_buffer = refl; right_buffer = refl })

pub given_explained : (e : Explained) {n a b c : ℕ} {left right : List ℕ} {x : Explanation} → explained_says (Err e) left right ≡ x → n ≡ cause_number e.cause → a ≡ first_of e.cause → b ≡ second_of e.cause → c ≡ third_of e.cause
    → Explains x (n ∷ e.place ∷ e.comparisons ∷ e.degree ∷ a ∷ b ∷ c ∷ 0 ∷ []) left right
given_explained e h p q r t = rw (p, q, r, t, ← h) (record { numbers = refl; left_buffer = refl; right_buffer = refl })
