-- What this crate promises of examining. A function of src/lib.rt ensures each numbered record.
-- Assumes nothing.
use Rattle.std.specs.Prelude.{ℕ, zero, suc, ◌+◌, ◌≤◌, ◌<◌, ◌≡◌, ◌↔◌, List, [], ◌∷◌, length}
use Rattle.std.proofs.Math.Option.{some}
use Rattle.calculus.specs.Terms.{Term, size, Closed}
use Rattle.code.specs.Limits.{longest_term, most_abstractors}
use Rattle.code.specs.Refusals.{not_one_term, too_long, too_many_in_scope}
use Rattle.code.specs.Code.{Bytes, Coded, decode}
use Rattle.code.specs.Scope.{scope}
use Rattle.examine.specs.Inspect.{no_fault, inspect, refused, accepted, examined, term_answer}

-- What is asked of a string s for t to be accepted.
pub record WellFormed (s : List ℕ) (t : Term) : Type 0 where
  pub decodes : decode s ≡ some t
  pub short : size t ≤ longest_term
  pub closed : Closed 0 t
  pub shallow : scope t ≤ most_abstractors

-- 1. What is accepted.
pub record Examining : Type 0 where
  pub accepts : (s : List ℕ) (t : Term) → Bytes s → (examined s ≡ accepted t) ↔ WellFormed s t
  pub faultless : (d i : ℕ) (t : Term) → d ≤ most_abstractors → (inspect d i t ≡ no_fault) ↔ (Closed d t × (d + scope t ≤ most_abstractors))
  pub coded : (s : List ℕ) (t : Term) → Bytes s → examined s ≡ accepted t → Coded t
  -- a refusal has one of the numbers 3 to 6
  pub numbers : (s : List ℕ) {n p : ℕ} → examined s ≡ refused n p → (not_one_term ≤ n) × (n ≤ too_many_in_scope)
  -- 4,097 bytes give 4, and 4,096 give 3
  pub over_long : (s : List ℕ) → longest_term < length s → examined s ≡ refused too_long 0
  pub even : (s : List ℕ) → Bytes s → length s ≡ longest_term → (p : ℕ) × (examined s ≡ refused not_one_term p)

-- n times two bytes, and then 00.
unfoldable pub repeated : ℕ → ℕ → ℕ → List ℕ
repeated zero b c = 0x00 ∷ []
repeated (suc n) b c = b ∷ c ∷ repeated n b c

-- 2. Examples of document 01: number, place and degree.
pub record Examples : Type 0 where
  pub e1 : term_answer (0xff ∷ 0x00 ∷ 0xff ∷ 0x01 ∷ 0x01 ∷ []) ≡ record { number = 0; place = 0; degree = 3 }
  pub condition_5 : term_answer (0x01 ∷ []) ≡ record { number = 5; place = 0; degree = 0 }
  pub condition_3 : term_answer (0xff ∷ 0x00 ∷ []) ≡ record { number = 3; place = 2; degree = 0 }
  pub byte_past : term_answer (0x00 ∷ 0x00 ∷ []) ≡ record { number = 3; place = 1; degree = 0 }
  pub condition_6 : term_answer (repeated 254 0xff 0x00) ≡ record { number = 6; place = 506; degree = 0 }
  pub longest : term_answer (repeated 2047 0xfe 0x00) ≡ record { number = 0; place = 0; degree = 1 }
  pub nothing : term_answer [] ≡ record { number = 3; place = 0; degree = 0 }
