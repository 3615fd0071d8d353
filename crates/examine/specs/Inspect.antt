-- Examining a term: conditions 4, 3, 5 and 6 in document 01's order, and the answer. Places count symbols, and so bytes.
-- Assumes nothing.
use Rattle.std.specs.Prelude.{Result, Ok, Err, ℕ, zero, suc, ◌+◌, cond, List, eqb, leb, ltb, length}
use Rattle.std.proofs.Math.Option.{Option, none, some}
use Rattle.calculus.specs.Terms.{Term, tau, var, app, abs, size}
use Rattle.calculus.specs.Frames.{ε}
use Rattle.calculus.specs.Types.{nth, degree_in, degrees, degree}
use Rattle.code.specs.Limits.{longest_term, most_abstractors}
use Rattle.code.specs.Refusals.{not_one_term, too_long, beyond_scope, too_many_in_scope, number_of}
use Rattle.code.specs.Refusals as refusals
use Rattle.code.specs.Code.{decode, term_end}
use Rattle.code.specs.declared.refusal.Refusal.{Refusal}

-- What is wrong in a term, and the place.
pub data Fault : Type 0 where
  no_fault : Fault
  beyond : (place : ℕ) → Fault  -- condition 5
  deep : (place : ℕ) → Fault  -- condition 6

-- The first fault, or else the second.
unfoldable pub leftmost : Fault → Fault → Fault
leftmost no_fault f = f
leftmost (beyond p) f = beyond p
leftmost (deep p) f = deep p

-- Condition 5, 'index beyond scope': a variable at place i that stands in d scopes. Index 0, which no byte gives, is beyond any.
unfoldable pub index_fault : ℕ → ℕ → ℕ → Fault
index_fault d i zero = beyond i
index_fault d i (suc k) = cond (ltb k d) no_fault (beyond i)

-- Condition 6, 'over 253 abstractors in scope': an abstractor at place i that already stands in d scopes.
unfoldable pub scope_fault : ℕ → ℕ → Fault
scope_fault d i = cond (ltb d most_abstractors) no_fault (deep i)

-- The leftmost fault of a term that starts at place i and stands in d scopes.
unfoldable pub inspect : ℕ → ℕ → Term → Fault
unfolding size leftmost index_fault scope_fault
inspect d i tau = no_fault
inspect d i (var k) = index_fault d i k
inspect d i (app K B) = leftmost (inspect d (suc i) K) (inspect d (suc i + size K) B)
inspect d i (abs U B) = leftmost (scope_fault d i) (leftmost (inspect d (suc i) U) (inspect (suc d) (suc i + size U) B))

-- What examining finds: the number and place of a refusal, or the term.
pub data Examined : Type 0 where
  refused : (number place : ℕ) → Examined
  accepted : Term → Examined

-- 5 and 6, leftmost first.
unfoldable pub judged : Fault → Term → Examined
judged no_fault t = accepted t
judged (beyond p) t = refused beyond_scope p
judged (deep p) t = refused too_many_in_scope p

-- The case none does not occur: here the bytes are a whole term.
unfoldable pub decoded : Option Term → Examined
unfolding judged inspect
decoded none = refused not_one_term 0
decoded (some t) = judged (inspect 0 0 t) t

-- 3, 'not exactly one term': the place is the first byte past it, or the length where it does not end.
unfoldable pub ended : List ℕ → Option ℕ → Examined
unfolding decoded decode
ended s none = refused not_one_term (length s)
ended s (some e) = cond (eqb e (length s)) (decoded (decode s)) (refused not_one_term e)

-- 4, 'term over 4,096 bytes', before all else.
unfoldable pub examined : List ℕ → Examined
unfolding ended term_end
examined s = cond (leb (length s) longest_term) (ended s (term_end s 0)) (refused too_long 0)

-- Number, place and degree: number 0 if accepted, degree 0 if refused.
pub record TermAnswer : Type 0 where
  pub number : ℕ
  pub place : ℕ
  pub degree : ℕ

unfoldable pub term_answer_of : Examined → TermAnswer
unfolding nth degree_in degrees degree
term_answer_of (refused n p) = record { number = n; place = p; degree = 0 }
term_answer_of (accepted t) = record { number = refusals.accepted; place = 0; degree = degree ε t }

-- The answer of the call `examine_term`.
unfoldable pub term_answer : List ℕ → TermAnswer
unfolding term_answer_of examined
term_answer s = term_answer_of (examined s)

-- What each case of the code's answer says.
unfoldable pub term_says : Result ℕ Refusal → TermAnswer
term_says (Ok d) = record { number = refusals.accepted; place = 0; degree = d }
term_says (Err r) = record { number = number_of r.condition; place = r.place; degree = 0 }
