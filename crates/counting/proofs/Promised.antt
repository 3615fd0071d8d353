-- The counts by the recurrence are those of the definition, and the promises.
-- Assumes nothing.
use Prim.Native.Nat.{ℕ, zero, suc, ◌+◌, ◌-◌, ◌*◌, ◌^◌, ◌≤◌, ◌<◌}
use mathlib.Core.Path.{◌≡◌, refl, ap, ap₂, sym, ◌∙◌}
use mathlib.Core.Bool.{true, cond}
use mathlib.Core.List.{List, [], ◌∷◌}
use native.Mathlib.Omega.{arith}
use lib.Dec.{eqb}
use lib.ListN.{length}
use borrow.Author.Tests.{le-leb, lt-leb, ne_eqb}
use Rattle.code.specs.Code.{Bytes}
use Rattle.examine.specs.OneByte.{one_byte_number}
use Rattle.counting.specs.Counts.{longest_counted, answered, count_answer}
use Rattle.counting.specs.Clauses.{holds, holding, terms_in, terminals_in}
use Rattle.counting.specs.Claims.{Listing, Occurs, occurs_accepted, occurs_3, occurs_5, Counting}
use Rattle.counting.specs.Examples.{line, Examples}
use Rattle.counting.proofs.Sums.{count_ext, count_split, count_no_others, count_once, all_strings, length_strings}
use Rattle.counting.proofs.Splits.{none_in_none, some_in_none, none_in_some, one_more}
use Rattle.counting.proofs.Examined.{Answered, accepts, refuses_3, refuses_5, answered_by}

-- ---- One string.
closed_string : {s : List ℕ} → Answered s → eqb (one_byte_number s) 0 ≡ holds s (0 ∷ [])
closed_string (accepts n x y) = rw (n, x)
closed_string (refuses_3 n x y) = rw (n, x)
closed_string (refuses_5 n x y) = rw (n, x)

term_string : {s : List ℕ} → Answered s → cond (holds s (0 ∷ [])) 1 0 + cond (eqb (one_byte_number s) 5) 1 0 ≡ cond (holds s (253 ∷ [])) 1 0
term_string (accepts n x y) = rw (n, x, y)
term_string (refuses_3 n x y) = rw (n, x, y)
term_string (refuses_5 n x y) = rw (n, x, y)

any_string : {s : List ℕ} → Answered s → cond (holds s (253 ∷ [])) 1 0 + cond (eqb (one_byte_number s) 3) 1 0 ≡ 1
any_string (accepts n x y) = rw (n, y)
any_string (refuses_3 n x y) = rw (n, y)
any_string (refuses_5 n x y) = rw (n, y)

-- ---- All of a length.
module _ (n : ℕ) (l : n ≤ longest_counted) where
  each : {s : List ℕ} → Bytes s → length s ≡ n → Answered s
  each {s} w e = answered_by s w (omega arith)

  closed_counted : answered 0 n ≡ terms_in n 0
  unfolding answered holding
  closed_counted = count_ext n (λ s. eqb (one_byte_number s) 0) (λ s. holds s (0 ∷ [])) (λ s w e. closed_string (each w e))

  pub unbound_counted : terms_in n 0 + answered 5 n ≡ terms_in n 253
  unfolding answered holding
  unbound_counted = count_split n (λ s. holds s (0 ∷ [])) (λ s. eqb (one_byte_number s) 5) (λ s. holds s (253 ∷ [])) (λ s w e. term_string (each w e))

  pub malformed_counted : terms_in n 253 + answered 3 n ≡ 256 ^ n
  unfolding answered holding
  malformed_counted = count_split n (λ s. holds s (253 ∷ [])) (λ s. eqb (one_byte_number s) 3) (λ s. true) (λ s w e. any_string (each w e)) ∙ all_strings n

  answer_is : count_answer n ≡ line 0 (answered 0 n) (answered 3 n) (answered 5 n)
  unfolding count_answer
  answer_is = rw (le-leb n longest_counted l)

  -- The code's answer.
  pub counted : {c t a : ℕ} → c ≡ terms_in n 0 → t ≡ terms_in n 253 → a ≡ 256 ^ n → line 0 c (a - t) (t - c) ≡ count_answer n
  counted {c} {t} {a} x y z =
      let p : c ≡ answered 0 n = x ∙ sym closed_counted in
      let q : a - t ≡ answered 3 n = omega (arith, y, z, malformed_counted) in
      let r : t - c ≡ answered 5 n = omega (arith, x, y, unbound_counted) in
      (λ i. line 0 (p i) (q i) (r i)) ∙ sym answer_is

pub not_counted : (n : ℕ) → longest_counted < n → line 15 0 0 0 ≡ count_answer n
unfolding count_answer
not_counted n h = rw (lt-leb n longest_counted h)

-- ---- Promises.
pub listing_holds : Listing
listing_holds = record { length_strings = length_strings; once = count_once; no_others = count_no_others }

occurring : {s : List ℕ} → Answered s → Occurs (one_byte_number s)
occurring (accepts n x y) = rw n occurs_accepted
occurring (refuses_3 n x y) = rw n occurs_3
occurring (refuses_5 n x y) = rw n occurs_5

pub counting_holds : Counting
unfolding answered
counting_holds =
    record {
      occurring = λ s w l. occurring (answered_by s w (omega arith));
      no_others =
          λ n number l h.
          count_no_others n (λ s. eqb (one_byte_number s) number) (λ s w e. ne_eqb (one_byte_number s) number (λ q. h (rw q at (occurring (answered_by s w (omega arith))))));
      adds_up = λ n l. rw (answer_is n l) (omega (arith, closed_counted n l, unbound_counted n l, malformed_counted n l));
    }

-- ---- The lines, computed by the first byte.
unfoldable reckoned : ℕ → List ℕ → ℕ
reckoned zero [] = 1
reckoned zero (d ∷ ds) = 0
reckoned (suc n) [] = 0
reckoned (suc n) (d ∷ ds) = terminals_in d * reckoned n ds + (reckoned n (d ∷ d ∷ ds) + reckoned n (d ∷ suc d ∷ ds))

reckons : (n : ℕ) (ds : List ℕ) → holding n ds ≡ reckoned n ds
unfolding reckoned
reckons zero [] = none_in_none
reckons zero (d ∷ ds) = some_in_none d ds
reckons (suc n) [] = none_in_some n
reckons (suc n) (d ∷ ds) = one_more n d ds ∙ ap₂ ◌+◌ (ap (λ (k : ℕ). terminals_in d * k) (reckons n ds)) (ap₂ ◌+◌ (reckons n (d ∷ d ∷ ds)) (reckons n (d ∷ suc d ∷ ds)))

lined : (n : ℕ) → n ≤ longest_counted → count_answer n ≡ line 0 (reckoned n (0 ∷ [])) (256 ^ n - reckoned n (253 ∷ [])) (reckoned n (253 ∷ []) - reckoned n (0 ∷ []))
lined n l = sym (counted n l (sym (reckons n (0 ∷ []))) (sym (reckons n (253 ∷ []))) refl)

pub examples_hold : Examples
unfolding reckoned
examples_hold =
    record {
      length_0 = lined 0 (omega arith);
      length_1 = lined 1 (omega arith);
      length_2 = lined 2 (omega arith);
      length_3 = lined 3 (omega arith);
      length_4 = lined 4 (omega arith);
      length_5 = lined 5 (omega arith);
      length_6 = lined 6 (omega arith);
      length_7 = lined 7 (omega arith);
      length_8 = sym (not_counted 8 (omega arith));
    }
