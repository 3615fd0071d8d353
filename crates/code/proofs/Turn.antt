-- A turn of the loop that follows the balance, and the balance as an i32.
-- Assumes nothing.
use Prim.Native.Nat.{ℕ, suc, ◌+◌, ◌≤◌, ◌<◌}
use mathlib.Core.Path.{◌≡◌, refl, sym, ap, ◌∙◌}
use mathlib.Core.Option.{none, some}
use mathlib.Core.List.{List}
use native.Mathlib.Numerals.{add-one}
use native.Mathlib.Omega.{arith}
use lib.ListN.{length, get_or, drop, drop_of_length-le}
use lib.Seq.{drop-cons}
use lib.IntN.{ℤ, pos, ◌+ℤ◌}
use borrow.Author.Tests.{ne_eqb, le-ltb}
use mir.Syntax.{w32}
use mir.Val.{to_z, of_z, SFits}
use mir.ValLaws.{to_z_pos}
use Rattle.code.specs.Code.{Symbol, symbol_tau, symbol_var, symbol_app, symbol_abs, symbol, change, delta, balance_after, first_zero, term_end}
use Rattle.code.specs.Limits.{longest_file}
use Rattle.code.proofs.FirstZero.{first_zero_zero}

-- ---- The balance moves by delta.
change_kept : (k : Symbol) → to_z w32 (of_z w32 (change k)) ≡ change k
unfolding change
change_kept symbol_tau = refl
change_kept symbol_var = refl
change_kept symbol_app = refl
change_kept symbol_abs = refl

pub delta_kept : (b : ℕ) → to_z w32 (of_z w32 (delta b)) ≡ delta b
unfolding delta
delta_kept b = change_kept (symbol b)

by_change : (k : Symbol) (n : ℕ) → 1 ≤ n → pos (balance_after k n) ≡ pos n +ℤ change k
unfolding balance_after change
by_change symbol_tau n p = rw (le-ltb n 1 p)
by_change symbol_var n p = rw (le-ltb n 1 p)
by_change symbol_app n p = ap pos (omega arith)
by_change symbol_abs n p = ap pos (omega arith)

pub by_delta : (n b : ℕ) → 1 ≤ n → pos (balance_after (symbol b) n) ≡ pos n +ℤ delta b
unfolding delta
by_delta n b p = by_change (symbol b) n p

pub balance_le : (k : Symbol) (n : ℕ) → balance_after k n ≤ suc n
unfolding balance_after
balance_le symbol_tau n = omega arith
balance_le symbol_var n = omega arith
balance_le symbol_app n = omega arith
balance_le symbol_abs n = omega arith

-- ---- The loop. At place i the balance is b, a number n, and the term, which starts at `from`, has not ended.
pub record Running (s : List ℕ) (from : ℕ) (b : ℤ) (i : ℕ) : Type 0 where
  pub number : ℕ
  pub is : b ≡ pos number
  pub positive : 1 ≤ number
  pub small : number ≤ i + 1
  pub rest : first_zero (drop i s) number i ≡ term_end s from

pub starts : (s : List ℕ) (from : ℕ) → Running s from (pos 1) from
unfolding term_end
starts s from = record { number = 1; is = refl; positive = omega arith; small = omega arith; rest = refl }

pub past_end : {s : List ℕ} {from i : ℕ} {b : ℤ} → Running s from b i → length s ≤ i → none ≡ term_end s from
unfolding first_zero
past_end {s} v h = rw (drop_of_length-le s h, ne_eqb v.number 0 (λ z. omega arith)) at v.rest

-- A turn, in which `delta_of` answers r; the code's sum is the next balance.
module _ {s : List ℕ} {from i : ℕ} {b r : ℤ} (v : Running s from b i) (h : i < length s) (l : length s ≤ longest_file) (e : r ≡ delta (get_or s i 0)) where
  sum : b +ℤ to_z w32 (of_z w32 r) ≡ pos (balance_after (symbol (get_or s i 0)) v.number)
  sum = rw (e, delta_kept (get_or s i 0), v.is, by_delta v.number (get_or s i 0) v.positive)

  few : balance_after (symbol (get_or s i 0)) v.number ≤ i + 2
  few = omega (arith, balance_le (symbol (get_or s i 0)) v.number, v.small)

  pub sum_fits : SFits w32 (b +ℤ to_z w32 (of_z w32 r))
  sum_fits = rw sum (record { sfits = omega (arith, few) })

  bits : of_z w32 (b +ℤ to_z w32 (of_z w32 r)) ≡ balance_after (symbol (get_or s i 0)) v.number
  bits = ap (of_z w32) sum

  next : first_zero (drop (i + 1) s) (balance_after (symbol (get_or s i 0)) v.number) (i + 1) ≡ term_end s from
  unfolding first_zero
  next = rw add-one (sym (rw (drop-cons s i 0 h) (simp (ne_eqb v.number 0 (λ z. omega (arith, v.positive))))) ∙ v.rest)

  kept : to_z w32 (of_z w32 (b +ℤ to_z w32 (of_z w32 r))) ≡ pos (balance_after (symbol (get_or s i 0)) v.number)
  kept = rw bits (to_z_pos w32 _ (omega (arith, few)))

  pub goes_on : (of_z w32 (b +ℤ to_z w32 (of_z w32 r)) ≡ 0 → ⊥) → Running s from (to_z w32 (of_z w32 (b +ℤ to_z w32 (of_z w32 r)))) (i + 1)
  goes_on z = record { number = balance_after (symbol (get_or s i 0)) v.number; is = kept; positive = omega (arith, bits); small = omega (arith, few); rest = next }

  pub stops : of_z w32 (b +ℤ to_z w32 (of_z w32 r)) ≡ 0 → some (i + 1) ≡ term_end s from
  stops z = sym (first_zero_zero (drop (i + 1) s) (i + 1)) ∙ rw (sym bits ∙ z) at next
