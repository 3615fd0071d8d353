-- Reading the bytes of a term into letters: the parts that are still to be read, and the letters that they give.
-- Assumes nothing.
use Prim.Native.Nat.{ℕ, ◌+◌, ◌-◌, ◌≤◌, ◌<◌, max}
use mathlib.Core.Path.{◌≡◌, refl, ap, sym, ◌∙◌}
use mathlib.Core.Bool.{true, cond}
use mathlib.Core.List.{List, [], ◌∷◌, ◌++◌, append_assoc, append-nil}
use native.Mathlib.Omega.{arith}
use native.Mathlib.Nat.{add-suc, add-zero}
use native.Mathlib.Numerals.{add-one}
use lib.Dec.{ltb}
use lib.ListN.{length, get_or, set}
use lib.Seq.{sets, length-sets}
use borrow.Author.Tests.{lt-ltb, le-ltb}
use Rattle.calculus.specs.Terms.{Term, lift_index, lift}
use Rattle.calculus.proofs.Lift.{index_low}
use Rattle.code.specs.Limits.{longest_term}
use Rattle.code.specs.Code.{Coded, coded_tau, coded_var, coded_app, coded_abs}
use Rattle.code.specs.Scope.{scope}
use Rattle.code.specs.Claims.{Stands}
use Rattle.indices.specs.Stack.{Roomy, StackReady, Advanced}
use Rattle.indices.proofs.Pending.{Item, item, next, byte, deepest, low, deepest_next}
use Rattle.indices.proofs.Walk.{Walk, scope_size, walk_start, walk_end, unfinished, counted, walk_next, here_byte, here_scope, ready}
use Rattle.letters.specs.Letters.{letter, letters}
use Rattle.letters.specs.Clauses.{ReadAs, read_all}

-- The symbol of the byte b with c abstractors of its term in scope, lifted by k.
unfoldable pub lifted_byte : ℕ → ℕ → ℕ → ℕ
lifted_byte k c b = cond (ltb b 0xfe) (lift_index k c b) (b + 768)

-- ---- Its letter is stored.
pub record Stored (out out' : List ℕ) (j k c b d h : ℕ) : Type 0 where
  pub there : out' ≡ set out j (letter (lifted_byte k c b) d h)

module _ {out out' : List ℕ} {j k c b d h x z : ℕ} where
  pub terminal_stored : {y : ℕ} → b < 254 → x ≡ b → y ≡ lift_index k c x → z ≡ letter y d h → out' ≡ set out j z → Stored out out' j k c b d h
  unfolding lifted_byte
  terminal_stored l e q r o = record { there = rw (lt-ltb b 254 l, o, r, q, e) }

  pub operator_stored : {y : ℕ} → 254 ≤ b → x ≡ b → y ≡ x + 768 → z ≡ letter y d h → out' ≡ set out j z → Stored out out' j k c b d h
  unfolding lifted_byte
  operator_stored l e q r o = record { there = rw (le-ltb b 254 l, o, r, q, e) }

-- ---- The letters of the parts, each lifted by k; the first letter of the whole has depth d and height h.
module _ (k d h : ℕ) where
  unfoldable pub written : List Item → List ℕ
  written [] = []
  written (item {t} e f ∷ W) = letters (d + e) (h + length W) (lift k e t) ++ written W

  written_next : {t : Term} (e : ℕ) (f : Coded t) (W : List Item)
      → written (item e f ∷ W) ≡ letter (lifted_byte k e (byte t)) (d + e) (h + length W) ∷ written (next e f W)
  unfolding written next byte lift letters lifted_byte
  written_next e coded_tau W = rw (index_low k e 0 (omega arith))
  written_next e (coded_var {k = j} p q) W = rw (lt-ltb j 254 (low q))
  written_next e (coded_app f g) W = simp (append_assoc, add-suc)
  written_next e (coded_abs f g) W = simp (append_assoc, add-suc)

-- ---- The loop: at place i of s, and place j of out; x is the scope there.
pub record Reading (s out₀ out : List ℕ) (from e k d h room at : ℕ) (stack : List ℕ) (x n i j : ℕ) (t : Term) : Type 0 where
  pub work : List Item
  pub walk : Walk s from e stack x n i work
  pub most : ℕ
  pub few : most ≤ room
  pub all : max most (deepest work) ≡ scope t
  pub result : sets out j (written k d h work) ≡ sets out₀ at (letters d h (lift k 0 t))
  pub there : from + j ≡ at + i

pub reading_start : {s out : List ℕ} {from e k d h room at : ℕ} {t : Term} (stack : List ℕ) → Stands s from e t → e ≤ from + longest_term → Roomy stack from e
    → Reading s out out from e k d h room at stack 0 1 from at t
unfolding deepest written
reading_start {out = out} {k = k} {d} {h} {t = t} stack a l r = record {
  work = item 0 a.coded ∷ [];
  walk = walk_start stack a (omega (arith, scope_size t, a.place)) r;
  most = 0;
  few = omega arith;
  all = omega arith;
  result = rw (add-zero d, add-zero h, append-nil (letters d h (lift k 0 t))) refl;
  there = omega arith;
}

module _ {s out₀ out : List ℕ} {from e k d h room at : ℕ} {stack : List ℕ} {x n i j : ℕ} {t : Term} (r : Reading s out₀ out from e k d h room at stack x n i j t) where
  pub reading_ready : i < e → StackReady stack x n
  reading_ready l = ready r.work r.walk l

  pub reading_length : length out ≡ length out₀
  reading_length = sym (length-sets out j (written k d h r.work)) ∙ ap length r.result ∙ length-sets out₀ at (letters d h (lift k 0 t))

  -- More abstractors are in scope than there is room for.
  pub reading_deep : i < e → room < x → room < scope t
  reading_deep l m = go r.work r.walk r.all
    where
      go : (W : List Item) → Walk s from e stack x n i W → max r.most (deepest W) ≡ scope t → room < scope t
      go [] w a = absurd (unfinished w l)
      go (item c f ∷ W) w a = omega (arith, deepest_next c f W, here_scope c f W w)

  -- A letter is written.
  pub reading_next : {out' stack' : List ℕ} {x' n' : ℕ} → i < e → x ≤ room → Stored out out' j k x (get_or s i 0) (d + x) (h + (n - 1))
      → Advanced stack stack' x n x' n' (get_or s i 0) → Reading s out₀ out' from e k d h room at stack' x' n' (i + 1) (j + 1) t
  reading_next {out'} {stack'} {x'} {n'} l m g a = go r.work r.walk r.all r.result
    where
      go : (W : List Item) → Walk s from e stack x n i W → max r.most (deepest W) ≡ scope t → sets out j (written k d h W) ≡ sets out₀ at (letters d h (lift k 0 t))
          → Reading s out₀ out' from e k d h room at stack' x' n' (i + 1) (j + 1) t
      go [] w o v = absurd (unfinished w l)
      go (item {t = u} c f ∷ W) w o v =
          let high : n - 1 ≡ length W = omega (arith, counted (item c f ∷ W) w) in
          let stored : out' ≡ set out j (letter (lifted_byte k c (byte u)) (d + c) (h + length W)) = g.there ∙ rw (here_scope c f W w, here_byte c f W w, high) refl in
          record {
            work = next c f W;
            walk = walk_next c f W w a;
            most = max r.most c;
            few = omega (arith, r.few, here_scope c f W w);
            all = omega (arith, deepest_next c f W);
            result = rw (stored, add-one j) (rw (written_next k d h c f W) at v);
            there = omega (arith, r.there);
          }

  -- At the end.
  pub reading_end : e ≤ i → ReadAs k d h room out₀ out at t true
  unfolding deepest written
  reading_end l = go r.work r.walk r.all r.result
    where
      go : (W : List Item) → Walk s from e stack x n i W → max r.most (deepest W) ≡ scope t → sets out j (written k d h W) ≡ sets out₀ at (letters d h (lift k 0 t))
          → ReadAs k d h room out₀ out at t true
      go W w o v = let z = walk_end W w l in read_all (rw z at v) (omega (arith, r.few, o, ap deepest z))

  -- The figures of a letter fit.
  pub reading_high : i < e → h + e ≤ from + longest_term → h + (n - 1) < longest_term
  reading_high l m = omega (arith, r.walk.small, (reading_ready l).positive)

  pub reading_place : i < e → at + (e - from) ≤ longest_term → j < longest_term
  reading_place l m = omega (arith, r.there)
