-- The loop of `walk`: its invariant, and what a turn and the end make of it.
-- Assumes nothing.
use Prim.Native.Nat.{ℕ, zero, suc, ◌+◌, ◌-◌, ◌≤◌, ◌<◌}
use mathlib.Core.Path.{◌≡◌, refl, ap, sym, ◌∙◌}
use mathlib.Core.Option.{some}
use mathlib.Core.Bool.{Bool, true, false}
use mathlib.Core.List.{List, [], append-nil}
use native.Mathlib.Omega.{arith}
use lib.Dec.{eqb, ltb}
use lib.ListN.{length, get_or, set, replicate, length-set}
use lib.Seq.{get_or-set_same, get_or-set_other}
use borrow.Author.Tests.{ltb-true, ltb-false, eqb-true, eqb-false}
use Rattle.calculus.specs.Terms.{Term, size}
use Rattle.calculus.specs.Types.{degree_in}
use Rattle.std.proofs.Common.{Result, Ok, Err}
use Rattle.code.specs.Limits.{longest_term, most_abstractors}
use Rattle.code.specs.Refusals.{number_of}
use Rattle.code.specs.declared.refusal.Refusal.{Refusal}
use Rattle.code.specs.Code.{Bytes, encode, term_end}
use Rattle.code.specs.Claims.{Stands}
use Rattle.code.proofs.RoundTrip.{length_encode, encode_decode}
use Rattle.code.proofs.FirstZero.{whole}
use Rattle.code.proofs.Parts.{head}
use Rattle.examine.specs.Inspect.{Fault, no_fault, beyond, deep, leftmost, inspect, refused, accepted, judged, examined, term_answer_of, term_answer, term_says}
use Rattle.examine.specs.Clauses.{ByteFault, Graded, Parts}
use Rattle.examine.proofs.Laws.{examined_whole, answered}
use Rattle.examine.proofs.Pending.{Pending, end, next, push, pending_fit, pending_some, pending_none, refused_here, turned}

-- At place i, `sp` terms are to come, and no fault stands before i.
pub record Running (s outside opens degrees : List ℕ) (sp last i : ℕ) : Type 0 where
  pub term : Term
  pub found_whole : examined s ≡ judged (inspect 0 0 term) term
  pub pending : Pending s outside opens degrees (degree_in [] term) sp most_abstractors i last (inspect 0 0 term)
  pub small : sp ≤ i + 1
  pub fit : sp + i ≤ length s
  pub outside_room : length outside ≡ 2049
  pub opens_room : length opens ≡ 2049
  pub degrees_room : length degrees ≡ 254
  pub last_small : last ≤ i
  pub degrees_small : (k : ℕ) → get_or degrees k 0 ≤ i

-- ---- The start.
zeros : (n k : ℕ) → ◌≡◌ {A = ℕ} (get_or (replicate n 0) k 0) 0
zeros zero k = refl
zeros (suc n) zero = refl
zeros (suc n) (suc k) = zeros n k

leftmost_none : (f : Fault) → f ≡ leftmost f no_fault
unfolding leftmost
leftmost_none no_fault = refl
leftmost_none (beyond p) = refl
leftmost_none (deep p) = refl

pub starts : (s : List ℕ) → Bytes s → length s ≤ longest_term → term_end s 0 ≡ some (length s) → Running s (replicate 2049 0) (replicate 2049 0) (replicate 254 0) 1 0 0
starts s w l e =
    let p = (whole s w).0 e in
    let t = p.0 in
    let h = encode_decode s t w p.1 in
    let q : length s ≡ size t = sym (ap length h.bytes) ∙ length_encode t in
    let st : Stands s 0 (length s) t = record { rest = []; bytes = sym (append-nil (encode t) ∙ h.bytes); coded = h.coded; place = omega arith } in
    let v : Pending s (replicate 2049 0) (replicate 2049 0) (replicate 254 0) (degree_in [] t) 1 most_abstractors 0 0 (inspect 0 0 t) =
    push 0 0 0 refl refl refl (omega arith) (omega arith) (omega arith) st (leftmost_none (inspect 0 0 t)) (end refl refl refl) in
    record {
      term = t;
      found_whole = examined_whole s l e p.1;
      pending = v;
      small = omega arith;
      fit = pending_fit v;
      outside_room = refl;
      opens_room = refl;
      degrees_room = refl;
      last_small = omega arith;
      degrees_small = λ k. omega (arith, zeros 254 k);
    }

-- ---- The end.
pub ends : {s outside opens degrees : List ℕ} {sp last i : ℕ} → Running s outside opens degrees sp last i → length s ≤ i → term_says (Ok last) ≡ term_answer s
unfolding term_says judged term_answer_of
ends {s} v h =
    let p = pending_none v.pending h in
    answered s {x = accepted v.term} (v.found_whole ∙ rw p.0) (rw p.1)

-- ---- A turn.
set_small : (a : List ℕ) (i v m : ℕ) → i < length a → ((k : ℕ) → get_or a k 0 ≤ m) → v ≤ m → (k : ℕ) → get_or (set a i v) k 0 ≤ m
set_small a i v m l h q k = go (eqb k i) refl
  where
    go : (x : Bool) → eqb k i ≡ x → get_or (set a i v) k 0 ≤ m
    go true e = rw (eqb-true k i e, get_or-set_same a i v 0 l) q
    go false e = rw (get_or-set_other a i k v 0 (eqb-false k i e)) (h k)

graded_small : {a : List ℕ} {b d last r : ℕ} (m : ℕ) → Graded a b d last r → ((k : ℕ) → get_or a k 0 ≤ m) → last ≤ m → r ≤ m + 1
graded_small {a} {b} {d} {last} {r} m g h q = go (ltb b 254) (eqb b 0) refl refl
  where
    go : (x y : Bool) → ltb b 254 ≡ x → eqb b 0 ≡ y → r ≤ m + 1
    go false y e f = omega (arith, g.elsewhere (ltb-false b 254 e))
    go true true e f = omega (arith, g.at_tau (eqb-true b 0 f))
    go true false e f = let n = eqb-false b 0 f in omega (arith, g.at_variable (omega arith) (ltb-true b 254 e), h (d - b))

-- The depth at which the next term stands.
depth_pending : {s outside opens degrees : List ℕ} {g m i last : ℕ} {F : Fault} (n : ℕ) → Pending s outside opens degrees g (suc n) m i last F
    → get_or outside n 0 + get_or opens n 0 ≤ most_abstractors
depth_pending n (next l ol dl h f v) = dl

refused_pending : {s outside opens degrees : List ℕ} {g m i last : ℕ} {F : Fault} {r : Refusal} (n : ℕ) (u : Term) → Pending s outside opens degrees g (suc n) m i last F
    → ByteFault (get_or s i 0) (get_or outside n 0 + get_or opens n 0) i (Err r) → judged F u ≡ refused (number_of r.condition) r.place
refused_pending n u (next {G = G} l ol dl h f v) ts = refused_here G u (head h) f ts

module _ {s outside opens degrees : List ℕ} {sp last i : ℕ} (v : Running s outside opens degrees sp last i) (h : i < length s) where
  pub some_left : 1 ≤ sp
  some_left = pending_some v.pending h

  above : suc (sp - 1) ≡ sp
  above = omega (arith, some_left)

  top : Pending s outside opens degrees (degree_in [] v.term) (suc (sp - 1)) most_abstractors i last (inspect 0 0 v.term)
  top = rw above v.pending

  pub depth_small : get_or outside (sp - 1) 0 + get_or opens (sp - 1) 0 ≤ most_abstractors
  depth_small = depth_pending (sp - 1) top

  pub stops : {x : Result (Unit {0}) Refusal} {r : Refusal} → ByteFault (get_or s i 0) (get_or outside (sp - 1) 0 + get_or opens (sp - 1) 0) i x → x ≡ Err r → term_says (Err r) ≡ term_answer s
  unfolding term_says term_answer_of
  stops ts e = answered s (v.found_whole ∙ refused_pending (sp - 1) v.term top (rw e at ts)) refl

  module _ {at : ℕ} (q : at ≡ get_or outside (sp - 1) 0) where
    pub degrees_set_small : (k : ℕ) → get_or (set degrees at last) k 0 ≤ i
    degrees_set_small = set_small degrees at last i (omega (arith, v.degrees_room, depth_small)) v.degrees_small v.last_small

    pub goes_on : {last' count x : ℕ} {r : Result (Unit {0}) Refusal} {u : Unit {0}} → length s ≤ longest_term → ByteFault (get_or s i 0) (get_or outside (sp - 1) 0 + get_or opens (sp - 1) 0) i r → r ≡ Ok u
        → Graded (set degrees at last) (get_or s i 0) (get_or outside (sp - 1) 0 + get_or opens (sp - 1) 0) last last' → Parts (get_or s i 0) count x
        → Running s (set (set outside (sp - 1) (get_or outside (sp - 1) 0 + get_or opens (sp - 1) 0)) sp (get_or outside (sp - 1) 0 + get_or opens (sp - 1) 0))
        (set (set opens (sp - 1) x) sp 0) (set degrees at last) (sp - 1 + count) last' (i + 1)
    goes_on {last'} {count} {x} l ts ok gr pt =
        let d = get_or outside (sp - 1) 0 + get_or opens (sp - 1) 0 in
        let n = sp - 1 in
        let p : Pending s (set (set outside n d) sp d) (set (set opens n x) sp 0) (set degrees at last) (degree_in [] v.term) (n + count) most_abstractors (i + 1) last' (inspect 0 0 v.term) =
        rw q (rw above at (turned (omega (arith, above, v.small, v.fit, v.outside_room)) (omega (arith, above, v.small, v.fit, v.opens_room)) (omega (arith, v.degrees_room)) ts ok (rw q at gr) pt top)) in
        record {
          term = v.term;
          found_whole = v.found_whole;
          pending = p;
          small = omega (arith, pt.few, some_left);
          fit = pending_fit p;
          outside_room = simp length-set v.outside_room;
          opens_room = simp length-set v.opens_room;
          degrees_room = simp length-set v.degrees_room;
          last_small = graded_small i gr degrees_set_small v.last_small;
          degrees_small = λ k. omega (arith, degrees_set_small k);
        }
