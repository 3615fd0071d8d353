-- The walk over a term: the terms still to come, as the arrays of `walk` hold them.
-- Assumes nothing.
use Prim.Native.Nat.{ℕ, zero, suc, ◌+◌, ◌-◌, ◌≤◌, ◌<◌}
use mathlib.Core.Path.{◌≡◌, refl, ap, ap₂, sym, ◌∙◌}
use mathlib.Core.List.{List, [], ◌∷◌}
use native.Mathlib.Omega.{arith}
use native.Mathlib.Nat.{add-zero}
use native.Mathlib.Numerals.{add-one}
use lib.ListN.{length, get_or, set, length-set}
use lib.Seq.{get_or-set_same, get_or-set_other}
use borrow.Author.Tests.{lt-ltb, le-ltb}
use Rattle.calculus.specs.Terms.{Term, size}
use Rattle.calculus.specs.Types.{nth, degree_in}
use Rattle.std.proofs.Common.{Result, Ok, Err}
use Rattle.code.specs.Limits.{most_abstractors}
use Rattle.code.specs.Refusals.{number_of}
use Rattle.code.specs.declared.refusal.Refusal.{Refusal}
use Rattle.code.specs.Claims.{Stands}
use Rattle.code.proofs.Parts.{stands_start, stands_end, Head, head_tau, head_var, head_app, head_abs, head}
use Rattle.examine.specs.Inspect.{Fault, no_fault, beyond, deep, leftmost, inspect, refused, judged}
use Rattle.examine.proofs.Laws.{index_within, index_past}
use Rattle.examine.specs.Clauses.{ByteFault, passes, index_beyond, too_deep, Graded, Parts}

-- The first n entries of an array, the latest first.
abbrev pub latest : List ℕ → ℕ → List ℕ
latest a zero = []
latest a (suc n) = get_or a n 0 ∷ latest a n

-- The degrees of the binders around a term, where o abstractors are added: one, whose U ends in a terminal of degree `last`, or none.
abbrev pub opened : ℕ → ℕ → List ℕ → List ℕ
opened zero last D = D
opened (suc o) last D = last ∷ D

-- Two arrays agree below n.
pub record Agree (n : ℕ) (a b : List ℕ) : Type 0 where
  pub entry : (k : ℕ) → k < n → get_or a k 0 ≡ get_or b k 0

-- n terms are to come, one after the other from place i, as the arrays say: the next one stands in as many scopes as `outside` and
-- `opens` add up to. All have at most m in `outside`. F is the leftmost fault from i on; if there is none, the degree at the end is g.
pub data Pending (s outside opens degrees : List ℕ) (g : ℕ) : ℕ → ℕ → ℕ → ℕ → Fault → Type 0 where
  end : {m i last : ℕ} {F : Fault} → i ≡ length s → F ≡ no_fault → last ≡ g → Pending s outside opens degrees g 0 m i last F
  next : {n m i j last : ℕ} {t : Term} {F G : Fault} → get_or outside n 0 ≤ m → get_or opens n 0 ≤ 1 → get_or outside n 0 + get_or opens n 0 ≤ most_abstractors
      → Stands s i j t → F ≡ leftmost (inspect (get_or outside n 0 + get_or opens n 0) i t) G
      → Pending s outside opens degrees g n (get_or outside n 0) j (degree_in (opened (get_or opens n 0) last (latest degrees (get_or outside n 0))) t) G
      → Pending s outside opens degrees g (suc n) m i last F

pub push : {s outside opens degrees : List ℕ} {g n m i j last : ℕ} {t : Term} {F G : Fault} (e o d : ℕ) → get_or outside n 0 ≡ e → get_or opens n 0 ≡ o → e + o ≡ d
    → e ≤ m → o ≤ 1 → d ≤ most_abstractors → Stands s i j t → F ≡ leftmost (inspect d i t) G
    → Pending s outside opens degrees g n e j (degree_in (opened o last (latest degrees e)) t) G → Pending s outside opens degrees g (suc n) m i last F
push {n = n} {m} {i} {j} {last} {t} {F} {G} e o d x y z l ol dl h f v =
    next {n = n} {m = m} {i = i} {j = j} {last = last} {t = t} {F = F} {G = G} (rw x l) (rw y ol) (rw (x, y, z) dl) h (rw (x, y, z) f) (rw (x, y) v)

-- ---- Laws of arrays.
latest_kept : (a b : List ℕ) (n : ℕ) → Agree n a b → latest a n ≡ latest b n
latest_kept a b zero h = refl
latest_kept a b (suc n) h = ap₂ (λ x y. x ∷ y) (h.entry n (omega arith)) (latest_kept a b n (record { entry = λ k l. h.entry k (omega arith) }))

nth_latest : (a : List ℕ) (d k : ℕ) → 1 ≤ k → k ≤ d → nth (latest a d) k ≡ get_or a (d - k) 0
unfolding nth
nth_latest a zero k p q = absurd (omega arith)
nth_latest a (suc d) zero p q = absurd (omega arith)
nth_latest a (suc d) (suc zero) p q = ap (λ x. get_or a x 0) (omega arith)
nth_latest a (suc d) (suc (suc k)) p q = nth_latest a d (suc k) (omega arith) (omega arith) ∙ ap (λ x. get_or a x 0) (omega arith)

pub set_agree : (a : List ℕ) (n i v : ℕ) → n ≤ i → Agree n (set a i v) a
set_agree a n i v h = record { entry = λ k l. get_or-set_other a i k v 0 (λ e. omega arith) }

pub set_opened : (a : List ℕ) (e o d v : ℕ) → o ≤ 1 → e + o ≡ d → e < length a → latest (set a e v) d ≡ opened o v (latest a e)
set_opened a e zero d v h p l = rw (← p, add-zero e) (latest_kept (set a e v) a e (set_agree a e e v (omega arith)))
set_opened a e (suc zero) d v h p l =
    rw (sym p ∙ add-one e) (ap₂ (λ x y. x ∷ y) (get_or-set_same a e v 0 l) (latest_kept (set a e v) a e (set_agree a e e v (omega arith))))
set_opened a e (suc (suc o)) d v h p l = absurd (omega arith)

-- Two entries put at n and n + 1.
module _ (a : List ℕ) (n v w : ℕ) where
  put_agree : Agree n (set (set a n v) (suc n) w) a
  put_agree = record { entry = λ k l. get_or-set_other (set a n v) (suc n) k w 0 (λ e. omega arith) ∙ get_or-set_other a n k v 0 (λ e. omega arith) }

  module _ (room : suc n < length a) where
    put_first : get_or (set (set a n v) (suc n) w) n 0 ≡ v
    put_first = get_or-set_other (set a n v) (suc n) n w 0 (λ e. omega arith) ∙ get_or-set_same a n v 0 (omega arith)

    put_second : get_or (set (set a n v) (suc n) w) (suc n) 0 ≡ w
    put_second = get_or-set_same (set a n v) (suc n) w 0 (rw (length-set a n v) room)

-- ---- The terms to come do not change with what stands above them in the arrays.
fewer : {m n : ℕ} {a b : List ℕ} → m ≤ n → Agree n a b → Agree m a b
fewer l h = record { entry = λ k q. h.entry k (omega arith) }

pub kept : {s outside opens degrees outside' opens' degrees' : List ℕ} {g n m i last : ℕ} {F : Fault}
    → Agree n outside' outside → Agree n opens' opens → Agree m degrees' degrees
    → Pending s outside opens degrees g n m i last F → Pending s outside' opens' degrees' g n m i last F
kept a b c (end p q r) = end p q r
kept {outside = outside} {opens = opens} {degrees = degrees} {degrees' = degrees'} a b c (next {n} l ol dl h f v) =
    push (get_or outside n 0) (get_or opens n 0) (get_or outside n 0 + get_or opens n 0) (a.entry n (omega arith)) (b.entry n (omega arith)) refl l ol dl h f
    (rw (latest_kept degrees' degrees (get_or outside n 0) (fewer l c)) (kept (fewer (omega arith) a) (fewer (omega arith) b) (fewer l c) v))

wider : {s outside opens degrees : List ℕ} {g n m i last : ℕ} {F : Fault} (m' : ℕ) → m ≤ m'
    → Pending s outside opens degrees g n m i last F → Pending s outside opens degrees g n m' i last F
wider m' q (end p x y) = end p x y
wider {outside = outside} m' q (next {n} l ol dl h f v) = let r : get_or outside n 0 ≤ m' = omega arith in next r ol dl h f v

placed : {s outside opens degrees : List ℕ} {g n n' m i i' last last' : ℕ} {F F' : Fault} → n' ≡ n → i' ≡ i → last' ≡ last → F' ≡ F
    → Pending s outside opens degrees g n m i last F → Pending s outside opens degrees g n' m i' last' F'
placed p q r f v = rw (p, q, r, f) v

-- ---- What the number to come says.
pub pending_fit : {s outside opens degrees : List ℕ} {g n m i last : ℕ} {F : Fault} → Pending s outside opens degrees g n m i last F → n + i ≤ length s
pending_fit (end p q r) = omega arith
pending_fit (next l ol dl h f v) = omega (arith, pending_fit v, stands_start h)

pub pending_some : {s outside opens degrees : List ℕ} {g n m i last : ℕ} {F : Fault} → Pending s outside opens degrees g n m i last F → i < length s → 1 ≤ n
pending_some (end p q r) h = absurd (omega arith)
pending_some (next l ol dl h f v) q = omega arith

pub pending_none : {s outside opens degrees : List ℕ} {g n m i last : ℕ} {F : Fault} → Pending s outside opens degrees g n m i last F → length s ≤ i
    → (F ≡ no_fault) × (last ≡ g)
pending_none (end p q r) h = (q, r)
pending_none (next l ol dl h f v) q = absurd (omega (arith, stands_start h, stands_end h))

-- ---- A turn.
leftmost_assoc : (f g h : Fault) → leftmost (leftmost f g) h ≡ leftmost f (leftmost g h)
unfolding leftmost
leftmost_assoc no_fault g h = refl
leftmost_assoc (beyond p) g h = refl
leftmost_assoc (deep p) g h = refl

module _ {s : List ℕ} {i j d : ℕ} where
  beyond_here : {t : Term} (G : Fault) → Head s i j t → get_or s i 0 < 0xfe → d < get_or s i 0 → leftmost (inspect d i t) G ≡ beyond i
  unfolding inspect
  beyond_here G (head_tau b e) l h = absurd (omega arith)
  beyond_here G (head_var {k} b x y e) l h = rw (index_past d i k (omega arith))
  beyond_here G (head_app b h k) l q = absurd (omega arith)
  beyond_here G (head_abs b h k) l q = absurd (omega arith)

  deep_here : {t : Term} (G : Fault) → Head s i j t → get_or s i 0 ≡ 0xff → most_abstractors ≤ d → leftmost (inspect d i t) G ≡ deep i
  unfolding inspect
  deep_here G (head_tau b e) l h = absurd (omega arith)
  deep_here G (head_var b x y e) l h = absurd (omega arith)
  deep_here G (head_app b h k) l q = absurd (omega arith)
  deep_here G (head_abs b h k) l q = rw (le-ltb d most_abstractors q)

  -- a fault here is the leftmost
  pub refused_here : {t : Term} {F : Fault} {r : Refusal} (G : Fault) (u : Term) → Head s i j t → F ≡ leftmost (inspect d i t) G → ByteFault (get_or s i 0) d i (Err r)
      → judged F u ≡ refused (number_of r.condition) r.place
  unfolding judged
  refused_here G u w f (index_beyond x y) = rw (f, beyond_here G w x y)
  refused_here G u w f (too_deep x y) = rw (f, deep_here G w x y)

pub tested_index : {b d i : ℕ} {r : Result (Unit {0}) Refusal} {u : Unit {0}} → ByteFault b d i r → r ≡ Ok u → b < 0xfe → b ≤ d
tested_index (passes x y) e = x
tested_index (index_beyond x y) e = absurd cc
tested_index (too_deep x y) e = absurd cc

pub tested_scope : {b d i : ℕ} {r : Result (Unit {0}) Refusal} {u : Unit {0}} → ByteFault b d i r → r ≡ Ok u → b ≡ 0xff → d < most_abstractors
tested_scope (passes x y) e = y
tested_scope (index_beyond x y) e = absurd cc
tested_scope (too_deep x y) e = absurd cc

-- The arrays as they are after the turn: the byte at i stands in d scopes, and n terms follow the one that it starts.
module _ {s outside opens degrees : List ℕ} {g n e i j d last last' count : ℕ} (p : get_or outside n 0 ≡ d) (q : get_or outside (suc n) 0 ≡ d) (z : get_or opens (suc n) 0 ≡ 0)
    (ed : e ≤ d) (dl : d ≤ most_abstractors) (fits : get_or s i 0 < 0xfe → get_or s i 0 ≤ d) (shallow : get_or s i 0 ≡ 0xff → d < most_abstractors)
    (gr : Graded degrees (get_or s i 0) d last last') (pt : Parts (get_or s i 0) count (get_or opens n 0)) where
  pub turn : {t : Term} {F G : Fault} → Head s i j t → F ≡ leftmost (inspect d i t) G → Pending s outside opens degrees g n e j (degree_in (latest degrees d) t) G
      → Pending s outside opens degrees g (n + count) most_abstractors (i + 1) last' F
  unfolding inspect degree_in
  turn (head_tau b h) f v = placed (omega (arith, pt.terminal (omega arith))) (omega arith) (gr.at_tau b) f (wider most_abstractors (omega arith) v)
  turn {G = G} (head_var {k} b x y h) f v =
      let l : k ≤ d = omega (arith, fits (omega arith)) in
      let deg : last' ≡ suc (nth (latest degrees d) k) = gr.at_variable (omega arith) (omega arith) ∙ ap suc (rw b (sym (nth_latest degrees d k x l))) in
      placed (omega (arith, pt.terminal (omega arith))) (omega arith) deg (f ∙ rw (index_within d i k x l)) (wider most_abstractors (omega arith) v)
  turn {F = F} {G = G} (head_app {m} {K} {B} b h k) f v =
      let r : F ≡ leftmost (inspect d (suc i) K) (leftmost (inspect d m B) G) = f ∙ rw h.place (leftmost_assoc (inspect d (suc i) K) (inspect d (suc i + size K) B) G) in
      placed (omega (arith, pt.inner (omega arith))) (omega arith) refl refl
      (push d 0 d q z (omega arith) dl (omega arith) dl h r
      (push d 0 d p (pt.applicator b) (omega arith) (omega arith) (omega arith) dl k refl (wider d ed v)))
  turn {F = F} {G = G} (head_abs {m} {U} {B} b h k) f v =
      let l = shallow b in
      let r : F ≡ leftmost (inspect d (suc i) U) (leftmost (inspect (suc d) m B) G) =
      f ∙ rw (lt-ltb d most_abstractors l, h.place) (leftmost_assoc (inspect d (suc i) U) (inspect (suc d) (suc i + size U) B) G) in
      placed (omega (arith, pt.inner (omega arith))) (omega arith) refl refl
      (push d 0 d q z (omega arith) dl (omega arith) dl h r
      (push d 1 (suc d) p (pt.abstractor b) (omega arith) (omega arith) (omega arith) (omega arith) k refl (wider d ed v)))

-- A turn, as the code makes it.
module _ {s outside opens degrees : List ℕ} {g n m i last last' count x : ℕ} {F : Fault} {r : Result (Unit {0}) Refusal} {u : Unit {0}} (room : suc n < length outside) (room' : suc n < length opens) (big : most_abstractors < length degrees)
    (ts : ByteFault (get_or s i 0) (get_or outside n 0 + get_or opens n 0) i r) (ok : r ≡ Ok u)
    (gr : Graded (set degrees (get_or outside n 0) last) (get_or s i 0) (get_or outside n 0 + get_or opens n 0) last last') (pt : Parts (get_or s i 0) count x) where
  pub turned : Pending s outside opens degrees g (suc n) m i last F
      → Pending s (set (set outside n (get_or outside n 0 + get_or opens n 0)) (suc n) (get_or outside n 0 + get_or opens n 0)) (set (set opens n x) (suc n) 0)
      (set degrees (get_or outside n 0) last) g (n + count) most_abstractors (i + 1) last' F
  turned (next {t = t} {G = G} l ol dl h f v) =
      let e = get_or outside n 0 in
      let o = get_or opens n 0 in
      let d = e + o in
      turn {e = e} (put_first outside n d d room) (put_second outside n d d room) (put_second opens n x 0 room') (omega arith) dl (tested_index ts ok) (tested_scope ts ok) gr
      (rw (put_first opens n x 0 room') pt)
      (head h) f
      (rw (set_opened degrees e o d last ol refl (omega arith)) (kept (put_agree outside n d d) (put_agree opens n x 0) (set_agree degrees e e last (omega arith)) v))
