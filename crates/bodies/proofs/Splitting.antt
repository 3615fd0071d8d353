-- The letters of a term at a place: those before and after what stands there, and the term that lies there.
-- Assumes nothing.
use Prim.Native.Nat.{ℕ, suc, ◌+◌, ◌-◌, ◌≤◌, ◌<◌}
use mathlib.Core.Path.{◌≡◌, refl, ap, ap₂, sym, subst, ◌∙◌}
use mathlib.Core.Logic.{◌⊎◌, inl, inr, ⊎_elim}
use mathlib.Core.List.{List, [], ◌∷◌, ◌++◌, append_assoc, append-nil}
use native.Mathlib.Omega.{arith}
use lib.ListN.{length, get_or, take, drop, length-append}
use lib.Seq.{take_at, drop_at}
use Rattle.calculus.specs.Terms.{Term, size}
use Rattle.code.specs.Code.{Coded}
use Rattle.code.specs.Scope.{scope}
use Rattle.parts.specs.Parts.{part}
use Rattle.letters.specs.Letters.{letter, letters, applicator, abstractor, height_of, Lies}
use Rattle.letters.proofs.Letters.{first, first_small, length_letters, height_letter, head_of, lies_end}
use Rattle.bodies.specs.Ways.{Way, here, in_argument, past_argument, in_domain, past_domain, put, depth_at, height_at}
use Rattle.bodies.specs.Moving.{Spliced}
use Rattle.bodies.proofs.Ways.{put_same, height_least}
use Rattle.bodies.proofs.Extents.{app_parts, abs_parts}

-- ---- The letters before and after.
unfoldable before : {t u : Term} {p : ℕ} → ℕ → ℕ → Way t p u → List ℕ
before d h here = []
before d h (in_argument l w) = letter applicator d h ∷ before d (suc h) w
before d h (past_argument {K = K} w) = letter applicator d h ∷ (letters d (suc h) K ++ before d h w)
before d h (in_domain l w) = letter abstractor d h ∷ before d (suc h) w
before d h (past_domain {U = U} w) = letter abstractor d h ∷ (letters d (suc h) U ++ before (suc d) h w)

unfoldable after : {t u : Term} {p : ℕ} → ℕ → ℕ → Way t p u → List ℕ
after d h here = []
after d h (in_argument {B = B} l w) = after d (suc h) w ++ letters d h B
after d h (past_argument w) = after d h w
after d h (in_domain {B = B} l w) = after d (suc h) w ++ letters (suc d) h B
after d h (past_domain w) = after (suc d) h w

length_before : {t u : Term} {p : ℕ} (d h : ℕ) (w : Way t p u) → length (before d h w) ≡ p
unfolding before
length_before d h here = refl
length_before d h (in_argument l w) = ap suc (length_before d (suc h) w)
length_before d h (past_argument {K = K} w) = ap suc (simp length-append (ap₂ ◌+◌ (length_letters d (suc h) K) (length_before d h w)))
length_before d h (in_domain l w) = ap suc (length_before d (suc h) w)
length_before d h (past_domain {U = U} w) = ap suc (simp length-append (ap₂ ◌+◌ (length_letters d (suc h) U) (length_before (suc d) h w)))

split : {t u : Term} {p : ℕ} (d h : ℕ) (w : Way t p u) (x : Term) → letters d h (put w x) ≡ before d h w ++ (letters (depth_at d w) (height_at h w) x ++ after d h w)
unfolding before after put depth_at height_at letters
split d h here x = sym (append-nil (letters d h x))
split d h (in_argument {B = B} l w) x = ap (letter applicator d h ∷◌) (rw (split d (suc h) w x) (simp append_assoc))
split d h (past_argument {K = K} w) x = ap (letter applicator d h ∷◌) (rw (split d h w x) (simp append_assoc))
split d h (in_domain {B = B} l w) x = ap (letter abstractor d h ∷◌) (rw (split d (suc h) w x) (simp append_assoc))
split d h (past_domain {U = U} w) x = ap (letter abstractor d h ∷◌) (rw (split (suc d) h w x) (simp append_assoc))

-- ---- The body with another term there.
module _ {s : List ℕ} {n p : ℕ} {t u : Term} (l : Lies s 0 n 0 0 t) (w : Way t p u) where
  around : s ≡ before 0 0 w ++ (letters (depth_at 0 w) (height_at 0 w) u ++ (after 0 0 w ++ l.rest))
  around = l.letters_there ∙ ap (λ x. letters 0 0 x ++ l.rest) (sym (put_same w)) ∙ rw (split 0 0 w u) (simp append_assoc)

  module _ {s' : List ℕ} {q : ℕ} (x : Term) (a : q ≡ p + size u) (c : Coded (put w x)) (g : Spliced s s' n p q (letters (depth_at 0 w) (height_at 0 w) x)) where
    start : take p s ≡ before 0 0 w
    start = ap (take p) around ∙ take_at (before 0 0 w) (letters (depth_at 0 w) (height_at 0 w) u ++ (after 0 0 w ++ l.rest)) p (length_before 0 0 w)

    count : length (after 0 0 w) ≡ n - q
    count = omega (arith, l.place, length_letters 0 0 t, simp (length-append, length_letters, length_before) at (ap (λ x. length (letters 0 0 x)) (sym (put_same w)) ∙ ap length (split 0 0 w u)))

    end : part s q n ≡ after 0 0 w
    end = ap (take (n - q)) (ap (drop q) (around ∙ sym (append_assoc (before 0 0 w) (letters (depth_at 0 w) (height_at 0 w) u) (after 0 0 w ++ l.rest)))
        ∙ drop_at (before 0 0 w ++ letters (depth_at 0 w) (height_at 0 w) u) (after 0 0 w ++ l.rest) q (simp (length-append, length_letters, length_before) (omega arith)))
        ∙ take_at (after 0 0 w) l.rest (n - q) count

    pub lies_put : Lies s' 0 (size (put w x)) 0 0 (put w x)
    lies_put = record { rest = g.rest; letters_there = g.letters_there ∙ rw (start, end, split 0 0 w x) (simp append_assoc); coded = c; place = omega arith }

-- ---- What stands at a place lies there, and what follows it in the term is less high.
pub record There (s : List ℕ) (e P D H : ℕ) (u : Term) : Type 0 where
  pub end : ℕ
  pub lies : Lies s P end D H u
  pub within : end ≤ e
  pub next : (end ≡ e) ⊎ (height_of (get_or s end 0) < H)

pub head_height : {s : List ℕ} {q e d h : ℕ} {t : Term} → d < 1024 → Lies s q e d h t → height_of (get_or s q 0) ≡ h
head_height {d = d} {h} {t} b l = rw (head_of l) (height_letter (first t) d h (first_small l.coded) b)

inner_there : {s : List ℕ} {e P D H m : ℕ} {u : Term} → m ≤ e → height_of (get_or s m 0) < H → There s m P D H u → There s e P D H u
inner_there {s} {H = H} {m = m} a b r = record {
  end = r.end;
  lies = r.lies;
  within = omega (arith, r.within);
  next = ⊎_elim (λ q. inr (subst (λ x. height_of (get_or s x 0) < H) (sym q) b)) (λ q. inr q) r.next;
}

pub there : {s : List ℕ} {from e d h n : ℕ} {t u : Term} {p : ℕ} → d + scope t < 1024 → Lies s from e d h t → (w : Way t p u) → n ≡ from + p → There s e n (depth_at d w) (height_at h w) u
unfolding depth_at height_at scope
there {s} {from} {e} {d} {h} {n} {t} b l here q = record { end = e; lies = subst (λ x. Lies s x e d h t) (omega arith) l; within = omega arith; next = inl refl }
there {s = s} {from = from} {e = e} {d = d} {h = h} b l (in_argument i w) q = let P = app_parts l in
    inner_there (omega (arith, lies_end P.rest)) (omega (arith, head_height (omega arith) P.rest, height_least (suc h) w)) (there {s = s} {from = suc from} {e = P.middle} {d = d} {h = suc h} (omega arith) P.inner w (omega arith))
there {s = s} {from = from} {e = e} {d = d} {h = h} b l (past_argument w) q = let P = app_parts l in there {s = s} {from = P.middle} {e = e} {d = d} {h = h} (omega arith) P.rest w (omega (arith, P.inner.place))
there {s = s} {from = from} {e = e} {d = d} {h = h} b l (in_domain i w) q = let P = abs_parts l in
    inner_there (omega (arith, lies_end P.rest)) (omega (arith, head_height (omega arith) P.rest, height_least (suc h) w)) (there {s = s} {from = suc from} {e = P.middle} {d = d} {h = suc h} (omega arith) P.inner w (omega arith))
there {s = s} {from = from} {e = e} {d = d} {h = h} b l (past_domain w) q = let P = abs_parts l in there {s = s} {from = P.middle} {e = e} {d = suc d} {h = h} (omega arith) P.rest w (omega (arith, P.inner.place))
