-- A term that lies in s: its parts, and the bounds of its letters' depths, heights and indices.
-- Assumes nothing.
use Prim.Native.Nat.{ℕ, suc, ◌+◌, ◌-◌, ◌≤◌, ◌<◌}
use mathlib.Core.Path.{◌≡◌, refl, ap, subst, ◌∙◌}
use mathlib.Core.List.{List, [], ◌∷◌, ◌++◌, append_assoc}
use native.Mathlib.Omega.{arith}
use native.Mathlib.Numerals.{add-one}
use lib.ListN.{get_or, drop}
use Rattle.calculus.specs.Terms.{Term, tau, var, app, abs, size}
use Rattle.calculus.proofs.Lift.{lo, hi, cmp}
use Rattle.code.specs.Limits.{most_abstractors}
use Rattle.code.specs.Code.{Coded, coded_tau, coded_var, coded_app, coded_abs}
use Rattle.code.specs.Scope.{scope}
use Rattle.code.proofs.Parts.{first_byte, drop_more}
use Rattle.letters.specs.Letters.{letter, letters, applicator, abstractor, symbol_of, depth_of, height_of, Lies}
use Rattle.letters.proofs.Letters.{first, first_small, length_letters, symbol_letter, depth_letter, height_letter, head_of}

-- ---- Its parts.
pub record Parts (s : List ℕ) (q e d h d_b x : ℕ) (K B : Term) : Type 0 where
  pub middle : ℕ
  pub head : get_or s q 0 ≡ letter x d h
  pub inner : Lies s (suc q) middle d (suc h) K
  pub rest : Lies s middle e d_b h B

both_parts : (s : List ℕ) (q e d h d_b x : ℕ) (K B : Term) (r : List ℕ) → drop q s ≡ (letter x d h ∷ (letters d (suc h) K ++ letters d_b h B)) ++ r → Coded K → Coded B → e ≡ q + suc (size K + size B)
    → Parts s q e d h d_b x K B
both_parts s q e d h d_b x K B r l f g a = record {
  middle = suc q + size K;
  head = first_byte s q l;
  inner = record { rest = letters d_b h B ++ r; letters_there = after_head; coded = f; place = refl };
  rest = record { rest = r; letters_there = drop_more s (suc q) (size K) (letters d (suc h) K) (letters d_b h B ++ r) after_head (length_letters d (suc h) K); coded = g; place = omega arith };
}
  where
    after_head : drop (suc q) s ≡ letters d (suc h) K ++ (letters d_b h B ++ r)
    after_head = rw add-one at (drop_more s q 1 (letter x d h ∷ []) (letters d (suc h) K ++ (letters d_b h B ++ r)) (l ∙ ap (letter x d h ∷◌) (append_assoc (letters d (suc h) K) (letters d_b h B) r)) refl)

pub app_parts : {s : List ℕ} {q e d h : ℕ} {K B : Term} → Lies s q e d h (app K B) → Parts s q e d h d applicator K B
unfolding letters size
app_parts {s} {q} {e} {d} {h} {K} {B} l = go l.coded
  where
    go : Coded (app K B) → Parts s q e d h d applicator K B
    go (coded_app f g) = both_parts s q e d h d applicator K B l.rest l.letters_there f g l.place

pub abs_parts : {s : List ℕ} {q e d h : ℕ} {U B : Term} → Lies s q e d h (abs U B) → Parts s q e d h (suc d) abstractor U B
unfolding letters size
abs_parts {s} {q} {e} {d} {h} {U} {B} l = go l.coded
  where
    go : Coded (abs U B) → Parts s q e d h (suc d) abstractor U B
    go (coded_abs f g) = both_parts s q e d h (suc d) abstractor U B l.rest l.letters_there f g l.place

-- What holds at the first letter and in both parts holds at each place.
by_parts : {s : List ℕ} {q e d h d_b x : ℕ} {K B : Term} (P : ℕ → Type 0) (p : Parts s q e d h d_b x K B) → P q → ((j : ℕ) → suc q ≤ j → j < p.middle → P j) → ((j : ℕ) → p.middle ≤ j → j < e → P j)
    → (j : ℕ) → q ≤ j → j < e → P j
by_parts {q = q} P p a f g j x y = elim (cmp j q) [
  | lo u ↦ subst P (omega arith) a
  | hi u ↦ elim (cmp p.middle j) [ lo v ↦ g j v y | hi v ↦ f j (omega arith) v ]
]

-- ---- The letter at place j is not less deep than d nor less high than h; it is not deeper than x nor higher than z.
pub record Above (s : List ℕ) (d h j : ℕ) : Type 0 where
  pub deep : d ≤ depth_of (get_or s j 0)
  pub high : h ≤ height_of (get_or s j 0)

pub record Under (s : List ℕ) (x z j : ℕ) : Type 0 where
  pub index : symbol_of (get_or s j 0) < applicator → symbol_of (get_or s j 0) ≤ most_abstractors
  pub deep : depth_of (get_or s j 0) ≤ x
  pub high : height_of (get_or s j 0) ≤ z

record Within (s : List ℕ) (d h x z j : ℕ) : Type 0 where
  above : Above s d h j
  under : Under s x z j

first_index : {t : Term} → Coded t → first t < applicator → first t ≤ most_abstractors
unfolding first
first_index coded_tau l = omega arith
first_index (coded_var p q) l = q
first_index (coded_app f g) l = absurd (omega arith)
first_index (coded_abs f g) l = absurd (omega arith)

within_first : {s : List ℕ} {q e d h : ℕ} {t : Term} (x : ℕ) → d < 1024 → d ≤ x → Lies s q e d h t → Within s d h x (h + (q - q)) q
within_first {s} {q} {e} {d} {h} {t} x b o l =
    let a : symbol_of (get_or s q 0) ≡ first t = rw (head_of l) (symbol_letter (first t) d h (first_small l.coded)) in
    let v : depth_of (get_or s q 0) ≡ d = rw (head_of l) (depth_letter (first t) d h (first_small l.coded) b) in
    let w : height_of (get_or s q 0) ≡ h = rw (head_of l) (height_letter (first t) d h (first_small l.coded) b) in
    record {
      above = record { deep = omega arith; high = omega arith };
      under = record { index = λ u. omega (arith, first_index l.coded (omega arith)); deep = omega arith; high = omega arith };
    }

wider : {s : List ℕ} {d h x z d' h' x' z' j : ℕ} → d' ≤ d → h' ≤ h → x ≤ x' → z ≤ z' → Within s d h x z j → Within s d' h' x' z' j
wider a b c e r = record {
  above = record { deep = omega (arith, r.above.deep); high = omega (arith, r.above.high) };
  under = record { index = r.under.index; deep = omega (arith, r.under.deep); high = omega (arith, r.under.high) };
}

-- ---- The letters of a term are not less deep or less high than its first, nor deeper than its scope or higher than their places.
within : {s : List ℕ} {q e d h : ℕ} (t : Term) → d + scope t < 1024 → Lies s q e d h t → (j : ℕ) → q ≤ j → j < e → Within s d h (d + scope t) (h + (j - q)) j
unfolding scope size
within {s} {q} {e} {d} {h} tau b l j x y = subst (λ i. Within s d h (d + 0) (h + (i - q)) i) (omega (arith, l.place)) (within_first (d + 0) (omega arith) (omega arith) l)
within {s} {q} {e} {d} {h} (var k) b l j x y = subst (λ i. Within s d h (d + 0) (h + (i - q)) i) (omega (arith, l.place)) (within_first (d + 0) (omega arith) (omega arith) l)
within {s} {q} {e} {d} {h} (app K B) b l j x y = let p = app_parts l in
    by_parts (λ i. Within s d h (d + scope (app K B)) (h + (i - q)) i) p (within_first (d + scope (app K B)) (omega arith) (omega arith) l)
    (λ i u v. wider (omega arith) (omega arith) (omega arith) (omega arith) (within {q = suc q} {e = p.middle} {d = d} {h = suc h} K (omega arith) p.inner i u v))
    (λ i u v. wider (omega arith) (omega arith) (omega arith) (omega (arith, p.inner.place)) (within {q = p.middle} {e = e} {d = d} {h = h} B (omega arith) p.rest i u v)) j x y
within {s} {q} {e} {d} {h} (abs U B) b l j x y = let p = abs_parts l in
    by_parts (λ i. Within s d h (d + scope (abs U B)) (h + (i - q)) i) p (within_first (d + scope (abs U B)) (omega arith) (omega arith) l)
    (λ i u v. wider (omega arith) (omega arith) (omega arith) (omega arith) (within {q = suc q} {e = p.middle} {d = d} {h = suc h} U (omega arith) p.inner i u v))
    (λ i u v. wider (omega arith) (omega arith) (omega arith) (omega (arith, p.inner.place)) (within {q = p.middle} {e = e} {d = suc d} {h = h} B (omega arith) p.rest i u v)) j x y

module _ {s : List ℕ} {q e d h : ℕ} (t : Term) (b : d + scope t < 1024) (l : Lies s q e d h t) where
  pub above : (j : ℕ) → q ≤ j → j < e → Above s d h j
  above j x y = (within t b l j x y).above

  pub under : (j : ℕ) → q ≤ j → j < e → Under s (d + scope t) (h + (j - q)) j
  under j x y = (within t b l j x y).under

-- Where no letter is deeper than x, nor is the term.
pub scope_under : {s : List ℕ} {q e d h x : ℕ} (t : Term) → d + scope t < 1024 → Lies s q e d h t → ((j : ℕ) → q ≤ j → j < e → depth_of (get_or s j 0) ≤ x) → d + scope t ≤ x
unfolding scope size
scope_under {q = q} tau b l f = omega (arith, f q (omega arith) (omega (arith, l.place)), (above tau b l q (omega arith) (omega (arith, l.place))).deep)
scope_under {q = q} (var k) b l f = omega (arith, f q (omega arith) (omega (arith, l.place)), (above (var k) b l q (omega arith) (omega (arith, l.place))).deep)
scope_under {s = s} {q = q} {e = e} {d = d} {h = h} (app K B) b l f =
    let p = app_parts l in
    let i = scope_under {s = s} {q = suc q} {e = p.middle} {d = d} {h = suc h} K (omega arith) p.inner (λ j x y. f j (omega arith) (omega (arith, p.inner.place, p.rest.place, l.place))) in
    let o = scope_under {s = s} {q = p.middle} {e = e} {d = d} {h = h} B (omega arith) p.rest (λ j x y. f j (omega (arith, p.inner.place)) y) in
    omega arith
scope_under {s = s} {q = q} {e = e} {d = d} {h = h} (abs U B) b l f =
    let p = abs_parts l in
    let i = scope_under {s = s} {q = suc q} {e = p.middle} {d = d} {h = suc h} U (omega arith) p.inner (λ j x y. f j (omega arith) (omega (arith, p.inner.place, p.rest.place, l.place))) in
    let o = scope_under {s = s} {q = p.middle} {e = e} {d = suc d} {h = h} B (omega arith) p.rest (λ j x y. f j (omega (arith, p.inner.place)) y) in
    omega arith

-- The height that a term's first letter says.
pub first_height : {s : List ℕ} {q e d h : ℕ} {t : Term} → Lies s q e d h t → d + scope t < 1024 → height_of (get_or s q 0) ≡ h
first_height {d = d} {h} {t} l b = rw (head_of l) (height_letter (first t) d h (first_small l.coded) (omega arith))
