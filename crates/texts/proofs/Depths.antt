-- The depths of a term's symbols: from its letters, of its parts, of its copies, and in what a lift does to its bytes.
-- Assumes nothing.
use Prim.Native.Nat.{ℕ, zero, suc, ◌+◌, ◌≤◌, ◌<◌}
use mathlib.Core.Path.{◌≡◌, refl, ap, ap₂, sym, ◌∙◌}
use mathlib.Core.List.{List, [], ◌∷◌, ◌++◌, map, map-append, zip_with}
use native.Mathlib.Omega.{arith}
use lib.ListN.{length, get_or, length-append, get_or-append}
use lib.Seq.{get_or-append-add}
use Rattle.std.proofs.lemmas.List.{get_or-map}
use borrow.Author.Tests.{le-leb, lt-ltb}
use Rattle.calculus.specs.Terms.{Term, tau, var, app, abs, size, lift_index, lift}
use Rattle.code.specs.Code.{encode, Coded, coded_tau, coded_var, coded_app, coded_abs}
use Rattle.code.specs.Claims.{Stands}
use Rattle.code.specs.Scope.{scope}
use Rattle.code.proofs.RoundTrip.{length_encode}
use Rattle.code.proofs.Parts.{Head, head_app, head_abs, head, stands_start, stands_end, stands_unique}
use Rattle.calculus.proofs.Lift.{lo, hi, cmp}
use Rattle.indices.proofs.Pending.{lift_byte, low}
use Rattle.letters.specs.Letters.{letters, depth_of}
use Rattle.letters.proofs.Letters.{depth_letter}
use Rattle.texts.specs.Texts.{depths_of, depth_in, Depths, Alike, alike_tau, alike_var, alike_app, alike_abs, Origin}
use Rattle.texts.proofs.Origins.{alike_size}

length_depths : (d : ℕ) (X : Term) → length (depths_of d X) ≡ size X
unfolding depths_of size
length_depths d tau = refl
length_depths d (var k) = refl
length_depths d (app K B) = ap suc (simp length-append (ap₂ ◌+◌ (length_depths d K) (length_depths d B)))
length_depths d (abs U B) = ap suc (simp length-append (ap₂ ◌+◌ (length_depths d U) (length_depths (suc d) B)))

-- ---- Those of the letters.
pub letters_depths : {X : Term} (d h : ℕ) → Coded X → d + scope X < 1024 → map depth_of (letters d h X) ≡ depths_of d X
unfolding letters depths_of scope
letters_depths d h coded_tau l = ap (◌∷ []) (depth_letter 0 d h (omega arith) (omega arith))
letters_depths d h (coded_var {k} p q) l = ap (◌∷ []) (depth_letter k d h (omega arith) (omega arith))
letters_depths d h (coded_app {K} {B} f g) l = ap₂ ◌∷◌ (depth_letter 1022 d h (omega arith) (omega arith))
    (map-append depth_of (letters d (suc h) K) (letters d h B) ∙ ap₂ ◌++◌ (letters_depths d (suc h) f (omega arith)) (letters_depths d h g (omega arith)))
letters_depths d h (coded_abs {U} {B} f g) l = ap₂ ◌∷◌ (depth_letter 1023 d h (omega arith) (omega arith))
    (map-append depth_of (letters d (suc h) U) (letters (suc d) h B) ∙ ap₂ ◌++◌ (letters_depths d (suc h) f (omega arith)) (letters_depths (suc d) h g (omega arith)))

below_append : (xs ys : List ℕ) (m : ℕ) → ((i : ℕ) → get_or xs i 0 ≤ m) → ((i : ℕ) → get_or ys i 0 ≤ m) → (i : ℕ) → get_or (xs ++ ys) i 0 ≤ m
below_append [] ys m f g i = g i
below_append (x ∷ xs) ys m f g zero = f 0
below_append (x ∷ xs) ys m f g (suc i) = below_append xs ys m (λ j. f (suc j)) g i

pub depth_below : (d : ℕ) (X : Term) (m : ℕ) → d + scope X ≤ m → (i : ℕ) → get_or (depths_of d X) i 0 ≤ m
unfolding depths_of scope
depth_below d tau m l zero = omega arith
depth_below d tau m l (suc i) = omega arith
depth_below d (var k) m l zero = omega arith
depth_below d (var k) m l (suc i) = omega arith
depth_below d (app K B) m l zero = omega arith
depth_below d (app K B) m l (suc i) = below_append (depths_of d K) (depths_of d B) m (depth_below d K m (omega arith)) (depth_below d B m (omega arith)) i
depth_below d (abs U B) m l zero = omega arith
depth_below d (abs U B) m l (suc i) = below_append (depths_of d U) (depths_of (suc d) B) m (depth_below d U m (omega arith)) (depth_below (suc d) B m (omega arith)) i

-- ---- Counted from another depth.
depths_more : (n d : ℕ) (X : Term) → depths_of (n + d) X ≡ map (n +◌) (depths_of d X)
unfolding depths_of
depths_more n d tau = refl
depths_more n d (var k) = refl
depths_more n d (app K B) = ap ((n + d) ∷◌) (ap₂ ◌++◌ (depths_more n d K) (depths_more n d B) ∙ sym (map-append (n +◌) (depths_of d K) (depths_of d B)))
depths_more n d (abs U B) = let q : suc (n + d) ≡ n + suc d = omega arith in ap ((n + d) ∷◌) (ap₂ ◌++◌ (depths_more n d U) (ap (λ m. depths_of m B) q ∙ depths_more n (suc d) B) ∙ sym (map-append (n +◌) (depths_of d U) (depths_of (suc d) B)))

depth_from : (d : ℕ) (X : Term) (i : ℕ) → i < size X → get_or (depths_of d X) i 0 ≡ d + depth_in X i
depth_from d X i l = ap (λ n. get_or (depths_of n X) i 0) (omega arith) ∙ ap (λ x. get_or x i 0) (depths_more d 0 X) ∙ get_or-map (d +◌) (depths_of 0 X) i 0 0 (omega (arith, length_depths 0 X))

-- ---- A term starts at every byte of a term, and its symbols have their depths.
pub record Deep (depths : List ℕ) (p d : ℕ) (X : Term) : Type 0 where
  pub each : (i : ℕ) → i < size X → get_or depths (p + i) 0 ≡ get_or (depths_of d X) i 0

pub record Part (t depths : List ℕ) (i : ℕ) : Type 0 where
  pub end : ℕ
  pub term : Term
  pub stands : Stands t i end term
  pub depth : ℕ
  pub deep : Deep depths i depth term

record Pair (t depths : List ℕ) (p e d : ℕ) (K B : Term) : Type 0 where
  mid : ℕ
  first : Stands t (suc p) mid K
  second : Stands t mid e B
  first_deep : Deep depths (suc p) d K
  depth : ℕ
  second_deep : Deep depths mid depth B

module _ {t depths : List ℕ} {p e m : ℕ} (d n : ℕ) {K B : Term} (h : Stands t (suc p) m K) (k : Stands t m e B)
    (f : (i : ℕ) → i < size K + size B → get_or depths (p + suc i) 0 ≡ get_or (depths_of d K ++ depths_of n B) i 0) where
  pair : Pair t depths p e d K B
  pair = record {
    mid = m;
    first = h;
    second = k;
    depth = n;
    first_deep = record {
      each = λ i l. let q : suc p + i ≡ p + suc i = omega arith in
          ap (λ x. get_or depths x 0) q ∙ f i (omega arith) ∙ get_or-append (depths_of d K) (depths_of n B) 0 i (omega (arith, length_depths d K));
    };
    second_deep = record {
      each = λ i l. let q : m + i ≡ p + suc (length (depths_of d K) + i) = omega (arith, h.place, length_depths d K) in
          ap (λ x. get_or depths x 0) q ∙ f (length (depths_of d K) + i) (omega (arith, length_depths d K)) ∙ get_or-append-add (depths_of d K) (depths_of n B) i 0;
    };
  }

app_pair : {t depths : List ℕ} {p e d : ℕ} {K B : Term} → Stands t p e (app K B) → Deep depths p d (app K B) → Pair t depths p e d K B
unfolding depths_of size
app_pair {t} {depths} {p} {e} {d} {K} {B} h g = go (head h)
  where
    go : Head t p e (app K B) → Pair t depths p e d K B
    go (head_app x k l) = pair d d k l (λ i o. g.each (suc i) (omega arith))

abs_pair : {t depths : List ℕ} {p e d : ℕ} {K B : Term} → Stands t p e (abs K B) → Deep depths p d (abs K B) → Pair t depths p e d K B
unfolding depths_of size
abs_pair {t} {depths} {p} {e} {d} {K} {B} h g = go (head h)
  where
    go : Head t p e (abs K B) → Pair t depths p e d K B
    go (head_abs x k l) = pair d (suc d) k l (λ i o. g.each (suc i) (omega arith))

this : {t depths : List ℕ} (T : Term) {p e d : ℕ} → Stands t p e T → Deep depths p d T → (i : ℕ) → i ≡ p → Part t depths i
this T {p} {e} {d} h g i q = rw q (record { end = e; term = T; stands = h; depth = d; deep = g })

pub every : {t depths : List ℕ} (T : Term) {p e d : ℕ} → Stands t p e T → Deep depths p d T → (i : ℕ) → p ≤ i → i < e → Part t depths i
unfolding size
every tau h g i a b = this tau h g i (omega (arith, h.place))
every (var k) h g i a b = this (var k) h g i (omega (arith, h.place))
every (app K B) {p} {e} h g i a b = let c = app_pair h g in elim (cmp i p) [
  | lo z ↦ this (app K B) h g i (omega arith)
  | hi z ↦ elim (cmp c.mid i) [ lo u ↦ every B c.second c.second_deep i u b | hi u ↦ every K c.first c.first_deep i (omega arith) u ]
]
every (abs K B) {p} {e} h g i a b = let c = abs_pair h g in elim (cmp i p) [
  | lo z ↦ this (abs K B) h g i (omega arith)
  | hi z ↦ elim (cmp c.mid i) [ lo u ↦ every B c.second c.second_deep i u b | hi u ↦ every K c.first c.first_deep i (omega arith) u ]
]

depth_first : (d : ℕ) (X : Term) → get_or (depths_of d X) 0 0 ≡ d
unfolding depths_of
depth_first d tau = refl
depth_first d (var k) = refl
depth_first d (app K B) = refl
depth_first d (abs U B) = refl

-- Where the depths of the whole text are its term's, so are those of each term that stands in it.
pub depths_all : {t depths : List ℕ} {T : Term} → Stands t 0 (length t) T → Deep depths 0 0 T → Depths t depths
depths_all {t} {depths} {T} h g = record { depths_are = λ p e X k i l. one p e X k i l (every T h g p (omega arith) (omega (arith, stands_start k, stands_end k))) }
  where
    one : (p e : ℕ) (X : Term) → Stands t p e X → (i : ℕ) → i < size X → Part t depths p → get_or depths (p + i) 0 ≡ get_or depths p 0 + depth_in X i
    one p e X k i l c =
        let q : c.term ≡ X = (stands_unique c.stands k).0 in
        let f : Deep depths p c.depth X = rw q at c.deep in
        let z : get_or depths (p + 0) 0 ≡ c.depth = f.each 0 (omega (arith, stands_start k, k.place)) ∙ depth_first c.depth X in
        let y : p + 0 ≡ p = omega arith in
        f.each i l ∙ depth_from c.depth X i l ∙ ap (◌+ depth_in X i) (sym z ∙ ap (λ x. get_or depths x 0) y)

-- ---- Those of a copy.
alike_depths : {Y X : Term} (d : ℕ) → Alike Y X → depths_of d Y ≡ depths_of d X
unfolding depths_of
alike_depths d alike_tau = refl
alike_depths d alike_var = refl
alike_depths d (alike_app f g) = ap (d ∷◌) (ap₂ ◌++◌ (alike_depths d f) (alike_depths d g))
alike_depths d (alike_abs f g) = ap (d ∷◌) (ap₂ ◌++◌ (alike_depths d f) (alike_depths (suc d) g))

pub origin_depth : {t depths : List ℕ} {o : ℕ} {X : Term} → Depths t depths → Origin t o X → (i : ℕ) → i < size X → get_or depths (o + i) 0 ≡ get_or depths o 0 + depth_in X i
origin_depth {depths = depths} {o} {X} s g i l =
    s.depths_are o g.end g.term g.stands i (omega (arith, alike_size g.alike)) ∙ ap (λ x. get_or depths o 0 + get_or x i 0) (alike_depths 0 g.alike)

-- ---- A lift changes each byte by itself.
zip_append : (f : ℕ → ℕ → ℕ) (xs ys xs' ys' : List ℕ) → length xs ≡ length ys → zip_with f (xs ++ xs') (ys ++ ys') ≡ zip_with f xs ys ++ zip_with f xs' ys'
unfolding zip_with
zip_append f [] [] xs' ys' l = refl
zip_append f [] (y ∷ ys) xs' ys' l = absurd (omega arith)
zip_append f (x ∷ xs) [] xs' ys' l = absurd (omega arith)
zip_append f (x ∷ xs) (y ∷ ys) xs' ys' l = ap (f x y ∷◌) (zip_append f xs ys xs' ys' (omega arith))

zip_at : (f : ℕ → ℕ → ℕ) (xs ys : List ℕ) (i : ℕ) → i < length xs → i < length ys → get_or (zip_with f xs ys) i 0 ≡ f (get_or xs i 0) (get_or ys i 0)
unfolding zip_with
zip_at f [] ys i l m = absurd (omega arith)
zip_at f (x ∷ xs) [] i l m = absurd (omega arith)
zip_at f (x ∷ xs) (y ∷ ys) zero l m = refl
zip_at f (x ∷ xs) (y ∷ ys) (suc i) l m = zip_at f xs ys i (omega arith) (omega arith)

lifted_all : {X : Term} (n c : ℕ) → Coded X → zip_with (lift_byte n) (depths_of c X) (encode X) ≡ encode (lift n c X)
unfolding zip_with lift_byte lift_index depths_of encode lift
lifted_all n c coded_tau = rw (le-leb 0 c (omega arith))
lifted_all n c (coded_var {k} p q) = rw (lt-ltb k 254 (low q))
lifted_all n c (coded_app {K} {B} f g) = ap (0xfe ∷◌) (zip_append (lift_byte n) (depths_of c K) (encode K) (depths_of c B) (encode B) (length_depths c K ∙ sym (length_encode K)) ∙ ap₂ ◌++◌ (lifted_all n c f) (lifted_all n c g))
lifted_all n c (coded_abs {U} {B} f g) = ap (0xff ∷◌) (zip_append (lift_byte n) (depths_of c U) (encode U) (depths_of (suc c) B) (encode B) (length_depths c U ∙ sym (length_encode U)) ∙ ap₂ ◌++◌ (lifted_all n c f) (lifted_all n (suc c) g))

pub lifted_byte_lem : {X : Term} (n c : ℕ) → Coded X → (i : ℕ) → i < size X → get_or (encode (lift n c X)) i 0 ≡ lift_byte n (c + depth_in X i) (get_or (encode X) i 0)
lifted_byte_lem {X} n c f i l = ap (λ x. get_or x i 0) (sym (lifted_all n c f)) ∙ zip_at (lift_byte n) (depths_of c X) (encode X) i (omega (arith, length_depths c X)) (omega (arith, length_encode X)) ∙ ap (λ d. lift_byte n d (get_or (encode X) i 0)) (depth_from c X i l)
