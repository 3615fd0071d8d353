-- What a pass over a term has before it: the parts that are still to be read, each with the abstractors of the term in scope at it.
-- Each law says what reading one byte does.
-- Assumes nothing.
use Prim.Native.Nat.{ℕ, suc, ◌+◌, ◌≤◌, ◌<◌, max}
use mathlib.Core.Path.{◌≡◌, refl, ap}
use mathlib.Core.Bool.{cond}
use mathlib.Core.List.{List, [], ◌∷◌, ◌++◌, append_assoc}
use native.Mathlib.Omega.{arith}
use lib.Dec.{ltb}
use lib.ListN.{length, length-append}
use borrow.Author.Tests.{lt-ltb}
use Rattle.calculus.specs.Terms.{Term, tau, var, app, abs, lift_index}
use Rattle.code.specs.Code.{encode, Coded, coded_tau, coded_var, coded_app, coded_abs}
use Rattle.code.specs.Scope.{scope}
use Rattle.indices.specs.Stack.{body_scope, after}

-- A part to be read, with d abstractors in scope.
pub data Item : Type 0 where
  item : {t : Term} → ℕ → Coded t → Item

-- What is left once the first byte of a part is read.
unfoldable pub next : {t : Term} → ℕ → Coded t → List Item → List Item
next d coded_tau W = W
next d (coded_var p q) W = W
next d (coded_app f g) W = item d f ∷ item d g ∷ W
next d (coded_abs f g) W = item d f ∷ item (suc d) g ∷ W

-- The first byte of a term.
unfoldable pub byte : Term → ℕ
byte tau = 0x00
byte (var k) = k
byte (app K B) = 0xfe
byte (abs U B) = 0xff

-- A byte with d abstractors of its term in scope, lifted by n.
unfoldable pub lift_byte : ℕ → ℕ → ℕ → ℕ
unfolding lift_index
lift_byte n d b = cond (ltb b 0xfe) (lift_index n d b) b

-- ---- Figures of the parts.
unfoldable pub text : List Item → List ℕ
text [] = []
text (item {t} d f ∷ W) = encode t ++ text W

unfoldable pub scopes : List Item → List ℕ
scopes [] = []
scopes (item d f ∷ W) = d ∷ scopes W

unfoldable pub deepest : List Item → ℕ
deepest [] = 0
deepest (item {t} d f ∷ W) = max (d + scope t) (deepest W)

-- ---- Reading a byte.
pub text_next : {t : Term} (d : ℕ) (f : Coded t) (W : List Item) → text (item d f ∷ W) ≡ byte t ∷ text (next d f W)
unfolding text next byte encode
text_next d coded_tau W = refl
text_next d (coded_var p q) W = refl
text_next d (coded_app f g) W = simp append_assoc
text_next d (coded_abs f g) W = simp append_assoc

-- An index is no applicator or abstractor.
pub low : {k : ℕ} → k ≤ 253 → k < 254
low q = omega arith

pub scopes_next : {t : Term} (d : ℕ) (f : Coded t) (W : List Item) → scopes (next d f W) ≡ after (byte t) (d ∷ scopes W)
unfolding scopes next byte after body_scope
scopes_next d coded_tau W = refl
scopes_next d (coded_var {k} p q) W = rw (lt-ltb k 254 (low q))
scopes_next d (coded_app f g) W = refl
scopes_next d (coded_abs f g) W = refl

pub deepest_next : {t : Term} (d : ℕ) (f : Coded t) (W : List Item) → deepest (item d f ∷ W) ≡ max d (deepest (next d f W))
unfolding deepest next scope
deepest_next d coded_tau W = omega arith
deepest_next d (coded_var p q) W = omega arith
deepest_next d (coded_app f g) W = omega arith
deepest_next d (coded_abs f g) W = omega arith

-- Each part has a byte.
positive : (t : Term) → 1 ≤ length (encode t)
unfolding encode
positive tau = omega arith
positive (var k) = omega arith
positive (app K B) = omega arith
positive (abs U B) = omega arith

pub count_text : (W : List Item) → length W ≤ length (text W)
unfolding text
count_text [] = omega arith
count_text (item {t} d f ∷ W) = simp length-append (omega (arith, count_text W, positive t))

pub length_scopes : (W : List Item) → length (scopes W) ≡ length W
unfolding scopes
length_scopes [] = refl
length_scopes (item d f ∷ W) = ap suc (length_scopes W)
