-- Files as they are written: each is read back, and every accepted file is one.
-- Assumes nothing.
use Prim.Native.Nat.{ℕ, zero, suc, ◌+◌, ◌*◌, ◌-◌, ◌/◌, ◌%◌, ◌≤◌, ◌<◌}
use mathlib.Core.Path.{◌≡◌, refl, sym, ap, ap₂, ◌∙◌, subst, subst₂}
use mathlib.Core.List.{List, [], ◌∷◌, ◌++◌, map}
use native.Mathlib.Omega.{arith}
use native.Mathlib.Nat.{add-zero}
use native.Mathlib.Numerals.{add-one}
use lib.ListN.{length, get_or, take, drop, length-append, length-take, length-drop, take-append-drop, drop_of_length-le}
use lib.Seq.{drop-cons, get_or-drop, drop-drop, take-append_seam, drop-append_seam}
use Rattle.calculus.specs.Steps.{Step}
use Rattle.calculus.specs.Rules.{Group}
use Rattle.fields.specs.Fields.{word, body_end, read_step, steps_from, read_steps, GroupAt, span_at, group_at, group_in, accepted, read_file, term_bytes}
use Rattle.code.specs.Limits.{longest_file}
use Rattle.fields.specs.Fields.{Whole, GroupHere, Groups, done, more}
use Rattle.fields.specs.Files.{write_field, write_steps, write_groups, write_file, groups_placed, InBytes, StepsFit, none, step, GroupsFit, group}
use Rattle.fields.specs.Claims.{HasFields}
use Rattle.fields.proofs.Groups.{accepts, accepted_only}

-- What s holds from a place on.
pub record From (s : List ℕ) (at : ℕ) (w : List ℕ) : Type 0 where
  pub is : drop at s ≡ w

peek : {s w : List ℕ} {at : ℕ} (n : ℕ) → From s at w → get_or s (at + n) 0 ≡ get_or w n 0
peek {s = s} {at = at} n h = sym (get_or-drop at s n 0) ∙ ap (λ (l : List ℕ). get_or l n 0) h.is

skip : {s w : List ℕ} {at : ℕ} (n : ℕ) → From s at w → drop (at + n) s ≡ drop n w
skip {s = s} {at = at} n h = sym (drop-drop n at s) ∙ ap (drop n) h.is

-- A byte, and a number in two bytes.
record Triple (s : List ℕ) (at a n : ℕ) (w : List ℕ) : Type 0 where
  byte : get_or s at 0 ≡ a
  number : word s (at + 1) ≡ n
  rest : From s (at + 3) w

triple : (n : ℕ) {s w : List ℕ} {at a : ℕ} → From s at (a ∷ n / 256 ∷ n % 256 ∷ w) → Triple s at a n w
unfolding word
triple n {s = s} {at = at} h =
    let q : at + 1 + 1 ≡ at + 2 = omega arith in
    record { byte = rw add-zero at (peek 0 h); number = omega (arith, peek 1 h, rw (← q) at (peek 2 h)); rest = record { is = skip 3 h } }

-- A field.
pub record Written (tag : ℕ) (b w s : List ℕ) (at : ℕ) : Type 0 where
  pub whole : (unit : ℕ) → length b % unit ≡ 0 → Whole tag unit s at
  pub ends : body_end s at ≡ at + 3 + length b
  pub body : From s (at + 3) (b ++ w)
  pub rest : From s (body_end s at) w

pub written : {tag : ℕ} (b w : List ℕ) {s : List ℕ} {at : ℕ} → From s at (tag ∷ length b / 256 ∷ length b % 256 ∷ (b ++ w)) → Written tag b w s at
written b w {s = s} {at = at} h =
    let t = triple (length b) h in
    let l : length s - at ≡ suc (suc (suc (length b + length w)))
    = sym (length-drop at s) ∙ ap length h.is ∙ ap (λ (n : ℕ). suc (suc (suc n))) (length-append b w) in
    let e : body_end s at ≡ at + 3 + length b = ap (λ (n : ℕ). at + 3 + n) t.number in
    record {
      whole = λ u m. record { head = omega arith; tagged = t.byte; body = omega arith; multiple = rw t.number m };
      ends = e;
      body = t.rest;
      rest = record { is = rw e (skip (length b) t.rest ∙ drop-append_seam b w) };
    }

-- Steps.
steps_length : (xs : List Step) → length (write_steps xs) ≡ 3 * length xs
unfolding write_steps
steps_length [] = refl
steps_length (x ∷ xs) = omega (arith, steps_length xs)

steps_back : (xs : List Step) (w : List ℕ) {s : List ℕ} {at : ℕ} → From s at (write_steps xs ++ w) → steps_from (length xs) s at ≡ xs
unfolding steps_from write_steps
steps_back [] w h = refl
steps_back (x ∷ xs) w {s = s} {at = at} h =
    let t = triple x.place h in
    ap₂ (λ (y : Step) (ys : List Step). y ∷ ys) (λ i. record { kind = t.byte i; place = t.number i }) (steps_back xs w t.rest)

-- A field of steps.
record Steps (xs : List Step) (s : List ℕ) (at : ℕ) : Type 0 where
  back : read_steps s (at + 3) (body_end s at) ≡ xs
  multiple : length (write_steps xs) % 3 ≡ 0

steps_there : {tag : ℕ} (xs : List Step) (w : List ℕ) {s : List ℕ} {at : ℕ} → Written tag (write_steps xs) w s at → Steps xs s at
steps_there xs w {s = s} {at = at} f =
    let n : (body_end s at - (at + 3)) / 3 ≡ length xs = omega (arith, steps_length xs, f.ends) in
    record { back = rw n (steps_back xs w f.body); multiple = omega (arith, steps_length xs) }

-- Groups.
groups_there : (gs : List Group) {s : List ℕ} {at : ℕ} → at ≤ length s → From s at (write_groups gs) → Groups s at (groups_placed at gs)
unfolding write_groups groups_placed
groups_there [] {s = s} {at = at} i h = done {at = at} (omega (arith, sym (length-drop at s) ∙ ap length h.is))
groups_there (g ∷ gs) {s = s} {at = at} i h =
    let a = write_steps g.left in
    let b = write_steps g.right in
    let l = written a (write_field 3 b ++ write_groups gs) h in
    let r = written b (write_groups gs) l.rest in
    let x = steps_there g.left _ l in
    let y = steps_there g.right _ r in
    let here : GroupHere s at = record { left = l.whole 3 x.multiple; right = r.whole 3 y.multiple } in
    let n : (span_at s at).next ≡ at + 6 + length a + length b = omega (arith, l.ends, r.ends) in
    let q : group_at s at ≡ record { head = at; group = g } = λ i. record { head = at; group = record { left = x.back i; right = y.back i } } in
    subst₂ (λ (z : GroupAt) (k : ℕ). Groups s at (z ∷ groups_placed k gs)) q n (more here (groups_there gs here.right.body r.rest))

pub read_back : (b : List ℕ) (gs : List Group) → length (write_file b gs) ≤ longest_file
    → read_file (write_file b gs) ≡ accepted (3 + length b) (groups_placed (3 + length b) gs)
unfolding write_file
read_back b gs h =
    let w = written b (write_groups gs) {s = write_field 1 b ++ write_groups gs} {at = 0} (record { is = refl }) in
    let t = w.whole 1 (omega arith) in
    let q : body_end (write_field 1 b ++ write_groups gs) 0 ≡ 3 + length b = omega (arith, w.ends) in
    accepts (subst (λ (e : ℕ). HasFields (write_field 1 b ++ write_groups gs) e (groups_placed e gs)) q
    (record { fits = h; term = t; ends = refl; groups = groups_there gs t.body w.rest }))

pub same_term : (b : List ℕ) (gs : List Group) → term_bytes (write_file b gs) (3 + length b) ≡ b
unfolding write_file
same_term b gs = let q : 3 + length b - 3 ≡ length b = omega arith in rw q (take-append_seam b (write_groups gs))

pub same_groups : (at : ℕ) (gs : List Group) → map (λ (g : GroupAt). g.group) (groups_placed at gs) ≡ gs
unfolding groups_placed
same_groups at [] = refl
same_groups at (g ∷ gs) = ap (λ (l : List Group). g ∷ l) (same_groups (at + 6 + length (write_steps g.left) + length (write_steps g.right)) gs)

-- An accepted file is one that is written.
module _ (s : List ℕ) (small : InBytes s) where
  one_byte : (at : ℕ) → at < length s → drop at s ≡ get_or s at 0 ∷ drop (at + 1) s
  one_byte at h = rw add-one (drop-cons s at 0 h)

  three_bytes : (at : ℕ) → at + 3 ≤ length s → drop at s ≡ get_or s at 0 ∷ word s (at + 1) / 256 ∷ word s (at + 1) % 256 ∷ drop (at + 3) s
  unfolding word
  three_bytes at h =
      let a = one_byte at (omega arith) in
      let b = one_byte (at + 1) (omega arith) in
      let c = one_byte (at + 1 + 1) (omega arith) in
      let d : at + 1 + 1 + 1 ≡ at + 3 = omega arith in
      let hi : get_or s (at + 1) 0 ≡ (get_or s (at + 1) 0 * 256 + get_or s (at + 1 + 1) 0) / 256 = omega (arith, small.small (at + 1 + 1)) in
      let lo : get_or s (at + 1 + 1) 0 ≡ (get_or s (at + 1) 0 * 256 + get_or s (at + 1 + 1) 0) % 256 = omega (arith, small.small (at + 1 + 1)) in
      cc

  steps_only : (n at : ℕ) → at + 3 * n ≤ length s → take (3 * n) (drop at s) ≡ write_steps (steps_from n s at)
  unfolding steps_from write_steps
  steps_only zero at h = refl
  steps_only (suc n) at h =
      let q : 3 * suc n ≡ suc (suc (suc (3 * n))) = omega arith in
      rw (q, three_bytes at (omega arith)) (ap (λ (l : List ℕ). get_or s at 0 ∷ word s (at + 1) / 256 ∷ word s (at + 1) % 256 ∷ l) (steps_only n (at + 3) (omega arith)))

  pub field_only : {tag unit at : ℕ} (b : List ℕ) → Whole tag unit s at → take (word s (at + 1)) (drop (at + 3) s) ≡ b
      → drop at s ≡ write_field tag b ++ drop (body_end s at) s
  field_only {at = at} b w q =
      let n = word s (at + 1) in
      let l : length b ≡ n = sym (ap length q) ∙ simp (length-take, length-drop) (omega (arith, w.body)) in
      let r : drop (at + 3) s ≡ b ++ drop (body_end s at) s = sym (take-append-drop n (drop (at + 3) s)) ∙ ap₂ ◌++◌ q (drop-drop n (at + 3) s) in
      let t = three_bytes at w.head in
      let g = w.tagged in
      cc

  group_only : {tag at : ℕ} → Whole tag 3 s at → drop at s ≡ write_field tag (write_steps (read_steps s (at + 3) (body_end s at))) ++ drop (body_end s at) s
  group_only {at = at} w =
      let k = (body_end s at - (at + 3)) / 3 in
      let q : 3 * k ≡ word s (at + 1) = omega (arith, w.multiple) in
      field_only _ w (rw q at (steps_only k (at + 3) (omega (arith, w.body))))

  groups_only : {at : ℕ} {gs : List GroupAt} → Groups s at gs → drop at s ≡ write_groups (map (λ (g : GroupAt). g.group) gs)
  unfolding write_groups
  groups_only {at = at} (done q) = drop_of_length-le s {i = at} (omega arith)
  groups_only {at = at} (more g r) =
      let x = group_in s (span_at s at) in
      let rest = group_only g.right ∙ ap (λ (l : List ℕ). write_field 3 (write_steps x.right) ++ l) (groups_only r) in
      group_only g.left ∙ ap (λ (l : List ℕ). write_field 2 (write_steps x.left) ++ l) rest

  steps_fit : (n at : ℕ) → StepsFit (steps_from n s at)
  unfolding steps_from word
  steps_fit zero at = none
  steps_fit (suc n) at = step {x = read_step s at} (small.small at) (omega (arith, small.small (at + 1), small.small (at + 1 + 1))) (steps_fit n (at + 3))

  groups_fit : {at : ℕ} {gs : List GroupAt} → Groups s at gs → GroupsFit (map (λ (g : GroupAt). g.group) gs)
  groups_fit (done q) = none
  groups_fit (more g r) = group (steps_fit _ _) (steps_fit _ _) (groups_fit r)

pub only_written : {s : List ℕ} {e : ℕ} {gs : List GroupAt} → InBytes s → read_file s ≡ accepted e gs
    → s ≡ write_file (term_bytes s e) (map (λ (g : GroupAt). g.group) gs)
unfolding write_file
only_written {s = s} {e = e} b h =
    let a = accepted_only s h in
    let n : word s (0 + 1) ≡ e - 3 = omega (arith, a.ends) in
    field_only s b (term_bytes s e) a.term (rw n)
    ∙ ap (λ (l : List ℕ). write_field 1 (term_bytes s e) ++ l) (ap (λ (k : ℕ). drop k s) (sym a.ends) ∙ groups_only s b a.groups)

pub fitting : {s : List ℕ} {e : ℕ} {gs : List GroupAt} → InBytes s → read_file s ≡ accepted e gs → GroupsFit (map (λ (g : GroupAt). g.group) gs)
fitting {s = s} b h = groups_fit s b (accepted_only s h).groups

-- What is written is bytes.
byte_more : {x : ℕ} {s : List ℕ} → x < 256 → InBytes s → InBytes (x ∷ s)
byte_more {x = x} {s = s} h b = record { small = go }
  where
    go : (i : ℕ) → get_or (x ∷ s) i 0 < 256
    go zero = h
    go (suc i) = b.small i

bytes_append : (a : List ℕ) {b : List ℕ} → InBytes a → InBytes b → InBytes (a ++ b)
bytes_append [] p q = q
bytes_append (x ∷ a) p q = byte_more (p.small 0) (bytes_append a (record { small = λ i. p.small (suc i) }) q)

pub field_bytes : (tag : ℕ) (b : List ℕ) {w : List ℕ} → tag < 256 → length b < 65536 → InBytes b → InBytes w → InBytes (write_field tag b ++ w)
field_bytes tag b t l p q = byte_more t (byte_more (omega arith) (byte_more (omega arith) (bytes_append b p q)))

steps_bytes : {xs : List Step} → StepsFit xs → InBytes (write_steps xs)
unfolding write_steps
steps_bytes none = record { small = λ i. omega arith }
steps_bytes (step k p r) = byte_more k (byte_more (omega arith) (byte_more (omega arith) (steps_bytes r)))

groups_bytes : {gs : List Group} → length (write_groups gs) ≤ longest_file → GroupsFit gs → InBytes (write_groups gs)
unfolding write_groups
groups_bytes h none = record { small = λ i. omega arith }
groups_bytes h (group {g = g} {gs = gs} l r f) =
    let a = write_steps g.left in
    let b = write_steps g.right in
    let n = length-append a (write_field 3 b ++ write_groups gs) in
    let m = length-append b (write_groups gs) in
    field_bytes 2 a (omega arith) (omega arith) (steps_bytes l) (field_bytes 3 b (omega arith) (omega arith) (steps_bytes r) (groups_bytes (omega arith) f))

pub in_bytes : (b : List ℕ) (gs : List Group) → length (write_file b gs) ≤ longest_file → InBytes b → GroupsFit gs → InBytes (write_file b gs)
unfolding write_file
in_bytes b gs h p f =
    let n = length-append b (write_groups gs) in
    field_bytes 1 b (omega arith) (omega arith) p (groups_bytes (omega arith) f)
