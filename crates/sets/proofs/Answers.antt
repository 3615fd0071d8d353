-- What the answer to a set says.
-- Assumes nothing.
use Prim.Native.Nat.{ℕ, zero, suc, ◌+◌, ◌≤◌, ◌<◌}
use mathlib.Core.Path.{◌≡◌, refl, ap, sym, ◌∙◌, subst}
use mathlib.Core.Bool.{Bool, true, false, cond, true≢false}
use mathlib.Core.List.{List, [], ◌∷◌, ◌++◌}
use native.Mathlib.Omega.{arith}
use lib.ListN.{length, get_or, length-append}
use lib.Seq.{take-append_seam, drop-append_seam}
use lib.Dec.{eqb}
use borrow.Author.Tests.{eqb-true, eq-eqb}
use Rattle.calculus.specs.Rules.{Group}
use Rattle.code.specs.Code.{Bytes, encode}
use Rattle.code.proofs.RoundTrip.{bytes_drop}
use Rattle.fields.specs.Fields.{Sequence}
use Rattle.fields.specs.Files.{write_field, write_steps, write_groups, write_file, InBytes}
use Rattle.fields.proofs.Written.{field_bytes}
use Rattle.files.specs.Check.{check_file}
use Rattle.files.specs.Claims.{Accepted}
use Rattle.files.proofs.Answers.{says as file_says, bytes_take}
use Rattle.sets.specs.Sets.{SetAnswer, longest_set, refused_file, accepted_set, check_files, check_from, check_set}
use Rattle.sets.specs.Claims.{write_set, HoldsFiles, FileAccepted, FileRefused, AllAccepted, none, next, SetAccepted, SetRefused, over_long, no_set, one_file, AcceptedSets, SetChecked}
use Rattle.sets.proofs.Heads.{SetView, over, cut, files, set_view, holding}

-- THE FILES
first_bytes : (f w : List ℕ) → Bytes (write_field 5 f ++ w) → Bytes f
first_bytes f w b = subst Bytes (take-append_seam f w) (bytes_take (length f) (f ++ w) (bytes_drop 3 (write_field 5 f ++ w) b))

rest_bytes : (f w : List ℕ) → Bytes (write_field 5 f ++ w) → Bytes w
rest_bytes f w b = subst Bytes (drop-append_seam f w) (bytes_drop (length f) (f ++ w) (bytes_drop 3 (write_field 5 f ++ w) b))

-- they are all accepted, or one is the first that is not
data View (i c : ℕ) (fs : List (List ℕ)) : SetAnswer → Type 0 where
  all : {x n g k m : ℕ} → AllAccepted fs x n g → k ≡ i + length fs → m ≡ c + x → View i c fs (accepted_set k m)
  one : (j : ℕ) {k : ℕ} → k ≡ i + j → j < length fs → ((h : ℕ) → h < j → FileAccepted fs h) → (FileAccepted fs j → ⊥) → FileRefused fs j
      → View i c fs (refused_file k (check_file (get_or fs j [])))

also : {i c : ℕ} {f : List ℕ} {fs : List (List ℕ)} {a : SetAnswer} → Bytes f → (check_file f).number ≡ 0 → View (i + 1) (c + (check_file f).comparisons) fs a → View i c (f ∷ fs) a
also {f = f} b e (all {k = k} {m = m} d p q) = all {k = k} {m = m} (next e ((file_says f b).0 e) d) (omega arith) (omega arith)
also {f = f} {fs = fs} b e (one j {k = k} p l h n r) = one (suc j) {k = k} (omega arith) (omega arith) before n r
  where
    before : (i : ℕ) → i < suc j → FileAccepted (f ∷ fs) i
    before zero m = e
    before (suc i) m = h i (omega arith)

view : (fs : List (List ℕ)) → Bytes (write_set fs) → (i c : ℕ) → View i c fs (check_files i c fs)
unfolding write_set check_files
view [] b i c = all {k = i} {m = c} none (omega arith) (omega arith)
view (f ∷ fs) b i c = go (eqb (check_file f).number 0) refl (view fs (rest_bytes f (write_set fs) b) (i + 1) (c + (check_file f).comparisons))
  where
    go : (x : Bool) → eqb (check_file f).number 0 ≡ x → View (i + 1) (c + (check_file f).comparisons) fs (check_files (i + 1) (c + (check_file f).comparisons) fs)
        → View i c (f ∷ fs) (cond x (check_files (i + 1) (c + (check_file f).comparisons) fs) (refused_file i (check_file f)))
    go true e v = also (first_bytes f (write_set fs) b) (eqb-true _ _ e) v
    go false e v =
        let n : (check_file f).number ≡ 0 → ⊥ = λ h. true≢false (sym (eq-eqb (check_file f).number 0 h) ∙ e) in
        one 0 {k = i} (omega arith) (omega arith) (λ k l. absurd (omega arith)) n ((file_says f (first_bytes f (write_set fs) b)).1 n)

sums : {fs : List (List ℕ)} {c n g : ℕ} → AllAccepted fs c n g → (c ≡ n) × (c ≡ g)
sums none = (refl, refl)
sums (next e a d) = let r = sums d in (omega (arith, a.all_compared, r.0), omega (arith, a.all_compared, a.group_each, r.1))

each : {fs : List (List ℕ)} {c n g : ℕ} → AllAccepted fs c n g → (i : ℕ) → i < length fs → FileAccepted fs i
each none i l = absurd (omega arith)
each (next e a d) zero l = e
each (next e a d) (suc i) l = each d i (omega arith)

-- THE SET
abbrev Says : List ℕ → SetAnswer → Type 0
Says s a = (a.number ≡ 0 → SetAccepted s a) × ((a.number ≡ 0 → ⊥) → SetRefused s a)

files_say : {s : List ℕ} {fs : List (List ℕ)} {a : SetAnswer} → HoldsFiles s fs → View 0 0 fs a → Says s a
files_say {s} {fs} h (all {x = x} {n = n} {g = g} {k = k} {m = m} d p q) =
    let r = sums d in
    let z : m ≡ x = omega arith in
    let y : k ≡ length fs = omega arith in
    (λ e. record { files = fs; holds = h; answer = ap (λ (i : ℕ). accepted_set i m) y; all_applicators = n; all_groups = g; each = rw z d; all_compared = z ∙ r.0; group_each = z ∙ r.1 }, λ e. absurd (e refl))
files_say {s} {fs} h (one j {k = k} p l b n r) =
    let y : k ≡ j = omega arith in
    (λ e. absurd (n e), λ e. rw y (one_file fs j h l b n r))

says : (s : List ℕ) → Bytes s → Says s (check_set s)
unfolding check_set check_from
says s b = go (set_view s b)
  where
    go : {q : Sequence (List ℕ)} → SetView s q → Says s (check_from 0 0 q)
    go (over l) = (λ e. absurd (omega arith), λ e. over_long l)
    go (cut fs rest l h n) = (λ e. absurd (omega arith), λ e. no_set fs rest l h n)
    go (files {fs = fs} h) = files_say h (view fs (subst Bytes h.written b) 0 0)

-- every file is accepted, and so is the set
all_in : {i c : ℕ} {fs : List (List ℕ)} {a : SetAnswer} → View i c fs a → ((j : ℕ) → j < length fs → FileAccepted fs j) → a.number ≡ 0
all_in (all d p q) h = refl
all_in (one j p l b n r) h = absurd (n (h j l))

-- what is packed is bytes
packed : (fs : List (List ℕ)) → length (write_set fs) ≤ longest_set → ((i : ℕ) → i < length fs → InBytes (get_or fs i [])) → InBytes (write_set fs)
unfolding write_set
packed [] l b = record { small = λ i. omega arith }
packed (f ∷ fs) l b =
    let n = length-append f (write_set fs) in
    field_bytes 5 f (omega arith) (omega arith) (b 0 (omega arith)) (packed fs (omega arith) (λ i h. b (suc i) (omega arith)))

pub accepted_sets : AcceptedSets
unfolding check_set check_from
accepted_sets = record {
  exactly = λ s b. (only s b, λ x. if_all s b x.0 x.1 x.2);
  packed = λ fs n l b. ((packed fs l b).small, record { fits = l; some_file = n; written = refl });
}
  where
    only : (s : List ℕ) → Bytes s → (check_set s).number ≡ 0 → (fs : List (List ℕ)) × HoldsFiles s fs × ((i : ℕ) → i < length fs → FileAccepted fs i)
    only s b e = let a = (says s b).0 e in (a.files, a.holds, each a.each)

    if_all : (s : List ℕ) → Bytes s → (fs : List (List ℕ)) → HoldsFiles s fs → ((i : ℕ) → i < length fs → FileAccepted fs i) → (check_set s).number ≡ 0
    if_all s b fs h k = rw (holding h) (all_in (view fs (subst Bytes h.written b) 0 0) k)

pub checked : {s : List ℕ} {r : SetAnswer} → Bytes s → r ≡ check_set s → SetChecked s r
checked {s} b e = record { answer = e; acceptance = rw e (says s b).0; refusal = rw e (says s b).1 }

-- HOW MUCH IS COMPARED: never more than there are bytes
groups_long : (gs : List Group) → length gs ≤ length (write_groups gs)
unfolding write_groups
groups_long [] = omega arith
groups_long (g ∷ gs) =
    let l = length-append (write_steps g.left) (write_field 3 (write_steps g.right) ++ write_groups gs) in
    let r = length-append (write_steps g.right) (write_groups gs) in
    omega (arith, groups_long gs)

pub comparisons_fit : {f : List ℕ} {c d : ℕ} → Accepted f c d → c ≤ length f
unfolding write_file
comparisons_fit {f} a =
    let l = length-append (encode a.term) (write_groups a.steps) in
    omega (arith, a.all_compared, a.group_each, groups_long a.steps, ap length a.file)
