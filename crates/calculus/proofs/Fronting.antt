-- Lines put in front: promise 4.
-- Assumes nothing.
use Prim.Native.Nat.{ℕ, zero, suc, ◌<◌}
use mathlib.Core.Path.{◌≡◌, refl, ap, ap₂, sym, ◌∙◌}
use mathlib.Core.Option.{some}
use mathlib.Core.List.{List, [], ◌∷◌, ◌++◌, map, append_assoc, append-nil}
use native.Mathlib.Omega.{arith}
use Rattle.calculus.specs.Terms.{Term, tau, var, app, abs, lift, Closed, closed_tau, closed_var, closed_app, closed_abs}
use Rattle.calculus.specs.Frames.{Entry, single, pair, Frame, ε, ◌▹◌, depth, entry_at, ClosedEntry, closed_single, closed_pair, ClosedFrame, closed_entry, map_entry, Insert, insert_none, insert_one, Promote}
use Rattle.calculus.specs.Types.{degree}
use Rattle.calculus.specs.Rules.{Group, Same, lift_all, State, own, copied, Next, plain_next, With}
use Rattle.calculus.specs.Growth.{up, rename, Grown, as_it_was, inserted, kept, paired, here, grown_own, grown_copied, NewClosed, before, in_front, line, lines, Lines, no_line, one_line, Parts, GrownLines, lines_kept, line_inserted, line_kept, line_paired}
use Rattle.calculus.specs.Claims.{Growing, FrameGrowth, Weakening, BothWeaken}
use Rattle.calculus.proofs.Ren.{shift, lift_ren, no_some}
use Rattle.calculus.proofs.Weaken.{grow_refl, unchanged, same_ren}
use Rattle.calculus.proofs.Frames.{id, map_id, ren_id, all_id, grown_ren, grown_insert, grown_promote, all_shift}
use Rattle.calculus.proofs.Derive.{All, all_none, all_same, all_state, built, parts, Shared, at_tau, at_app, at_single, at_pair, shared}
use Rattle.calculus.proofs.Growing.{Follow, Follows, by_growth, plain_follows, one_pass_follows, stays, demands}
use Rattle.calculus.proofs.Degree.{degree_grown, lines_degree}

-- CLOSED, WHERE THE FRAME GROWS
record Within (m n : ℕ) (ρ : ℕ → ℕ) : Type 0 where
  within : (j : ℕ) → j < m → ρ j < n

up_within : {m n : ℕ} {ρ : ℕ → ℕ} → Within m n ρ → Within (suc m) (suc n) (up ρ)
unfolding up
up_within {m} {n} {ρ} w = record { within = go }
  where
    go : (j : ℕ) → j < suc m → up ρ j < suc n
    go zero h = omega arith
    go (suc j) h = let z = w.within j (omega arith) in omega arith

ren_closed : {m n : ℕ} {ρ : ℕ → ℕ} {t : Term} → Within m n ρ → Closed m t → Closed n (rename ρ t)
unfolding rename
ren_closed w closed_tau = closed_tau
ren_closed w (closed_var {k = zero} p q) = let z : ⊥ = omega arith in absurd z
ren_closed {n = n} {ρ = ρ} w (closed_var {k = suc j} p q) = let z = w.within j (omega arith) in closed_var {n = n} {k = suc (ρ j)} (omega arith) (omega arith)
ren_closed w (closed_app c d) = closed_app (ren_closed w c) (ren_closed w d)
ren_closed w (closed_abs c d) = closed_abs (ren_closed w c) (ren_closed (up_within w) d)

grown_within : {ρ : ℕ → ℕ} {R R' : Frame} → Grown ρ R R' → Within (depth R) (depth R') ρ
unfolding depth
grown_within as_it_was = record { within = λ j h. h }
grown_within (inserted e g) = record { within = λ j h. let z = (grown_within g).within j h in omega arith }
grown_within (kept e g) = up_within (grown_within g)
grown_within (paired K U g) = up_within (grown_within g)

closed_term : {ρ : ℕ → ℕ} {R R' : Frame} {t : Term} → Grown ρ R R' → Closed (depth R) t → Closed (depth R') (rename ρ t)
closed_term g c = ren_closed (grown_within g) c

closed_kept : {ρ : ℕ → ℕ} {R R' : Frame} {e : Entry} → Grown ρ R R' → ClosedEntry (depth R) e → ClosedEntry (depth R') (map_entry (rename ρ) e)
unfolding map_entry
closed_kept g (closed_single u) = closed_single (closed_term g u)
closed_kept g (closed_pair k u) = closed_pair (closed_term g k) (closed_term g u)

closed_frame : {ρ : ℕ → ℕ} {R R' : Frame} (g : Grown ρ R R') → NewClosed g → ClosedFrame R → ClosedFrame R'
closed_frame as_it_was n r = r
closed_frame (inserted e g) n r = closed_entry (closed_frame g n.1 r) n.0
closed_frame (kept e g) n (closed_entry r c) = closed_entry (closed_frame g n r) (closed_kept g c)
closed_frame (paired K U g) n (closed_entry r (closed_single u)) = closed_entry (closed_frame g n.1 r) (closed_pair n.0 (closed_term g u))

-- what a renaming leaves
record Fixes (m : ℕ) (ρ : ℕ → ℕ) : Type 0 where
  fixes : (j : ℕ) → j < m → ρ j ≡ j

up_fixes : {m : ℕ} {ρ : ℕ → ℕ} → Fixes m ρ → Fixes (suc m) (up ρ)
unfolding up
up_fixes {m} {ρ} f = record { fixes = go }
  where
    go : (j : ℕ) → j < suc m → up ρ j ≡ j
    go zero h = refl
    go (suc j) h = ap suc (f.fixes j (omega arith))

ren_stays : {m : ℕ} {t : Term} {ρ : ℕ → ℕ} → Fixes m ρ → Closed m t → rename ρ t ≡ t
unfolding rename
ren_stays f closed_tau = refl
ren_stays f (closed_var {k = zero} p q) = refl
ren_stays f (closed_var {k = suc j} p q) = ap (λ (i : ℕ). var (suc i)) (f.fixes j q)
ren_stays f (closed_app c d) = ap₂ app (ren_stays f c) (ren_stays f d)
ren_stays f (closed_abs c d) = ap₂ abs (ren_stays f c) (ren_stays (up_fixes f) d)

closed_text : {t : Term} (ρ : ℕ → ℕ) → Closed 0 t → rename ρ t ≡ t
closed_text ρ c = ren_stays (record { fixes = λ j h. let z : ⊥ = omega arith in absurd z }) c

-- IN FRONT: what stood there means what it meant
front_at : (L R : Frame) (k : ℕ) (e : Entry) → entry_at R k ≡ some e → entry_at (before L R) k ≡ some e
unfolding entry_at before
front_at L ε k e h = no_some h
front_at L (R ▹ f) zero e h = no_some h
front_at L (R ▹ f) (suc zero) e h = h
front_at L (R ▹ f) (suc (suc k)) e h = front_at L R (suc k) e h

-- and nothing is asked of what meant nothing
by_front : (L R : Frame) → Follow ⊥ id R (before L R)
unfolding id
by_front L R = record {
  image = record { image = λ j e h. record { new = e; there = front_at L R (suc j) e h; grown = rw (map_id (map_entry (lift (suc j) 0) e)) (grow_refl _) } };
  none_there = λ z. absurd z;
}

from_nothing : (L : Frame) → Insert (depth L) 0 ε L
unfolding depth
from_nothing ε = insert_none
from_nothing (L ▹ e) = insert_one e (from_nothing L)

degree_in_front : {t : Term} (L : Frame) → Closed 0 t → degree ε (lines L t) ≡ degree ε t
degree_in_front {t} L c = let g = grown_insert (from_nothing L) in lines_degree L t ∙ ap (degree L) (sym (closed_text _ c)) ∙ degree_grown g t

in_order : (L R : Frame) (t : Term) → lines (before L R) t ≡ lines L (lines R t)
unfolding lines before
in_order L ε t = refl
in_order L (R ▹ e) t = in_order L R (line e t)

-- ONE TEXT
module _ {next : State → Next} (is : (s : State) → Shared s → next s ≡ plain_next s) where
  -- the parts of a state, by the plain rules' clause
  apart : {s : State} {gs : List Group} → Shared s → With next s gs → All (With next) (plain_next s) gs
  apart {s} h w = rw (is s h) at (parts s w)

  together : {s : State} {gs : List Group} → Shared s → All (With next) (plain_next s) gs → With next s gs
  together {s} h a = built s (rw (is s h) a)

  -- what a line asks for before all that follows it
  data Head (R : Frame) : Entry → List Group → Type 0 where
    head_single : {U : Term} {gs : List Group} → With next (own R [] U) gs → Head R (single U) gs
    head_pair : {K U : Term} {gs hs : List Group} → With next (own R [] K) gs → With next (own R [] U) hs → (s : Same R K U) → Head R (pair K U) (gs ++ (hs ++ (s.group ∷ [])))

  joined : {R : Frame} {t : Term} {e : Entry} {gs hs : List Group} → Head R e gs → With next (own (R ▹ e) [] t) hs → With next (own R [] (line e t)) (gs ++ hs)
  unfolding plain_next line lift_all
  joined {hs = hs} (head_single u) w = rw (append-nil hs) at (together at_single (all_state u (all_state w all_none)))
  joined {t = t} {hs = hs} (head_pair {gs = a} {hs = b} k u s) w =
      let rest = together (at_pair {W = []} {B = t}) (all_state u (all_same s (all_state w all_none))) in
      rw (append_assoc a (b ++ (s.group ∷ [])) hs, append_assoc b (s.group ∷ []) hs)
      (rw (append-nil (b ++ (s.group ∷ (hs ++ []))), append-nil hs) at (together at_app (all_state k (all_state rest all_none))))

  -- and apart
  abbrev Split : Frame → Entry → Term → List Group → Type 0
  Split R e t ks = (gs : List Group) × (hs : List Group) × Head R e gs × With next (own (R ▹ e) [] t) hs × (ks ≡ gs ++ hs)

  split_single : {R : Frame} {U t : Term} (ks : List Group) → All (With next) (plain_next (own R [] (abs U t))) ks → Split R (single U) t ks
  unfolding plain_next
  split_single ks (all_state {gs = a} u (all_state {gs = b} r all_none)) = (a, b, head_single u, r, ap (λ (l : List Group). a ++ l) (append-nil b))

  split_pair : {R : Frame} {K U t : Term} (a ks : List Group) → With next (own R [] K) a → All (With next) (plain_next (own R (K ∷ []) (abs U t))) ks → Split R (pair K U) t (a ++ ks)
  unfolding plain_next lift_all
  split_pair a ks k (all_state {gs = b} u (all_same s (all_state {gs = c} r all_none))) =
      (a ++ (b ++ (s.group ∷ [])), c, head_pair k u s, r, rw (append-nil c, append_assoc a (b ++ (s.group ∷ [])) c, append_assoc b (s.group ∷ []) c))

  split_app : {R : Frame} {K U t : Term} (ks : List Group) → All (With next) (plain_next (own R [] (app K (abs U t)))) ks → Split R (pair K U) t ks
  unfolding plain_next
  split_app ks (all_state {gs = a} k (all_state {gs = b} d all_none)) = rw (append-nil b) (split_pair a b k (apart at_pair d))

  split : {R : Frame} {t : Term} {ks : List Group} (e : Entry) → With next (own R [] (line e t)) ks → Split R e t ks
  unfolding line
  split (single U) w = split_single _ (apart at_single w)
  split (pair K U) w = split_app _ (apart at_app w)

  -- a line by itself is its head
  ends : (R : Frame) → With next (own R [] tau) []
  unfolding plain_next
  ends R = together at_tau all_none

  nothing : (R : Frame) (gs : List Group) → All (With next) (plain_next (own R [] tau)) gs → gs ≡ []
  unfolding plain_next
  nothing R gs all_none = refl

  head_of : {R : Frame} {gs : List Group} (e : Entry) → With next (own R [] (line e tau)) gs → Head R e gs
  head_of {R} e w = let p = split e w in rw (p.4, nothing (R ▹ e) p.1 (apart at_tau p.3), append-nil p.0) p.2

  line_of : {R : Frame} {gs : List Group} (e : Entry) → Head R e gs → With next (own R [] (line e tau)) gs
  line_of {R} {gs} e h = rw (append-nil gs) at (joined h (ends (R ▹ e)))

  one_text : {R : Frame} {gs hs : List Group} {t : Term} → Lines next R gs → With next (own R [] t) hs → With next (own ε [] (lines R t)) (gs ++ hs)
  unfolding lines
  one_text no_line w = w
  one_text {hs = hs} (one_line {gs = gs} {hs = ks} e l c) w = rw (append_assoc gs ks hs) (one_text l (joined (head_of e c) w))

  in_parts : {t : Term} {ks : List Group} (R : Frame) → With next (own ε [] (lines R t)) ks → Parts next R t ks
  unfolding lines
  in_parts {ks = ks} ε w = record { of_lines = []; of_rest = ks; each = no_line; rest = w; all = refl }
  in_parts {t} (R ▹ e) w =
      let p = in_parts {t = line e t} R w in
      let l = split e p.rest in
      record {
        of_lines = p.of_lines ++ l.0;
        of_rest = l.1;
        each = one_line e p.each (line_of e l.2);
        rest = l.3;
        all = p.all ∙ ap (λ (x : List Group). p.of_lines ++ x) l.4 ∙ sym (append_assoc p.of_lines l.0 l.1);
      }

-- AS PROMISED
module _ {next : State → Next} (f : Follows next) (is : (s : State) → Shared s → next s ≡ plain_next s) where
  insert : {n c : ℕ} {R R' : Frame} {W : List Term} {B : Term} {gs : List Group} → Insert n c R R' → With next (own R W B) gs → With next (own R' (map (lift n c) W) (lift n c B)) gs
  insert {n} {c} {W = W} {B = B} i w = rw (all_shift n c W, ← lift_ren n c B) at (stays f (by_growth (grown_insert i)) (grown_own here) w)

  promote : {R R' : Frame} {W : List Term} {B : Term} {gs : List Group} → Promote R R' → With next (own R W B) gs → With next (own R' W B) gs
  promote {W = W} {B = B} p w = rw (all_id W, ren_id B) at (stays f (by_growth (grown_promote p)) (grown_own here) w)

  stays_in_front : {gs : List Group} (L : Frame) (s : State) → With next s gs → With next (in_front L s) gs
  unfolding in_front
  stays_in_front L (own R W B) w = rw (all_id W, ren_id B) at (stays f (by_front L R) (grown_own here) w)
  stays_in_front L (copied R W Y B) w = rw (all_id W, all_id Y, ren_id B) at (stays f (by_front L R) (grown_copied here) w)

  alone : {t : Term} {gs : List Group} (L : Frame) → With next (own ε [] t) gs → With next (own L [] t) gs
  unfolding before in_front
  alone {t} L w = stays_in_front L (own ε [] t) w

  -- a text among whose lines others are put
  frames_of : {ρ : ℕ → ℕ} {R R' : Frame} {gs gs' : List Group} → GrownLines next ρ R gs R' gs' → Grown ρ R R'
  frames_of (lines_kept l) = as_it_was
  frames_of (line_inserted e l w) = inserted e (frames_of l)
  frames_of (line_kept e l w) = kept e (frames_of l)
  frames_of (line_paired K U l u k s) = paired K U (frames_of l)

  lines_before : {ρ : ℕ → ℕ} {R R' : Frame} {gs gs' : List Group} → GrownLines next ρ R gs R' gs' → Lines next R gs
  lines_before (lines_kept l) = l
  lines_before (line_inserted e l w) = lines_before l
  lines_before (line_kept e l w) = one_line e (lines_before l) w
  lines_before (line_paired K U l u k s) = one_line (single U) (lines_before l) (line_of is (single U) (head_single u))

  line_renamed : {ρ : ℕ → ℕ} {R R' : Frame} {gs : List Group} (e : Entry) → Grown ρ R R' → With next (own R [] (line e tau)) gs → With next (own R' [] (line (map_entry (rename ρ) e) tau)) gs
  unfolding rename line map_entry
  line_renamed (single U) g w = stays f (by_growth g) (grown_own here) w
  line_renamed (pair K U) g w = stays f (by_growth g) (grown_own here) w

  lines_after : {ρ : ℕ → ℕ} {R R' : Frame} {gs gs' : List Group} → GrownLines next ρ R gs R' gs' → Lines next R' gs'
  lines_after (lines_kept l) = l
  lines_after (line_inserted e l w) = one_line e (lines_after l) w
  lines_after (line_kept {ρ} e l w) = one_line (map_entry (rename ρ) e) (lines_after l) (line_renamed e (frames_of l) w)
  lines_after (line_paired {ρ} K U l u k s) =
      one_line (pair K (rename ρ U)) (lines_after l) (line_of is (pair K (rename ρ U)) (head_pair k (stays f (by_growth (frames_of l)) (grown_own here) u) s))

  weakening : Weakening next
  weakening = record {
    insert = λ W B i d. insert i (record { derivation = d; same_groups = refl });
    promote = λ W B p d. promote p (record { derivation = d; same_groups = refl });
  }

  growing : Growing next
  growing = record {
    stays = λ g s w. stays f (by_growth g) s w;
    demands = λ g s w. demands f g s w;
    insert = insert;
    promote = promote;
    stays_in_front = stays_in_front;
    one_text = one_text is;
    in_parts = in_parts is;
    text_grows = λ l w. (one_text is (lines_before l) w, one_text is (lines_after l) (stays f (by_growth (frames_of l)) (grown_own here) w));
    lines_in_front = λ {L} l w. one_text is l (alone L w);
  }

pub both_weaken : BothWeaken
both_weaken = record { plain = weakening plain_follows (λ s h. refl); one_pass = weakening one_pass_follows shared }

pub frame_growth : FrameGrowth
unfolding same_ren id
frame_growth = record {
  plain = growing plain_follows (λ s h. refl);
  one_pass = growing one_pass_follows shared;
  stays_met = λ g s. (same_ren unchanged (grown_ren g) s, refl);
  inserting = λ {n} {c} i. record { renaming = shift n c; grown = grown_insert i; renames = λ t. sym (lift_ren n c t) };
  promoting = λ p. record { renaming = id; grown = grown_promote p; renames = ren_id };
  closed_term = closed_term;
  closed_frame = closed_frame;
  degree_stays = degree_grown;
  degree_in_front = degree_in_front;
  closed_text = closed_text;
  in_order = in_order;
}
