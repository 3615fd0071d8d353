-- What passes holds under the one-pass rules, within the limits; and what holds so passes with its own groups.
-- Assumes nothing.
use Prim.Native.Nat.{ℕ, suc, ◌+◌}
use mathlib.Core.Path.{◌≡◌, refl, ap, sym, ◌∙◌}
use mathlib.Core.List.{List, [], ◌∷◌, ◌++◌, append_assoc}
use native.Mathlib.Omega.{arith}
use lib.ListN.{length, length-append}
use Rattle.calculus.specs.Terms.{Term, size}
use Rattle.calculus.specs.Frames.{Frame}
use Rattle.calculus.specs.Rules.{Group, Same, State, own, copied, compare, Question, holds, same, Next, asks, one_pass_next, Holds, nothing_left, met, by_rule, groups}
use Rattle.verdict.specs.Verdict.{Item, state_at, same_at, placed, Progress, turned, Run, passed}
use Rattle.verdict.specs.Claims.{SameFits, StateFits, AllFit}
use Rattle.verdict.proofs.Runs.{no_pass, pass_inj}
use Rattle.verdict.proofs.Turns.{Meets, compare_complete}
use Rattle.verdict.proofs.BigStep.{BigStep, big_end, big_outgrown, big_wanting, big_asks, big_met, big_refused}

-- items that ask the questions, wherever they stand
pub data Asks : List Question → List Item → Type 0 where
  asks_none : Asks [] []
  asks_state : {i : ℕ} {ws : List ℕ} {s : State} {qs : List Question} {is : List Item} → Asks qs is → Asks (holds s ∷ qs) (state_at i ws s ∷ is)
  asks_same : {i : ℕ} {R : Frame} {K U : Term} {qs : List Question} {is : List Item} → Asks qs is → Asks (same (compare R K U) ∷ qs) (same_at i R K U ∷ is)

asks_placed : (i on : ℕ) (ws : List ℕ) (qs : List Question) → Asks qs (placed i on ws qs)
unfolding placed
asks_placed i on ws [] = asks_none
asks_placed i on ws (holds (own R W B) ∷ qs) = asks_state (asks_placed i (on + size B) ws qs)
asks_placed i on ws (holds (copied R W Y B) ∷ qs) = asks_state (asks_placed i on ws qs)
asks_placed i on ws (same (compare R K U) ∷ qs) = asks_same (asks_placed i on ws qs)

asks_append : {ps qs : List Question} {is js : List Item} → Asks ps is → Asks qs js → Asks (ps ++ qs) (is ++ js)
asks_append asks_none b = b
asks_append (asks_state a) b = asks_state (asks_append a b)
asks_append (asks_same a) b = asks_same (asks_append a b)

pub asks_next : (i : ℕ) (ws : List ℕ) (ps : List Question) {qs : List Question} {is : List Item} → Asks qs is → Asks (ps ++ qs) (placed i (suc i) ws ps ++ is)
asks_next i ws ps a = asks_append (asks_placed i (suc i) ws ps) a

-- SOUND
pub record Checked (qs : List Question) (p q : Progress) : Type 0 where
  pub derivation : Holds one_pass_next (asks qs)
  pub within : AllFit derivation
  pub taken : p.left ≡ groups derivation ++ q.left
  pub counted : q.comparisons ≡ p.comparisons + length (groups derivation)

-- a derivation for questions in two parts is two
record Parts (ps qs : List Question) (gs : List Group) : Type 0 where
  front : Holds one_pass_next (asks ps)
  back : Holds one_pass_next (asks qs)
  front_within : AllFit front
  back_within : AllFit back
  both : gs ≡ groups front ++ groups back

parts : (ps qs : List Question) (d : Holds one_pass_next (asks (ps ++ qs))) → AllFit d → Parts ps qs (groups d)
unfolding groups
parts [] qs d w = record { front = nothing_left; back = d; front_within = tt; back_within = w; both = refl }
parts (holds s ∷ ps) qs (by_rule c d) w =
    let r = parts ps qs d w.2 in
    record {
      front = by_rule c r.front;
      back = r.back;
      front_within = (w.0, w.1, r.front_within);
      back_within = r.back_within;
      both = ap (λ (l : List Group). groups c ++ l) r.both ∙ sym (append_assoc (groups c) (groups r.front) (groups r.back));
    }
parts (same (compare R K U) ∷ ps) qs (met s d) w =
    let r = parts ps qs d w.1 in
    record {
      front = met s r.front;
      back = r.back;
      front_within = (w.0, r.front_within);
      back_within = r.back_within;
      both = ap (λ (l : List Group). s.group ∷ l) r.both;
    }

check_state : {s : State} {qs : List Question} (rest : List Question) {p q : Progress} → StateFits s → one_pass_next s ≡ asks qs → Checked (qs ++ rest) (turned 1 p) q → Checked (holds s ∷ rest) p q
unfolding groups turned
check_state {s} {qs} rest {p} {q} h e c =
    let r = parts qs rest c.derivation c.within in
    let x = ruled h (sym e) r.front r.front_within in
    record {
      derivation = by_rule x.0 r.back;
      within = (h, x.1, r.back_within);
      taken = c.taken ∙ ap (λ (l : List Group). l ++ q.left) (r.both ∙ ap (λ (l : List Group). l ++ groups r.back) (sym x.2));
      counted = c.counted ∙ ap (λ (l : List Group). p.comparisons + length l) (r.both ∙ ap (λ (l : List Group). l ++ groups r.back) (sym x.2));
    }
  where
    ruled : StateFits s → {n : Next} → asks qs ≡ n → (d : Holds one_pass_next (asks qs)) → AllFit d → (c : Holds one_pass_next n) × AllFit c × (groups c ≡ groups d)
    ruled h q d w = rw (← q) (d, w, refl)

pub sound : {k : ℕ} {is : List Item} {p : Progress} {x : Run} {qs : List Question} → BigStep k is p x → Asks qs is → (q : Progress) → x ≡ passed q → Checked qs p q
unfolding groups
sound big_end asks_none q e =
    let f = pass_inj e in record { derivation = nothing_left; within = tt; taken = ap (λ (x : Progress). x.left) f; counted = omega (arith, ap (λ (x : Progress). x.comparisons) f) }
sound (big_asks {i = i} {ws} {qs = ps} h g b) (asks_state {qs = qs} a) q e = check_state qs h g (sound b (asks_next i ws ps a) q e)
sound (big_met m b) (asks_same a) q e =
    let c = sound b a q e in
    record {
      derivation = met m.met c.derivation;
      within = (m.fits, c.within);
      taken = m.taken ∙ ap (λ (l : List Group). m.met.group ∷ l) c.taken;
      counted = omega (arith, c.counted, m.counted);
    }
sound (big_outgrown h) a q e = no_pass e
sound (big_wanting h g) a q e = no_pass e
sound (big_refused r) a q e = no_pass e

-- COMPLETE. From p with the groups of a derivation the items pass, and what is asked after them at-turn on
pub record Goes (is : List Item) (p : Progress) (rest : List Group) (n : ℕ) : Type 0 where
  pub end : Progress
  pub left : end.left ≡ rest
  pub counted : end.comparisons ≡ p.comparisons + n
  pub more : (after : List Item) (k : ℕ) (x : Run) → BigStep k after end x → (j : ℕ) × BigStep j (is ++ after) p x

replaced_by : {next : State → Next} {n : Next} → Holds next n → (qs : List Question) × (n ≡ asks qs)
replaced_by nothing_left = ([], refl)
replaced_by (met {R} {K} {U} {qs} s d) = (same (compare R K U) ∷ qs, refl)
replaced_by (by_rule {s} {qs} c d) = (holds s ∷ qs, refl)

pub data AsksFor : Next → List Item → Type 0 where
  asks_for : {qs : List Question} {is : List Item} → Asks qs is → AsksFor (asks qs) is

asked : {n : Next} {qs : List Question} {is : List Item} → n ≡ asks qs → Asks qs is → AsksFor n is
asked e a = rw e (asks_for a)

goes_state : {i : ℕ} {ws : List ℕ} {s : State} {qs : List Question} {is : List Item} {p : Progress} {gs rest : List Group} {m n : ℕ} → StateFits s → one_pass_next s ≡ asks qs
    → (a : Goes (placed i (suc i) ws qs) (turned 1 p) gs m) → Goes is a.end rest n → Goes (state_at i ws s ∷ is) p rest (m + n)
unfolding turned
goes_state {is = is} h e a b = record {
  end = b.end;
  left = b.left;
  counted = omega (arith, a.counted, b.counted);
  more = λ after k x g. let t = b.more after k x g in let u = a.more (is ++ after) t.0 x t.1 in (suc u.0, big_asks h e u.1);
}

goes_met : {i : ℕ} {R : Frame} {K U : Term} {is : List Item} {p q : Progress} {rest : List Group} {k n : ℕ} → Meets i R K U p q k → Goes is q rest n → Goes (same_at i R K U ∷ is) p rest (suc n)
goes_met {k = k} m b = record {
  end = b.end;
  left = b.left;
  counted = omega (arith, m.counted, b.counted);
  more = λ after j x g. let t = b.more after j x g in (k + t.0, big_met m t.1);
}

complete_met : {i : ℕ} {R : Frame} {K U : Term} (s : Same R K U) → SameFits s → {is : List Item} (n : ℕ) (p : Progress) (gs rest : List Group) → p.left ≡ s.group ∷ gs
    → ((q : Progress) → q.left ≡ gs → Goes is q rest n) → Goes (same_at i R K U ∷ is) p rest (suc n)
complete_met {i} {R} {K} {U} s f n p gs rest l g = let c = compare_complete i R K U s gs p f l in goes_met c.2 (g c.0 c.3)

complete_state : {s : State} (i : ℕ) (ws : List ℕ) {is : List Item} → StateFits s → (gs hs : List Group) (p : Progress) (rest : List Group) → p.left ≡ (gs ++ hs) ++ rest
    → (r : (qs : List Question) × (one_pass_next s ≡ asks qs)) → (Goes (placed i (suc i) ws r.0) (turned 1 p) (hs ++ rest) (length gs)) → ((q : Progress) → q.left ≡ hs ++ rest → Goes is q rest (length hs))
    → Goes (state_at i ws s ∷ is) p rest (length (gs ++ hs))
complete_state i ws h gs hs p rest l r a b = rw (length-append gs hs) (goes_state h r.1 a (b a.end a.left))

pub complete : {n : Next} (d : Holds one_pass_next n) → AllFit d → {is : List Item} → AsksFor n is → (p : Progress) (rest : List Group) → p.left ≡ groups d ++ rest → Goes is p rest (length (groups d))
unfolding groups turned
complete nothing_left w (asks_for asks_none) p rest l = record { end = p; left = l; counted = omega arith; more = λ after k x b. (k, b) }
complete (met s d) w (asks_for (asks_same a)) p rest l = complete_met s w.0 (length (groups d)) p (groups d ++ rest) rest l (λ q h. complete d w.1 (asks_for a) q rest h)
complete (by_rule c d) w (asks_for (asks_state {i = i} {ws = ws} a)) p rest l =
    complete_state i ws w.0 (groups c) (groups d) p rest l (replaced_by c)
    (complete c w.1 (asked (replaced_by c).1 (asks_placed i (suc i) ws (replaced_by c).0)) (turned 1 p) (groups d ++ rest) (l ∙ append_assoc (groups c) (groups d) rest))
    (λ q h. complete d w.2 (asks_for a) q rest h)
