-- A couple of a body, on which kinds 2 and 3 work.
-- Assumes nothing.
use Rattle.std.specs.Prelude.{ℕ, suc, ◌+◌, ◌≤◌, ◌<◌, ◌≡◌, Option, None, Some, List, [], ◌∷◌, ◌++◌, length, Ok, Err, Result}
use Rattle.calculus.specs.Terms.{Term, app, abs, size}
use Rattle.calculus.specs.Frames.{Frame, depth}
use Rattle.calculus.specs.Steps.{no_partner, couples, Outcome, refused, at_partner, step}
use Rattle.code.specs.Limits.{longest_term, most_abstractors}
use Rattle.code.specs.Scope.{scope}
use Rattle.parts.specs.Parts.{part}
use Rattle.frames.specs.declared.FrameRecord.{FrameRecord}
use Rattle.letters.specs.Letters.{letter, letters, applicator, abstractor, Lies}
use Rattle.bodies.specs.Ways.{Way, depth_at, height_at}
use Rattle.bodies.specs.declared.Reason.{Reason}
use Rattle.bodies.specs.Reasons.{said}
use Rattle.bodies.specs.Held.{Held, InBody}
use Rattle.steps.specs.declared.Couple.{Couple}

-- Place p is in a body after some frame; after one of len entries.
pub record InSomeBody (s : List ℕ) (n p : ℕ) : Type 0 where
  pub work : List ℕ
  pub frames : FrameRecord
  pub in_body : InBody work frames s n p

pub record InBodyAfter (len : ℕ) (s : List ℕ) (n p : ℕ) : Type 0 where
  pub some_body : InSomeBody s n p
  pub entries : some_body.frames.len ≡ len

-- ---- A train, and what stands behind some of its wagons.
-- D stands at place q of the train C, behind wagons of which n applicators are not yet matched and j are abstractors.
pub data Tail : Term → (q n j : ℕ) → Term → Type 0 where
  at_start : {C : Term} → Tail C 0 0 0 C
  past_applicator : {C L B : Term} {q n j : ℕ} → Tail C q n j (app L B) → Tail C (q + suc (size L)) (suc n) j B
  past_abstractor : {C U B : Term} {q n j : ℕ} → Tail C q (suc n) j (abs U B) → Tail C (q + suc (size U)) n (suc j) B

-- The train with X in the place of D; the letters of the wagons before D, where the train has depth d and height h.
unfoldable pub instead : {C D : Term} {q n j : ℕ} → Tail C q n j D → Term → Term
instead at_start X = X
instead (past_applicator {L = L} w) X = instead w (app L X)
instead (past_abstractor {U = U} w) X = instead w (abs U X)

unfoldable pub passed : {C D : Term} {q n j : ℕ} → ℕ → ℕ → Tail C q n j D → List ℕ
passed d h at_start = []
passed d h (past_applicator {L = L} {j = j} w) = passed d h w ++ (letter applicator (d + j) h ∷ letters (d + j) (suc h) L)
passed d h (past_abstractor {U = U} {j = j} w) = passed d h w ++ (letter abstractor (d + j) h ∷ letters (d + j) (suc h) U)

-- A train C of height h lies in s from m on.
pub record TailLies (s : List ℕ) (n m h e c : ℕ) (C : Term) : Type 0 where
  pub lies : Lies s m e c h C
  pub few : c + scope C ≤ most_abstractors
  pub inside : e ≤ n

pub record SomeTail (s : List ℕ) (n m h : ℕ) : Type 0 where
  pub array : length s ≡ longest_term
  pub most : n ≤ longest_term
  pub low : h ≤ m
  pub e : ℕ
  pub c : ℕ
  pub C : Term
  pub tail : TailLies s n m h e c C

-- The abstractor that matches an applicator before it, if there is one.
pub data PartnerIs (m : ℕ) (C : Term) : Option ℕ → Type 0 where
  nobody : ((f : Term → Term → Outcome) (K : Term) → at_partner couples f K C 0 ≡ refused no_partner) → PartnerIs m C None
  somebody : {a q j : ℕ} {U B : Term} → a ≡ m + q → Tail C q 0 j (abs U B) → PartnerIs m C (Some a)

pub record Partnered (s : List ℕ) (n m h : ℕ) (r : Option ℕ) : Type 0 where
  pub all : (e c : ℕ) (C : Term) → TailLies s n m h e c C → PartnerIs m C r

-- ---- The couple.
-- ⟨K⟩..[U]B lies from p on where x says, with j abstractors between and d entries of a frame before the body; its first letter has height h.
pub record CoupleLies (s : List ℕ) (p h d : ℕ) (x : Couple) (j : ℕ) (K U B : Term) : Type 0 where
  pub argument : Lies s (p + 1) x.between x.outer (suc h) K
  pub rest : Lies s x.rest x.end (suc x.depth) h B
  pub inner : x.depth ≡ x.outer + j
  pub order : x.between ≤ x.abstractor
  pub place : x.rest ≡ x.abstractor + suc (size U)
  pub low : h ≤ p
  pub argument_few : d + (x.outer + scope K) ≤ most_abstractors
  pub rest_few : d + (suc x.depth + scope B) ≤ most_abstractors

pub record SomeCouple (s : List ℕ) (p : ℕ) (x : Couple) : Type 0 where
  pub array : length s ≡ longest_term
  pub h : ℕ
  pub d : ℕ
  pub j : ℕ
  pub K : Term
  pub U : Term
  pub B : Term
  pub lies : CoupleLies s p h d x j K U B

-- The order of its places, in a body of n letters.
pub record Places (n p : ℕ) (x : Couple) : Type 0 where
  pub argument : p + 2 ≤ x.between
  pub between : x.between ≤ x.abstractor
  pub domain : x.abstractor < x.rest
  pub rest : x.rest < x.end
  pub inside : x.end ≤ n
  pub most : n ≤ longest_term
  pub inner : x.outer ≤ x.depth

-- What stands between.
abbrev pub remaining : List ℕ → Couple → List ℕ
remaining s x = part s x.between x.abstractor

-- It stands at place p of the body t after R.
pub record CoupleAt (s : List ℕ) (n p : ℕ) (R : Frame) (t : Term) (x : Couple) : Type 0 where
  pub K : Term
  pub C : Term
  pub U : Term
  pub B : Term
  pub q : ℕ
  pub j : ℕ
  pub way : Way t p (app K C)
  pub tail : Tail C q 0 j (abs U B)
  pub deep : depth_at 0 way ≡ x.outer
  pub lies : CoupleLies s p (height_at 0 way) (depth R) x j K U B
  pub between : passed x.outer (height_at 0 way) tail ≡ remaining s x
  pub few : depth R + (x.outer + scope C) ≤ most_abstractors
  pub ends : x.end ≡ p + size (app K C)
  pub inside : x.end ≤ n

-- What the search for it says: there is none, so that steps of kinds 2 and 3 are refused alike, or it is there.
pub data Sought (s : List ℕ) (n p : ℕ) (R : Frame) (t : Term) : Result Couple Reason → Type 0 where
  no_couple : {y : Reason} → step R (record { kind = 2; place = p }) t ≡ refused (said y) → step R (record { kind = 3; place = p }) t ≡ refused (said y) → Sought s n p R t (Err y)
  couple_there : {x : Couple} → CoupleAt s n p R t x → Sought s n p R t (Ok x)

pub record Searches (s : List ℕ) (n p : ℕ) (r : Result Couple Reason) : Type 0 where
  pub all : (w : List ℕ) (f : FrameRecord) (R : Frame) (t : Term) → Held w f s n R t → Sought s n p R t r
