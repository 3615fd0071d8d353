-- Demands 1, 2 and 3, of the answer that a list of bytes determines.
-- Assumes nothing.
use Rattle.std.specs.Prelude.{ℕ, ◌+◌, ◌-◌, ◌≤◌, ◌≡◌, ◌⊎◌, List, [], ◌++◌, length}
use Rattle.calculus.specs.Terms.{Term, tau, applicators, size, Closed}
use Rattle.calculus.specs.Frames.{Frame, ε}
use Rattle.calculus.specs.Types.{degree}
use Rattle.calculus.specs.Steps.{Reach, pairs, couples, Reading, base, full}
use Rattle.calculus.specs.Rules.{Group, own, Comparison, plain_next, one_pass_next, PlainBy, Plain, OnePassBy, OnePass, groups, With}
use Rattle.calculus.specs.Whole.{NoWholes, Later}
use Rattle.calculus.specs.Walks.{AllMet, End, WalkFrom}
use Rattle.calculus.specs.Growth.{lines}
use Rattle.code.specs.Limits.{longest_file, longest_term}
use Rattle.code.specs.Refusals.{accepted, cut_short, too_long, too_many_in_scope, no_type, step_not_possible, outgrown, groups_left}
use Rattle.code.specs.Code.{Bytes, encode, Coded}
use Rattle.fields.specs.Fields.{GroupAt, term_bytes}
use Rattle.fields.specs.Files.{write_file}
use Rattle.verdict.specs.Claims.{Within}
use Rattle.files.specs.File.{opened, open_file}
use Rattle.files.specs.Check.{CheckAnswer, groups_of, check_file_by, check_file}

-- What it is for the file s to be accepted with so many comparisons and that degree: it holds a term and groups, and nothing else.
pub record Accepted (s : List ℕ) (comparisons degree_given : ℕ) : Type 0 where
  pub term : Term
  pub steps : List Group
  pub file : s ≡ write_file (encode term) steps
  pub closed : Closed 0 term
  -- the one-pass rules hold with the file's own steps, and so do the plain rules
  pub one_pass : OnePass (own ε [] term)
  pub own_steps : groups one_pass ≡ steps
  pub plain : Plain (own ε [] term)
  -- completed comparisons = applicators of the term at all depths = groups in the file
  pub all_compared : comparisons ≡ applicators term
  pub group_each : length steps ≡ applicators term
  -- every comparison that the plain rules demand is met, repeats included
  pub plain_met : {cs : List Comparison} {e : End} → WalkFrom plain_next (own ε [] term) cs e → AllMet cs
  pub degree_is : degree_given ≡ degree ε term

-- What it is for it to be refused with that number: 1 to 6 before the walk, with nothing compared; 7 to 13 later, where it holds a term
-- and groups.
pub data Refused (s : List ℕ) (number comparisons degree_given : ℕ) : Type 0 where
  before_the_walk : cut_short ≤ number → number ≤ too_many_in_scope → comparisons ≡ 0 → degree_given ≡ 0 → Refused s number comparisons degree_given
  later : (term : Term) (steps : List Group) → s ≡ write_file (encode term) steps → Closed 0 term → no_type ≤ number → number ≤ groups_left
      → comparisons ≤ applicators term → comparisons ≤ length steps → degree_given ≡ degree ε term → Refused s number comparisons degree_given

-- 'if some choice of steps keeps term, file, states and compared forms within the limits': the steps of d do.
pub record WithinLimits (t : Term) (d : OnePass (own ε [] t)) : Type 0 where
  pub term : size t ≤ longest_term
  pub file : length (write_file (encode t) (groups d)) ≤ longest_file
  pub states_and_forms : Within (own ε [] t) d

-- Demand 2: acceptance only for a correct term; and every correct term has an accepted file, within the limits: that of its steps,
-- which is a string of bytes. With demand 3's count, of every accepted file.
pub record Accepting : Type 0 where
  pub only : (s : List ℕ) → Bytes s → (check_file s).number ≡ accepted → Accepted s (check_file s).comparisons (check_file s).degree
  pub all : (t : Term) (d : OnePass (own ε [] t)) → WithinLimits t d
      → Bytes (write_file (encode t) (groups d))
      × (check_file (write_file (encode t) (groups d)) ≡ record { number = accepted; place = 0; comparisons = applicators t; degree = degree ε t })

-- Demands 1 and 3 for refusals: before the walk the number is one of 1 to 6 and nothing was compared; later it is one of 7 to 13, and
-- the comparisons are at most the applicators and at most the groups.
pub record Refusing : Type 0 where
  pub otherwise : (s : List ℕ) → Bytes s → ((check_file s).number ≡ accepted → ⊥) → Refused s (check_file s).number (check_file s).comparisons (check_file s).degree

-- Request (a). No group of the file has a step of kind 3.
pub record WithoutWhole (s : List ℕ) : Type 0 where
  pub groups : (t : Term) (e : ℕ) (gs : List GroupAt) → open_file s ≡ opened t e gs → NoWholes (groups_of gs)

-- Then its answer is that of the check with kinds 1 and 2, over either reach. And whatever the file, the term of an accepted one is correct
-- by kinds 1 and 2.
pub record FormerFiles : Type 0 where
  pub as_before : (x : Reach) (s : List ℕ) → WithoutWhole s → check_file_by (base x) s ≡ check_file_by (full x) s
  pub correct_before : (s : List ℕ) (c d : ℕ) (a : Accepted s c d)
      → OnePassBy (base couples) (own ε [] a.term) × PlainBy (base couples) (own ε [] a.term)

-- Requests (a) and (d). Of any file, an answer whose number is not 10 is its answer, all four numbers, under every later reading. So what
-- is accepted over pairs is accepted over couples.
pub record LaterFiles : Type 0 where
  pub other_answers : {y z : Reading} → Later y z → (s : List ℕ) → ((check_file_by y s).number ≡ step_not_possible → ⊥) → check_file_by z s ≡ check_file_by y s
  pub accepted_before : (s : List ℕ) → (check_file_by (full pairs) s).number ≡ accepted → check_file s ≡ check_file_by (full pairs) s

-- Request (h). The numbers of the limits.
pub data Limit : ℕ → Type 0 where
  over_long : Limit too_long
  too_deep : Limit too_many_in_scope
  too_large : Limit outgrown

-- Accepted with so many comparisons and that degree, or refused by a limit.
abbrev pub AcceptedOrLimit : CheckAnswer → ℕ → ℕ → Type 0
AcceptedOrLimit a comparisons degree_given = (a ≡ record { number = accepted; place = 0; comparisons = comparisons; degree = degree_given }) ⊎ Limit a.number

-- s is an accepted file of the term t, whose bytes end at e, and of the groups gs.
pub record AcceptedAs (s : List ℕ) (t : Term) (e : ℕ) (gs : List GroupAt) : Type 0 where
  pub small : Bytes s
  pub opens : open_file s ≡ opened t e gs
  pub number : (check_file s).number ≡ accepted

pub record LinesInFront : Type 0 where
  -- a term, each of whose indices has a byte, and any groups by which the one-pass rules hold of it
  pub own_groups : (t : Term) (gs : List Group) → Coded t → With one_pass_next (own ε [] t) gs → AcceptedOrLimit (check_file (write_file (encode t) gs)) (applicators t) (degree ε t)
  -- An accepted file of lines, [U] or ⟨K⟩[U] each, and any other accepted file. The one put in front of the other has the bytes of the lines and then those
  -- of the text, and the groups of the lines and then those of the text, not one altered; its comparisons are those of both.
  pub two_files : {s s' : List ℕ} {t : Term} {e e' : ℕ} {gs hs : List GroupAt} (L : Frame) → AcceptedAs s (lines L tau) e gs → AcceptedAs s' t e' hs
      → AcceptedOrLimit (check_file (write_file (term_bytes s (e - 1) ++ term_bytes s' e') (groups_of gs ++ groups_of hs))) ((check_file s).comparisons + (check_file s').comparisons) (check_file s').degree
