-- Lines put in front of a file.
-- Assumes nothing.
use Prim.Native.Nat.{ℕ, ◌+◌, ◌-◌}
use mathlib.Core.Path.{◌≡◌, refl, ap, ap₂, sym, ◌∙◌}
use mathlib.Core.Logic.{inl, inr}
use mathlib.Core.List.{List, [], ◌∷◌, ◌++◌, append_assoc, append-nil}
use native.Mathlib.Nat.{zero-add}
use native.Mathlib.Omega.{arith}
use lib.ListN.{length, take, drop, take-append-drop, length-append, length-map}
use lib.Seq.{take-append_seam}
use Rattle.calculus.specs.Terms.{Term, tau, app, abs, applicators, Closed}
use Rattle.calculus.specs.Frames.{Entry, single, pair, Frame, ε, ◌▹◌, depth}
use Rattle.calculus.specs.Types.{degree}
use Rattle.calculus.specs.Steps.{latest}
use Rattle.calculus.specs.Rules.{Group, own, one_pass_next, With}
use Rattle.calculus.specs.Growth.{line, lines}
use Rattle.calculus.proofs.Lift.{lo, hi, cmp}
use Rattle.calculus.proofs.Agree.{length_groups}
use Rattle.calculus.proofs.Closed.{one_pass_closed}
use Rattle.calculus.proofs.Fronting.{frame_growth}
use Rattle.code.specs.Limits.{longest_file, longest_term}
use Rattle.code.specs.Code.{encode, Coded, coded_app, coded_abs}
use Rattle.code.proofs.FirstZero.{no_length, whole}
use Rattle.code.proofs.RoundTrip.{decode_encode, encode_decode, encode_bytes}
use Rattle.fields.specs.Fields.{GroupAt, term_bytes}
use Rattle.fields.specs.Files.{write_file, groups_placed}
use Rattle.fields.proofs.Laws.{over_long as file_too_long}
use Rattle.fields.proofs.Groups.{term_length, accepted_only}
use Rattle.fields.proofs.Written.{read_back, same_term, same_groups}
use Rattle.examine.specs.Inspect.{Fault, no_fault, beyond, deep, inspect, judged, examined}
use Rattle.examine.specs.Claims.{WellFormed}
use Rattle.examine.proofs.Laws.{DeepAtMost, closed_deep, examined_long, examined_whole, examining_holds}
use Rattle.verdict.specs.Verdict.{Run, passed, stopped, Progress, check_term}
use Rattle.verdict.proofs.Promises.{stopping}
use Rattle.verdict.proofs.Limits.{only_limits}
use Rattle.files.specs.File.{open_term, open_fields, open_file}
use Rattle.files.specs.Check.{CheckAnswer, groups_of, left_over, check_answer_of, check_opened_by, check_file_by, check_file}
use Rattle.files.specs.Claims.{over_long, too_deep, too_large, AcceptedOrLimit, AcceptedAs, LinesInFront}
use Rattle.files.proofs.Answers.{Opens, opens, term_bytes_lem, took_all, all_answer}

-- A TERM WITH GROUPS by which the rules hold
module _ (t : Term) (gs : List Group) (k : Coded t) (w : With one_pass_next (own ε [] t) gs) where
  abbrev s : List ℕ
  s = write_file (encode t) gs

  abbrev e : ℕ
  e = 3 + length (encode t)

  count : length gs ≡ applicators t
  count = ap length (sym w.same_groups) ∙ length_groups ε [] t w.derivation ∙ zero-add (applicators t)

  of_run : (x : Run) → check_term t gs ≡ x → AcceptedOrLimit (check_answer_of (degree ε t) (groups_placed e gs) x) (applicators t) (degree ε t)
  unfolding check_answer_of
  of_run (passed q) h =
      let all = (only_limits.passed_all t gs q w h).1 in
      let many = length-map (groups_placed e gs) (λ (g : GroupAt). g.group) in
      inl (all_answer q.comparisons (applicators t) (degree ε t) (groups_placed e gs) (omega (arith, all, many, ap length (same_groups e gs))) (all ∙ count))
  of_run (stopped g q) h = inr (rw (only_limits.stopped_by_one t gs g q w h) too_large)

  of_fault : (f : Fault) → DeepAtMost f → AcceptedOrLimit (check_opened_by latest (open_term e (groups_placed e gs) (judged f t))) (applicators t) (degree ε t)
  unfolding judged open_term check_opened_by
  of_fault no_fault d = rw (same_groups e gs) (of_run (check_term t gs) refl)
  of_fault (beyond p) d = elim d [ ]
  of_fault (deep p) d = inr too_deep

  closed_start : Closed 0 t
  unfolding depth
  closed_start = one_pass_closed ε [] t w.derivation

  of_term : AcceptedOrLimit (check_opened_by latest (open_term e (groups_placed e gs) (examined (encode t)))) (applicators t) (degree ε t)
  unfolding open_term check_opened_by
  of_term = elim (cmp (length (encode t)) longest_term) [
    | lo h ↦ rw (examined_whole (encode t) h ((whole (encode t) (encode_bytes k)).1 (t, decode_encode k)) (decode_encode k)) (of_fault (inspect 0 0 t) (closed_deep 0 closed_start))
    | hi h ↦ rw (examined_long (encode t) h) (inr over_long)
  ]

  own_groups : AcceptedOrLimit (check_file s) (applicators t) (degree ε t)
  unfolding check_file_by check_opened_by open_file open_fields
  own_groups = elim (cmp (length s) longest_file) [
    | lo h ↦ rw (read_back (encode t) gs h, same_term (encode t) gs) of_term
    | hi h ↦ rw (file_too_long s h) (inr over_long)
  ]

-- A FILE THAT IS ACCEPTED
module _ {s : List ℕ} {t : Term} {e : ℕ} {gs : List GroupAt} (a : AcceptedAs s t e gs) where
  fields_of : Opens s t e gs
  fields_of = opens s t e gs a.opens

  well_formed : WellFormed (term_bytes s e) t
  well_formed = (examining_holds.accepts (term_bytes s e) t (term_bytes_lem s e a.small)).0 fields_of.term_is

  coded : Coded t
  coded = examining_holds.coded (term_bytes s e) t (term_bytes_lem s e a.small) fields_of.term_is

  own_bytes : term_bytes s e ≡ encode t
  own_bytes = sym (encode_decode (term_bytes s e) t (term_bytes_lem s e a.small) well_formed.decodes).bytes

  ends : 3 + length (term_bytes s e) ≡ e
  ends = term_length (accepted_only s fields_of.fields_are)

  abbrev Held : CheckAnswer → Type 0
  Held x = With one_pass_next (own ε [] t) (groups_of gs) × (x.comparisons ≡ length (groups_of gs)) × (x.degree ≡ degree ε t)

  held : Held (check_file s)
  unfolding check_file_by check_opened_by check_answer_of left_over
  held = rw a.opens (go (check_term t (groups_of gs)) refl (rw a.opens at a.number))
    where
      left : (q : Progress) → check_term t (groups_of gs) ≡ passed q → (hs : List GroupAt) → drop q.comparisons gs ≡ hs → (left_over q.comparisons (degree ε t) hs).number ≡ 0
          → Held (left_over q.comparisons (degree ε t) hs)
      left q h [] d n = let w = took_all t gs q h d in (w, (only_limits.passed_all t (groups_of gs) q w h).1, refl)
      left q h (g ∷ hs) d n = let z : ⊥ = omega arith in absurd z

      go : (x : Run) → check_term t (groups_of gs) ≡ x → (check_answer_of (degree ε t) gs x).number ≡ 0 → Held (check_answer_of (degree ε t) gs x)
      go (passed q) h n = left q h (drop q.comparisons gs) refl n
      go (stopped g q) h n = let z : ⊥ = omega (arith, stopping.numbers t (groups_of gs) g q well_formed.closed h) in absurd z

-- THE BYTES OF LINES
lines_bytes : (L : Frame) → (b : List ℕ) × ((t : Term) → encode (lines L t) ≡ b ++ encode t)
unfolding lines line encode
lines_bytes ε = ([], λ t. refl)
lines_bytes (L ▹ single U) = let p = lines_bytes L in (p.0 ++ (0xff ∷ encode U), λ t. p.1 (abs U t) ∙ sym (append_assoc p.0 (0xff ∷ encode U) (encode t)))
lines_bytes (L ▹ pair K U) =
    let p = lines_bytes L in
    let b : List ℕ = 0xfe ∷ (encode K ++ (0xff ∷ encode U)) in
    (p.0 ++ b, λ t. p.1 (app K (abs U t)) ∙ ap (λ (l : List ℕ). p.0 ++ (0xfe ∷ l)) (sym (append_assoc (encode K) (0xff ∷ encode U) (encode t))) ∙ sym (append_assoc p.0 b (encode t)))

line_coded : {t : Term} (l : Entry) → Coded (line l t) → Coded t
unfolding line
line_coded (single U) (coded_abs u b) = b
line_coded (pair K U) (coded_app k (coded_abs u b)) = b

line_again : {r : Term} (t : Term) (l : Entry) → Coded (line l t) → Coded r → Coded (line l r)
unfolding line
line_again t (single U) (coded_abs u b) c = coded_abs u c
line_again t (pair K U) (coded_app k (coded_abs u b)) c = coded_app k (coded_abs u c)

lines_coded : {t : Term} (L : Frame) → Coded (lines L t) → Coded t
unfolding lines
lines_coded ε c = c
lines_coded {t = t} (L ▹ l) c = line_coded l (lines_coded {t = line l t} L c)

lines_again : {r : Term} (t : Term) (L : Frame) → Coded (lines L t) → Coded r → Coded (lines L r)
unfolding lines
lines_again t ε c d = d
lines_again {r = r} t (L ▹ l) c d = lines_again {r = line l r} (line l t) L c (line_again t l (lines_coded L c) d)

-- all but the last byte of a file's term
but_last : (n : ℕ) (x b c : List ℕ) → take n x ≡ b ++ c → take (length b) x ≡ b
but_last n x b c h = ap (take (length b)) (sym (take-append-drop n x) ∙ ap (λ (l : List ℕ). l ++ drop n x) h ∙ append_assoc b c (drop n x)) ∙ take-append_seam b (c ++ drop n x)

-- TWO FILES
module _ {s s' : List ℕ} {t : Term} {e e' : ℕ} {gs hs : List GroupAt} (L : Frame) (a : AcceptedAs s (lines L tau) e gs) (b : AcceptedAs s' t e' hs) where
  stays_in_front : With one_pass_next (own ε [] (lines L t)) (groups_of gs ++ groups_of hs)
  unfolding applicators
  stays_in_front =
      let p = frame_growth.one_pass.in_parts L (held a).0 in
      let none_of_tau : length p.of_rest ≡ 0 = ap length (sym p.rest.same_groups) ∙ length_groups L [] tau p.rest.derivation in
      let all : groups_of gs ≡ p.of_lines = p.all ∙ ap (λ (l : List Group). p.of_lines ++ l) (no_length p.of_rest none_of_tau) ∙ append-nil p.of_lines in
      rw all (frame_growth.one_pass.lines_in_front p.each (held b).0)

  own_lines : term_bytes s (e - 1) ≡ (lines_bytes L).0
  unfolding encode
  own_lines =
      let l = lines_bytes L in
      let h : term_bytes s e ≡ l.0 ++ (0x00 ∷ []) = own_bytes a ∙ l.1 tau in
      let n : e - 1 - 3 ≡ length l.0 = omega (arith, ends a, ap length h, length-append l.0 (0x00 ∷ [])) in
      ap (λ (m : ℕ). take m (drop 3 s)) n ∙ but_last (e - 3) (drop 3 s) l.0 (0x00 ∷ []) h

  both_bytes : encode (lines L t) ≡ term_bytes s (e - 1) ++ term_bytes s' e'
  both_bytes = (lines_bytes L).1 t ∙ ap₂ ◌++◌ (sym own_lines) (sym (own_bytes b))

  counted : applicators (lines L t) ≡ (check_file s).comparisons + (check_file s').comparisons
  counted =
      let c = count (lines L t) (groups_of gs ++ groups_of hs) (lines_again tau L (coded a) (coded b)) stays_in_front in
      sym c ∙ length-append (groups_of gs) (groups_of hs) ∙ ap₂ ◌+◌ (sym (held a).1) (sym (held b).1)

  same_degree : degree ε (lines L t) ≡ (check_file s').degree
  same_degree = frame_growth.degree_in_front L (well_formed b).closed ∙ sym (held b).2

  two_files : AcceptedOrLimit (check_file (write_file (term_bytes s (e - 1) ++ term_bytes s' e') (groups_of gs ++ groups_of hs))) ((check_file s).comparisons + (check_file s').comparisons) (check_file s').degree
  two_files = rw (both_bytes, counted, same_degree) at (own_groups (lines L t) (groups_of gs ++ groups_of hs) (lines_again tau L (coded a) (coded b)) stays_in_front)

pub lines_in_front : LinesInFront
lines_in_front = record { own_groups = own_groups; two_files = two_files }
