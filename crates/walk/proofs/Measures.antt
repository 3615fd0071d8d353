-- A number, read from the arrays, that falls at every turn: how many states a state leads to.
-- Assumes nothing.
use Prim.Native.Nat.{ℕ, zero, suc, ◌+◌, ◌-◌, ◌≤◌}
use mathlib.Core.Path.{◌≡◌, refl, ap, ap₂, sym, ◌∙◌}
use mathlib.Core.Bool.{Bool, true, false, cond}
use mathlib.Core.Option.{Option, none, some}
use mathlib.Core.List.{List, [], ◌∷◌}
use native.Mathlib.Omega.{arith}
use lib.ListN.{get_or, take, drop}
use Rattle.calculus.specs.Terms.{Term, tau, var, app, abs, lift}
use Rattle.calculus.specs.Frames.{Entry, domain, Frame, ◌▹◌, entry_at}
use Rattle.calculus.specs.Rules.{copied, holds, asks, typed, one_pass_next}
use Rattle.calculus.specs.Walks.{copied_states, own_states, frame_states, states_of}
use Rattle.calculus.proofs.Demand.{counts, fewer}
use Rattle.code.specs.Code.{decode, term_end}
use Rattle.code.specs.Claims.{Stands}
use Rattle.code.proofs.RoundTrip.{decode_encode}
use Rattle.code.proofs.FirstZero.{standing}
use Rattle.code.proofs.Parts.{stands_taken}
use Rattle.frames.specs.declared.FrameRecord.{FrameRecord}
use Rattle.verdict.specs.Verdict.{Progress}
use Rattle.waiting.specs.Waiting.{Waiting, terms_of}
use Rattle.walk.specs.State.{Text, Arrays, Notes, no_notes, one_note, state_of, StateAt}
use Rattle.walk.specs.declared.WalkState.{WalkState}

-- ---- The states, from the bytes.
unfoldable or_tau : Option Term → Term
or_tau none = tau
or_tau (some t) = t

unfoldable or_zero : Option ℕ → ℕ
or_zero none = 0
or_zero (some n) = n

-- the term that stands in s from p, or tau
term_up_to : List ℕ → ℕ → ℕ → Term
term_up_to s p e = or_tau (decode (take (e - p) (drop p s)))

term_at : List ℕ → ℕ → Term
term_at s p = term_up_to s p (or_zero (term_end s p))

term_at_lem : {s : List ℕ} {p e : ℕ} {t : Term} → Stands s p e t → term_at s p ≡ t
unfolding term_at term_up_to or_tau or_zero
term_at_lem {s} {p} {e} {t} h = ap (λ o. term_up_to s p (or_zero o)) (standing h) ∙ ap (λ l. or_tau (decode l)) (stands_taken h) ∙ ap or_tau (decode_encode h.coded)

-- of as many entries of a frame
states_in : List ℕ → List ℕ → ℕ → List ℕ
states_in w d zero = []
states_in w d (suc j) = copied_states (states_in w d j) (term_at w (get_or d j 0)) ∷ states_in w d j

states_in_lem : {t : List ℕ} {m : Arrays} {limit n : ℕ} {R : Frame} → Notes t m limit n R → states_in m.work m.domains n ≡ frame_states R
unfolding states_in frame_states
states_in_lem {m = m} (no_notes q) = rw q
states_in_lem {m = m} (one_note {j = j} {x = x} q d s l o) =
    let i = states_in_lem d in
    let k = term_at_lem s in
    rw (q, i, k)

unfoldable states_by : Bool → List ℕ → Term → ℕ
states_by true D B = own_states D B
states_by false D B = copied_states D B

-- Twice the states, and one more while what stands inside has not been checked.
unfoldable twice : Bool → ℕ → ℕ
twice b n = cond b (n + n) (suc (n + n))

pub falling : Text → Arrays → FrameRecord → WalkState → ℕ
falling x m f s = twice s.checked (states_by s.own (states_in m.work m.domains f.len) (lift s.shift s.cut (term_at (cond s.in_term x.term m.work) s.from)))

by_states : (b : Bool) (R : Frame) (W Q : List Waiting) (B : Term) → states_by b (frame_states R) B ≡ states_of (state_of b R W Q B)
unfolding states_by states_of state_of
by_states true R W Q B = refl
by_states false R W Q B = refl

pub falling_is : {x : Text} {m : Arrays} {f : FrameRecord} {s : WalkState} {R : Frame} {W Q : List Waiting} {B : Term} {p : Progress} → StateAt x m f s R W Q B p
    → falling x m f s ≡ (let n = states_of (state_of s.own R W Q B) in cond s.checked (n + n) (suc (n + n)))
unfolding falling twice
falling_is {s = s} {R = R} {W = W} {Q = Q} {B = B} z =
    ap (twice s.checked) (ap₂ (states_by s.own) (states_in_lem z.held.notes) (ap (lift s.shift s.cut) (term_at_lem z.stands) ∙ sym z.seen) ∙ by_states s.own R W Q B)

-- ---- Each rule leads to fewer.
pub fewer_met : (R : Frame) (W : List Waiting) (k : ℕ) → suc (states_of (state_of false R W [] (var k))) ≤ states_of (state_of true R W [] (var k))
unfolding state_of states_of own_states copied_states
fewer_met R W k = omega arith

pub fewer_typed : (R : Frame) (W Q : List Waiting) (k : ℕ) (e : Entry) → entry_at R k ≡ some e
    → suc (states_of (state_of false R W Q (lift k 0 (domain e)))) ≤ states_of (state_of false R W Q (var k))
unfolding state_of one_pass_next typed counts
fewer_typed R W Q k e h =
    let q : one_pass_next (copied R (terms_of W) (terms_of Q) (var k)) ≡ asks (holds (copied R (terms_of W) (terms_of Q) (lift k 0 (domain e))) ∷ []) = rw h in
    omega (arith, fewer (copied R (terms_of W) (terms_of Q) (var k)) q)

pub fewer_app : (b : Bool) (R : Frame) (W W' Q Q' : List Waiting) (K X : Term) → suc (states_of (state_of b R W' Q' X)) ≤ states_of (state_of b R W Q (app K X))
unfolding state_of states_of own_states copied_states
fewer_app true R W W' Q Q' K X = omega arith
fewer_app false R W W' Q Q' K X = omega arith

pub fewer_abs : (b : Bool) (R : Frame) (W W' Q Q' : List Waiting) (e : Entry) (X : Term) → suc (states_of (state_of b (R ▹ e) W' Q' X)) ≤ states_of (state_of b R W Q (abs (domain e) X))
unfolding state_of states_of own_states copied_states frame_states
fewer_abs true R W W' Q Q' e X = omega arith
fewer_abs false R W W' Q Q' e X = omega arith
