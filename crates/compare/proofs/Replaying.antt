-- A list of steps replayed step by step.
-- Assumes nothing.
use Prim.Native.Nat.{ℕ, suc, ◌+◌, ◌≤◌, ◌<◌}
use mathlib.Core.Path.{◌≡◌, refl, ap, sym, subst, ◌∙◌}
use lib.ListN.{length}
use Rattle.code.specs.Limits.{longest_term}
use mathlib.Core.Bool.{true, false}
use mathlib.Core.List.{List, [], ◌∷◌}
use native.Mathlib.Omega.{arith}
use native.Mathlib.Numerals.{add-one}
use Rattle.std.specs.Prelude.{Ok, Err}
use Rattle.calculus.specs.Terms.{Term}
use Rattle.calculus.specs.Frames.{Frame}
use Rattle.calculus.specs.Steps.{Step, Reason, step, reached, refused}
use Rattle.fields.specs.Fields.{read_step, read_steps, StepRange}
use Rattle.fields.proofs.Groups.{no_step, next_step}
use Rattle.frames.specs.declared.FrameRecord.{FrameRecord}
use Rattle.verdict.specs.Bounds.{body_fits}
use Rattle.verdict.specs.Verdict.{step_refused, step_outgrown, Progress, turned, stopped, side_of, on_step, Configuration, Status, at_turn, done, side_from, to_turn, stepped, turn_by, turn}
use Rattle.bodies.specs.declared.Reason.{Reason as Said}
use Rattle.bodies.specs.declared.StepError.TheVariants.{NotPossible}
use Rattle.bodies.specs.declared.StepError.TheVariants.{Outgrown as bodies_outgrown}
use Rattle.compare.specs.declared.Side.{Side}
use Rattle.compare.specs.declared.Ground.TheVariants.{StepNotPossible, Outgrown}
use Rattle.bodies.specs.Reasons.{said}
use Rattle.bodies.specs.Held.{Held, SomeHeld, Form, SteppedAs, Steps}
use Rattle.bodies.specs.Held as bodies
use Rattle.bodies.proofs.Using.{outgrown_step, held_step}
use Rattle.compare.specs.Replays.{Leads, here, by_turn, Comes, as_form, as_refused, as_outgrown, Replays}
use Rattle.compare.proofs.Leading.{leads_then}

-- ---- Turns counted one by one.
progress_is : {p q : Progress} → p.left ≡ q.left → p.comparisons ≡ q.comparisons → p.turns ≡ q.turns → p ≡ q
progress_is a b c = λ i. record { left = a i; comparisons = b i; turns = c i }

turned_suc : (n : ℕ) (p : Progress) → turned 1 (turned n p) ≡ turned (suc n) p
unfolding turned
turned_suc n p = progress_is refl refl (omega arith)

turned_none : (p : Progress) → turned 0 p ≡ p
unfolding turned
turned_none p = progress_is refl refl (omega arith)

turn_to : (c : Configuration) (p : Progress) {a b : Status} → turn c (turned 1 p) ≡ a → Leads a b → Leads (at_turn c p) b
turn_to c p {b = b} q e = by_turn {c = c} {p = p} {b = b} (rw q e)

-- ---- One step of a replay, by its outcome.
module _ {R : Frame} {ss₀ : List Step} {t₀ : Term} (n : ℕ) (s : Step) (ss : List Step) (t : Term)
    (c : Comes R ss₀ t₀ (λ place o p. side_from place R o n (s ∷ ss) t [] (to_turn []) (turned n p))) where
  step_stops : {why : Reason} → step R s t ≡ refused why → Comes R ss₀ t₀ (λ place o p. done (stopped (step_refused place (side_of o) n why) (turned (suc n) p)))
  unfolding side_from turn_by stepped
  step_stops e = record { leads = λ place o p. leads_then (c.leads place o p) (turn_to (on_step place R o n s ss t []) (turned n p) (rw (e, turned_suc n p)) here) }

  step_outgrows : {u : Term} → step R s t ≡ reached u → body_fits R u ≡ false → Comes R ss₀ t₀ (λ place o p. done (stopped (step_outgrown place (side_of o) n) (turned (suc n) p)))
  unfolding side_from turn_by stepped
  step_outgrows e h = record { leads = λ place o p. leads_then (c.leads place o p) (turn_to (on_step place R o n s ss t []) (turned n p) (rw (e, h, turned_suc n p)) here) }

  step_goes : {u : Term} → step R s t ≡ reached u → body_fits R u ≡ true → Comes R ss₀ t₀ (λ place o p. side_from place R o (suc n) ss u [] (to_turn []) (turned (suc n) p))
  unfolding side_from turn_by stepped
  step_goes e h = record { leads = λ place o p. leads_then (c.leads place o p) (turn_to (on_step place R o n s ss t []) (turned n p) (rw (e, h, turned_suc n p)) here) }

refusal : {w : List ℕ} {f : FrameRecord} {b : List ℕ} {R : Frame} {s : Step} {t : Term} {y : Said} → SteppedAs w f b R s t (Err (NotPossible y)) → step R s t ≡ refused (said y)
refusal (bodies.step_refused e) = e
refusal (bodies.step_reached e x) = elim x [ ]

-- ---- The loop.
-- The steps before `at`, n of them, carry the body t to `term`, which b holds in m letters.
pub record Carried (file : List ℕ) (from to at : ℕ) (w : List ℕ) (f : FrameRecord) (b : List ℕ) (m n : ℕ) (R : Frame) (t : Term) : Type 0 where
  pub term : Term
  pub held : Held w f b m R term
  pub comes : Comes R (read_steps file from to) t (λ place o p. side_from place R o n (read_steps file at to) term [] (to_turn []) (turned n p))

-- So for each body that b₀ held in m₀ letters.
pub record Replaying (file : List ℕ) (from to : ℕ) (w : List ℕ) (f : FrameRecord) (b₀ : List ℕ) (m₀ : ℕ) (b : List ℕ) (at m n : ℕ) : Type 0 where
  pub range : StepRange file at to
  pub few : n ≤ at
  pub some : SomeHeld w f b m
  pub all : (R : Frame) (t : Term) → Held w f b₀ m₀ R t → Carried file from to at w f b m n R t

pub replaying_start : {file : List ℕ} {from to : ℕ} {w : List ℕ} {f : FrameRecord} {b : List ℕ} {m : ℕ} → StepRange file from to → SomeHeld w f b m → Replaying file from to w f b m b from m 0
replaying_start r s = record { range = r; few = omega arith; some = s; all = λ R t h. record { term = t; held = h; comes = record { leads = λ place o p. rw (turned_none p) here } } }

module _ {file : List ℕ} {from to : ℕ} {w : List ℕ} {f : FrameRecord} {b₀ : List ℕ} {m₀ : ℕ} {b : List ℕ} {at m n : ℕ} (v : Replaying file from to w f b₀ m₀ b at m n) where
  pub replaying_end : {side : Side} → to ≤ at → Replays file from to side w f b₀ b m₀ (Ok m)
  replaying_end l = record { array = v.some.held.array; all = λ R t h. let c = v.all R t h in as_form n c.held (rw (ends, no_step file to) at c.comes) }
    where
      ends : at ≡ to
      ends = omega (arith, v.range.ordered)

  module _ {s : Step} {b' : List ℕ} {x : Form} (l : at < to) (q : s ≡ read_step file at) (a : Steps w f b b' m s x) where
    -- The replay from this step on.
    onward : {R : Frame} {t : Term} (c : Carried file from to at w f b m n R t)
        → Comes R (read_steps file from to) t (λ place o p. side_from place R o n (s ∷ read_steps file (at + 3) to) c.term [] (to_turn []) (turned n p))
    onward {R} {t} c = subst (λ ss. Comes R (read_steps file from to) t (λ place o p. side_from place R o n ss c.term [] (to_turn []) (turned n p)))
        ((next_step v.range l).0 ∙ ap (◌∷ read_steps file (at + 3) to) (sym q)) c.comes

    told : {y : Form} → x ≡ y → {R : Frame} {u : Term} → Held w f b m R u → SteppedAs w f b' R s u y
    told e {R} {u} h = subst (SteppedAs w f b' R s u) e (a.all R u h)

    long : length b' ≡ longest_term
    long = a.same_length ∙ v.some.held.array

    pub replaying_refused : {side : Side} {y : Said} → x ≡ Err (NotPossible y) → Replays file from to side w f b₀ b' m₀ (Err (StepNotPossible side n y))
    replaying_refused e = record {
      array = long;
      all = λ R t h. let c = v.all R t h in let o = refusal (told e c.held) in as_refused (step_stops n s (read_steps file (at + 3) to) c.term (onward c) o);
    }

    pub replaying_outgrown : {side : Side} → x ≡ Err bodies_outgrown → Replays file from to side w f b₀ b' m₀ (Err Outgrown)
    replaying_outgrown e = record {
      array = long;
      all = λ R t h. let c = v.all R t h in let o = outgrown_step (told e c.held) in as_outgrown (step_outgrows n s (read_steps file (at + 3) to) c.term (onward c) o.1 o.2);
    }

    pub replaying_next : {k at' : ℕ} → x ≡ Ok k → at' ≡ at + 3 → Replaying file from to w f b₀ m₀ b' at' k (n + 1)
    replaying_next {k} e z = rw z (record {
      range = (next_step v.range l).1;
      few = omega (arith, v.few);
      some = let o = held_step (told e v.some.held) in record { frame = v.some.frame; term = o.0; held = o.2.held };
      all = λ R t h. let c = v.all R t h in let o = held_step (told e c.held) in rw (add-one n)
          (record { term = o.0; held = o.2.held; comes = step_goes n s (read_steps file (at + 3) to) c.term (onward c) o.1 o.2.fits });
    })
