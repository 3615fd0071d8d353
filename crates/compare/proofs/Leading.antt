-- Turn after turn to the end of a comparison.
-- Assumes nothing.
use Prim.Native.Nat.{ℕ, suc, ◌+◌}
use mathlib.Core.Path.{◌≡◌, refl, sym, subst, ◌∙◌}
use mathlib.Core.List.{List}
use native.Mathlib.Omega.{arith}
use Rattle.verdict.specs.Verdict.{Item, Ground, place_of, Progress, turned, Run, stopped, Status, done, to_turn, finish}
use Rattle.verdict.proofs.Turns.{run_leads}
use Rattle.verdict.proofs.Turns as turns
use Rattle.verdict.proofs.BigStep.{big_leads, finish_big}
use Rattle.compare.specs.Answers.{Compared}
use Rattle.compare.specs.Replays.{Leads, here, by_turn}
use Rattle.compare.specs.Compares.{GroundIs, CompareSays, compare_passed, compare_stopped, Ends}

pub leads_then : {a b c : Status} → Leads a b → Leads b c → Leads a c
leads_then here e = e
leads_then (by_turn d) e = by_turn (leads_then d e)

counted : {a : Status} {x : Run} → Leads a (done x) → (k : ℕ) × turns.Leads k a (done x)
counted here = (0, turns.here)
counted (by_turn d) = let e = counted d in (suc e.0, turns.by_turn e.1)

finish_leads : (is : List Item) (p : Progress) {x : Run} → Leads (to_turn is p) (done x) → finish is p ≡ x
finish_leads is p d = let f = finish_big is p in let e = counted d in sym (run_leads (f.0 + e.0) (big_leads f.1) (omega arith)) ∙ run_leads (f.0 + e.0) e.1 (omega arith)

module _ {file : List ℕ} {at : ℕ} {r : Compared} {a b : List ℕ} {place : ℕ} {p : Progress} where
  pub finished : (is : List Item) → Ends file at r a b place p (to_turn is p) → CompareSays file at r a b place p (finish is p)
  finished is e = subst (CompareSays file at r a b place p) (sym (finish_leads is p e.leads)) e.says

  pub ends_at : {s u : Status} → s ≡ u → Ends file at r a b place p u → Ends file at r a b place p s
  ends_at q e = subst (Ends file at r a b place p) (sym q) e

  pub stops_at : {s : Status} {g : Ground} → s ≡ done (stopped g p) → GroundIs r a b g → place_of g ≡ place → Ends file at r a b place p s
  stops_at {g = g} q x y = ends_at q (record { run = stopped g p; leads = here; says = compare_stopped x y refl })

  -- Turns change no comparison.
  said : (n : ℕ) {x : Run} → CompareSays file at r a b place (turned n p) x → CompareSays file at r a b place p x
  unfolding turned
  said n (compare_passed gs h l s q c) = compare_passed gs h l s q c
  said n (compare_stopped x y c) = compare_stopped x y c

  pub ends_after : (n : ℕ) {s u : Status} → Leads s u → Ends file at r a b place (turned n p) u → Ends file at r a b place p s
  ends_after n l e = record { run = e.run; leads = leads_then l e.leads; says = said n e.says }
