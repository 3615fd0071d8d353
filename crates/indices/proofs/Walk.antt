-- A pass over a term: at place i the parts of W are still to be read; d is the scope of the first, and the stack holds those of the others.
-- Assumes nothing.
use Prim.Native.Nat.{ℕ, ◌+◌, ◌≤◌, ◌<◌}
use mathlib.Core.Path.{◌≡◌, refl, ap, sym, ◌∙◌}
use mathlib.Core.List.{List, [], ◌∷◌, ◌++◌, append-nil}
use native.Mathlib.Omega.{arith}
use lib.ListN.{length, get_or, drop, length-append}
use Rattle.calculus.specs.Terms.{Term, tau, var, app, abs, size}
use Rattle.code.specs.Limits.{longest_term}
use Rattle.code.specs.Code.{encode, Coded}
use Rattle.code.specs.Claims.{Stands}
use Rattle.code.specs.Scope.{scope}
use Rattle.code.proofs.RoundTrip.{length_encode}
use Rattle.code.proofs.Parts.{first_byte, drop_more, stands_rest}
use Rattle.indices.specs.Stack.{pending, Roomy, StackReady, Advanced}
use Rattle.indices.proofs.Stacked.{length_pending, top}
use Rattle.indices.proofs.Pending.{Item, item, next, byte, text, scopes, deepest, text_next, scopes_next, deepest_next, count_text, length_scopes}

pub record Walk (s : List ℕ) (from e : ℕ) (stack : List ℕ) (d n i : ℕ) (W : List Item) : Type 0 where
  pub bytes : drop i s ≡ text W ++ drop e s
  pub place : e ≡ i + length (text W)
  pub stacked : pending stack d n ≡ scopes W
  pub room : Roomy stack from e
  pub small : n + from ≤ i + 1
  pub deep : deepest W < longest_term

pub scope_size : (t : Term) → scope t < size t
unfolding scope size
scope_size tau = omega arith
scope_size (var k) = omega arith
scope_size (app K B) = omega (arith, scope_size K, scope_size B)
scope_size (abs U B) = omega (arith, scope_size U, scope_size B)

-- At first the whole term is to be read.
pub walk_start : {s : List ℕ} {from e : ℕ} {t : Term} (stack : List ℕ) (h : Stands s from e t) → scope t < longest_term → Roomy stack from e
    → Walk s from e stack 0 1 from (item 0 h.coded ∷ [])
unfolding text scopes deepest pending
walk_start {s} {from} {e} {t} stack h l r =
    record {
      bytes = rw (stands_rest h, append-nil (encode t)) h.bytes;
      place = h.place ∙ simp (length-append, length_encode) (omega arith);
      stacked = refl;
      room = r;
      small = omega arith;
      deep = omega arith;
    }

module _ {s : List ℕ} {from e : ℕ} {stack : List ℕ} {d n i : ℕ} where
  -- At the end nothing is.
  pub walk_end : (W : List Item) → Walk s from e stack d n i W → e ≤ i → W ≡ []
  walk_end [] w h = refl
  walk_end (item c f ∷ W) w h = absurd (omega (arith, w.place, ap length (text_next c f W)))

  pub unfinished : Walk s from e stack d n i [] → i < e → ⊥
  unfolding text
  unfinished w h = omega (arith, w.place)

  -- The parts' number is kept.
  pub counted : (W : List Item) → Walk s from e stack d n i W → n ≡ length W
  counted W w = sym (length_pending stack d n) ∙ ap length w.stacked ∙ length_scopes W

  pub ready : (W : List Item) → Walk s from e stack d n i W → i < e → StackReady stack d n
  unfolding text scopes
  ready [] w h = absurd (unfinished w h)
  ready (item c f ∷ W) w h =
      let k = counted (item c f ∷ W) w in
      record {
        positive = omega arith;
        fits = omega (arith, count_text (item c f ∷ W), w.place, w.small, w.room);
        shallow = omega (arith, top stack d n w.stacked, w.deep, deepest_next c f W);
      }

  module _ {t : Term} (c : ℕ) (f : Coded t) (W : List Item) (w : Walk s from e stack d n i (item c f ∷ W)) where
    first : drop i s ≡ byte t ∷ (text (next c f W) ++ drop e s)
    first = w.bytes ∙ rw (text_next c f W)

    pub here_byte : get_or s i 0 ≡ byte t
    here_byte = first_byte s i first

    pub here_scope : d ≡ c
    unfolding scopes
    here_scope = top stack d n w.stacked

    -- Reading a byte.
    pub walk_next : {stack' : List ℕ} {d' n' : ℕ} → Advanced stack stack' d n d' n' (get_or s i 0) → Walk s from e stack' d' n' (i + 1) (next c f W)
    unfolding scopes
    walk_next a =
        record {
          bytes = drop_more s i 1 (byte t ∷ []) (text (next c f W) ++ drop e s) first refl;
          place = omega (arith, w.place, ap length (text_next c f W));
          stacked = a.scopes ∙ rw (here_byte, w.stacked) (sym (scopes_next c f W));
          room = rw a.same_length w.room;
          small = omega (arith, w.small, a.small);
          deep = omega (arith, w.deep, deepest_next c f W);
        }
