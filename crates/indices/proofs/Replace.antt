-- What stands in the string after a term is lifted in place.
-- Assumes nothing.
use Prim.Native.Nat.{ℕ, ◌+◌, ◌≤◌}
use mathlib.Core.Path.{◌≡◌, refl, sym, ◌∙◌}
use mathlib.Core.List.{List, append_assoc}
use native.Mathlib.Omega.{arith}
use lib.ListN.{length, take, drop, take-append-drop}
use lib.Seq.{sets, sets-eq}
use Rattle.calculus.specs.Terms.{Term, size, lift}
use Rattle.calculus.proofs.Lift.{lift_zero, size_lift}
use Rattle.code.specs.Code.{encode, Coded}
use Rattle.code.specs.Claims.{Stands}
use Rattle.code.proofs.RoundTrip.{length_encode}
use Rattle.code.proofs.Parts.{stands_end, stands_rest}
use Rattle.parts.proofs.Stores.{take_sets}
use Rattle.parts.proofs.Standing.{stands_written}
use Rattle.indices.specs.Passes.{Replaced}

-- Storing a term's own bytes over it changes nothing.
sets_own : {s : List ℕ} {from e : ℕ} {t : Term} → Stands s from e t → sets s from (encode t) ≡ s
sets_own {s} {from} {e} {t} h = sets-eq (encode t) s from (omega (arith, length_encode t, h.place, stands_end h)) ∙ rw (after, append_assoc (take from s) (encode t) h.rest, ← h.bytes) (take-append-drop from s)
  where
    after : drop (from + length (encode t)) s ≡ h.rest
    after = rw (length_encode t, ← h.place) (stands_rest h)

pub lifted_zero : {s : List ℕ} {from e : ℕ} (n c : ℕ) → n ≡ 0 → Replaced (lift n c) s s from e
lifted_zero n c z = record { bytes = λ t h. rw (z, lift_zero c t) (sym (sets_own h)); same_length = refl }

module _ {f : Term → Term} {s s' : List ℕ} {from e : ℕ} {t : Term} (r : Replaced f s s' from e) (h : Stands s from e t) where
  replaced_stands : Coded (f t) → size (f t) ≡ size t → Stands s' from e (f t)
  replaced_stands g l = rw (r.bytes t h, place) (stands_written g s from (omega (arith, place, stands_end h)))
    where
      place : e ≡ from + size (f t)
      place = omega (arith, h.place)

  pub before_same : (n : ℕ) → n ≤ from → take n s' ≡ take n s
  before_same n o = rw (r.bytes t h) (take_sets (encode (f t)) s from n o)

pub lifted_stands : {s s' : List ℕ} {from e : ℕ} (n c : ℕ) {t : Term} → Replaced (lift n c) s s' from e → Stands s from e t → Coded (lift n c t) → Stands s' from e (lift n c t)
lifted_stands n c {t} r h f = replaced_stands r h f (size_lift n c t)
