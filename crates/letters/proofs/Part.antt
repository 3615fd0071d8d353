-- Reading a part of a string: what stands there is all that the part holds.
-- Assumes nothing.
use Prim.Native.Nat.{ℕ, ◌-◌}
use mathlib.Core.Path.{◌≡◌}
use mathlib.Core.Bool.{Bool}
use mathlib.Core.List.{List}
use native.Mathlib.Omega.{arith}
use lib.ListN.{length}
use Rattle.calculus.specs.Terms.{Term}
use Rattle.code.specs.Claims.{Stands}
use Rattle.code.proofs.Parts.{stands_start, stands_end, stands_taken, stands_self}
use Rattle.code.proofs.RoundTrip.{length_encode}
use Rattle.parts.specs.Parts.{part}
use Rattle.parts.proofs.Cut.{length_part}
use Rattle.letters.specs.Clauses.{Readable, Reads}

stands_part : {s : List ℕ} {from e : ℕ} {t : Term} → Stands s from e t → Stands (part s from e) 0 (length (part s from e)) t
stands_part {t = t} a = rw (stands_taken a, length_encode t) (stands_self a.coded)

module _ {s : List ℕ} {from e k d h room : ℕ} {out : List ℕ} {at : ℕ} where
  pub readable_part : Readable s from e k d h room out at → Readable (part s from e) 0 (length (part s from e)) k d h room out at
  readable_part r =
      let n : length (part s from e) ≡ e - from = length_part s from e (stands_end r.standing.stands) in
      let o = stands_start r.standing.stands in
      record {
        standing = record { term = r.standing.term; stands = stands_part r.standing.stands; short = omega (arith, r.standing.short) };
        index = r.index;
        deep = r.deep;
        high = omega (arith, r.high);
        fits = omega (arith, r.fits);
      }

  pub reads_part : {out' : List ℕ} {answer : Bool} → Reads (part s from e) 0 (length (part s from e)) k d h room out out' at answer → Reads s from e k d h room out out' at answer
  reads_part r = record { all = λ t a. r.all t (stands_part a); same_length = r.same_length }
