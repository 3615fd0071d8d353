-- A term whose bytes are stored in a string stands there.
-- Assumes nothing.
use Prim.Native.Nat.{ℕ, ◌+◌, ◌≤◌}
use mathlib.Core.Path.{refl}
use mathlib.Core.List.{List}
use lib.ListN.{length, drop}
use lib.Seq.{sets}
use Rattle.calculus.specs.Terms.{Term, size}
use Rattle.code.specs.Code.{encode, Coded}
use Rattle.code.specs.Claims.{Stands}
use Rattle.code.proofs.RoundTrip.{length_encode}
use Rattle.parts.proofs.Stores.{drop_sets_start}

pub stands_written : {t : Term} → Coded t → (s : List ℕ) (at : ℕ) → at + size t ≤ length s → Stands (sets s at (encode t)) at (at + size t) t
stands_written {t} f s at l =
    record { rest = drop (at + length (encode t)) s; bytes = drop_sets_start (encode t) s at (rw (length_encode t) l); coded = f; place = refl }
