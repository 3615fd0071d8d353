-- Writing letters as bytes: what is stored, with what is still to be written, is the whole.
-- Assumes nothing.
use Prim.Native.Nat.{ℕ, ◌+◌, ◌≤◌, ◌<◌}
use mathlib.Core.Path.{◌≡◌, ap, ◌∙◌}
use mathlib.Core.List.{List, map}
use native.Mathlib.Numerals.{add-one}
use lib.ListN.{length, get_or, set, length-set}
use lib.Seq.{sets}
use Rattle.parts.specs.Parts.{part}
use Rattle.parts.proofs.Cut.{part_empty, part_first}
use Rattle.letters.specs.Clauses.{Writes}
use Rattle.letters.proofs.Letters.{byte_of, lies_bytes}

pub record Writing (s out₀ out : List ℕ) (n i : ℕ) : Type 0 where
  pub same_length : length out ≡ length out₀
  pub result : sets out i (map byte_of (part s i n)) ≡ sets out₀ 0 (map byte_of (part s 0 n))

module _ {s out₀ out : List ℕ} {n i : ℕ} (w : Writing s out₀ out n i) where
  pub writing_next : {b : ℕ} → i < n → n ≤ length s → b ≡ byte_of (get_or s i 0) → Writing s out₀ (set out i b) n (i + 1)
  writing_next {b} h l q = record {
    same_length = length-set out i b ∙ w.same_length;
    result = rw (q, add-one i) (rw (add-one i) at (rw (part_first s i n h l) at w.result));
  }

  pub writing_end : n ≤ i → Writes s n out₀ out
  writing_end h = record {
    bytes = λ t l. rw (part_empty s i n h) at w.result ∙ ap (sets out₀ 0) (lies_bytes l);
    same_length = w.same_length;
  }
