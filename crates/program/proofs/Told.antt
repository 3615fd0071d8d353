-- After a 12 both bodies stand in the buffers, and the difference within both.
-- Assumes nothing.
use Prim.Native.Nat.{ℕ}
use mathlib.Core.Path.{◌≡◌, ap, sym, ◌∙◌}
use mathlib.Core.List.{List}
use native.Mathlib.Omega.{arith}
use lib.ListN.{length}
use lib.Seq.{length-sets}
use Rattle.code.specs.Limits.{longest_term}
use Rattle.code.specs.Code.{Bytes, encode}
use Rattle.code.proofs.RoundTrip.{length_encode}
use Rattle.explaining.specs.Explain.{Explanation, explain_file, cause_number, explained_says}
use Rattle.std.proofs.Common.{Err}
use Rattle.explaining.specs.Claims.{BodiesTold}
use Rattle.explaining.specs.declared.Cause.TheVariants.{BodiesDiffer}
use Rattle.explaining.specs.declared.Explained.{Explained}
use Rattle.explaining.proofs.Promised.{promised}
use Rattle.program.specs.Clauses.{BodiesAt}

module _ (s left right : List ℕ) (l : length left ≡ longest_term) (r : length right ≡ longest_term) where
  bodies_at : {x : Explanation} → BodiesTold s left right x → BodiesAt x.left x.first x.right x.second x.third
  bodies_at {x} d =
      let a : length x.left ≡ length left = ap length d.left_buffer ∙ length-sets left 0 (encode d.left_body) in
      let b : length x.right ≡ length right = ap length d.right_buffer ∙ length-sets right 0 (encode d.right_body) in
      let e = length_encode d.left_body in
      let f = length_encode d.right_body in
      record {
        left_counts = omega (arith, d.left_room);
        right_counts = omega (arith, d.right_room);
        left_short = omega (arith, d.left_room);
        right_short = omega (arith, d.right_room);
        in_left = omega (arith, d.difference_is, d.left_length, d.differing.in_left);
        in_right = omega (arith, d.difference_is, d.right_length, d.differing.in_right);
      }

  pub told_bodies : (e : Explained) {n k d : ℕ} {left' right' : List ℕ} → Bytes s → explained_says (Err e) left' right' ≡ explain_file s left right → e.cause ≡ BodiesDiffer n k d → BodiesAt left' n right' k d
  told_bodies e b q c = rw c at (bodies_at (rw (← q) at (promised.bodies s left right b (ap (λ (x : Explanation). x.answer.number) (sym q) ∙ ap cause_number c))))
