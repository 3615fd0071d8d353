-- `streams::add_text` meets its contract.
-- Assumes nothing.
use native.Mathlib.Omega.{arith}
use borrow.Author.Rules.{rules}
use Rattle.streams.proofs.Counting.{prefix_len_of_le}
use Rattle.streams.proofs.add_text.Goals as goal

pub returns : goal.returns
returns c = record {
  within = omega arith;
  counts = prefix_len_of_le _ _ (omega (arith, c.copy_part.ensures.same_length));
  same_length = search rules;
}
