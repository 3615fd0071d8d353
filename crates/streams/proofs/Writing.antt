-- What was written after one more write is what was written so far and what the write took.
-- Assumes nothing.
use Rattle.std.proofs.Common.{◌≡◌, ℕ, ◌+◌, ◌-◌, ◌≤◌, List, length, take, drop, sym, ap, ◌∙◌, subst}
use Rattle.std.specs.Io.KnownBytes.{Appends, Keeps}
use Rattle.std.proofs.KnownBytes.{Appends-trans, Appends-kept}
use Rattle.std.specs.declared.option.Option.{Option}
use lib.Seq.{take-add, take-length}
use Rattle.std.proofs.lemmas.List.{length-drop}

module _ (before between after : Option (List ℕ)) (at : ℕ) (s : List ℕ) where
  rest : take (length s - at) (drop at s) ≡ drop at s
  rest = ap (λ n. take n (drop at s)) (sym (length-drop at s)) ∙ take-length (drop at s)

  pub write_more : (n : ℕ) → at ≤ length s → Appends before between (take at s) → Appends between after (take n (take (length s - at) (drop at s))) → Appends before after (take (at + n) s)
  write_more n within was more =
      subst (Appends before after) (sym (take-add at n s)) (Appends-trans before between after (take at s) (take n (drop at s)) was (subst (λ l. Appends between after (take n l)) rest more))

  pub write_nothing : Appends before between (take at s) → Keeps between after → Appends before after (take at s)
  write_nothing was kept = Appends-kept before between after (take at s) was kept
