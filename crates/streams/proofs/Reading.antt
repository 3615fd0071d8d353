-- What stands at a buffer's start after one more read is what was read so far and what the read gave.
-- Assumes nothing.
use Rattle.std.proofs.Common.{◌≡◌, ℕ, ◌+◌, ◌-◌, ◌≤◌, List, ◌++◌, arith, length, take, slice_range, sym, ap, ◌∙◌, subst, le_refl, drop_at, length-take-le}
use Rattle.std.proofs.lemmas.Slice.{take-put_mid_below}
use Rattle.std.specs.Io.KnownBytes.{Consumes, Keeps}
use Rattle.std.proofs.KnownBytes.{Consumes-trans, Consumes-kept}
use Rattle.std.specs.declared.option.Option.{Option}
use borrow.Rule.Slice.PartMut.{put_mid, post_of}
use lib.Seq.{take-add, take-append-le}

module _ (at room : ℕ) (s part : List ℕ) where
  gave : (n : ℕ) → at ≤ length s → n ≤ length part → slice_range (put_mid at room s part) at (at + n) ≡ take n part
  gave n within fits =
      let same : (at + n) - at ≡ n = omega arith in
      let after = post_of at room s in
      ap (take ((at + n) - at)) (drop_at (take at s) (part ++ after) at (length-take-le at s within)) ∙ ap (λ m. take m (part ++ after)) same ∙ take-append-le n part after fits

  joined : (n : ℕ) → at ≤ length s → n ≤ length part → take at s ++ take n part ≡ take (at + n) (put_mid at room s part)
  joined n within fits =
      let new = put_mid at room s part in
      let same : at + ((at + n) - at) ≡ at + n = omega arith in
      let front : take at new ≡ take at s = take-put_mid_below _ _ _ _ _ (le_refl _) within in
      ap (λ l. take at s ++ l) (sym (gave n within fits)) ∙ ap (λ l. l ++ slice_range new at (at + n)) (sym front) ∙ sym (take-add at ((at + n) - at) new) ∙ ap (λ m. take m new) same

  module _ (before between after : Option (List ℕ)) where
    pub read_more : (n : ℕ) → at ≤ length s → n ≤ length part → Consumes before between (take at s) → Consumes between after (take n part) → Consumes before after (take (at + n) (put_mid at room s part))
    read_more n within fits was more = subst (Consumes before after) (joined n within fits) (Consumes-trans _ _ _ _ _ was more)

    pub read_nothing : at ≤ length s → Consumes before between (take at s) → Keeps between after → Consumes before after (take at (put_mid at room s part))
    read_nothing within was kept = subst (Consumes before after) (sym (take-put_mid_below _ _ _ _ _ (le_refl _) within)) (Consumes-kept _ _ _ _ was kept)
