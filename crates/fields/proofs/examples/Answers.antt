-- `fields::examples` meets its contract: antt computes each.
-- Assumes nothing.
use mathlib.Core.Path.{refl}
use Rattle.fields.specs.Fields.{read_file}
use Rattle.fields.proofs.examples.Goals as goal

pub returns : goal.returns
unfolding read_file
returns c =
    record {
      empty = refl;
      short_body = refl;
      other_tag = refl;
      head_first = refl;
      tag_first = refl;
      term_only = refl;
      no_right = refl;
      one_group = refl;
      no_multiple = refl;
      short_left = refl;
      right_tag = refl;
      high_byte_first = refl;
    }
