-- `fields::reading` meets its contract.
-- Assumes nothing.
use Rattle.fields.proofs.reading.Goals as goal
use Rattle.fields.proofs.Groups.{accepted_only, accepts, if_accepted, if_refused, numbers, inside, term_length, room, few, none_left, some_left, no_step, next_step}

pub returns : goal.returns
returns c =
    record {
      exactly = λ s e gs. (accepted_only s, accepts);
      if_accepted = if_accepted;
      if_refused = if_refused;
      numbers = numbers;
      inside = inside;
      term_length = term_length;
      room = room;
      few = few;
      none_left = none_left;
      some_left = some_left;
      no_step = no_step;
      next_step = next_step;
    }
