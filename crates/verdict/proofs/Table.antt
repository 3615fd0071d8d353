-- The turns of the examples, computed.
-- Assumes nothing.
use mathlib.Core.Path.{◌≡◌, refl}
use mathlib.Core.List.{map}
use Rattle.calculus.specs.Terms.{size, lift, lift_index}
use Rattle.calculus.specs.Frames.{domain, depth, entry_at}
use Rattle.calculus.specs.Types.{nth, type, type_of_var}
use Rattle.calculus.specs.Steps.{step_by, step_of, step_at, step_here, kind_in, reduce_var, map_outcome, entry_of}
use Rattle.calculus.specs.Rules.{lift_all, typed, one_pass_next}
use Rattle.calculus.specs.Walks.{copied_states, own_states, frame_states, states_of}
use Rattle.code.specs.Scope.{scope}
use Rattle.verdict.specs.Bounds.{state_fits, body_fits, state_size, state_scope, frame_size, frame_scope, waiting_size, waiting_scope}
use Rattle.verdict.specs.Verdict.{check_term_by, check_term, finish_by, run_by, onward, turn_by, stepped, replaced, to_turn, with_type, with_group, side_from, side_of, forms_meet, placed, last, ground_of, turned, completed, identical, states, steps}
use Rattle.verdict.specs.Claims.{progress_of}
use Rattle.verdict.specs.Examples.{table, Examples}

counted : map (λ e. (progress_of (check_term e.term e.groups)).turns) table ≡ map (λ e. e.turns) table
unfolding progress_of check_term_by finish_by run_by onward turn_by stepped replaced to_turn with_type with_group side_from side_of forms_meet placed last ground_of turned completed identical states steps copied_states own_states frame_states states_of typed one_pass_next state_fits body_fits state_size state_scope frame_size frame_scope waiting_size waiting_scope scope size lift lift_index domain entry_at depth nth type type_of_var step_by step_of step_at step_here kind_in reduce_var map_outcome entry_of lift_all
counted = refl

pub examples_hold : Examples
examples_hold = record { counted = counted }
