-- The examples, computed.
-- Assumes nothing.
use mathlib.Core.Path.{◌≡◌, refl}
use mathlib.Core.List.{map}
use Rattle.calculus.specs.Terms.{size, lift, lift_index}
use Rattle.calculus.specs.Frames.{domain, depth, entry_at}
use Rattle.calculus.specs.Types.{degree, degree_in, degrees, nth, type, type_of_var}
use Rattle.calculus.specs.Steps.{reach_of, step_by, step_of, step_at, step_here, kind_in, reduce_var, lower_var, both, lower, unused, substitute_var, substitute, remove, fill, if_far, at_partner, map_outcome, entry_of, unmatched}
use Rattle.calculus.specs.Rules.{lift_all, typed, one_pass_next}
use Rattle.calculus.specs.Walks.{copied_states, own_states, frame_states, states_of}
use Rattle.code.specs.Code.{encode}
use Rattle.code.specs.Scope.{scope}
use Rattle.examine.specs.Inspect.{term_answer}
use Rattle.verdict.specs.Bounds.{state_fits, body_fits, state_size, state_scope, frame_size, frame_scope, waiting_size, waiting_scope}
use Rattle.verdict.specs.Verdict.{check_term_by, finish_by, run_by, onward, turn_by, stepped, replaced, to_turn, with_type, with_group, side_from, side_of, forms_meet, placed, last, ground_of, turned, completed, identical, states, steps, number, place_of}
use Rattle.files.specs.Check.{check_file_by}
use Rattle.calls.specs.Answers.{type_answer, step_answer}
use Rattle.printing.specs.Page.{print_answer}
use Rattle.explaining.specs.Explain.{explain_file}
use Rattle.sets.specs.Sets.{check_set}
use Rattle.worked_examples.specs.Table.{answer_to, times, table, Answered}

answered : map (λ e. answer_to e.call) table ≡ map (λ e. e.gives) table
unfolding term_answer check_file_by type_answer step_answer print_answer explain_file check_set times check_term_by finish_by run_by onward turn_by stepped replaced to_turn with_type with_group side_from side_of forms_meet placed last ground_of turned completed identical copied_states own_states frame_states states_of states steps number place_of typed one_pass_next state_fits body_fits state_size state_scope frame_size frame_scope waiting_size waiting_scope encode scope size lift lift_index domain entry_at depth degree degree_in degrees nth type type_of_var reach_of step_by step_of step_at step_here kind_in reduce_var lower_var both lower unused substitute_var substitute remove fill if_far at_partner map_outcome entry_of unmatched lift_all
answered = refl

pub one_fact : Answered
one_fact = record { answered = answered }
