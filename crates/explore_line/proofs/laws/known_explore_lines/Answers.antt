use Rattle.std.proofs.Common.{refl}
use Rattle.clap.proofs.OnLiterals.{clap_on_literals}
use Rattle.command_line.specs.Numbers.{decimal_within}
use Rattle.text_numbers.specs.Numerals.{number_in, number_of}
use Rattle.explore_line.specs.Requests.{explore_asked, explore_asked_of, search_asked_of, question_of}
use Rattle.explore_line.specs.Sweeps.{sweeps_of}
use Rattle.explore_sweeps.specs.Sweeps.{sweep_of}
use Rattle.explore_line.proofs.laws.known_explore_lines.Goals as goal

pub returns-clause-outcomes : goal.returns-clause-outcomes
unfolding clap_on_literals explore_asked explore_asked_of search_asked_of question_of sweep_of sweeps_of decimal_within number_in number_of
returns-clause-outcomes c = refl

pub returns-clause-shown : goal.returns-clause-shown
unfolding clap_on_literals explore_asked explore_asked_of search_asked_of question_of sweep_of sweeps_of decimal_within number_in number_of
returns-clause-shown c = refl

pub returns-clause-shown_nothing : goal.returns-clause-shown_nothing
unfolding clap_on_literals explore_asked explore_asked_of search_asked_of question_of sweep_of sweeps_of decimal_within number_in number_of
returns-clause-shown_nothing c = refl

pub returns-clause-find : goal.returns-clause-find
unfolding clap_on_literals explore_asked explore_asked_of search_asked_of question_of sweep_of sweeps_of decimal_within number_in number_of
returns-clause-find c = refl

pub returns-clause-authority : goal.returns-clause-authority
unfolding clap_on_literals explore_asked explore_asked_of search_asked_of question_of sweep_of sweeps_of decimal_within number_in number_of
returns-clause-authority c = refl

pub returns-clause-swept : goal.returns-clause-swept
unfolding clap_on_literals explore_asked explore_asked_of search_asked_of question_of sweep_of sweeps_of decimal_within number_in number_of
returns-clause-swept c = refl

pub returns-clause-empty_sweep : goal.returns-clause-empty_sweep
unfolding clap_on_literals explore_asked explore_asked_of search_asked_of question_of sweep_of sweeps_of decimal_within number_in number_of
returns-clause-empty_sweep c = refl

pub returns-clause-most_states : goal.returns-clause-most_states
unfolding clap_on_literals explore_asked explore_asked_of search_asked_of question_of sweep_of sweeps_of decimal_within number_in number_of
returns-clause-most_states c = refl

pub returns-clause-too_many_states : goal.returns-clause-too_many_states
unfolding clap_on_literals explore_asked explore_asked_of search_asked_of question_of sweep_of sweeps_of decimal_within number_in number_of
returns-clause-too_many_states c = refl

pub returns-clause-no_states : goal.returns-clause-no_states
unfolding clap_on_literals explore_asked explore_asked_of search_asked_of question_of sweep_of sweeps_of decimal_within number_in number_of
returns-clause-no_states c = refl

pub returns-clause-hexadecimal_states : goal.returns-clause-hexadecimal_states
unfolding clap_on_literals explore_asked explore_asked_of search_asked_of question_of sweep_of sweeps_of decimal_within number_in number_of
returns-clause-hexadecimal_states c = refl

pub returns-clause-backwards : goal.returns-clause-backwards
unfolding clap_on_literals explore_asked explore_asked_of search_asked_of question_of sweep_of sweeps_of decimal_within number_in number_of
returns-clause-backwards c = refl

pub returns-clause-beyond : goal.returns-clause-beyond
unfolding clap_on_literals explore_asked explore_asked_of search_asked_of question_of sweep_of sweeps_of decimal_within number_in number_of
returns-clause-beyond c = refl

pub returns-clause-from_the_end : goal.returns-clause-from_the_end
unfolding clap_on_literals explore_asked explore_asked_of search_asked_of question_of sweep_of sweeps_of decimal_within number_in number_of
returns-clause-from_the_end c = refl

pub returns-clause-sweep_of_one : goal.returns-clause-sweep_of_one
unfolding clap_on_literals explore_asked explore_asked_of search_asked_of question_of sweep_of sweeps_of decimal_within number_in number_of
returns-clause-sweep_of_one c = refl

pub returns-clause-sweep_with_space : goal.returns-clause-sweep_with_space
unfolding clap_on_literals explore_asked explore_asked_of search_asked_of question_of sweep_of sweeps_of decimal_within number_in number_of
returns-clause-sweep_with_space c = refl

pub returns-clause-sweep_of_three : goal.returns-clause-sweep_of_three
unfolding clap_on_literals explore_asked explore_asked_of search_asked_of question_of sweep_of sweeps_of decimal_within number_in number_of
returns-clause-sweep_of_three c = refl

pub returns-clause-nine_sweeps : goal.returns-clause-nine_sweeps
unfolding clap_on_literals explore_asked explore_asked_of search_asked_of question_of sweep_of sweeps_of decimal_within number_in number_of
returns-clause-nine_sweeps c = refl

pub returns-clause-shown_twice : goal.returns-clause-shown_twice
unfolding clap_on_literals explore_asked explore_asked_of search_asked_of question_of sweep_of sweeps_of decimal_within number_in number_of
returns-clause-shown_twice c = refl

pub returns-clause-states_twice : goal.returns-clause-states_twice
unfolding clap_on_literals explore_asked explore_asked_of search_asked_of question_of sweep_of sweeps_of decimal_within number_in number_of
returns-clause-states_twice c = refl

pub returns-clause-shown_authority : goal.returns-clause-shown_authority
unfolding clap_on_literals explore_asked explore_asked_of search_asked_of question_of sweep_of sweeps_of decimal_within number_in number_of
returns-clause-shown_authority c = refl

pub returns-clause-without_condition : goal.returns-clause-without_condition
unfolding clap_on_literals explore_asked explore_asked_of search_asked_of question_of sweep_of sweeps_of decimal_within number_in number_of
returns-clause-without_condition c = refl

pub returns-clause-without_command : goal.returns-clause-without_command
unfolding clap_on_literals explore_asked explore_asked_of search_asked_of question_of sweep_of sweeps_of decimal_within number_in number_of
returns-clause-without_command c = refl

pub returns-clause-help : goal.returns-clause-help
unfolding clap_on_literals explore_asked explore_asked_of search_asked_of question_of sweep_of sweeps_of decimal_within number_in number_of
returns-clause-help c = refl

pub returns-clause-alone : goal.returns-clause-alone
unfolding clap_on_literals explore_asked explore_asked_of search_asked_of question_of sweep_of sweeps_of decimal_within number_in number_of
returns-clause-alone c = refl

pub returns-clause-steps : goal.returns-clause-steps
unfolding clap_on_literals explore_asked explore_asked_of search_asked_of question_of sweep_of sweeps_of decimal_within number_in number_of
returns-clause-steps c = refl

pub returns-clause-steps_twice : goal.returns-clause-steps_twice
unfolding clap_on_literals explore_asked explore_asked_of search_asked_of question_of sweep_of sweeps_of decimal_within number_in number_of
returns-clause-steps_twice c = refl

pub returns-clause-steps_of_a_number : goal.returns-clause-steps_of_a_number
unfolding clap_on_literals explore_asked explore_asked_of search_asked_of question_of sweep_of sweeps_of decimal_within number_in number_of
returns-clause-steps_of_a_number c = refl

pub returns-clause-check : goal.returns-clause-check
unfolding clap_on_literals explore_asked explore_asked_of search_asked_of question_of sweep_of sweeps_of decimal_within number_in number_of
returns-clause-check c = refl

pub returns-clause-check_with_sweep : goal.returns-clause-check_with_sweep
unfolding clap_on_literals explore_asked explore_asked_of search_asked_of question_of sweep_of sweeps_of decimal_within number_in number_of
returns-clause-check_with_sweep c = refl

pub returns-clause-check_of_condition : goal.returns-clause-check_of_condition
unfolding clap_on_literals explore_asked explore_asked_of search_asked_of question_of sweep_of sweeps_of decimal_within number_in number_of
returns-clause-check_of_condition c = refl

pub returns-clause-check_explained : goal.returns-clause-check_explained
unfolding clap_on_literals explore_asked explore_asked_of search_asked_of question_of sweep_of sweeps_of decimal_within number_in number_of
returns-clause-check_explained c = refl

pub returns-clause-find_explained : goal.returns-clause-find_explained
unfolding clap_on_literals explore_asked explore_asked_of search_asked_of question_of sweep_of sweeps_of decimal_within number_in number_of
returns-clause-find_explained c = refl

pub returns-clause-explained_twice : goal.returns-clause-explained_twice
unfolding clap_on_literals explore_asked explore_asked_of search_asked_of question_of sweep_of sweeps_of decimal_within number_in number_of
returns-clause-explained_twice c = refl

pub returns-clause-explained_with_a_value : goal.returns-clause-explained_with_a_value
unfolding clap_on_literals explore_asked explore_asked_of search_asked_of question_of sweep_of sweeps_of decimal_within number_in number_of
returns-clause-explained_with_a_value c = refl

pub returns-clause-explained_in_json : goal.returns-clause-explained_in_json
unfolding clap_on_literals explore_asked explore_asked_of search_asked_of question_of sweep_of sweeps_of decimal_within number_in number_of
returns-clause-explained_in_json c = refl

pub returns-clause-explained_outcomes : goal.returns-clause-explained_outcomes
unfolding clap_on_literals explore_asked explore_asked_of search_asked_of question_of sweep_of sweeps_of decimal_within number_in number_of
returns-clause-explained_outcomes c = refl

pub returns-clause-find_mapped : goal.returns-clause-find_mapped
unfolding clap_on_literals explore_asked explore_asked_of search_asked_of question_of sweep_of sweeps_of decimal_within number_in number_of
returns-clause-find_mapped c = refl

pub returns-clause-check_mapped : goal.returns-clause-check_mapped
unfolding clap_on_literals explore_asked explore_asked_of search_asked_of question_of sweep_of sweeps_of decimal_within number_in number_of
returns-clause-check_mapped c = refl

pub returns-clause-mapped_twice : goal.returns-clause-mapped_twice
unfolding clap_on_literals explore_asked explore_asked_of search_asked_of question_of sweep_of sweeps_of decimal_within number_in number_of
returns-clause-mapped_twice c = refl

pub returns-clause-map_without_a_name : goal.returns-clause-map_without_a_name
unfolding clap_on_literals explore_asked explore_asked_of search_asked_of question_of sweep_of sweeps_of decimal_within number_in number_of
returns-clause-map_without_a_name c = refl

pub returns-clause-mapped_outcomes : goal.returns-clause-mapped_outcomes
unfolding clap_on_literals explore_asked explore_asked_of search_asked_of question_of sweep_of sweeps_of decimal_within number_in number_of
returns-clause-mapped_outcomes c = refl

pub returns-clause-mapped_authority : goal.returns-clause-mapped_authority
unfolding clap_on_literals explore_asked explore_asked_of search_asked_of question_of sweep_of sweeps_of decimal_within number_in number_of
returns-clause-mapped_authority c = refl
