use Rattle.std.proofs.Common.{refl}
use Rattle.clap.proofs.OnLiterals.{clap_on_literals}
use Rattle.command_line.specs.Numbers.{decimal_within}
use Rattle.text_numbers.specs.Numerals.{number_in, number_of}
use Rattle.explore_line.specs.Requests.{explore_asked, explore_asked_of, search_asked_of, question_of}
use Rattle.explore_line.specs.Sweeps.{sweeps_of}
use Rattle.explore_sweeps.specs.Sweeps.{sweep_of}
use Rattle.explore_line.proofs.keeping_laws.known_keeping_lines.Goals as goal

pub returns-clause-find_keeping : goal.returns-clause-find_keeping
unfolding clap_on_literals explore_asked explore_asked_of search_asked_of question_of sweep_of sweeps_of decimal_within number_in number_of
returns-clause-find_keeping c = refl

pub returns-clause-keeping_harts : goal.returns-clause-keeping_harts
unfolding clap_on_literals explore_asked explore_asked_of search_asked_of question_of sweep_of sweeps_of decimal_within number_in number_of
returns-clause-keeping_harts c = refl

pub returns-clause-keeping_both : goal.returns-clause-keeping_both
unfolding clap_on_literals explore_asked explore_asked_of search_asked_of question_of sweep_of sweeps_of decimal_within number_in number_of
returns-clause-keeping_both c = refl

pub returns-clause-keeping_both_in_turn : goal.returns-clause-keeping_both_in_turn
unfolding clap_on_literals explore_asked explore_asked_of search_asked_of question_of sweep_of sweeps_of decimal_within number_in number_of
returns-clause-keeping_both_in_turn c = refl

pub returns-clause-outcomes_keeping : goal.returns-clause-outcomes_keeping
unfolding clap_on_literals explore_asked explore_asked_of search_asked_of question_of sweep_of sweeps_of decimal_within number_in number_of
returns-clause-outcomes_keeping c = refl

pub returns-clause-authority_keeping : goal.returns-clause-authority_keeping
unfolding clap_on_literals explore_asked explore_asked_of search_asked_of question_of sweep_of sweeps_of decimal_within number_in number_of
returns-clause-authority_keeping c = refl

pub returns-clause-check_keeping : goal.returns-clause-check_keeping
unfolding clap_on_literals explore_asked explore_asked_of search_asked_of question_of sweep_of sweeps_of decimal_within number_in number_of
returns-clause-check_keeping c = refl
