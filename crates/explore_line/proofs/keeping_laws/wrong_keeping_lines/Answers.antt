use Rattle.std.proofs.Common.{refl}
use Rattle.clap.proofs.OnLiterals.{clap_on_literals}
use Rattle.command_line.specs.Numbers.{decimal_within}
use Rattle.text_numbers.specs.Numerals.{number_in, number_of}
use Rattle.explore_line.specs.Requests.{explore_asked, explore_asked_of, search_asked_of, question_of}
use Rattle.explore_line.specs.Sweeps.{sweeps_of}
use Rattle.explore_sweeps.specs.Sweeps.{sweep_of}
use Rattle.explore_line.proofs.keeping_laws.wrong_keeping_lines.Goals as goal

pub returns-clause-sample_keeping : goal.returns-clause-sample_keeping
unfolding clap_on_literals explore_asked explore_asked_of search_asked_of question_of sweep_of sweeps_of decimal_within number_in number_of
returns-clause-sample_keeping c = refl

pub returns-clause-keeping_nothing : goal.returns-clause-keeping_nothing
unfolding clap_on_literals explore_asked explore_asked_of search_asked_of question_of sweep_of sweeps_of decimal_within number_in number_of
returns-clause-keeping_nothing c = refl

pub returns-clause-keeping_another_word : goal.returns-clause-keeping_another_word
unfolding clap_on_literals explore_asked explore_asked_of search_asked_of question_of sweep_of sweeps_of decimal_within number_in number_of
returns-clause-keeping_another_word c = refl

pub returns-clause-keeping_a_word_twice : goal.returns-clause-keeping_a_word_twice
unfolding clap_on_literals explore_asked explore_asked_of search_asked_of question_of sweep_of sweeps_of decimal_within number_in number_of
returns-clause-keeping_a_word_twice c = refl

pub returns-clause-keeping_harts_twice : goal.returns-clause-keeping_harts_twice
unfolding clap_on_literals explore_asked explore_asked_of search_asked_of question_of sweep_of sweeps_of decimal_within number_in number_of
returns-clause-keeping_harts_twice c = refl

pub returns-clause-keeping_no_second_word : goal.returns-clause-keeping_no_second_word
unfolding clap_on_literals explore_asked explore_asked_of search_asked_of question_of sweep_of sweeps_of decimal_within number_in number_of
returns-clause-keeping_no_second_word c = refl

pub returns-clause-keeping_twice : goal.returns-clause-keeping_twice
unfolding clap_on_literals explore_asked explore_asked_of search_asked_of question_of sweep_of sweeps_of decimal_within number_in number_of
returns-clause-keeping_twice c = refl
