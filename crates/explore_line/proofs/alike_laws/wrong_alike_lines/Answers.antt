use Rattle.std.proofs.Common.{refl}
use Rattle.clap.proofs.OnLiterals.{clap_on_literals}
use Rattle.command_line.specs.Numbers.{decimal_within}
use Rattle.text_numbers.specs.Numerals.{number_in, number_of}
use Rattle.explore_line.specs.Requests.{explore_asked, explore_asked_of, search_asked_of, question_of}
use Rattle.explore_line.specs.Sweeps.{sweeps_of}
use Rattle.explore_sweeps.specs.Sweeps.{sweep_of}
use Rattle.explore_line.proofs.alike_laws.wrong_alike_lines.Goals as goal

pub returns-clause-alike_twice : goal.returns-clause-alike_twice
unfolding clap_on_literals explore_asked explore_asked_of search_asked_of question_of sweep_of sweeps_of decimal_within number_in number_of
returns-clause-alike_twice c = refl

pub returns-clause-alike_of_a_number : goal.returns-clause-alike_of_a_number
unfolding clap_on_literals explore_asked explore_asked_of search_asked_of question_of sweep_of sweeps_of decimal_within number_in number_of
returns-clause-alike_of_a_number c = refl

pub returns-clause-alike_find : goal.returns-clause-alike_find
unfolding clap_on_literals explore_asked explore_asked_of search_asked_of question_of sweep_of sweeps_of decimal_within number_in number_of
returns-clause-alike_find c = refl

pub returns-clause-alike_check : goal.returns-clause-alike_check
unfolding clap_on_literals explore_asked explore_asked_of search_asked_of question_of sweep_of sweeps_of decimal_within number_in number_of
returns-clause-alike_check c = refl

pub returns-clause-alike_authority : goal.returns-clause-alike_authority
unfolding clap_on_literals explore_asked explore_asked_of search_asked_of question_of sweep_of sweeps_of decimal_within number_in number_of
returns-clause-alike_authority c = refl
