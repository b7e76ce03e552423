use Rattle.std.proofs.Common.{refl}
use Rattle.clap.proofs.OnLiterals.{clap_on_literals}
use Rattle.command_line.specs.Numbers.{decimal_within}
use Rattle.text_numbers.specs.Numerals.{number_in, number_of}
use Rattle.explore_line.specs.Requests.{explore_asked, explore_asked_of, search_asked_of, question_of}
use Rattle.explore_line.specs.Sweeps.{sweeps_of}
use Rattle.explore_sweeps.specs.Sweeps.{sweep_of}
use Rattle.explore_line.proofs.alike_laws.known_alike_lines.Goals as goal

pub returns-clause-alike : goal.returns-clause-alike
unfolding clap_on_literals explore_asked explore_asked_of search_asked_of question_of sweep_of sweeps_of decimal_within number_in number_of
returns-clause-alike c = refl

pub returns-clause-alike_shown : goal.returns-clause-alike_shown
unfolding clap_on_literals explore_asked explore_asked_of search_asked_of question_of sweep_of sweeps_of decimal_within number_in number_of
returns-clause-alike_shown c = refl

pub returns-clause-alike_keeping_harts : goal.returns-clause-alike_keeping_harts
unfolding clap_on_literals explore_asked explore_asked_of search_asked_of question_of sweep_of sweeps_of decimal_within number_in number_of
returns-clause-alike_keeping_harts c = refl

pub returns-clause-alike_swept : goal.returns-clause-alike_swept
unfolding clap_on_literals explore_asked explore_asked_of search_asked_of question_of sweep_of sweeps_of decimal_within number_in number_of
returns-clause-alike_swept c = refl
