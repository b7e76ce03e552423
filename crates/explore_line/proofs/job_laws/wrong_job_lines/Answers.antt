use Rattle.std.proofs.Common.{refl}
use Rattle.clap.proofs.OnLiterals.{clap_on_literals}
use Rattle.command_line.specs.Numbers.{decimal_within}
use Rattle.text_numbers.specs.Numerals.{number_in, number_of}
use Rattle.explore_line.specs.Requests.{explore_asked, explore_asked_of, search_asked_of, question_of}
use Rattle.explore_line.specs.Sweeps.{sweeps_of}
use Rattle.explore_sweeps.specs.Sweeps.{sweep_of}
use Rattle.explore_line.proofs.job_laws.wrong_job_lines.Goals as goal

pub returns-clause-no_jobs : goal.returns-clause-no_jobs
unfolding clap_on_literals explore_asked explore_asked_of search_asked_of question_of sweep_of sweeps_of decimal_within number_in number_of
returns-clause-no_jobs c = refl

pub returns-clause-many_jobs : goal.returns-clause-many_jobs
unfolding clap_on_literals explore_asked explore_asked_of search_asked_of question_of sweep_of sweeps_of decimal_within number_in number_of
returns-clause-many_jobs c = refl

pub returns-clause-jobs_of_nothing : goal.returns-clause-jobs_of_nothing
unfolding clap_on_literals explore_asked explore_asked_of search_asked_of question_of sweep_of sweeps_of decimal_within number_in number_of
returns-clause-jobs_of_nothing c = refl

pub returns-clause-hexadecimal_jobs : goal.returns-clause-hexadecimal_jobs
unfolding clap_on_literals explore_asked explore_asked_of search_asked_of question_of sweep_of sweeps_of decimal_within number_in number_of
returns-clause-hexadecimal_jobs c = refl

pub returns-clause-jobs_without_a_number : goal.returns-clause-jobs_without_a_number
unfolding clap_on_literals explore_asked explore_asked_of search_asked_of question_of sweep_of sweeps_of decimal_within number_in number_of
returns-clause-jobs_without_a_number c = refl

pub returns-clause-jobs_twice : goal.returns-clause-jobs_twice
unfolding clap_on_literals explore_asked explore_asked_of search_asked_of question_of sweep_of sweeps_of decimal_within number_in number_of
returns-clause-jobs_twice c = refl
