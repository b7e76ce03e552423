use Rattle.std.proofs.Common.{refl}
use Rattle.clap.proofs.OnLiterals.{clap_on_literals}
use Rattle.command_line.specs.Numbers.{decimal_within}
use Rattle.text_numbers.specs.Numerals.{number_in, number_of}
use Rattle.explore_line.specs.Requests.{explore_asked, explore_asked_of}
use Rattle.explore_line.specs.Samples.{merge_asked_of, sample_asked_of}
use Rattle.explore_line.specs.Sweeps.{sweeps_of}
use Rattle.explore_sweeps.specs.Sweeps.{sweep_of}
use Rattle.explore_line.proofs.sample_laws.wrong_sample_numbers.Goals as goal

pub returns-clause-no_orders : goal.returns-clause-no_orders
unfolding clap_on_literals explore_asked explore_asked_of sample_asked_of merge_asked_of sweep_of sweeps_of decimal_within number_in number_of
returns-clause-no_orders c = refl

pub returns-clause-too_many_orders : goal.returns-clause-too_many_orders
unfolding clap_on_literals explore_asked explore_asked_of sample_asked_of merge_asked_of sweep_of sweeps_of decimal_within number_in number_of
returns-clause-too_many_orders c = refl

pub returns-clause-hexadecimal_orders : goal.returns-clause-hexadecimal_orders
unfolding clap_on_literals explore_asked explore_asked_of sample_asked_of merge_asked_of sweep_of sweeps_of decimal_within number_in number_of
returns-clause-hexadecimal_orders c = refl

pub returns-clause-great_seed : goal.returns-clause-great_seed
unfolding clap_on_literals explore_asked explore_asked_of sample_asked_of merge_asked_of sweep_of sweeps_of decimal_within number_in number_of
returns-clause-great_seed c = refl

pub returns-clause-hexadecimal_seed : goal.returns-clause-hexadecimal_seed
unfolding clap_on_literals explore_asked explore_asked_of sample_asked_of merge_asked_of sweep_of sweeps_of decimal_within number_in number_of
returns-clause-hexadecimal_seed c = refl

pub returns-clause-past_all_runs : goal.returns-clause-past_all_runs
unfolding clap_on_literals explore_asked explore_asked_of sample_asked_of merge_asked_of sweep_of sweeps_of decimal_within number_in number_of
returns-clause-past_all_runs c = refl

pub returns-clause-past_the_last_run : goal.returns-clause-past_the_last_run
unfolding clap_on_literals explore_asked explore_asked_of sample_asked_of merge_asked_of sweep_of sweeps_of decimal_within number_in number_of
returns-clause-past_the_last_run c = refl

pub returns-clause-hexadecimal_from : goal.returns-clause-hexadecimal_from
unfolding clap_on_literals explore_asked explore_asked_of sample_asked_of merge_asked_of sweep_of sweeps_of decimal_within number_in number_of
returns-clause-hexadecimal_from c = refl

pub returns-clause-no_length : goal.returns-clause-no_length
unfolding clap_on_literals explore_asked explore_asked_of sample_asked_of merge_asked_of sweep_of sweeps_of decimal_within number_in number_of
returns-clause-no_length c = refl

pub returns-clause-great_length : goal.returns-clause-great_length
unfolding clap_on_literals explore_asked explore_asked_of sample_asked_of merge_asked_of sweep_of sweeps_of decimal_within number_in number_of
returns-clause-great_length c = refl

pub returns-clause-no_depth : goal.returns-clause-no_depth
unfolding clap_on_literals explore_asked explore_asked_of sample_asked_of merge_asked_of sweep_of sweeps_of decimal_within number_in number_of
returns-clause-no_depth c = refl

pub returns-clause-great_depth : goal.returns-clause-great_depth
unfolding clap_on_literals explore_asked explore_asked_of sample_asked_of merge_asked_of sweep_of sweeps_of decimal_within number_in number_of
returns-clause-great_depth c = refl

pub returns-clause-no_jobs : goal.returns-clause-no_jobs
unfolding clap_on_literals explore_asked explore_asked_of sample_asked_of merge_asked_of sweep_of sweeps_of decimal_within number_in number_of
returns-clause-no_jobs c = refl

pub returns-clause-many_jobs : goal.returns-clause-many_jobs
unfolding clap_on_literals explore_asked explore_asked_of sample_asked_of merge_asked_of sweep_of sweeps_of decimal_within number_in number_of
returns-clause-many_jobs c = refl

pub returns-clause-merged_by_no_jobs : goal.returns-clause-merged_by_no_jobs
unfolding clap_on_literals explore_asked explore_asked_of sample_asked_of merge_asked_of sweep_of sweeps_of decimal_within number_in number_of
returns-clause-merged_by_no_jobs c = refl

pub returns-clause-merged_by_many_jobs : goal.returns-clause-merged_by_many_jobs
unfolding clap_on_literals explore_asked explore_asked_of sample_asked_of merge_asked_of sweep_of sweeps_of decimal_within number_in number_of
returns-clause-merged_by_many_jobs c = refl
