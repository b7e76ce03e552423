use Rattle.std.proofs.Common.{refl}
use Rattle.clap.proofs.OnLiterals.{clap_on_literals}
use Rattle.command_line.specs.Numbers.{decimal_within}
use Rattle.text_numbers.specs.Numerals.{number_in, number_of}
use Rattle.explore_line.specs.Requests.{explore_asked, explore_asked_of}
use Rattle.explore_line.specs.Samples.{merge_asked_of, sample_asked_of}
use Rattle.explore_line.specs.Sweeps.{sweeps_of}
use Rattle.explore_sweeps.specs.Sweeps.{sweep_of}
use Rattle.explore_line.proofs.sample_laws.wrong_sample_lines.Goals as goal

pub returns-clause-without_orders : goal.returns-clause-without_orders
unfolding clap_on_literals explore_asked explore_asked_of sample_asked_of merge_asked_of sweep_of sweeps_of decimal_within number_in number_of
returns-clause-without_orders c = refl

pub returns-clause-orders_twice : goal.returns-clause-orders_twice
unfolding clap_on_literals explore_asked explore_asked_of sample_asked_of merge_asked_of sweep_of sweeps_of decimal_within number_in number_of
returns-clause-orders_twice c = refl

pub returns-clause-orders_of_nothing : goal.returns-clause-orders_of_nothing
unfolding clap_on_literals explore_asked explore_asked_of sample_asked_of merge_asked_of sweep_of sweeps_of decimal_within number_in number_of
returns-clause-orders_of_nothing c = refl

pub returns-clause-check_with_a_value : goal.returns-clause-check_with_a_value
unfolding clap_on_literals explore_asked explore_asked_of sample_asked_of merge_asked_of sweep_of sweeps_of decimal_within number_in number_of
returns-clause-check_with_a_value c = refl

pub returns-clause-check_twice : goal.returns-clause-check_twice
unfolding clap_on_literals explore_asked explore_asked_of sample_asked_of merge_asked_of sweep_of sweeps_of decimal_within number_in number_of
returns-clause-check_twice c = refl

pub returns-clause-backwards : goal.returns-clause-backwards
unfolding clap_on_literals explore_asked explore_asked_of sample_asked_of merge_asked_of sweep_of sweeps_of decimal_within number_in number_of
returns-clause-backwards c = refl

pub returns-clause-nine_sweeps : goal.returns-clause-nine_sweeps
unfolding clap_on_literals explore_asked explore_asked_of sample_asked_of merge_asked_of sweep_of sweeps_of decimal_within number_in number_of
returns-clause-nine_sweeps c = refl

pub returns-clause-states : goal.returns-clause-states
unfolding clap_on_literals explore_asked explore_asked_of sample_asked_of merge_asked_of sweep_of sweeps_of decimal_within number_in number_of
returns-clause-states c = refl

pub returns-clause-without_listing : goal.returns-clause-without_listing
unfolding clap_on_literals explore_asked explore_asked_of sample_asked_of merge_asked_of sweep_of sweeps_of decimal_within number_in number_of
returns-clause-without_listing c = refl

pub returns-clause-merge_without_slices : goal.returns-clause-merge_without_slices
unfolding clap_on_literals explore_asked explore_asked_of sample_asked_of merge_asked_of sweep_of sweeps_of decimal_within number_in number_of
returns-clause-merge_without_slices c = refl

pub returns-clause-merge_with_seed : goal.returns-clause-merge_with_seed
unfolding clap_on_literals explore_asked explore_asked_of sample_asked_of merge_asked_of sweep_of sweeps_of decimal_within number_in number_of
returns-clause-merge_with_seed c = refl

pub returns-clause-merge_with_orders : goal.returns-clause-merge_with_orders
unfolding clap_on_literals explore_asked explore_asked_of sample_asked_of merge_asked_of sweep_of sweeps_of decimal_within number_in number_of
returns-clause-merge_with_orders c = refl

pub returns-clause-help : goal.returns-clause-help
unfolding clap_on_literals explore_asked explore_asked_of sample_asked_of merge_asked_of sweep_of sweeps_of decimal_within number_in number_of
returns-clause-help c = refl
