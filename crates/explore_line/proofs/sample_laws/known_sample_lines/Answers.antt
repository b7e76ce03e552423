use Rattle.std.proofs.Common.{refl}
use Rattle.clap.proofs.OnLiterals.{clap_on_literals}
use Rattle.command_line.specs.Numbers.{decimal_within}
use Rattle.text_numbers.specs.Numerals.{number_in, number_of}
use Rattle.explore_line.specs.Requests.{explore_asked, explore_asked_of}
use Rattle.explore_line.specs.Samples.{merge_asked_of, sample_asked_of}
use Rattle.explore_line.specs.Sweeps.{sweeps_of}
use Rattle.explore_sweeps.specs.Sweeps.{sweep_of}
use Rattle.explore_line.proofs.sample_laws.known_sample_lines.Goals as goal

pub returns-clause-sample : goal.returns-clause-sample
unfolding clap_on_literals explore_asked explore_asked_of sample_asked_of merge_asked_of sweep_of sweeps_of decimal_within number_in number_of
returns-clause-sample c = refl

pub returns-clause-all : goal.returns-clause-all
unfolding clap_on_literals explore_asked explore_asked_of sample_asked_of merge_asked_of sweep_of sweeps_of decimal_within number_in number_of
returns-clause-all c = refl

pub returns-clause-most : goal.returns-clause-most
unfolding clap_on_literals explore_asked explore_asked_of sample_asked_of merge_asked_of sweep_of sweeps_of decimal_within number_in number_of
returns-clause-most c = refl

pub returns-clause-least : goal.returns-clause-least
unfolding clap_on_literals explore_asked explore_asked_of sample_asked_of merge_asked_of sweep_of sweeps_of decimal_within number_in number_of
returns-clause-least c = refl

pub returns-clause-merge : goal.returns-clause-merge
unfolding clap_on_literals explore_asked explore_asked_of sample_asked_of merge_asked_of sweep_of sweeps_of decimal_within number_in number_of
returns-clause-merge c = refl

pub returns-clause-merge_in_json : goal.returns-clause-merge_in_json
unfolding clap_on_literals explore_asked explore_asked_of sample_asked_of merge_asked_of sweep_of sweeps_of decimal_within number_in number_of
returns-clause-merge_in_json c = refl
