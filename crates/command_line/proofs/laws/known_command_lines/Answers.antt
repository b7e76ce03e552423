use Rattle.std.proofs.Common.{refl}
use Rattle.clap.proofs.OnLiterals.{clap_on_literals}
use Rattle.command_line.specs.Numbers.{decimal_within}
use Rattle.text_numbers.specs.Numerals.{number_in}
use Rattle.command_line.specs.Requests.{asked, asked_of}
use Rattle.command_line.proofs.laws.known_command_lines.Goals as goal

pub returns-clause-run : goal.returns-clause-run
unfolding clap_on_literals asked asked_of decimal_within number_in
returns-clause-run c = refl

pub returns-clause-order_first : goal.returns-clause-order_first
unfolding clap_on_literals asked asked_of decimal_within number_in
returns-clause-order_first c = refl

pub returns-clause-bounds : goal.returns-clause-bounds
unfolding clap_on_literals asked asked_of decimal_within number_in
returns-clause-bounds c = refl

pub returns-clause-decode : goal.returns-clause-decode
unfolding clap_on_literals asked asked_of decimal_within number_in
returns-clause-decode c = refl

pub returns-clause-alone : goal.returns-clause-alone
unfolding clap_on_literals asked asked_of decimal_within number_in
returns-clause-alone c = refl

pub returns-clause-unknown : goal.returns-clause-unknown
unfolding clap_on_literals asked asked_of decimal_within number_in
returns-clause-unknown c = refl

pub returns-clause-help : goal.returns-clause-help
unfolding clap_on_literals asked asked_of decimal_within number_in
returns-clause-help c = refl

pub returns-clause-without_order : goal.returns-clause-without_order
unfolding clap_on_literals asked asked_of decimal_within number_in
returns-clause-without_order c = refl

pub returns-clause-one_more : goal.returns-clause-one_more
unfolding clap_on_literals asked asked_of decimal_within number_in
returns-clause-one_more c = refl

pub returns-clause-minus : goal.returns-clause-minus
unfolding clap_on_literals asked asked_of decimal_within number_in
returns-clause-minus c = refl

pub returns-clause-check : goal.returns-clause-check
unfolding clap_on_literals asked asked_of decimal_within number_in
returns-clause-check c = refl

pub returns-clause-json : goal.returns-clause-json
unfolding clap_on_literals asked asked_of decimal_within number_in
returns-clause-json c = refl

pub returns-clause-json_twice : goal.returns-clause-json_twice
unfolding clap_on_literals asked asked_of decimal_within number_in
returns-clause-json_twice c = refl

pub returns-clause-race : goal.returns-clause-race
unfolding clap_on_literals asked asked_of decimal_within number_in
returns-clause-race c = refl

pub returns-clause-race_with_zeros : goal.returns-clause-race_with_zeros
unfolding clap_on_literals asked asked_of decimal_within number_in
returns-clause-race_with_zeros c = refl

pub returns-clause-no_turns : goal.returns-clause-no_turns
unfolding clap_on_literals asked asked_of decimal_within number_in
returns-clause-no_turns c = refl

pub returns-clause-too_many_turns : goal.returns-clause-too_many_turns
unfolding clap_on_literals asked asked_of decimal_within number_in
returns-clause-too_many_turns c = refl

pub returns-clause-turns_with_plus : goal.returns-clause-turns_with_plus
unfolding clap_on_literals asked asked_of decimal_within number_in
returns-clause-turns_with_plus c = refl

pub returns-clause-hexadecimal_turns : goal.returns-clause-hexadecimal_turns
unfolding clap_on_literals asked asked_of decimal_within number_in
returns-clause-hexadecimal_turns c = refl

pub returns-clause-without_turns : goal.returns-clause-without_turns
unfolding clap_on_literals asked asked_of decimal_within number_in
returns-clause-without_turns c = refl

pub returns-clause-watched : goal.returns-clause-watched
unfolding clap_on_literals asked asked_of decimal_within number_in
returns-clause-watched c = refl

pub returns-clause-watched_twice : goal.returns-clause-watched_twice
unfolding clap_on_literals asked asked_of decimal_within number_in
returns-clause-watched_twice c = refl
