use Rattle.std.proofs.Common.{refl}
use Rattle.clap.proofs.OnLiterals.{clap_on_literals}
use Rattle.explain_line.specs.Requests.{explain_asked, explain_asked_of, filter_named}
use Rattle.command_line.specs.Numbers.{decimal_within}
use Rattle.text_numbers.specs.Numerals.{number_in}
use Rattle.explain_line.proofs.laws.known_explain_lines.Goals as goal

pub returns-clause-plain : goal.returns-clause-plain
unfolding clap_on_literals explain_asked explain_asked_of filter_named decimal_within number_in
returns-clause-plain c = refl

pub returns-clause-order_first : goal.returns-clause-order_first
unfolding clap_on_literals explain_asked explain_asked_of filter_named decimal_within number_in
returns-clause-order_first c = refl

pub returns-clause-range : goal.returns-clause-range
unfolding clap_on_literals explain_asked explain_asked_of filter_named decimal_within number_in
returns-clause-range c = refl

pub returns-clause-one_event : goal.returns-clause-one_event
unfolding clap_on_literals explain_asked explain_asked_of filter_named decimal_within number_in
returns-clause-one_event c = refl

pub returns-clause-json : goal.returns-clause-json
unfolding clap_on_literals explain_asked explain_asked_of filter_named decimal_within number_in
returns-clause-json c = refl

pub returns-clause-traps : goal.returns-clause-traps
unfolding clap_on_literals explain_asked explain_asked_of filter_named decimal_within number_in
returns-clause-traps c = refl

pub returns-clause-clears : goal.returns-clause-clears
unfolding clap_on_literals explain_asked explain_asked_of filter_named decimal_within number_in
returns-clause-clears c = refl

pub returns-clause-both : goal.returns-clause-both
unfolding clap_on_literals explain_asked explain_asked_of filter_named decimal_within number_in
returns-clause-both c = refl

pub returns-clause-page : goal.returns-clause-page
unfolding clap_on_literals explain_asked explain_asked_of filter_named decimal_within number_in
returns-clause-page c = refl

pub returns-clause-page_of_json : goal.returns-clause-page_of_json
unfolding clap_on_literals explain_asked explain_asked_of filter_named decimal_within number_in
returns-clause-page_of_json c = refl

pub returns-clause-page_of_traps : goal.returns-clause-page_of_traps
unfolding clap_on_literals explain_asked explain_asked_of filter_named decimal_within number_in
returns-clause-page_of_traps c = refl

pub returns-clause-traps_twice : goal.returns-clause-traps_twice
unfolding clap_on_literals explain_asked explain_asked_of filter_named decimal_within number_in
returns-clause-traps_twice c = refl

pub returns-clause-only_nothing : goal.returns-clause-only_nothing
unfolding clap_on_literals explain_asked explain_asked_of filter_named decimal_within number_in
returns-clause-only_nothing c = refl

pub returns-clause-backwards : goal.returns-clause-backwards
unfolding clap_on_literals explain_asked explain_asked_of filter_named decimal_within number_in
returns-clause-backwards c = refl

pub returns-clause-beyond : goal.returns-clause-beyond
unfolding clap_on_literals explain_asked explain_asked_of filter_named decimal_within number_in
returns-clause-beyond c = refl

pub returns-clause-hexadecimal : goal.returns-clause-hexadecimal
unfolding clap_on_literals explain_asked explain_asked_of filter_named decimal_within number_in
returns-clause-hexadecimal c = refl

pub returns-clause-from_nothing : goal.returns-clause-from_nothing
unfolding clap_on_literals explain_asked explain_asked_of filter_named decimal_within number_in
returns-clause-from_nothing c = refl

pub returns-clause-from_twice : goal.returns-clause-from_twice
unfolding clap_on_literals explain_asked explain_asked_of filter_named decimal_within number_in
returns-clause-from_twice c = refl

pub returns-clause-from_minus : goal.returns-clause-from_minus
unfolding clap_on_literals explain_asked explain_asked_of filter_named decimal_within number_in
returns-clause-from_minus c = refl

pub returns-clause-json_twice : goal.returns-clause-json_twice
unfolding clap_on_literals explain_asked explain_asked_of filter_named decimal_within number_in
returns-clause-json_twice c = refl

pub returns-clause-without_order : goal.returns-clause-without_order
unfolding clap_on_literals explain_asked explain_asked_of filter_named decimal_within number_in
returns-clause-without_order c = refl

pub returns-clause-one_more : goal.returns-clause-one_more
unfolding clap_on_literals explain_asked explain_asked_of filter_named decimal_within number_in
returns-clause-one_more c = refl

pub returns-clause-help : goal.returns-clause-help
unfolding clap_on_literals explain_asked explain_asked_of filter_named decimal_within number_in
returns-clause-help c = refl

pub returns-clause-alone : goal.returns-clause-alone
unfolding clap_on_literals explain_asked explain_asked_of filter_named decimal_within number_in
returns-clause-alone c = refl

pub returns-clause-mapped : goal.returns-clause-mapped
unfolding clap_on_literals explain_asked explain_asked_of filter_named decimal_within number_in
returns-clause-mapped c = refl

pub returns-clause-page_of_a_map : goal.returns-clause-page_of_a_map
unfolding clap_on_literals explain_asked explain_asked_of filter_named decimal_within number_in
returns-clause-page_of_a_map c = refl
