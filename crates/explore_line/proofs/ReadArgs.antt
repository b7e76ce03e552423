-- The commands of `cheri_explore` are such as `clap` defines the reading of.
use Rattle.std.proofs.Common.{◌≡◌, true, List, Option, refl}
use Rattle.std.specs.Prelude.{option_and_then}
use Rattle.clap.specs.Words.{Text, is_simple, is_simple_and_free, subcommand_of}
use Rattle.clap.proofs.OnLiterals.{clap_on_literals}
use Rattle.command_line.proofs.ReadArgs.{Reads}
use Rattle.explore_line.specs.Commands.{explore_program}
use Rattle.explore_line.specs.Requests.{ExploreAsked, explore_asked, explore_asked_of}

pub explore_is_simple : is_simple explore_program ≡ true
unfolding clap_on_literals
explore_is_simple = refl

pub explore_is_free : is_simple_and_free explore_program ≡ true
unfolding clap_on_literals
explore_is_free = refl

abbrev pub explore_met : List Text → Option ExploreAsked
explore_met args = option_and_then (λ found. explore_asked_of found.0 found.1) (subcommand_of explore_program args)

pub explore_reads : Reads explore_program explore_met explore_asked
unfolding explore_asked
explore_reads = record {
  without_fault = λ args none. rw none refl;
  with_fault = λ args k ks some. rw some refl;
}
