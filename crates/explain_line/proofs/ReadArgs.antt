-- The command of `cheri_explain` is such as `clap` defines the reading of.
use Rattle.std.proofs.Common.{◌≡◌, true, List, Option, refl}
use Rattle.clap.specs.Words.{Text, is_simple, is_simple_and_free, matches_of}
use Rattle.clap.proofs.OnLiterals.{clap_on_literals}
use Rattle.command_line.proofs.ReadArgs.{Reads}
use Rattle.explain_line.specs.Requests.{ExplainAsked, explain_asked, explain_asked_of, explain_program}

pub explain_is_simple : is_simple explain_program ≡ true
unfolding clap_on_literals
explain_is_simple = refl

pub explain_is_free : is_simple_and_free explain_program ≡ true
unfolding clap_on_literals
explain_is_free = refl

abbrev pub explain_met : List Text → Option ExplainAsked
explain_met args = explain_asked_of (matches_of explain_program args)

pub explain_reads : Reads explain_program explain_met explain_asked
unfolding explain_asked
explain_reads = record {
  without_fault = λ args none. rw none refl;
  with_fault = λ args k ks some. rw some refl;
}
