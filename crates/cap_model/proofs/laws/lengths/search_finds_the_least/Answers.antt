use Rattle.cap_model.proofs.Rounding.Searches.{first_from_passes, first_from_before}
use Rattle.cap_model.proofs.laws.lengths.search_finds_the_least.Goals as goal

pub returns-clause-passes : goal.returns-clause-passes
returns-clause-passes c = first_from_passes

pub returns-clause-none_before : goal.returns-clause-none_before
returns-clause-none_before c = first_from_before
