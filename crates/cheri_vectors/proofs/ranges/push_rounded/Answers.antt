use Rattle.std.proofs.Common.{rules}
use Rattle.cheri_vectors.specs.Ranges.{rounded_text}
use Rattle.cheri_vectors.proofs.Limits.{rounded_top_lt}
use Rattle.cheri_vectors.proofs.ranges.push_rounded.Goals as goal

pub invariant_of-top : goal.invariant_of-top
invariant_of-top c = search (rules, rounded_top_lt)

pub returns : goal.returns
unfolding rounded_text
returns c = search rules
