-- the numbers of the values so far
use Rattle.std.proofs.Common.{◌≡◌, ◌++◌, drop}
use Rattle.outcomes.specs.Items.{codes_of}
use Rattle.outcomes.proofs.items.codes_of.Given as goal

abbrev pub invariant-loop-value : goal.invariant-loop-value
invariant-loop-value l = l.code.items ++ codes_of (drop l.value-index l.values) ≡ codes_of l.values
