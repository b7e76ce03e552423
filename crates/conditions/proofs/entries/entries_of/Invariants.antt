-- The entries so far, with those of the nodes that are left, are all.
use Rattle.std.proofs.Common.{◌≡◌, [], drop}
use Rattle.conditions.specs.Entries.{entries_with}
use Rattle.conditions.proofs.entries.entries_of.Given as goal

abbrev pub invariant-loop-node : goal.invariant-loop-node
invariant-loop-node l = entries_with l.entries.items (drop l.node-index l.nodes) ≡ entries_with [] l.nodes
