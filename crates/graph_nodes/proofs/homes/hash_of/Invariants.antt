use Rattle.std.proofs.Common.{◌≡◌, drop}
use Rattle.graph_nodes.specs.Homes.{hash_from}
use Rattle.graph_nodes.proofs.homes.hash_of.Given as goal

-- the numbers that are left lead to the hash of all
abbrev pub invariant-loop-number : goal.invariant-loop-number
invariant-loop-number l = hash_from l.hash (drop l.number-index l.row) ≡ hash_from 0 l.row
