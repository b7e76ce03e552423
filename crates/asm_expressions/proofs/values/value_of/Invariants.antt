-- the values of the nodes so far, and then those of what is left
use Rattle.std.proofs.Common.{◌≡◌, [], drop, reverse}
use Rattle.asm_expressions.specs.Values.{meanings_of, values_of}
use Rattle.asm_expressions.proofs.values.value_of.Given as goal

abbrev pub invariant-loop-node : goal.invariant-loop-node
invariant-loop-node g l =
    values_of (meanings_of (g.L.LookUp.named l.names) (g.L.LookUp.apart l.names)) (reverse l.values.items) (drop l.node-index l.nodes)
    ≡ values_of (meanings_of (g.L.LookUp.named l.names) (g.L.LookUp.apart l.names)) [] l.nodes
