-- Names for `unfolding(..)` that open what their own line names.
use Rattle.std.specs.Prelude.{ℕ, Bool}
use Rattle.conditions.specs.declared.parts.Node.{Node}
use Rattle.asked_registers.specs.Asked.{holder_asks, own_asks, source_asks, term_asks, atom_asks, node_asks, item_asks}

unfoldable pub asked : Node → ℕ → Bool
unfolding holder_asks own_asks source_asks term_asks atom_asks node_asks item_asks
asked node reg = node_asks node reg
