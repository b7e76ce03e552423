-- Names for `unfolding(..)` that open what their own line names.
use Rattle.std.specs.Prelude.{ℕ, Bool}
use Rattle.conditions.specs.declared.parts.Node.{Node}
use Rattle.asked_granules.specs.AskedGranules.{holder_reads, source_reads, term_reads, atom_reads, node_reads}

unfoldable pub asked : Node → ℕ → Bool
unfolding holder_reads source_reads term_reads atom_reads node_reads
asked node granule = node_reads node granule
