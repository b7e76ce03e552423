-- Names for `unfolding(..)` that open what their own line names.
use Rattle.std.specs.Prelude.{ℕ, List, Option}
use Rattle.asm_layout.specs.declared.chunk.Chunk.{Chunk}
use Rattle.asm_chunks.specs.Chunks.{ChunksParts, with_here}
use Rattle.asm_chunks.specs.Sections.{kind_in, added, entered, begun}
use Rattle.asm_chunks.specs.Growth.{grown, raised, padded}
use Rattle.asm_chunks.specs.Order.{of_section, section_order}

unfoldable pub chunks : ChunksParts → Chunk → ChunksParts
unfolding with_here
chunks parts chunk = with_here parts chunk

unfoldable pub sections : ChunksParts → Chunk → ChunksParts
unfolding kind_in added entered begun
sections parts chunk = with_here parts chunk

unfoldable pub growth : ChunksParts → Chunk → ChunksParts
unfolding with_here grown raised padded
growth parts chunk = with_here parts chunk

unfoldable pub orders : ℕ → List (List (Option ℕ)) → List ℕ
unfolding of_section section_order
orders section rows = of_section section rows
