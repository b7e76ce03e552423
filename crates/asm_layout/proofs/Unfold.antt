-- Names for `unfolding(..)` that open what their own line names.
use Rattle.std.specs.Prelude.{ℕ}
use Rattle.asm_layout.specs.declared.chunk.Chunk.{Chunk}
use Rattle.asm_layout.specs.Placement.{alignment_of, placed, placed_if}
use Rattle.asm_layout.specs.Layout.{code_placed, memory_placed, layout_of, memory_size}

unfoldable pub placements : Chunk → ℕ
unfolding alignment_of placed placed_if
placements chunk = alignment_of chunk

unfoldable pub layouts : ℕ → ℕ
unfolding code_placed memory_placed layout_of memory_size
layouts bytes = memory_size bytes
