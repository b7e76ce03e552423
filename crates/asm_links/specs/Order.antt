-- The order in which chunks are laid out.
use Rattle.std.specs.Prelude.{ℕ, ◌+◌, ◌==◌, if◌then◌else◌, List, [], ◌∷◌, ◌++◌}
use Rattle.asm_layout.specs.declared.chunk.Chunk.{Chunk}
use Rattle.asm_layout.specs.declared.chunk.ChunkKind.TheVariants.{Common}
use Rattle.asm_layout.specs.Placement.{rank}
use Rattle.asm_chunks.specs.Order.{section_order}
use Rattle.asm_files.specs.Programs.{ProgramParts}

-- the numbers of common symbols' chunks, of those from a number on
unfoldable pub commons_from : ℕ → List Chunk → List ℕ
commons_from number [] = []
commons_from number (chunk ∷ chunks) =
    if rank chunk.kind == rank Common then number ∷ commons_from (number + 1) chunks
    else commons_from (number + 1) chunks

-- sections by their numbers, each with the chunks of the files in order; then common symbols
unfoldable pub order_of : ProgramParts → List ℕ
order_of program =
    section_order program.sections program.made.rows ++ commons_from 0 program.made.chunks
