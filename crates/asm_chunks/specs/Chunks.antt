-- The chunks so far, and where the file is that is read.
use Rattle.std.specs.Prelude.{◌≡◌, ◌⊎◌, ℕ, List, [], ◌∷◌, ◌++◌, length, slice_index_or, slice_set}
use Rattle.std.specs.Prelude.{Option, Result, Ok, Err}
use Rattle.asm_layout.specs.declared.chunk.Chunk.{Chunk}
use Rattle.asm_layout.specs.declared.chunk.ChunkKind.TheVariants as kinds
use Rattle.asm_chunks.specs.declared.chunks.Chunks.{Chunks}
use Rattle.asm_chunks.specs.declared.fault.ChunkFault.{ChunkFault}
use Rattle.asm_chunks.specs.declared.fault.ChunkFault.TheVariants.{NoMemory}

-- the chunks of all files, this file's chunk of each section, and the chunks that it goes on in and
-- was in before
pub record ChunksParts : Type 0 where
  pub chunks : List Chunk
  pub own : List (Option ℕ)
  pub here : ℕ
  pub before : ℕ

abbrev pub chunks_parts : Chunks → ChunksParts
chunks_parts c = record { chunks = c.chunks.items; own = c.own.items; here = c.here; before = c.before }

abbrev pub no_chunks : ChunksParts
no_chunks = record { chunks = []; own = []; here = 0; before = 0 }

abbrev pub no_chunk : Chunk
no_chunk = record { kind = kinds.Dropped; size = 0; align = 0 }

-- the chunk of a number
abbrev pub chunk_at : ChunksParts → ℕ → Chunk
chunk_at parts number = slice_index_or parts.chunks number no_chunk

-- the chunk that the file goes on in, and another one in its place
abbrev pub here_of : ChunksParts → Chunk
here_of parts = chunk_at parts parts.here

unfoldable pub with_here : ChunksParts → Chunk → ChunksParts
with_here parts chunk = record parts { chunks = slice_set parts.chunks parts.here chunk }

-- one more chunk
abbrev pub with_chunk : ChunksParts → Chunk → ChunksParts
with_chunk parts chunk = record parts { chunks = parts.chunks ++ chunk ∷ [] }

-- back in the chunk before
abbrev pub with_previous : ChunksParts → ChunksParts
with_previous parts = record parts { here = parts.before; before = parts.here }

-- the zeros of a common symbol
abbrev pub with_common : ℕ → ℕ → Chunk
with_common size align = record { kind = kinds.Common; size = size; align = align }

-- an answer by what it should be, with the chunks that it leaves; or out of memory
abbrev pub Fills : Result (Unit {0}) ChunkFault → ChunksParts → Result ChunksParts ChunkFault
    → Type 0
Fills (Ok done) new meaning = meaning ≡ Ok new
Fills (Err fault) new meaning = (fault ≡ NoMemory) ⊎ (meaning ≡ Err fault)

-- the number of one more chunk, or out of memory
abbrev pub Numbers : Result ℕ ChunkFault → ChunksParts → ChunksParts → Chunk → Type 0
Numbers (Ok number) old new chunk = (new ≡ with_chunk old chunk) × (number ≡ length old.chunks)
Numbers (Err fault) old new chunk = fault ≡ NoMemory
