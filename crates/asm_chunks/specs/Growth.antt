-- What is put into the chunk that a file goes on in.
use Rattle.std.specs.Prelude.{◌≡◌, ◌⊎◌, ℕ, ◌+◌, nat_lt, max, if◌then◌else◌, Option, Some, None}
use Rattle.std.specs.Prelude.{Result, Ok, Err}
use Rattle.asm_layout.specs.declared.chunk.Chunk.{Chunk}
use Rattle.asm_layout.specs.declared.chunk.ChunkKind.{ChunkKind}
use Rattle.asm_layout.specs.declared.chunk.ChunkKind.TheVariants as kinds
use Rattle.asm_layout.specs.Placement.{padding}
use Rattle.asm_chunks.specs.declared.growth.TheConstants.{MAX_CHUNK, MAX_CODE_CHUNK}
use Rattle.asm_chunks.specs.declared.fault.ChunkFault.{ChunkFault}
use Rattle.asm_chunks.specs.declared.fault.ChunkFault.TheVariants.{Size, NoMemory}
use Rattle.asm_chunks.specs.Chunks.{ChunksParts, here_of, with_here}

-- the most bytes of a chunk of a kind
abbrev pub limit_of : ChunkKind → ℕ
limit_of kinds.Code = MAX_CODE_CHUNK
limit_of _ = MAX_CHUNK

abbrev pub with_size : Chunk → ℕ → Chunk
with_size chunk size = record { kind = chunk.kind; size = size; align = chunk.align }

-- so many bytes more
unfoldable pub grown : ChunksParts → ℕ → Result ChunksParts ChunkFault
grown parts count =
    let chunk = here_of parts in
    if nat_lt (limit_of chunk.kind) (chunk.size + count) then Err Size
    else Ok (with_here parts (with_size chunk (chunk.size + count)))

abbrev pub with_align : Chunk → ℕ → Chunk
with_align chunk unit =
    record { kind = chunk.kind; size = chunk.size; align = max chunk.align unit }

unfoldable pub raised : ChunksParts → ℕ → ChunksParts
raised parts unit = with_here parts (with_align (here_of parts) unit)

-- how many bytes of padding go to the end of a chunk: none where they are more than the most
abbrev pub at_most : ℕ → Option ℕ → ℕ
at_most pad (Some most) = if nat_lt most pad then 0 else pad
at_most pad None = pad

abbrev pub padding_of : Chunk → ℕ → Option ℕ → ℕ
padding_of chunk unit most = at_most (padding chunk.size (max unit 1)) most

-- padded to a multiple of a unit; the alignment rises either way
unfoldable pub padded : ChunksParts → ℕ → Option ℕ → Result ChunksParts ChunkFault
padded parts unit most = grown (raised parts unit) (padding_of (here_of parts) unit most)

-- how many bytes that took, with the chunks that it leaves, or its fault
abbrev pub Pads : Result ℕ ChunkFault → ChunksParts → ChunksParts → ℕ → Option ℕ → Type 0
Pads (Ok count) old new unit most =
    (padded old unit most ≡ Ok new) × (count ≡ padding_of (here_of old) unit most)
Pads (Err fault) old new unit most = (fault ≡ NoMemory) ⊎ (padded old unit most ≡ Err fault)
