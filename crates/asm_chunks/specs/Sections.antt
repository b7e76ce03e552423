-- Sections: the chunk that a file goes on in.
use Rattle.std.specs.Prelude.{◌≡◌, ℕ, ◌==◌, if◌then◌else◌, List, length, replicate}
use Rattle.std.specs.Prelude.{slice_index_or, slice_set, Option, Some, None, Result, Ok, Err}
use Rattle.asm_layout.specs.declared.chunk.Chunk.{Chunk}
use Rattle.asm_layout.specs.declared.chunk.ChunkKind.{ChunkKind}
use Rattle.asm_layout.specs.declared.chunk.ChunkKind.TheVariants as kinds
use Rattle.asm_layout.specs.Placement.{rank}
use Rattle.asm_names.specs.declared.sections.SectionKind.{SectionKind}
use Rattle.asm_names.specs.declared.sections.SectionKind.TheVariants as sections
use Rattle.asm_chunks.specs.declared.fault.ChunkFault.{ChunkFault}
use Rattle.asm_chunks.specs.declared.fault.ChunkFault.TheVariants.{Section, NoMemory}
use Rattle.asm_chunks.specs.Chunks.{ChunksParts, chunk_at, with_chunk}

abbrev pub chunk_kind : SectionKind → ChunkKind
chunk_kind sections.Code = kinds.Code
chunk_kind sections.ReadOnly = kinds.ReadOnly
chunk_kind sections.ReadWrite = kinds.ReadWrite
chunk_kind sections.Zeros = kinds.Zeros
chunk_kind sections.Dropped = kinds.Dropped

-- instructions have 4 bytes, at multiples of 4
abbrev pub opening_align : ChunkKind → ℕ
opening_align kinds.Code = 4
opening_align _ = 1

abbrev pub opening_chunk : ChunkKind → Chunk
opening_chunk kind = record { kind = kind; size = 0; align = opening_align kind }

-- the chunk that this file puts into a section, if it has begun one
abbrev pub own_chunk : ChunksParts → ℕ → Option ℕ
own_chunk parts section = slice_index_or parts.own section None

abbrev pub kind_of : ChunksParts → ℕ → ChunkKind
kind_of parts number = (chunk_at parts number).kind

-- what flags say; else as before in this file; else what the name says
abbrev pub kind_before : ChunksParts → Option ℕ → SectionKind → ChunkKind
kind_before parts (Some number) named = kind_of parts number
kind_before parts None named = chunk_kind named

abbrev pub kind_by : ChunksParts → ℕ → Option SectionKind → SectionKind → ChunkKind
kind_by parts section (Some kind) named = chunk_kind kind
kind_by parts section None named = kind_before parts (own_chunk parts section) named

unfoldable pub kind_in : ChunksParts → ℕ → Option SectionKind → SectionKind → ChunkKind
kind_in parts section flags named = kind_by parts section flags named

-- a chunk of this file begun in a section
unfoldable pub added : ChunksParts → ℕ → ChunkKind → ChunksParts
added parts section kind =
    record (with_chunk parts (opening_chunk kind)) {
      own = slice_set parts.own section (Some (length parts.chunks));
    }

-- the file goes on in a chunk
abbrev pub gone_to : ChunksParts → ℕ → ChunksParts
gone_to parts number = record parts { here = number; before = parts.here }

-- in the chunk that there is, if it has the kind; else in a new one
abbrev pub entered_by : ChunksParts → ℕ → ChunkKind → Option ℕ → Result ChunksParts ChunkFault
entered_by parts section kind (Some number) =
    if rank (kind_of parts number) == rank kind then Ok (gone_to parts number) else Err Section
entered_by parts section kind None =
    Ok (gone_to (added parts section kind) (length parts.chunks))

unfoldable pub entered : ChunksParts → ℕ → Option SectionKind → SectionKind
    → Result ChunksParts ChunkFault
entered parts section flags named =
    entered_by parts section (kind_in parts section flags named) (own_chunk parts section)

-- a file begins in its section of code, with no other chunk
abbrev pub fresh : ChunksParts → ℕ → ChunksParts
fresh parts count = record parts { own = replicate count None }

unfoldable pub begun : ChunksParts → ℕ → ℕ → Result ChunksParts ChunkFault
begun parts count text =
    Ok (record (added (fresh parts count) text kinds.Code) {
      here = length parts.chunks;
      before = length parts.chunks;
    })

-- the number of a chunk that was begun, or out of memory
abbrev pub Adds : Result ℕ ChunkFault → ChunksParts → ChunksParts → ℕ → ChunkKind → Type 0
Adds (Ok number) old new section kind =
    (new ≡ added old section kind) × (number ≡ length old.chunks)
Adds (Err fault) old new section kind = fault ≡ NoMemory
