-- Sections that have one kind in all files.
use Rattle.std.specs.Prelude.{ℕ, ◌==◌, if◌then◌else◌, List, slice_get, slice_set}
use Rattle.std.specs.Prelude.{replicate, Option, Some, None, Result, Ok, Err}
use Rattle.asm_tokens.specs.declared.fault.AsmFaultKind.TheVariants as faults
use Rattle.asm_layout.specs.declared.chunk.Chunk.{Chunk}
use Rattle.asm_layout.specs.declared.chunk.ChunkKind.{ChunkKind}
use Rattle.asm_layout.specs.declared.chunk.ChunkKind.TheVariants as kinds
use Rattle.asm_layout.specs.Placement.{rank}
use Rattle.asm_files.specs.declared.fault.AssemblyFault.{AssemblyFault}
use Rattle.asm_files.specs.Faults.{whole_file}
use Rattle.asm_files.specs.Programs.{ProgramParts}
use Rattle.asm_files.specs.Steps.{each_from}

-- the kind of a chunk
abbrev pub kind_or_dropped : Option Chunk → ChunkKind
kind_or_dropped (Some chunk) = chunk.kind
kind_or_dropped None = kinds.Dropped

unfoldable pub kind_of : List Chunk → ℕ → ChunkKind
kind_of chunks number = kind_or_dropped (slice_get chunks number)

-- a kind of a section that has one in a file before, or none
abbrev pub kind_judged : ℕ → ℕ → ChunkKind → List (Option ChunkKind) → Option (Option ChunkKind)
    → Result (List (Option ChunkKind)) AssemblyFault
kind_judged file section kind known (Some (Some before)) =
    if rank before == rank kind then Ok known else Err (whole_file file faults.Section)
kind_judged file section kind known (Some None) = Ok (slice_set known section (Some kind))
kind_judged file section kind known None = Ok known

abbrev pub own_by : List Chunk → ℕ → ℕ → List (Option ChunkKind) → Option ℕ
    → Result (List (Option ChunkKind)) AssemblyFault
own_by chunks file section known (Some number) =
    kind_judged file section (kind_of chunks number) known (slice_get known section)
own_by chunks file section known None = Ok known

-- the chunk that a file puts into a section, if it has one
unfoldable pub own_judged : List Chunk → ℕ → ℕ → Option ℕ → List (Option ChunkKind)
    → Result (List (Option ChunkKind)) AssemblyFault
own_judged chunks file section own known = own_by chunks file section known own

-- the chunks of a file, by their sections, and of all files
unfoldable pub row_judged : List Chunk → ℕ → List (Option ℕ) → List (Option ChunkKind)
    → Result (List (Option ChunkKind)) AssemblyFault
row_judged chunks file row known = each_from (own_judged chunks file) 0 row known

unfoldable pub rows_judged : List Chunk → List (List (Option ℕ)) → List (Option ChunkKind)
    → Result (List (Option ChunkKind)) AssemblyFault
rows_judged chunks rows known = each_from (row_judged chunks) 0 rows known

-- each file puts chunks of the same kinds into sections as the files before it
abbrev pub only_judged : Result (List (Option ChunkKind)) AssemblyFault
    → Result (Unit {0}) AssemblyFault
only_judged (Ok known) = Ok tt
only_judged (Err fault) = Err fault

unfoldable pub sections_judged : ProgramParts → Result (Unit {0}) AssemblyFault
sections_judged program =
    only_judged
    (rows_judged program.made.chunks program.made.rows (replicate program.sections None))
