-- Where statements stand, once everything has its address.
use Rattle.std.specs.Prelude.{ℕ, ◌+◌, ◌*◌, ◌/◌, ◌%◌, ◌^◌, slice_index_or, None, Result, Ok, Err}
use Rattle.cheri_model.specs.declared.code.TheConstants.{CODE_BASE, INSTRUCTION_BYTES}
use Rattle.asm_tokens.specs.declared.fault.AsmFaultKind.{AsmFaultKind}
use Rattle.asm_values.specs.declared.values.Location.{Location}
use Rattle.asm_layout.specs.declared.chunk.ChunkKind.{ChunkKind}
use Rattle.asm_places.specs.Places.{behind}
use Rattle.asm_places.specs.Places as places
use Rattle.asm_files.specs.declared.fault.AssemblyFault.{AssemblyFault}
use Rattle.asm_files.specs.declared.stand.Stand.{Stand}
use Rattle.asm_files.specs.Programs.{stand_in}
use Rattle.asm_late.specs.Late.{LateParts, places_of, fault_of}

-- a statement, by its number in its file: where it stands, and the kind of its chunk
abbrev pub stand_of : LateParts → ℕ → ℕ → Stand
stand_of late file number = stand_in late.program file number

unfoldable pub kind_of : LateParts → ℕ → ℕ → ChunkKind
kind_of late file number = places.kind_of (places_of late) (stand_of late file number).chunk

-- of items of a width that begin with the statement, the place of the item of a number
abbrev pub offset_of : Stand → ℕ → ℕ → ℕ
offset_of stand width item = (stand.offset + width * item) % 2 ^ 64

abbrev pub place_of : LateParts → ℕ → ℕ → ℕ → ℕ → Location
place_of late file number width item =
    let stand = stand_of late file number in
    record { chunk = stand.chunk; offset = offset_of stand width item; symbol = None }

-- and its address
unfoldable pub address_of : LateParts → ℕ → ℕ → ℕ → ℕ → ℕ
address_of late file number width item =
    let stand = stand_of late file number in
    (slice_index_or late.linked.layout.addresses stand.chunk 0 + offset_of stand width item)
    % 2 ^ 64

-- the number of its first instruction
unfoldable pub index_of : LateParts → ℕ → ℕ → ℕ
index_of late file number =
    behind (address_of late file number 0 0) CODE_BASE / INSTRUCTION_BYTES

-- what an operand is, or what is wrong with it, at its first token
abbrev pub at_operand : {A : Type 0} → LateParts → ℕ → ℕ → ℕ → Result A AsmFaultKind
    → Result A AssemblyFault
at_operand late file number operand (Ok a) = Ok a
at_operand late file number operand (Err kind) = Err (fault_of late file number operand kind)
