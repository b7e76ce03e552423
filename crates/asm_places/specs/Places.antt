-- Addresses of places.
use Rattle.std.specs.Prelude.{ℕ, ◌+◌, ◌-◌, ◌/◌, ◌%◌, ◌^◌, ◌==◌, not, nat_lt, ◌||◌}
use Rattle.std.specs.Prelude.{if◌then◌else◌, List, slice_get, slice_index_or, Option, Some, None}
use Rattle.std.specs.Prelude.{Result, Ok, Err}
use Rattle.asm_tokens.specs.declared.fault.AsmFaultKind.{AsmFaultKind}
use Rattle.asm_tokens.specs.declared.fault.AsmFaultKind.TheVariants as faults
use Rattle.asm_values.specs.declared.values.Location.{Location}
use Rattle.asm_values.specs.declared.values.Value.{Value}
use Rattle.asm_values.specs.declared.values.Value.TheVariants.{Number, At}
use Rattle.cheri_model.specs.declared.code.TheConstants.{CODE_BASE, INSTRUCTION_BYTES}
use Rattle.asm_layout.specs.declared.chunk.Chunk.{Chunk}
use Rattle.asm_layout.specs.declared.chunk.ChunkKind.{ChunkKind}
use Rattle.asm_layout.specs.declared.chunk.ChunkKind.TheVariants as kinds
use Rattle.asm_layout.specs.Placement.{rank}
use Rattle.asm_places.specs.declared.places.Places.{Places}

-- the chunks of a program, and where each begins
pub record PlacesParts : Type 0 where
  pub chunks : List Chunk
  pub addresses : List ℕ

abbrev pub places_parts : Places → PlacesParts
places_parts places = record { chunks = places.chunks.now; addresses = places.addresses.now }

-- a step that may have no answer, and what follows it
abbrev pub then_some : {A B : Type 0} → Option A → (A → Option B) → Option B
then_some (Some x) next = next x
then_some None next = None

abbrev pub kind_or_dropped : Option Chunk → ChunkKind
kind_or_dropped (Some chunk) = chunk.kind
kind_or_dropped None = kinds.Dropped

unfoldable pub kind_of : PlacesParts → ℕ → ChunkKind
kind_of parts chunk = kind_or_dropped (slice_get parts.chunks chunk)

-- where a chunk begins, if it is kept
unfoldable pub chunk_address : PlacesParts → ℕ → Option ℕ
chunk_address parts chunk =
    if rank (kind_of parts chunk) == rank kinds.Dropped then None
    else slice_get parts.addresses chunk

unfoldable pub address_in : PlacesParts → ℕ → ℕ → Option ℕ
address_in parts chunk offset =
    then_some (chunk_address parts chunk) (λ start. Some ((start + offset) % 2 ^ 64))

abbrev pub or_section : Option ℕ → Result ℕ AsmFaultKind
or_section (Some address) = Ok address
or_section None = Err faults.Section

-- the number that a value is, a place its address
unfoldable pub address_of : PlacesParts → Value → Result ℕ AsmFaultKind
address_of parts (Number n) = Ok n
address_of parts (At location) = or_section (address_in parts location.chunk location.offset)

-- a number taken from another one, modulo 2^64
abbrev pub behind : ℕ → ℕ → ℕ
behind to from = (to + (2 ^ 64 - from)) % 2 ^ 64

-- how far the first of two chunks begins after the second one, if both are kept
unfoldable pub apart : PlacesParts → ℕ → ℕ → Option ℕ
apart parts to from =
    then_some (chunk_address parts to)
    (λ second. then_some (chunk_address parts from) (λ first. Some (behind second first)))

-- the instruction that is so many bytes behind the beginning of code, or its end
abbrev pub instruction_at : ℕ → ℕ → Result ℕ AsmFaultKind
instruction_at offset instructions =
    if not (offset % INSTRUCTION_BYTES == 0) || nat_lt instructions (offset / INSTRUCTION_BYTES)
    then Err faults.Range
    else Ok (offset / INSTRUCTION_BYTES)

abbrev pub target_at : PlacesParts → Location → ℕ → Result ℕ AsmFaultKind → Result ℕ AsmFaultKind
target_at parts location instructions (Ok address) =
    if rank (kind_of parts location.chunk) == rank kinds.Code
    then instruction_at (behind address CODE_BASE) instructions
    else Err faults.Range
target_at parts location instructions (Err fault) = Err fault

-- the number of the instruction that a branch goes to
unfoldable pub target_of : PlacesParts → Value → ℕ → Result ℕ AsmFaultKind
target_of parts (Number n) instructions = Err faults.Expression
target_of parts (At location) instructions =
    target_at parts location instructions (address_of parts (At location))
