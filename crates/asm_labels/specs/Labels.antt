-- The first label of each instruction.
use Rattle.std.specs.Prelude.{ℕ, ◌+◌, ◌/◌, ◌==◌, nat_le, Bool, false, not, ◌&&◌, if◌then◌else◌}
use Rattle.std.specs.Prelude.{List, [], ◌∷◌, length, slice_index, slice_get, slice_set, option_map}
use Rattle.std.specs.Prelude.{Option, Some, None}
use Rattle.std.specs.Option.{is_none}
use Rattle.cheri_model.specs.declared.code.TheConstants.{CODE_BASE, INSTRUCTION_BYTES}
use Rattle.asm_layout.specs.declared.chunk.ChunkKind.TheVariants as kinds
use Rattle.asm_layout.specs.Placement.{rank}
use Rattle.asm_symbols.specs.declared.definitions.Meaning.{Meaning}
use Rattle.asm_symbols.specs.declared.definitions.Meaning.TheVariants.{Place, Assigned}
use Rattle.asm_symbols.specs.Definitions.{DefinitionParts}
use Rattle.asm_places.specs.Places.{PlacesParts, kind_of, address_in, behind}

-- whether a symbol of this name is told: all but those that begin with `.L`
unfoldable pub is_shown : List ℕ → Bool
is_shown name =
    not (nat_le 2 (length name) && (slice_index name 0 == 0x2E) && (slice_index name 1 == 0x4C))

-- the number of the instruction at an address
abbrev pub number_at : ℕ → ℕ
number_at address = behind address CODE_BASE / INSTRUCTION_BYTES

abbrev pub instruction_at : PlacesParts → List ℕ → Meaning → Option ℕ
instruction_at places name (Place chunk offset) =
    if is_shown name && (rank (kind_of places chunk) == rank kinds.Code)
    then option_map number_at (address_in places chunk offset)
    else None
instruction_at places name (Assigned statement) = None

-- the number of the instruction that a symbol is a label of, if it is a label in code that is told
unfoldable pub instruction_of : PlacesParts → DefinitionParts → Option ℕ
instruction_of places symbol = instruction_at places symbol.name symbol.meaning

-- whether an instruction has no label
abbrev pub is_free_at : Option (Option ℕ) → Bool
is_free_at (Some first) = is_none first
is_free_at None = false

abbrev pub is_free : List (Option ℕ) → ℕ → Bool
is_free firsts instruction = is_free_at (slice_get firsts instruction)

-- a label of an instruction that has none
abbrev pub label_put : List (Option ℕ) → ℕ → ℕ → List (Option ℕ)
label_put firsts instruction number =
    if is_free firsts instruction then slice_set firsts instruction (Some number) else firsts

-- the label that there is, or else the symbol of a number, if it is a label of this instruction
abbrev pub is_this : ℕ → Option ℕ → Bool
is_this n (Some instruction) = instruction == n
is_this n None = false

abbrev pub with_label : Option ℕ → ℕ → ℕ → Option ℕ → Option ℕ
with_label instruction number n (Some first) = Some first
with_label instruction number n None = if is_this n instruction then Some number else None

-- the first label of an instruction, by its number, of the symbols from a number on
unfoldable pub first_label : PlacesParts → ℕ → ℕ → List DefinitionParts → Option ℕ
first_label places n number [] = None
first_label places n number (symbol ∷ symbols) =
    if is_this n (instruction_of places symbol) then Some number
    else first_label places n (number + 1) symbols
