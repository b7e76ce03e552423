-- Lines of symbols in memory, and of the capability table.
use Rattle.std.specs.Prelude.{ℕ, ◌+◌, ◌*◌, ◌==◌, if◌then◌else◌, List, [], ◌∷◌}
use Rattle.std.specs.Prelude.{Option, Some, None}
use Rattle.cheri_model.specs.declared.memory.TheConstants.{RAM_BASE}
use Rattle.asm_layout.specs.declared.chunk.ChunkKind.TheVariants as kinds
use Rattle.asm_layout.specs.Placement.{rank}
use Rattle.asm_symbols.specs.declared.definitions.Meaning.{Meaning}
use Rattle.asm_symbols.specs.declared.definitions.Meaning.TheVariants.{Place, Assigned}
use Rattle.asm_symbols.specs.Definitions.{DefinitionParts}
use Rattle.asm_places.specs.Places.{kind_of, address_in}
use Rattle.asm_places.specs.Capabilities.{ObjectsParts, length_of}
use Rattle.asm_labels.specs.Labels.{is_shown}
use Rattle.asm_mapping.specs.Lines.{LineParts, symbol, entry, shown_text}
use Rattle.asm_mapping.specs.Code.{name_of}

abbrev pub memory_address : ObjectsParts → Meaning → Option ℕ
memory_address objects (Place chunk offset) =
    if rank (kind_of objects.places chunk) == rank kinds.Code then None
    else address_in objects.places chunk offset
memory_address objects (Assigned statement) = None

-- the address of a symbol in memory
unfoldable pub kept_address : ObjectsParts → DefinitionParts → Option ℕ
kept_address objects definition = memory_address objects definition.meaning

abbrev pub line_at : ObjectsParts → ℕ → List ℕ → Option ℕ → List LineParts
line_at objects number name (Some addr) =
    symbol addr (length_of objects number) (shown_text name) ∷ []
line_at objects number name None = []

-- the line of a symbol, if it is in memory and told
unfoldable pub symbol_lines : ObjectsParts → ℕ → DefinitionParts → List LineParts
symbol_lines objects number definition =
    if is_shown definition.name
    then line_at objects number definition.name (kept_address objects definition)
    else []

-- the line of an entry of the capability table, by its number and its symbol
abbrev pub table_lines : List DefinitionParts → ℕ → ℕ → List LineParts
table_lines symbols number symbol_number =
    entry (RAM_BASE + 16 * number) (name_of symbols symbol_number) ∷ []
