-- Capabilities of places.
use Rattle.std.specs.Prelude.{ℕ, ◌==◌, if◌then◌else◌, List, map, slice_get, slice_index_or}
use Rattle.std.specs.Prelude.{Option, Some, None, Result, Ok, Err}
use Rattle.cap_model.specs.values.CapValue.{CapValue, raw}
use Rattle.cap_ops.specs.declared.making.MakeFault.{MakeFault}
use Rattle.asm_tokens.specs.declared.fault.AsmFaultKind.{AsmFaultKind}
use Rattle.asm_tokens.specs.declared.fault.AsmFaultKind.TheVariants as faults
use Rattle.asm_values.specs.declared.values.Location.{Location}
use Rattle.asm_values.specs.declared.values.Value.{Value}
use Rattle.asm_values.specs.declared.values.Value.TheVariants.{Number, At}
use Rattle.asm_capabilities.specs.declared.code.Reach.{Reach}
use Rattle.asm_capabilities.specs.declared.data.DataKind.{DataKind}
use Rattle.asm_capabilities.specs.declared.data.DataKind.TheVariants as data_kinds
use Rattle.asm_capabilities.specs.Capabilities.{sentry_at, data_at}
use Rattle.asm_layout.specs.declared.chunk.ChunkKind.{ChunkKind}
use Rattle.asm_layout.specs.declared.chunk.ChunkKind.TheVariants as kinds
use Rattle.asm_layout.specs.Placement.{rank}
use Rattle.asm_symbols.specs.declared.definitions.Meaning.{Meaning}
use Rattle.asm_symbols.specs.declared.definitions.Meaning.TheVariants.{Place, Assigned}
use Rattle.asm_symbols.specs.Definitions.{DefinitionParts, definition_parts}
use Rattle.asm_places.specs.declared.capabilities.Objects.{Objects}
use Rattle.asm_places.specs.Places.{PlacesParts, places_parts, kind_of, address_in, address_of}

-- the symbols of a program, with the bytes of each, and what code reaches
pub record ObjectsParts : Type 0 where
  pub places : PlacesParts
  pub symbols : List DefinitionParts
  pub lengths : List ℕ
  pub reach : Reach

abbrev pub objects_parts : Objects → ObjectsParts
objects_parts o =
    record {
      places = places_parts o.places;
      symbols = map definition_parts o.symbols.now;
      lengths = o.lengths.now;
      reach = o.reach;
    }

-- a capability that was made, or that there is none
abbrev pub made_or : Result CapValue MakeFault → Result CapValue AsmFaultKind
made_or (Ok value) = Ok value
made_or (Err refusal) = Err faults.Capability

abbrev pub kept_kind : ChunkKind → DataKind
kept_kind kinds.ReadOnly = data_kinds.ReadOnly
kept_kind _ = data_kinds.Writable

-- where a symbol begins, if it is a place
abbrev pub place_in : Meaning → Option (ℕ × ℕ)
place_in (Place chunk offset) = Some (chunk, offset)
place_in (Assigned statement) = None

abbrev pub place_or_none : Option DefinitionParts → Option (ℕ × ℕ)
place_or_none (Some definition) = place_in definition.meaning
place_or_none None = None

unfoldable pub place_of : ObjectsParts → ℕ → Option (ℕ × ℕ)
place_of objects symbol = place_or_none (slice_get objects.symbols symbol)

abbrev pub length_of : ObjectsParts → ℕ → ℕ
length_of objects symbol = slice_index_or objects.lengths symbol 0

-- the capability of the bytes from a base on, at an address
abbrev pub data_from : ObjectsParts → ℕ → ℕ → ℕ → Option ℕ → Result CapValue AsmFaultKind
data_from objects symbol chunk address (Some base) =
    made_or
    (data_at (kept_kind (kind_of objects.places chunk)) base (length_of objects symbol) address)
data_from objects symbol chunk address None = Err faults.Section

abbrev pub data_in : ObjectsParts → ℕ → ℕ → Option (ℕ × ℕ) → Result CapValue AsmFaultKind
data_in objects symbol address (Some place) =
    data_from objects symbol place.0 address (address_in objects.places place.0 place.1)
data_in objects symbol address None = Err faults.Expression

-- the capability of a symbol's bytes
unfoldable pub data_of : ObjectsParts → ℕ → ℕ → Result CapValue AsmFaultKind
data_of objects symbol address = data_in objects symbol address (place_of objects symbol)

abbrev pub symbol_data : ObjectsParts → ℕ → Option ℕ → Result CapValue AsmFaultKind
symbol_data objects address (Some symbol) = data_of objects symbol address
symbol_data objects address None = Err faults.Expression

-- a sentry of code, or the capability of a symbol
abbrev pub capability_at : ObjectsParts → Location → Result ℕ AsmFaultKind
    → Result CapValue AsmFaultKind
capability_at objects location (Ok address) =
    if rank (kind_of objects.places location.chunk) == rank kinds.Code
    then made_or (sentry_at objects.reach address)
    else symbol_data objects address location.symbol
capability_at objects location (Err fault) = Err fault

-- of a number the integer, without a tag
unfoldable pub capability_of : ObjectsParts → Value → Result CapValue AsmFaultKind
capability_of objects (Number n) = Ok (raw n)
capability_of objects (At location) =
    capability_at objects location (address_of objects.places (At location))
