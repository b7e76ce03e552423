-- Values that are known while a file is read: of names that were set before by such values, and of
-- places that labels before name.
use Rattle.std.specs.Prelude.{ℕ, ◌-◌, ◌==◌, nat_le, Bool, ◌&&◌, if◌then◌else◌, List, length, take}
use Rattle.std.specs.Prelude.{slice_get, slice_index, Option, Some, None, Result, Ok, Err}
use Rattle.asm_tokens.specs.declared.fault.AsmFault.{AsmFault}
use Rattle.asm_tokens.specs.declared.fault.AsmFaultKind.TheVariants.{Expression}
use Rattle.asm_tokens.specs.Faults.{no_memory}
use Rattle.asm_tokens.specs.Tokens.{TokenParts}
use Rattle.asm_values.specs.declared.values.Value.{Value}
use Rattle.asm_values.specs.declared.values.Value.TheVariants.{At}
use Rattle.asm_expressions.specs.declared.node.Node.{Node}
use Rattle.asm_expressions.specs.declared.node.NodeKind.{NodeKind}
use Rattle.asm_expressions.specs.declared.node.NodeKind.TheVariants as kinds
use Rattle.asm_expressions.specs.declared.values.ValueFault.{ValueFault}
use Rattle.asm_expressions.specs.declared.values.ValueFault.TheVariants.{Operator, Name, NoMemory}
use Rattle.asm_expressions.specs.Tokens.{text_at, fault_at}
use Rattle.asm_expressions.specs.Values.{value_of, meanings_of}
use Rattle.asm_chunks.specs.Chunks.{here_of}
use Rattle.asm_symbols.specs.declared.locals.Local.{Local}
use Rattle.asm_symbols.specs.Definitions.{DefinitionParts}
use Rattle.asm_symbols.specs.Locals.{last_local}
use Rattle.asm_drafts.specs.Drafts.{DraftParts}

-- the place where the file is
abbrev pub here_place : DraftParts → Value
here_place parts =
    At (record {
      chunk = parts.chunks.here;
      offset = (here_of parts.chunks).size;
      symbol = None;
    })

-- the value of a name, where it is known
abbrev pub early_of : Option DefinitionParts → Option Value
early_of (Some definition) = definition.early
early_of None = None

abbrev pub early_numbered : DraftParts → Option ℕ → Option Value
early_numbered parts (Some number) = early_of (slice_get parts.symbols.definitions number)
early_numbered parts None = None

unfoldable pub early_symbol : DraftParts → List ℕ → Option Value
early_symbol parts name = early_numbered parts (parts.symbols.own name)

-- the place of the last local label of a number
abbrev pub local_place : Option Local → Option Value
local_place (Some place) =
    Some (At (record { chunk = place.chunk; offset = place.offset; symbol = None }))
local_place None = None

abbrev pub local_numbered : DraftParts → Option ℕ → Option Value
local_numbered parts (Some number) = local_place (slice_get parts.locals.places number)
local_numbered parts None = None

abbrev pub looks_back : List ℕ → Bool
looks_back text = nat_le 1 (length text) && (slice_index text (length text - 1) == 0x62)

unfoldable pub early_local : DraftParts → List ℕ → Option Value
early_local parts text =
    if looks_back text
    then local_numbered parts (last_local parts.locals (take (length text - 1) text))
    else None

-- a value, or the token that has none
abbrev pub or_token : Option Value → ℕ → Result Value ℕ
or_token (Some value) at = Ok value
or_token None at = Err at

abbrev pub early_kind : List TokenParts → DraftParts → NodeKind → ℕ → Result Value ℕ
early_kind tokens parts kinds.Symbol at = or_token (early_symbol parts (text_at tokens at)) at
early_kind tokens parts kinds.Local at = or_token (early_local parts (text_at tokens at)) at
early_kind tokens parts kinds.Dot at = Ok (here_place parts)
early_kind tokens parts _ at = Err at

unfoldable pub early_named : List TokenParts → DraftParts → Node → Result Value ℕ
early_named tokens parts node = early_kind tokens parts node.kind node.at

-- no chunk has an address yet
abbrev pub not_apart : ℕ → ℕ → Option ℕ
not_apart to from = None

abbrev pub early_fault : List TokenParts → Result Value (ValueFault ℕ) → Result Value AsmFault
early_fault tokens (Ok value) = Ok value
early_fault tokens (Err (Operator at)) = Err (fault_at tokens Expression at)
early_fault tokens (Err (Name at)) = Err (fault_at tokens Expression at)
early_fault tokens (Err NoMemory) = Err no_memory

unfoldable pub early_value : List TokenParts → DraftParts → List Node → Result Value AsmFault
early_value tokens parts nodes =
    early_fault tokens (value_of (meanings_of (early_named tokens parts) not_apart) nodes)
