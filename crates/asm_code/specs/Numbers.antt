-- The number of an instruction's operand, by its source.
use Rattle.std.specs.Prelude.{ℕ, ◌/◌, ◌==◌, ◌&&◌, Bool, true, false, if◌then◌else◌, List, [], ◌∷◌}
use Rattle.std.specs.Prelude.{Option, Some, None, Result, Ok, Err}
use Rattle.cheri_model.specs.declared.code.TheConstants.{CODE_BASE, INSTRUCTION_BYTES}
use Rattle.asm_tokens.specs.declared.fault.AsmFaultKind.{AsmFaultKind}
use Rattle.asm_tokens.specs.declared.fault.AsmFaultKind.TheVariants.{Expression}
use Rattle.asm_tokens.specs.Faults.{◌>>=◌}
use Rattle.asm_values.specs.declared.values.Location.{Location}
use Rattle.asm_values.specs.declared.values.Value.{Value}
use Rattle.asm_values.specs.declared.values.Value.TheVariants.{Number, At}
use Rattle.asm_expressions.specs.declared.node.Node.{Node}
use Rattle.asm_expressions.specs.declared.node.NodeKind.{NodeKind}
use Rattle.asm_expressions.specs.declared.node.NodeKind.TheVariants.{Symbol, Local}
use Rattle.asm_layout.specs.declared.chunk.ChunkKind.TheVariants.{Code}
use Rattle.asm_layout.specs.Placement.{rank}
use Rattle.asm_places.specs.Places.{PlacesParts, behind, kind_of, target_of}
use Rattle.asm_places.specs.Places as places
use Rattle.asm_places.specs.Capabilities.{capability_of}
use Rattle.asm_drafts.specs.Operands.{nodes_of}
use Rattle.asm_statements.specs.Statements.{StatementParts}
use Rattle.asm_files.specs.declared.fault.AssemblyFault.{AssemblyFault}
use Rattle.asm_late.specs.Late.{LateParts, operand_value, symbol_value, entry_of, places_of}
use Rattle.asm_late.specs.Late.{objects_of, fault_of}
use Rattle.asm_instructions.specs.declared.origin.Origin.{Origin}
use Rattle.asm_instructions.specs.declared.source.Source.{Source}
use Rattle.asm_instructions.specs.declared.source.Source.TheVariants as sources
use Rattle.asm_code.specs.Standing.{stand_of, place_of, at_operand}
use Rattle.asm_code.specs.Heads.{place_distance, entry_distance, distance_at}

-- a value that has to be a number
abbrev pub plain_number : Value → Result ℕ AsmFaultKind
plain_number (Number n) = Ok n
plain_number (At location) = Err Expression

-- a label alone
abbrev pub is_label_kind : NodeKind → Bool
is_label_kind Symbol = true
is_label_kind Local = true
is_label_kind _ = false

abbrev pub is_label_alone : List Node → Bool
is_label_alone (node ∷ []) = is_label_kind node.kind
is_label_alone _ = false

-- the number of the instruction at a place in code
abbrev pub instruction_from : Result ℕ AsmFaultKind → Result ℕ AsmFaultKind
instruction_from (Ok address) = Ok (behind address CODE_BASE / INSTRUCTION_BYTES)
instruction_from (Err kind) = Err kind

unfoldable pub instruction_at : PlacesParts → Value → Result ℕ AsmFaultKind
instruction_at parts (Number n) = Err Expression
instruction_at parts (At location) =
    if rank (kind_of parts location.chunk) == rank Code
    then instruction_from (places.address_of parts (At location))
    else Err Expression

-- the instruction that a label names
abbrev pub labelled_instruction : PlacesParts → List Node → Value → Result ℕ AsmFaultKind
labelled_instruction parts nodes value =
    if is_label_alone nodes then instruction_at parts value else Err Expression

-- the distance of the instruction that an operand names
unfoldable pub named_distance : LateParts → List Origin → ℕ → ℕ → StatementParts → Value
    → Result ℕ AssemblyFault
named_distance late origins file number statement value = do
  index ← at_operand late file number 0
      (labelled_instruction (places_of late) (nodes_of statement 0) value)
  distance_at late origins (fault_of late file number 0 Expression) index

-- to an entry of the capability table, whose capability there has to be
unfoldable pub judged_entry : LateParts → ℕ → ℕ → Result ℕ AssemblyFault
judged_entry late file number = do
  entry ← entry_of late file number 0
  value ← symbol_value late entry.symbol
  capability ← at_operand late file number 0 (capability_of (objects_of late) value)
  entry_distance late file number

-- the value of a statement's operand
abbrev pub value_at : LateParts → ℕ → ℕ → Result Value AssemblyFault
value_at late file number =
    operand_value late file number 0 (place_of late file number 0 0)

-- the number of a statement's operand, by its source
unfoldable pub number_of : LateParts → List Origin → ℕ → ℕ → StatementParts → Source
    → Result ℕ AssemblyFault
number_of late origins file number statement sources.Constant =
    Ok (stand_of late file number).value
number_of late origins file number statement sources.Number =
    value_at late file number >>= λ value. at_operand late file number 0 (plain_number value)
number_of late origins file number statement sources.Address =
    value_at late file number
    >>= λ value. at_operand late file number 0 (places.address_of (places_of late) value)
number_of late origins file number statement sources.Distance = place_distance late file number
number_of late origins file number statement sources.Entry = judged_entry late file number
number_of late origins file number statement sources.Named =
    value_at late file number
    >>= λ value. named_distance late origins file number statement value
number_of late origins file number statement sources.Target =
    value_at late file number
    >>= λ value. at_operand late file number 0
    (target_of (places_of late) value late.linked.instructions)
