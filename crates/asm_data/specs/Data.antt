-- Numbers and capabilities in memory.
use Rattle.std.specs.Prelude.{ℕ, ◌==◌, if◌then◌else◌, List, Result, Ok, Err}
use Rattle.cap_model.specs.values.CapValue.{CapValue, raw}
use Rattle.asm_tokens.specs.declared.fault.AsmFaultKind.{AsmFaultKind}
use Rattle.asm_tokens.specs.declared.fault.AsmFaultKind.TheVariants.{Range, Section}
use Rattle.asm_tokens.specs.Faults.{◌>>=◌}
use Rattle.asm_values.specs.declared.values.Value.{Value}
use Rattle.asm_values.specs.declared.values.Value.TheVariants.{Number, At}
use Rattle.asm_layout.specs.declared.chunk.ChunkKind.{ChunkKind}
use Rattle.asm_layout.specs.declared.chunk.ChunkKind.TheVariants.{Zeros}
use Rattle.asm_layout.specs.Placement.{rank}
use Rattle.asm_statements.specs.declared.statement.Operand.{Operand}
use Rattle.asm_statements.specs.Statements.{StatementParts}
use Rattle.asm_places.specs.Places.{PlacesParts}
use Rattle.asm_places.specs.Places as places
use Rattle.asm_places.specs.Capabilities.{ObjectsParts, capability_of}
use Rattle.asm_files.specs.declared.fault.AssemblyFault.{AssemblyFault}
use Rattle.asm_files.specs.Steps.{each_from}
use Rattle.asm_late.specs.Late.{LateParts, operand_value, places_of, objects_of}
use Rattle.asm_code.specs.Standing.{kind_of, place_of, address_of, at_operand}
use Rattle.asm_memory.specs.Memory.{capability_put}
use Rattle.asm_memory.specs.Numbers.{is_in_width, number_put}

-- in zeros a value is the number 0
abbrev pub zero_or_section : Value → Result ℕ AsmFaultKind
zero_or_section (Number n) = if n == 0 then Ok 0 else Err Section
zero_or_section (At location) = Err Section

-- ---- numbers

abbrev pub in_width : ℕ → Result ℕ AsmFaultKind → Result ℕ AsmFaultKind
in_width width (Ok n) = if is_in_width width n then Ok n else Err Range
in_width width (Err kind) = Err kind

-- the number of a width that a value is, a place its address
unfoldable pub number_for : PlacesParts → ChunkKind → ℕ → Value → Result ℕ AsmFaultKind
number_for parts kind width value =
    if rank kind == rank Zeros then zero_or_section value
    else in_width width (places.address_of parts value)

-- one of a statement's numbers
unfoldable pub number_stored : LateParts → ℕ → ℕ → ℕ → ℕ → Operand → List CapValue
    → Result (List CapValue) AssemblyFault
number_stored late file number width item operand memory = do
  value ← operand_value late file number item (place_of late file number width item)
  n ← at_operand late file number item
      (number_for (places_of late) (kind_of late file number) width value)
  Ok (number_put memory (address_of late file number width item) width n)

unfoldable pub numbers_stored : LateParts → ℕ → ℕ → ℕ → StatementParts → List CapValue
    → Result (List CapValue) AssemblyFault
numbers_stored late file number width statement memory =
    each_from (number_stored late file number width) 0 statement.operands memory

-- ---- capabilities

-- the bytes of a capability
abbrev pub capability_width : ℕ
capability_width = 16

abbrev pub raw_zero : Result ℕ AsmFaultKind → Result CapValue AsmFaultKind
raw_zero (Ok n) = Ok (raw n)
raw_zero (Err kind) = Err kind

unfoldable pub capability_for : ObjectsParts → ChunkKind → Value → Result CapValue AsmFaultKind
capability_for objects kind value =
    if rank kind == rank Zeros then raw_zero (zero_or_section value)
    else capability_of objects value

unfoldable pub capability_stored : LateParts → ℕ → ℕ → ℕ → Operand → List CapValue
    → Result (List CapValue) AssemblyFault
capability_stored late file number item operand memory = do
  value ← operand_value late file number item (place_of late file number capability_width item)
  capability ← at_operand late file number item
      (capability_for (objects_of late) (kind_of late file number) value)
  Ok (capability_put memory (address_of late file number capability_width item) capability)

unfoldable pub capabilities_stored : LateParts → ℕ → ℕ → StatementParts → List CapValue
    → Result (List CapValue) AssemblyFault
capabilities_stored late file number statement memory =
    each_from (capability_stored late file number) 0 statement.operands memory
