-- Instructions with the upper part of a distance, which others name for its lower part.
use Rattle.std.specs.Prelude.{ℕ, ◌+◌, ◌*◌, ◌%◌, ◌^◌, ◌==◌, if◌then◌else◌, List, slice_get}
use Rattle.std.specs.Prelude.{Option, Some, None, Result, Ok, Err}
use Rattle.cheri_model.specs.declared.memory.TheConstants.{RAM_BASE, GRANULE_BYTES}
use Rattle.asm_tokens.specs.declared.fault.AsmFaultKind.{AsmFaultKind}
use Rattle.asm_tokens.specs.declared.fault.AsmFaultKind.TheVariants.{Expression}
use Rattle.asm_tokens.specs.Faults.{◌>>=◌}
use Rattle.asm_expansions.specs.declared.operation.Operation.{Operation}
use Rattle.asm_values.specs.declared.values.Value.{Value}
use Rattle.asm_values.specs.declared.values.Value.TheVariants.{Number, At}
use Rattle.asm_statements.specs.declared.statement.Body.{Body}
use Rattle.asm_statements.specs.declared.statement.Body.TheVariants.{Instruction}
use Rattle.asm_statements.specs.declared.statement.Operand.{Operand}
use Rattle.asm_statements.specs.Statements.{StatementParts}
use Rattle.asm_places.specs.Places.{behind, PlacesParts}
use Rattle.asm_places.specs.Places as places
use Rattle.asm_files.specs.declared.fault.AssemblyFault.{AssemblyFault}
use Rattle.asm_files.specs.Programs.{statement_at}
use Rattle.asm_late.specs.Late.{LateParts, operand_value, entry_of, places_of}
use Rattle.asm_instructions.specs.declared.origin.Origin.{Origin}
use Rattle.asm_instructions.specs.declared.source.Source.{Source}
use Rattle.asm_instructions.specs.declared.source.Source.TheVariants as sources
use Rattle.asm_instructions.specs.Sources.{source_of}
use Rattle.asm_code.specs.Standing.{place_of, address_of, index_of, at_operand}

-- ---- distances

-- the address of a place; a number is none
abbrev pub place_address : PlacesParts → Value → Result ℕ AsmFaultKind
place_address parts (Number n) = Err Expression
place_address parts (At location) = places.address_of parts (At location)

-- from a statement to the place that its operand is
unfoldable pub place_distance : LateParts → ℕ → ℕ → Result ℕ AssemblyFault
place_distance late file number = do
  value ← operand_value late file number 0 (place_of late file number 0 0)
  address ← at_operand late file number 0 (place_address (places_of late) value)
  Ok (behind address (address_of late file number 0 0))

-- from a statement to an entry of the capability table
abbrev pub entry_address : ℕ → ℕ
entry_address entry = (RAM_BASE + GRANULE_BYTES * entry) % 2 ^ 64

unfoldable pub entry_distance : LateParts → ℕ → ℕ → Result ℕ AssemblyFault
entry_distance late file number = do
  entry ← entry_of late file number 0
  Ok (behind (entry_address entry.entry) (address_of late file number 0 0))

-- ---- the statement with the upper part of a distance

abbrev pub operation_of : Body → Option Operation
operation_of (Instruction at operation) = operation
operation_of _ = None

abbrev pub or_no_source : {F : Type 0} → Result Source F → Option Source
or_no_source (Ok source) = Some source
or_no_source (Err fault) = None

abbrev pub operand_source : Option Operation → Option Operand → Option Source
operand_source (Some operation) (Some operand) = or_no_source (source_of operation operand)
operand_source _ _ = None

abbrev pub statement_source : Option StatementParts → Option Source
statement_source (Some statement) =
    operand_source (operation_of statement.body) (slice_get statement.operands 0)
statement_source None = None

unfoldable pub source_at : LateParts → ℕ → ℕ → Option Source
source_at late file number = statement_source (statement_at late.program file number)

-- the distance of a statement with the upper part of one; of another one this fault
abbrev pub distance_by : LateParts → AssemblyFault → ℕ → ℕ → Option Source → Result ℕ AssemblyFault
distance_by late fault file number (Some sources.Distance) = place_distance late file number
distance_by late fault file number (Some sources.Entry) = entry_distance late file number
distance_by late fault file number _ = Err fault

unfoldable pub distance_or : LateParts → AssemblyFault → ℕ → ℕ → Result ℕ AssemblyFault
distance_or late fault file number =
    distance_by late fault file number (source_at late file number)

-- the same of the statement whose first instruction is the one of a number
abbrev pub distance_begun : LateParts → AssemblyFault → ℕ → ℕ → Option ℕ → Result ℕ AssemblyFault
distance_begun late fault index file (Some number) =
    if index_of late file number == index then distance_or late fault file number
    else Err fault
distance_begun late fault index file None = Err fault

abbrev pub distance_from : LateParts → AssemblyFault → ℕ → Option Origin → Result ℕ AssemblyFault
distance_from late fault index (Some origin) =
    distance_begun late fault index origin.file origin.statement
distance_from late fault index None = Err fault

unfoldable pub distance_at : LateParts → List Origin → AssemblyFault → ℕ → Result ℕ AssemblyFault
distance_at late origins fault index =
    distance_from late fault index (slice_get origins index)
