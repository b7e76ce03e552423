-- Names for `unfolding(..)` that open what their own line names.
use Rattle.std.specs.Prelude.{ℕ, Result}
use Rattle.asm_tokens.specs.declared.fault.AsmFaultKind.{AsmFaultKind}
use Rattle.asm_expansions.specs.declared.operation.Operation.{Operation}
use Rattle.asm_values.specs.declared.values.Value.{Value}
use Rattle.asm_layout.specs.declared.chunk.ChunkKind.{ChunkKind}
use Rattle.asm_places.specs.Places.{PlacesParts}
use Rattle.asm_statements.specs.Statements.{StatementParts}
use Rattle.asm_files.specs.declared.fault.AssemblyFault.{AssemblyFault}
use Rattle.asm_late.specs.Late.{LateParts}
use Rattle.asm_code.specs.Standing.{kind_of, address_of, index_of}
use Rattle.asm_code.specs.Heads.{place_distance, entry_distance, source_at, distance_or, distance_at}
use Rattle.asm_code.specs.Numbers.{instruction_at, named_distance, judged_entry, number_of}
use Rattle.asm_code.specs.Code.{CodeParts, instructions_with, instructions_of, operation_put}
use Rattle.asm_code.specs.Beginning.{origin_of, statement_marked, file_marked, all_marked, code_begun}

unfoldable pub standing : LateParts → ℕ → ℕ → ChunkKind
unfolding kind_of address_of index_of
standing late file number = kind_of late file number

unfoldable pub heads : LateParts → ℕ → ℕ → Result ℕ AssemblyFault
unfolding place_distance entry_distance source_at distance_or distance_at
heads late file number = place_distance late file number

unfoldable pub numbers : PlacesParts → Value → Result ℕ AsmFaultKind
unfolding instruction_at named_distance judged_entry number_of
numbers parts value = instruction_at parts value

unfoldable pub code : LateParts → ℕ → ℕ → StatementParts → Operation → CodeParts → Result CodeParts AssemblyFault
unfolding instructions_with instructions_of operation_put
code late file number statement operation before = operation_put late file number statement operation before

unfoldable pub beginning : LateParts → CodeParts
unfolding origin_of statement_marked file_marked all_marked code_begun
beginning late = code_begun late
