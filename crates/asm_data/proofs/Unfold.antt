-- Names for `unfolding(..)` that open what their own line names.
use Rattle.std.specs.Prelude.{ℕ, List, Result}
use Rattle.cap_model.specs.values.CapValue.{CapValue}
use Rattle.asm_tokens.specs.declared.fault.AsmFaultKind.{AsmFaultKind}
use Rattle.asm_values.specs.declared.values.Value.{Value}
use Rattle.asm_layout.specs.declared.chunk.ChunkKind.{ChunkKind}
use Rattle.asm_places.specs.Capabilities.{ObjectsParts}
use Rattle.asm_files.specs.declared.fault.AssemblyFault.{AssemblyFault}
use Rattle.asm_late.specs.Late.{LateParts}
use Rattle.asm_data.specs.Data.{number_for, number_stored, capability_for, capability_stored, numbers_stored, capabilities_stored}
use Rattle.asm_data.specs.Strings.{strings_of, strings_stored, fill_stored}
use Rattle.asm_data.specs.Table.{entry_stored, table_stored}
use Rattle.asm_data.specs.Contents.{ContentsParts, unless_dropped, statement_put, file_put, files_put, contents_of}

unfoldable pub stores : ObjectsParts → ChunkKind → Value → Result CapValue AsmFaultKind
unfolding number_for number_stored capability_for capability_stored
stores objects kind value = capability_for objects kind value

unfoldable pub strings : LateParts → ℕ → ℕ → List CapValue → List CapValue
unfolding strings_of strings_stored fill_stored
strings late file number memory = fill_stored late file number memory

unfoldable pub table : LateParts → List CapValue → Result (List CapValue) AssemblyFault
unfolding entry_stored
table late memory = table_stored late memory

unfoldable pub contents : LateParts → Result ContentsParts AssemblyFault
unfolding numbers_stored capabilities_stored table_stored unless_dropped statement_put file_put files_put contents_of
contents late = contents_of late
