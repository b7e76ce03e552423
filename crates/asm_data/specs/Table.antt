-- The capability table in memory.
use Rattle.std.specs.Prelude.{ℕ, List, Result, Ok, Err}
use Rattle.cap_model.specs.values.CapValue.{CapValue}
use Rattle.asm_tokens.specs.declared.fault.AsmFaultKind.{AsmFaultKind}
use Rattle.asm_tokens.specs.Faults.{◌>>=◌}
use Rattle.asm_places.specs.Capabilities.{capability_of}
use Rattle.asm_files.specs.declared.fault.AssemblyFault.{AssemblyFault}
use Rattle.asm_files.specs.Steps.{each_from}
use Rattle.asm_late.specs.Late.{LateParts, symbol_value, objects_of}
use Rattle.asm_code.specs.Heads.{entry_address}
use Rattle.asm_memory.specs.Memory.{capability_put}

-- the capability of an entry; where there is none, its instructions were refused before
abbrev pub or_nowhere : {A : Type 0} → Result A AsmFaultKind → Result A AssemblyFault
or_nowhere (Ok a) = Ok a
or_nowhere (Err kind) =
    Err (record {
      file = 0;
      fault = record { kind = kind; place = record { line = 0; column = 0 } };
    })

unfoldable pub entry_stored : LateParts → ℕ → ℕ → List CapValue
    → Result (List CapValue) AssemblyFault
entry_stored late entry symbol memory = do
  value ← symbol_value late symbol
  capability ← or_nowhere (capability_of (objects_of late) value)
  Ok (capability_put memory (entry_address entry) capability)

unfoldable pub table_stored : LateParts → List CapValue → Result (List CapValue) AssemblyFault
table_stored late memory = each_from (entry_stored late) 0 late.linked.table.symbols memory
