-- The contents of code and memory: what statements put there, one after another, and the table.
use Rattle.std.specs.Prelude.{ℕ, ◌==◌, Bool, true, false, if◌then◌else◌, List, Some, Result}
use Rattle.std.specs.Prelude.{Ok, Err}
use Rattle.cap_model.specs.values.CapValue.{CapValue}
use Rattle.cheri_model.specs.declared.memory.TheConstants.{MAX_RAM_BYTES}
use Rattle.cheri_model.specs.steps.Memory.{cleared_memory}
use Rattle.asm_tokens.specs.Faults.{◌>>=◌}
use Rattle.asm_layout.specs.declared.chunk.ChunkKind.TheVariants.{Dropped}
use Rattle.asm_layout.specs.Placement.{rank}
use Rattle.asm_statements.specs.declared.statement.Body.{Body}
use Rattle.asm_statements.specs.declared.statement.Body.TheVariants as bodies
use Rattle.asm_statements.specs.Statements.{StatementParts}
use Rattle.asm_files.specs.declared.fault.AssemblyFault.{AssemblyFault}
use Rattle.asm_files.specs.Programs.{FileParts}
use Rattle.asm_files.specs.Steps.{each_from}
use Rattle.asm_late.specs.Late.{LateParts, set_judged, size_judged}
use Rattle.asm_code.specs.Standing.{kind_of}
use Rattle.asm_code.specs.Code.{CodeParts, code_parts, operation_put}
use Rattle.asm_code.specs.Beginning.{code_begun}
use Rattle.asm_data.specs.declared.contents.Contents.{Contents}
use Rattle.asm_data.specs.Data.{numbers_stored, capabilities_stored}
use Rattle.asm_data.specs.Strings.{strings_stored, fill_stored}
use Rattle.asm_data.specs.Table.{table_stored}

-- code, and memory
pub record ContentsParts : Type 0 where
  pub code : CodeParts
  pub memory : List CapValue

abbrev pub contents_parts : Contents → ContentsParts
contents_parts contents = record { code = code_parts contents.code; memory = contents.memory }

abbrev pub with_code : ContentsParts → Result CodeParts AssemblyFault
    → Result ContentsParts AssemblyFault
with_code contents (Ok code) = Ok (record contents { code = code })
with_code contents (Err fault) = Err fault

abbrev pub with_memory : ContentsParts → Result (List CapValue) AssemblyFault
    → Result ContentsParts AssemblyFault
with_memory contents (Ok memory) = Ok (record contents { memory = memory })
with_memory contents (Err fault) = Err fault

-- what a statement puts into a chunk that is kept
abbrev pub kept_put : LateParts → ℕ → ℕ → StatementParts → ContentsParts → Body
    → Result ContentsParts AssemblyFault
kept_put late file number s contents (bodies.Instruction at (Some operation)) =
    with_code contents (operation_put late file number s operation contents.code)
kept_put late file number s contents (bodies.Data at width) =
    with_memory contents (numbers_stored late file number width s contents.memory)
kept_put late file number s contents (bodies.Chericap at) =
    with_memory contents (capabilities_stored late file number s contents.memory)
kept_put late file number s contents (bodies.Ascii at) =
    with_memory contents (Ok (strings_stored late file number s false contents.memory))
kept_put late file number s contents (bodies.Asciz at) =
    with_memory contents (Ok (strings_stored late file number s true contents.memory))
kept_put late file number s contents (bodies.Align at) =
    with_memory contents (Ok (fill_stored late file number contents.memory))
kept_put late file number s contents (bodies.Balign at) =
    with_memory contents (Ok (fill_stored late file number contents.memory))
kept_put late file number s contents (bodies.Zero at) =
    with_memory contents (Ok (fill_stored late file number contents.memory))
kept_put late file number s contents _ = Ok contents

unfoldable pub unless_dropped : LateParts → ℕ → ℕ → StatementParts → ContentsParts
    → Result ContentsParts AssemblyFault
unless_dropped late file number s contents =
    if rank (kind_of late file number) == rank Dropped then Ok contents
    else kept_put late file number s contents s.body

abbrev pub body_judged : LateParts → ℕ → ℕ → StatementParts → ContentsParts → Body
    → Result ContentsParts AssemblyFault
body_judged late file number s contents (bodies.Set at) =
    set_judged late file number >>= λ judged. Ok contents
body_judged late file number s contents (bodies.Size at) =
    size_judged late file number >>= λ judged. Ok contents
body_judged late file number s contents _ = unless_dropped late file number s contents

-- what a statement puts into code and memory; values and sizes of symbols are judged everywhere
unfoldable pub statement_put : LateParts → ℕ → ℕ → StatementParts → ContentsParts
    → Result ContentsParts AssemblyFault
statement_put late file number s contents = body_judged late file number s contents s.body

-- the statements of a file, and of all files
unfoldable pub file_put : LateParts → ℕ → FileParts → ContentsParts
    → Result ContentsParts AssemblyFault
file_put late file parts contents = each_from (statement_put late file) 0 parts.statements contents

unfoldable pub files_put : LateParts → ContentsParts → Result ContentsParts AssemblyFault
files_put late contents = each_from (file_put late) 0 late.program.files contents

abbrev pub contents_begun : LateParts → ContentsParts
contents_begun late = record { code = code_begun late; memory = cleared_memory MAX_RAM_BYTES }

-- the contents of code and memory, or the first fault
unfoldable pub contents_of : LateParts → Result ContentsParts AssemblyFault
contents_of late = do
  contents ← files_put late (contents_begun late)
  with_memory contents (table_stored late contents.memory)
