-- Questions to a program that is linked.
use Rattle.std.specs.Prelude.{ℕ, ◌+◌, ◌==◌, if◌then◌else◌, List, slice_get}
use Rattle.std.specs.Prelude.{Option, Some, None, Result, Ok, Err}
use Rattle.asm_tokens.specs.declared.fault.AsmFaultKind.{AsmFaultKind}
use Rattle.asm_tokens.specs.declared.fault.AsmFaultKind.TheVariants as faults
use Rattle.asm_tokens.specs.Faults.{◌>>=◌}
use Rattle.asm_values.specs.declared.values.Location.{Location}
use Rattle.asm_values.specs.declared.values.Value.{Value}
use Rattle.asm_expressions.specs.Tokens.{text_at}
use Rattle.asm_places.specs.Capabilities.{ObjectsParts}
use Rattle.asm_places.specs.Places.{PlacesParts}
use Rattle.asm_statements.specs.declared.statement.Body.{Body}
use Rattle.asm_statements.specs.declared.statement.Body.TheVariants as bodies
use Rattle.asm_statements.specs.Statements.{StatementParts}
use Rattle.asm_symbols.specs.Definitions.{DefinitionParts}
use Rattle.asm_files.specs.declared.fault.AssemblyFault.{AssemblyFault}
use Rattle.asm_files.specs.Programs.{ProgramParts, program_parts, own_in, statement_at, tokens_in}
use Rattle.asm_chains.specs.declared.scene.LateFault.{LateFault}
use Rattle.asm_chains.specs.Scenes.{SceneParts}
use Rattle.asm_chains.specs.Tables.{late_value, late_symbol}
use Rattle.asm_late.specs.declared.late.Late.{Late}
use Rattle.asm_late.specs.declared.late.Entry.{Entry}
use Rattle.asm_late.specs.Lengths.{most_by, rest_by, size_in}
use Rattle.asm_late.specs.Linked.{LinkedParts, linked_parts, places_by}
use Rattle.asm_tables.specs.Entries.{entry_symbol}
use Rattle.asm_tables.specs.Names.{named, nodes_in}
use Rattle.asm_late.specs.Scene.{scene_of, setting_of}
use Rattle.asm_late.specs.Values.{in_files, operand_fault, setting_at, token_fault}

pub record LateParts : Type 0 where
  pub program : ProgramParts
  pub linked : LinkedParts

abbrev pub late_parts : Late → LateParts
late_parts late =
    record { program = program_parts late.program.now; linked = linked_parts late.linked.now }

-- the chunks with their addresses, and the symbols with their bytes
unfoldable pub places_of : LateParts → PlacesParts
places_of late = places_by late.program late.linked.layout

unfoldable pub objects_of : LateParts → ObjectsParts
objects_of late =
    record {
      places = places_of late;
      symbols = late.program.made.symbols;
      lengths = late.linked.lengths;
      reach = late.linked.reach;
    }

unfoldable pub scene_in : LateParts → SceneParts
scene_in late = scene_of late.program late.linked.seen (places_of late)

-- the symbol that a name means in a file
unfoldable pub symbol_named_in : LateParts → ℕ → List ℕ → Option ℕ
symbol_named_in late file name = named late.program late.linked.seen file name

-- a fault at a token, and at the first token of an operand
unfoldable pub fault_of : LateParts → ℕ → ℕ → ℕ → AsmFaultKind → AssemblyFault
fault_of late file statement operand kind = operand_fault late.program file statement operand kind

-- the value of an operand, with this place as `.`
unfoldable pub operand_value : LateParts → ℕ → ℕ → ℕ → Location → Result Value AssemblyFault
operand_value late file statement operand dot =
    in_files late.program
    (late_value (scene_in late) late.linked.values (setting_at file statement dot)
    (nodes_in late.program file statement operand))

-- the value of a symbol; a fault of its own name is at the token that defines it
abbrev pub name_fault : Option DefinitionParts → LateFault
name_fault (Some symbol) =
    record { file = symbol.file; kind = faults.Expression; at = symbol.token }
name_fault None = record { file = 0; kind = faults.Expression; at = 0 }

unfoldable pub symbol_value : LateParts → ℕ → Result Value AssemblyFault
symbol_value late symbol =
    in_files late.program
    (late_symbol (scene_in late) late.linked.values symbol
    (name_fault (slice_get late.program.made.symbols symbol)))

-- ---- the capability table

abbrev pub entry_at : ℕ → Option (Option ℕ) → AssemblyFault → Result Entry AssemblyFault
entry_at symbol (Some (Some entry)) missing = Ok (record { symbol = symbol; entry = entry })
entry_at symbol (Some None) missing = Err missing
entry_at symbol None missing = Err missing

abbrev pub entry_in : LateParts → ℕ → ℕ → ℕ → Result ℕ AsmFaultKind → Result Entry AssemblyFault
entry_in late file statement operand (Ok symbol) =
    entry_at symbol (slice_get late.linked.table.entries symbol)
    (fault_of late file statement operand faults.Symbol)
entry_in late file statement operand (Err kind) =
    Err (fault_of late file statement operand kind)

-- the symbol of the entry that an operand is, and the entry's number
unfoldable pub entry_of : LateParts → ℕ → ℕ → ℕ → Result Entry AssemblyFault
entry_of late file statement operand =
    entry_in late file statement operand
    (entry_symbol late.program late.linked.seen file statement operand)

-- ---- `.set` and `.size`

abbrev pub only_judged : {X : Type 0} → Result X AssemblyFault → Result (Unit {0}) AssemblyFault
only_judged (Ok value) = Ok tt
only_judged (Err fault) = Err fault

abbrev pub body_or_nothing : Option StatementParts → Body
body_or_nothing (Some statement) = statement.body
body_or_nothing None = bodies.Nothing

abbrev pub own_symbol : LateParts → ℕ → ℕ → Option ℕ
own_symbol late file at = own_in late.program file (text_at (tokens_in late.program file) at)

abbrev pub set_by : LateParts → Option ℕ → Result (Unit {0}) AssemblyFault
set_by late (Some symbol) = only_judged (symbol_value late symbol)
set_by late None = Ok tt

abbrev pub set_in : LateParts → ℕ → Body → Result (Unit {0}) AssemblyFault
set_in late file (bodies.Set at) = set_by late (own_symbol late file at)
set_in late file _ = Ok tt

-- a symbol that is set has a value
unfoldable pub set_judged : LateParts → ℕ → ℕ → Result (Unit {0}) AssemblyFault
set_judged late file statement =
    set_in late file (body_or_nothing (statement_at late.program file statement))

-- the most bytes of a symbol
abbrev pub most_of : LateParts → Option DefinitionParts → ℕ
most_of late (Some symbol) = most_by (rest_by late.program.made.chunks symbol.meaning)
most_of late None = 0

abbrev pub or_operand_fault : LateParts → ℕ → ℕ → Result ℕ AsmFaultKind
    → Result (Unit {0}) AssemblyFault
or_operand_fault late file statement (Ok size) = Ok tt
or_operand_fault late file statement (Err kind) = Err (fault_of late file statement 0 kind)

abbrev pub size_value : LateParts → ℕ → ℕ → ℕ → Result (Unit {0}) AssemblyFault
size_value late file statement most = do
  value ← operand_value late file statement 0 (setting_of late.program file statement).dot
  or_operand_fault late file statement (size_in most value)

-- the first size of a symbol counts, and a second one is a fault at its name
abbrev pub is_first : Option (Option ℕ) → ℕ → Option ℕ
is_first (Some (Some first)) statement = if first == statement then Some first else None
is_first (Some None) statement = None
is_first None statement = None

abbrev pub size_first : LateParts → ℕ → ℕ → ℕ → ℕ → Option ℕ → Result (Unit {0}) AssemblyFault
size_first late file statement at symbol (Some first) =
    size_value late file statement (most_of late (slice_get late.program.made.symbols symbol))
size_first late file statement at symbol None = Err (token_fault late.program file faults.Twice at)

abbrev pub size_by : LateParts → ℕ → ℕ → ℕ → Option ℕ → Result (Unit {0}) AssemblyFault
size_by late file statement at (Some symbol) =
    size_first late file statement at symbol
    (is_first (slice_get late.linked.sizes symbol) statement)
size_by late file statement at None = Err (token_fault late.program file faults.Symbol at)

abbrev pub size_body : LateParts → ℕ → ℕ → Body → Result (Unit {0}) AssemblyFault
size_body late file statement (bodies.Size at) =
    size_by late file statement at (own_symbol late file at)
size_body late file statement _ = Ok tt

-- the bytes of a symbol of this file, said once, and no more than it has
unfoldable pub size_judged : LateParts → ℕ → ℕ → Result (Unit {0}) AssemblyFault
size_judged late file statement =
    size_body late file statement (body_or_nothing (statement_at late.program file statement))
