-- Statements, one after another.
use Rattle.std.specs.Prelude.{ℕ, if◌then◌else◌, List, Option, Some, Result, Ok, Err}
use Rattle.asm_names.specs.declared.sections.SectionKind.{SectionKind}
use Rattle.asm_tokens.specs.declared.fault.AsmFault.{AsmFault}
use Rattle.asm_tokens.specs.declared.fault.AsmFaultKind.{AsmFaultKind}
use Rattle.asm_tokens.specs.declared.fault.AsmFaultKind.TheVariants as faults
use Rattle.asm_tokens.specs.Faults.{◌>>=◌}
use Rattle.asm_tokens.specs.Tokens.{TokenParts}
use Rattle.asm_expressions.specs.Tokens.{fault_at}
use Rattle.asm_layout.specs.declared.chunk.ChunkKind.TheVariants.{Dropped}
use Rattle.asm_statements.specs.declared.statement.Body.{Body}
use Rattle.asm_statements.specs.declared.statement.Body.TheVariants as bodies
use Rattle.asm_statements.specs.Statements.{StatementParts}
use Rattle.asm_chunks.specs.Chunks.{with_previous}
use Rattle.asm_drafts.specs.declared.sections.Entry.{Entry}
use Rattle.asm_drafts.specs.Bytes.{data_put, chericap_put, zeros_put, strings_put}
use Rattle.asm_drafts.specs.Code.{instruction_put}
use Rattle.asm_drafts.specs.Drafts.{DraftParts, with_chunks, is_here, ended, each_put}
use Rattle.asm_drafts.specs.Labels.{labels_put}
use Rattle.asm_drafts.specs.Names.{set_put, common_put, want_put}
use Rattle.asm_drafts.specs.Padding.{align_put, balign_put}
use Rattle.asm_drafts.specs.Sections.{entered_at}

-- a fault, unless nothing is kept of the chunk that the file goes on in
unfoldable pub refused_where_kept : List TokenParts → DraftParts → AsmFaultKind → ℕ
    → Result (Unit {0}) AsmFault
refused_where_kept tokens parts kind at =
    if is_here parts Dropped then Ok tt else Err (fault_at tokens kind at)

unfoldable pub section_put : List TokenParts → DraftParts → StatementParts → ℕ → Entry
    → Option SectionKind → Result DraftParts AsmFault
section_put tokens parts statement at entry flags = do
  _ ← ended statement.fault
  entered_at tokens at entry flags parts

unfoldable pub went_back : DraftParts → StatementParts → Result DraftParts AsmFault
went_back parts statement = do
  _ ← ended statement.fault
  Ok (with_chunks parts (with_previous parts.chunks))

-- nothing but that a statement can be read to its end
abbrev pub only_ended : DraftParts → StatementParts → Result DraftParts AsmFault
only_ended parts statement = ended statement.fault >>= λ _. Ok parts

abbrev pub only_refused : DraftParts → Result (Unit {0}) AsmFault → Result DraftParts AsmFault
only_refused parts judged = judged >>= λ _. Ok parts

-- what a statement is after its labels
abbrev pub body_of : List TokenParts → DraftParts → ℕ → StatementParts → Entry → Body
    → Result DraftParts AsmFault
body_of tokens parts number s entry bodies.Nothing = only_ended parts s
body_of tokens parts number s entry (bodies.Instruction at operation) =
    instruction_put tokens parts s at operation
body_of tokens parts number s entry (bodies.OutsideInstruction at) =
    only_refused parts (refused_where_kept tokens parts faults.Profile at)
body_of tokens parts number s entry (bodies.UnknownInstruction at) =
    only_refused parts (refused_where_kept tokens parts faults.Statement at)
body_of tokens parts number s entry (bodies.PlainSection at) =
    section_put tokens parts s at entry (Some entry.named)
body_of tokens parts number s entry (bodies.Section at end flags) =
    section_put tokens parts s at entry flags
body_of tokens parts number s entry bodies.Previous = went_back parts s
body_of tokens parts number s entry bodies.Global =
    each_put (want_put tokens) s.operands parts >>= λ next. only_ended next s
body_of tokens parts number s entry (bodies.Set at) = set_put tokens parts number s at
body_of tokens parts number s entry (bodies.Size at) = only_ended parts s
body_of tokens parts number s entry (bodies.Comm at) = common_put tokens parts s at
body_of tokens parts number s entry (bodies.Align at) = align_put tokens parts s at
body_of tokens parts number s entry (bodies.Balign at) = balign_put tokens parts s at
body_of tokens parts number s entry (bodies.Data at width) = data_put tokens parts s at width
body_of tokens parts number s entry (bodies.Chericap at) = chericap_put tokens parts s at
body_of tokens parts number s entry (bodies.Zero at) = zeros_put tokens parts s at
body_of tokens parts number s entry (bodies.Ascii at) = strings_put tokens parts s at 0
body_of tokens parts number s entry (bodies.Asciz at) = strings_put tokens parts s at 1
body_of tokens parts number s entry (bodies.OutsideDirective at) =
    only_refused parts (refused_where_kept tokens parts faults.Profile at)
body_of tokens parts number s entry (bodies.UnknownDirective at) =
    Err (fault_at tokens faults.Statement at)

unfoldable pub body_put : List TokenParts → DraftParts → ℕ → StatementParts → Entry
    → Result DraftParts AsmFault
body_put tokens parts number s entry = body_of tokens parts number s entry s.body

-- a statement: its labels, and then what it is
unfoldable pub statement_put : List TokenParts → DraftParts → ℕ → StatementParts → Entry
    → Result DraftParts AsmFault
statement_put tokens parts number s entry = do
  labelled ← labels_put tokens s.first s.labels parts
  body_put tokens labelled number s entry
