-- Data: numbers, capabilities, bytes that are the same, and strings.
use Rattle.std.specs.Prelude.{ℕ, ◌+◌, ◌%◌, ◌==◌, not, Bool, ◌&&◌, if◌then◌else◌, List}
use Rattle.std.specs.Prelude.{length, Result, Ok, Err}
use Rattle.std.specs.List.{list_any}
use Rattle.asm_tokens.specs.declared.fault.AsmFault.{AsmFault}
use Rattle.asm_tokens.specs.declared.fault.AsmFaultKind.TheVariants.{Section, Range}
use Rattle.asm_tokens.specs.Faults.{◌>>=◌}
use Rattle.asm_tokens.specs.Strings.{string_of}
use Rattle.asm_tokens.specs.Tokens.{TokenParts}
use Rattle.asm_expressions.specs.Tokens.{text_at, fault_at}
use Rattle.asm_layout.specs.declared.chunk.ChunkKind.TheVariants.{Code, Zeros, Dropped}
use Rattle.asm_statements.specs.declared.statement.Operand.{Operand}
use Rattle.asm_statements.specs.Statements.{StatementParts}
use Rattle.asm_chunks.specs.declared.growth.TheConstants.{MAX_CHUNK}
use Rattle.asm_chunks.specs.Chunks.{here_of}
use Rattle.asm_chunks.specs.Growth.{raised}
use Rattle.asm_drafts.specs.declared.bytes.TheConstants.{CAPABILITY}
use Rattle.asm_drafts.specs.Drafts.{DraftParts, with_chunks, is_here, grown_at, ended, each_put}
use Rattle.asm_drafts.specs.Names.{up_to, or_zero}
use Rattle.asm_drafts.specs.Operands.{early_if_said}
use Rattle.asm_drafts.specs.Padding.{fill_judged}

-- data isn't in code
unfoldable pub unless_code : List TokenParts → DraftParts → ℕ → Result (Unit {0}) AsmFault
unless_code tokens parts at = if is_here parts Code then Err (fault_at tokens Section at) else Ok tt

-- a number of a width for each operand
abbrev pub number_at : List TokenParts → ℕ → ℕ → Operand → DraftParts → Result DraftParts AsmFault
number_at tokens at width operand parts = grown_at tokens at width parts

unfoldable pub data_put : List TokenParts → DraftParts → StatementParts → ℕ → ℕ
    → Result DraftParts AsmFault
data_put tokens parts statement at width =
    if is_here parts Dropped then Ok parts
    else (do
      code ← unless_code tokens parts at
      next ← each_put (number_at tokens at width) statement.operands parts
      _ ← ended statement.fault
      Ok next)

-- a capability, which is aligned where its end is
abbrev pub if_aligned : List TokenParts → ℕ → DraftParts → Result DraftParts AsmFault
if_aligned tokens first parts =
    if (here_of parts.chunks).size % CAPABILITY == 0
    then Ok (with_chunks parts (raised parts.chunks CAPABILITY))
    else Err (fault_at tokens Range first)

unfoldable pub capability_at : List TokenParts → ℕ → Operand → DraftParts
    → Result DraftParts AsmFault
capability_at tokens at operand parts =
    grown_at tokens at CAPABILITY parts >>= λ next. if_aligned tokens operand.first next

unfoldable pub chericap_put : List TokenParts → DraftParts → StatementParts → ℕ
    → Result DraftParts AsmFault
chericap_put tokens parts statement at =
    if is_here parts Dropped then Ok parts
    else (do
      code ← unless_code tokens parts at
      next ← each_put (capability_at tokens at) statement.operands parts
      _ ← ended statement.fault
      Ok next)

-- bytes that are the same
unfoldable pub zeros_put : List TokenParts → DraftParts → StatementParts → ℕ
    → Result DraftParts AsmFault
zeros_put tokens parts statement at =
    if is_here parts Dropped then Ok parts
    else (do
      code ← unless_code tokens parts at
      count ← early_if_said tokens parts statement 0 (up_to MAX_CHUNK)
      fill ← fill_judged tokens parts statement 1
      _ ← ended statement.fault
      grown_at tokens at (or_zero count) parts)

-- whether bytes have one that isn't 0
unfoldable pub is_nonzero : List ℕ → Bool
is_nonzero bytes = list_any (λ b. not (b == 0)) bytes

-- a string, and so many zeros behind it; in zeros it may have no other byte
unfoldable pub string_at : List TokenParts → ℕ → ℕ → Operand → DraftParts
    → Result DraftParts AsmFault
string_at tokens at zeros operand parts =
    if is_here parts Zeros && is_nonzero (string_of (text_at tokens operand.first))
    then Err (fault_at tokens Section operand.first)
    else
    grown_at tokens at (length (string_of (text_at tokens operand.first)) + zeros) parts

unfoldable pub strings_put : List TokenParts → DraftParts → StatementParts → ℕ → ℕ
    → Result DraftParts AsmFault
strings_put tokens parts statement at zeros =
    if is_here parts Dropped then Ok parts
    else (do
      code ← unless_code tokens parts at
      next ← each_put (string_at tokens at zeros) statement.operands parts
      _ ← ended statement.fault
      Ok next)
