-- Directives that name symbols.
use Rattle.std.specs.Prelude.{◌≡◌, ℕ, nat_le, min, ◌&&◌, if◌then◌else◌, List, length}
use Rattle.std.specs.Prelude.{Option, Some, None, Result, Ok, Err}
use Rattle.std.specs.Int.{is_power_of_two}
use Rattle.std.specs.Option.{is_none}
use Rattle.asm_tokens.specs.declared.fault.AsmFault.{AsmFault}
use Rattle.asm_tokens.specs.declared.fault.AsmFaultKind.TheVariants.{Twice, Range}
use Rattle.asm_tokens.specs.Faults.{◌>>=◌, no_memory}
use Rattle.asm_tokens.specs.Tokens.{TokenParts}
use Rattle.asm_values.specs.declared.values.Value.{Value}
use Rattle.asm_expressions.specs.declared.node.Node.{Node}
use Rattle.asm_expressions.specs.Tokens.{text_at, fault_at}
use Rattle.asm_statements.specs.declared.statement.Operand.{Operand}
use Rattle.asm_statements.specs.Statements.{StatementParts}
use Rattle.asm_chunks.specs.declared.growth.TheConstants.{MAX_CHUNK}
use Rattle.asm_chunks.specs.Chunks.{with_chunk, with_common}
use Rattle.asm_symbols.specs.Definitions.{DefinitionParts, assigned_symbol, common_symbol}
use Rattle.asm_symbols.specs.Names.{defined}
use Rattle.asm_drafts.specs.declared.names.TheConstants.{MAX_ALIGN}
use Rattle.asm_drafts.specs.declared.operands.Limits.{Limits}
use Rattle.asm_drafts.specs.Drafts.{DraftParts, with_chunks, with_symbols, ended}
use Rattle.asm_drafts.specs.Early.{early_value}
use Rattle.asm_drafts.specs.Labels.{defined_at}
use Rattle.asm_drafts.specs.Operands.{nodes_of, first_of, early_if_said}

-- from 0 to a limit
abbrev pub up_to : ℕ → Limits
up_to most = record { below = 0; most = most }

-- a name that this file doesn't have
unfoldable pub unless_named : List TokenParts → DraftParts → ℕ → Result (Unit {0}) AsmFault
unless_named tokens parts at =
    if is_none (parts.symbols.own (text_at tokens at)) then Ok tt else Err (fault_at tokens Twice at)

-- ---- .set

abbrev pub if_known : Result Value AsmFault → Option Value
if_known (Ok value) = Some value
if_known (Err fault) = None

-- the value of an expression, where it is known while the file is read
unfoldable pub known : List TokenParts → DraftParts → List Node → Option Value
known tokens parts nodes = if_known (early_value tokens parts nodes)

abbrev pub Knows : Result (Option Value) AsmFault → List TokenParts → DraftParts → List Node → Type 0
Knows (Ok value) tokens parts nodes = value ≡ known tokens parts nodes
Knows (Err fault) tokens parts nodes = fault ≡ no_memory

-- the symbol that a token names, with the value of the statement's operand
abbrev pub set_symbol : List TokenParts → DraftParts → ℕ → StatementParts → ℕ → DefinitionParts
set_symbol tokens parts number statement at =
    assigned_symbol parts.symbols (text_at tokens at) at number
    (known tokens parts (nodes_of statement 0))

unfoldable pub set_put : List TokenParts → DraftParts → ℕ → StatementParts → ℕ
    → Result DraftParts AsmFault
set_put tokens parts number statement at = do
  free ← unless_named tokens parts at
  _ ← ended statement.fault
  defined_at tokens parts at (set_symbol tokens parts number statement at)

-- ---- .comm

-- the greatest power of 2 that is at most the bytes, and 16
unfoldable pub common_align : ℕ → ℕ
common_align size =
    if nat_le 16 size then 16
    else if nat_le 8 size then 8
    else if nat_le 4 size then 4
    else if nat_le 2 size then 2
    else 1

unfoldable pub power_at : List TokenParts → ℕ → ℕ → Result ℕ AsmFault
power_at tokens at number =
    if is_power_of_two number && nat_le number MAX_ALIGN then Ok number
    else Err (fault_at tokens Range at)

abbrev pub align_said : List TokenParts → ℕ → ℕ → Option ℕ → Result ℕ AsmFault
align_said tokens at size (Some align) = power_at tokens at align
align_said tokens at size None = Ok (common_align size)

unfoldable pub common_align_of : List TokenParts → DraftParts → StatementParts → ℕ → Result ℕ AsmFault
common_align_of tokens parts statement size = do
  align ← early_if_said tokens parts statement 1 (up_to MAX_ALIGN)
  align_said tokens (first_of statement 1) size align

-- a chunk of so many zeros, and its symbol
unfoldable pub common_added : List TokenParts → DraftParts → ℕ → ℕ → ℕ → Result DraftParts AsmFault
common_added tokens parts at size align =
    defined_at tokens (with_chunks parts (with_chunk parts.chunks (with_common size align))) at
    (common_symbol parts.symbols (text_at tokens at) at (length parts.chunks.chunks) size)

-- a number that may be left out, up to a limit
abbrev pub or_zero : Option ℕ → ℕ
or_zero (Some number) = number
or_zero None = 0

abbrev pub size_of : Option ℕ → ℕ
size_of size = min (or_zero size) MAX_CHUNK

unfoldable pub common_put : List TokenParts → DraftParts → StatementParts → ℕ
    → Result DraftParts AsmFault
common_put tokens parts statement at = do
  free ← unless_named tokens parts at
  size ← early_if_said tokens parts statement 0 (up_to MAX_CHUNK)
  align ← common_align_of tokens parts statement (size_of size)
  _ ← ended statement.fault
  common_added tokens parts at (size_of size) align

-- ---- .globl

abbrev pub with_wanted : DraftParts → List ℕ → DraftParts
with_wanted parts name =
    with_symbols parts (record parts.symbols { wanted = defined parts.symbols.wanted name 0 })

-- all files see the symbol of the name that an operand is
unfoldable pub want_put : List TokenParts → Operand → DraftParts → Result DraftParts AsmFault
want_put tokens operand parts = Ok (with_wanted parts (text_at tokens operand.first))
