-- Padding.
use Rattle.std.specs.Prelude.{ℕ, ◌^◌, ◌==◌, max, min, Bool, ◌||◌, if◌then◌else◌, List}
use Rattle.std.specs.Prelude.{Option, Some, None, Result, Ok, Err}
use Rattle.asm_tokens.specs.declared.fault.AsmFault.{AsmFault}
use Rattle.asm_tokens.specs.declared.fault.AsmFaultKind.TheVariants.{Section}
use Rattle.asm_tokens.specs.Faults.{◌>>=◌}
use Rattle.asm_tokens.specs.Tokens.{TokenParts}
use Rattle.asm_expressions.specs.Tokens.{fault_at}
use Rattle.asm_layout.specs.declared.chunk.ChunkKind.TheVariants.{Code, Zeros, Dropped}
use Rattle.asm_statements.specs.Statements.{StatementParts}
use Rattle.asm_chunks.specs.Growth.{padded}
use Rattle.asm_drafts.specs.declared.names.TheConstants.{MAX_ALIGN}
use Rattle.asm_drafts.specs.declared.operands.Limits.{Limits}
use Rattle.asm_drafts.specs.declared.padding.TheConstants.{MAX_EXPONENT}
use Rattle.asm_drafts.specs.Drafts.{DraftParts, is_here, after_chunks, ended}
use Rattle.asm_drafts.specs.Names.{up_to, or_zero, power_at}
use Rattle.asm_drafts.specs.Operands.{first_of, early_if_said}

-- code and zeros are filled by no byte but 0
unfoldable pub holds_code_or_zeros : DraftParts → Bool
holds_code_or_zeros parts = is_here parts Code || is_here parts Zeros

-- a byte, from -128 to 255
abbrev pub byte_limits : Limits
byte_limits = record { below = 128; most = 255 }

abbrev pub fill_at : List TokenParts → DraftParts → ℕ → ℕ → Result (Unit {0}) AsmFault
fill_at tokens parts at fill =
    if fill == 0 then Ok tt
    else if holds_code_or_zeros parts then Err (fault_at tokens Section at)
    else Ok tt

unfoldable pub fill_judged : List TokenParts → DraftParts → StatementParts → ℕ
    → Result (Unit {0}) AsmFault
fill_judged tokens parts statement operand = do
  fill ← early_if_said tokens parts statement operand byte_limits
  fill_at tokens parts (first_of statement operand) (or_zero fill)

-- the unit of an exponent, and a unit in bytes, of which 0 says as little as 1
unfoldable pub exponent_unit : List TokenParts → DraftParts → StatementParts → Result ℕ AsmFault
exponent_unit tokens parts statement = do
  exponent ← early_if_said tokens parts statement 0 (up_to MAX_EXPONENT)
  Ok (2 ^ min (or_zero exponent) MAX_EXPONENT)

unfoldable pub byte_unit : List TokenParts → DraftParts → StatementParts → Result ℕ AsmFault
byte_unit tokens parts statement = do
  unit ← early_if_said tokens parts statement 0 (up_to MAX_ALIGN)
  power_at tokens (first_of statement 0) (max (or_zero unit) 1)

-- padding to a multiple of a unit, unless it takes more than the most bytes
unfoldable pub padded_at : List TokenParts → ℕ → ℕ → Option ℕ → DraftParts
    → Result DraftParts AsmFault
padded_at tokens at unit most parts =
    after_chunks tokens at parts (padded parts.chunks unit most)

abbrev pub narrowed : Option ℕ → Option ℕ
narrowed (Some most) = Some (min most MAX_ALIGN)
narrowed None = None

unfoldable pub padding_put : List TokenParts → DraftParts → StatementParts → ℕ → ℕ
    → Result DraftParts AsmFault
padding_put tokens parts statement at unit = do
  fill ← fill_judged tokens parts statement 1
  most ← early_if_said tokens parts statement 2 (up_to MAX_ALIGN)
  _ ← ended statement.fault
  padded_at tokens at unit (narrowed most) parts

-- `.align` and `.balign`: nothing where nothing is kept
unfoldable pub align_put : List TokenParts → DraftParts → StatementParts → ℕ
    → Result DraftParts AsmFault
align_put tokens parts statement at =
    if is_here parts Dropped then Ok parts
    else (do
      unit ← exponent_unit tokens parts statement
      padding_put tokens parts statement at unit)

unfoldable pub balign_put : List TokenParts → DraftParts → StatementParts → ℕ
    → Result DraftParts AsmFault
balign_put tokens parts statement at =
    if is_here parts Dropped then Ok parts
    else (do
      unit ← byte_unit tokens parts statement
      padding_put tokens parts statement at unit)
