-- The accesses that a fence orders.
use Rattle.std.specs.Prelude.{ℕ, ◌+◌, ◌&&◌, if◌then◌else◌, List, Result, Ok, Err}
use Rattle.asm_names.specs.Outside.{is_fence_set}
use Rattle.asm_tokens.specs.declared.fault.AsmFault.{AsmFault}
use Rattle.asm_tokens.specs.declared.fault.AsmFaultKind.TheVariants as faults
use Rattle.asm_tokens.specs.Faults.{◌>>=◌}
use Rattle.asm_tokens.specs.Tokens.{TokenParts}
use Rattle.asm_expressions.specs.Tokens.{text_at, fault_at}
use Rattle.asm_statements.specs.Marks.{is_name, is_end, comma_at}

-- none are said, or two sets
unfoldable pub fence_set_at : List TokenParts → ℕ → Result ℕ AsmFault
fence_set_at tokens at =
    if is_name tokens at && is_fence_set (text_at tokens at) then Ok (at + 1)
    else Err (fault_at tokens faults.Operand at)

unfoldable pub two_sets : List TokenParts → ℕ → Result ℕ AsmFault
two_sets tokens at = do
  comma ← fence_set_at tokens at
  second ← comma_at tokens comma
  fence_set_at tokens second

unfoldable pub fence : List TokenParts → ℕ → Result ℕ AsmFault
fence tokens at = if is_end tokens at then Ok at else two_sets tokens at
