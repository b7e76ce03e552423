-- The values of operands, where an operator of relocation may be before them.
use Rattle.std.specs.Prelude.{ℕ, ℤ, pos, Option, Some, None, Result, Ok, Err}
use Rattle.cheri_model.specs.declared.form.UpperOp.TheVariants.{Lui, AuiPcc}
use Rattle.asm_expansions.specs.declared.operation.Operation.{Operation}
use Rattle.asm_expansions.specs.declared.operation.Operation.TheVariants as operation
use Rattle.asm_expansions.specs.Immediates.{bits_of, low, high_field}
use Rattle.asm_names.specs.declared.relocations.Relocation.{Relocation}
use Rattle.asm_names.specs.declared.relocations.Relocation.TheVariants as relocations
use Rattle.asm_tokens.specs.declared.fault.AsmFaultKind.{AsmFaultKind}
use Rattle.asm_tokens.specs.declared.fault.AsmFaultKind.TheVariants.{Range, Expression}
use Rattle.asm_immediates.specs.declared.immediates.Immediate.{Immediate}
use Rattle.asm_immediates.specs.declared.immediates.Immediate.TheVariants as immediates

-- which operators of relocation an operation's value may have
abbrev pub immediate_of : Operation → Immediate
immediate_of (operation.Upper Lui cd) = immediates.Upper
immediate_of (operation.Upper AuiPcc cd) = immediates.UpperOfPcc
immediate_of (operation.Immediate op cd c1) = immediates.Signed
immediate_of (operation.Load op cd c1) = immediates.Signed
immediate_of (operation.Store op c2 c1) = immediates.Signed
immediate_of _ = immediates.Other

-- the upper part of a number, where it has 20 bits with a sign
abbrev pub upper_of : Option ℕ → Result ℤ AsmFaultKind
upper_of (Some field) = Ok (pos field)
upper_of None = Err Range

abbrev pub upper : ℤ → Result ℤ AsmFaultKind
upper number = upper_of (high_field number)

-- `%hi` in `lui`; `%pcrel_hi` and `%captab_pcrel_hi`, of a distance, in `auipcc`; `%lo`, and
-- `%pcrel_lo` of a distance, in an immediate of 12 bits
abbrev pub relocated : Immediate → Relocation → ℤ → Result ℤ AsmFaultKind
relocated immediates.Upper relocations.Hi number = upper number
relocated immediates.UpperOfPcc relocations.PcrelHi number = upper number
relocated immediates.UpperOfPcc relocations.CaptabPcrelHi number = upper number
relocated immediates.Signed relocations.Lo number = Ok (low (bits_of number))
relocated immediates.Signed relocations.PcrelLo number = Ok (low (bits_of number))
relocated _ _ number = Err Expression

-- the number itself, or what an operator makes of it
unfoldable pub immediate_value : Immediate → Option Relocation → ℤ → Result ℤ AsmFaultKind
immediate_value immediate None number = Ok number
immediate_value immediate (Some relocation) number = relocated immediate relocation number
