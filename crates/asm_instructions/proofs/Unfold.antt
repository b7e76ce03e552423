-- Names for `unfolding(..)` that open what their own line names.
use Rattle.std.specs.Prelude.{ℕ, List, Option, Result}
use Rattle.cheri_model.specs.declared.instr.Instr.{Instr}
use Rattle.asm_tokens.specs.declared.fault.AsmFaultKind.{AsmFaultKind}
use Rattle.asm_names.specs.declared.relocations.Relocation.{Relocation}
use Rattle.asm_expansions.specs.declared.operation.Operation.{Operation}
use Rattle.asm_instructions.specs.Sources.{source_of, expansion_for}

unfoldable pub sources : Operation → Option Relocation → ℕ → Result (List Instr) AsmFaultKind
unfolding source_of expansion_for
sources operation relocation number = expansion_for operation relocation number
