-- Names for `unfolding(..)` that open what their own line names.
use Rattle.std.specs.Prelude.{ℕ, Bool}
use Rattle.asm_capabilities.specs.Capabilities.{stack_alignment}
use Rattle.asm_harts.specs.declared.registers.Registers.{Registers}
use Rattle.asm_harts.specs.Registers.{is_set, with_register, or_register}
use Rattle.asm_harts.specs.Harts.{stack_of, with_stack, with_exit, with_number, hart_of}

unfoldable pub registers : Registers → ℕ → Bool
unfolding is_set with_register or_register
registers r number = is_set r number

unfoldable pub harts : Registers → ℕ → Registers
unfolding stack_of with_stack with_exit with_number hart_of
harts r number = with_number r number
