-- What the registers of a hart may hold before its first step.
use Rattle.std.specs.Prelude.{◌≡◌, ◌⊎◌, ℕ, slice_index_or, Some, Ok}
use Rattle.cap_model.specs.values.CapValue.{CapValue, raw}
use Rattle.asm_capabilities.specs.Capabilities.{sentry_at, stack_at}
use Rattle.asm_harts.specs.declared.registers.Registers.{Registers}
use Rattle.asm_harts.specs.declared.hart.HartPlaces.{HartPlaces}
use Rattle.asm_harts.specs.declared.hart.OpenHart.{OpenHart}
use Rattle.asm_harts.specs.declared.hart.Stack.{Stack}

-- the exit of these places
abbrev pub IsExit : HartPlaces → CapValue → Type 0
IsExit places value =
    (addr : ℕ) × (places.exit ≡ Some addr) × (sentry_at places.reach addr ≡ Ok value)

-- the stack of a hart
abbrev pub IsStack : OpenHart → CapValue → Type 0
IsStack hart value =
    (stack : Stack) × (hart.stack ≡ Some stack) × (stack_at stack.base stack.size ≡ Ok value)

-- the value of the register of this place, c1 at place 0
abbrev pub register_at : OpenHart → ℕ → CapValue
register_at hart place = slice_index_or hart.image.regs place (raw 0)

-- what the request sets, the hart's number, the exit or the stack
abbrev pub IsGiven : Registers → HartPlaces → OpenHart → ℕ → Type 0
IsGiven registers places hart place =
    (register_at hart place ≡ slice_index_or registers.values place (raw 0))
    ⊎ (register_at hart place ≡ raw places.number) ⊎ IsExit places (register_at hart place)
    ⊎ IsStack hart (register_at hart place)
