-- A hart before its first step: PCC at its entry, its stack, the exit, its number, and what a
-- request sets.
use Rattle.std.specs.Prelude.{◌≡◌, ℕ, ◌+◌, ◌%◌, ◌^◌, ◌==◌, ◌||◌, if◌then◌else◌, Option, Some, None}
use Rattle.std.specs.Prelude.{Result, Ok, Err}
use Rattle.cap_model.specs.values.CapValue.{CapValue, raw}
use Rattle.cap_ops.specs.declared.making.MakeFault.{MakeFault}
use Rattle.asm_capabilities.specs.declared.code.Reach.{Reach}
use Rattle.asm_capabilities.specs.Capabilities.{pcc_at, sentry_at, stack_alignment, stack_at}
use Rattle.asm_layout.specs.Placement.{next_multiple}
use Rattle.asm_harts.specs.declared.registers.Registers.{Registers}
use Rattle.asm_harts.specs.declared.hart.HartPlaces.{HartPlaces}
use Rattle.asm_harts.specs.declared.hart.OpenHart.{OpenHart}
use Rattle.asm_harts.specs.declared.hart.Stack.{Stack}
use Rattle.asm_harts.specs.declared.hart.TheConstants.{STACK, LINK, ARGUMENT}
use Rattle.asm_harts.specs.Registers.{is_set, with_register, or_register}

-- a step that may end at a fault, and what follows it
infixl 10 ◌>>=◌
abbrev pub ◌>>=◌ : {A B E : Type 0} → Result A E → (A → Result B E) → Result B E
(Ok x) >>= f = f x
(Err e) >>= f = Err e

-- the stack that a hart is given, at the next multiple of its alignment: none where register 2 is
-- set
unfoldable pub stack_of : Registers → HartPlaces → Option Stack
stack_of registers places =
    if (places.stack == 0) || is_set registers STACK then None
    else
    Some (record {
      base = next_multiple places.memory_end (stack_alignment places.stack);
      size = places.stack;
    })

-- where memory ends that is taken, with a stack
abbrev pub end_of : Option Stack → ℕ → ℕ
end_of (Some stack) memory_end = (stack.base + stack.size) % 2 ^ 64
end_of None memory_end = memory_end

unfoldable pub with_stack : Registers → Option Stack → Result Registers MakeFault
with_stack registers None = Ok registers
with_stack registers (Some stack) = do
  value ← stack_at stack.base stack.size
  Ok (with_register registers STACK value)

-- the exit, unless the link is set
unfoldable pub with_exit : Registers → Reach → Option ℕ → Result Registers MakeFault
with_exit registers reach None = Ok registers
with_exit registers reach (Some addr) = do
  sentry ← sentry_at reach addr
  Ok (or_register registers LINK sentry)

-- the hart's number, unless the first argument is set
unfoldable pub with_number : Registers → ℕ → Registers
with_number registers number = or_register registers ARGUMENT (raw number)

-- a step that was done leaves these registers, or ends at its fault
abbrev pub Leaves : Result (Unit {0}) MakeFault → Registers → Result Registers MakeFault → Type 0
Leaves (Ok done) new meaning = meaning ≡ Ok new
Leaves (Err fault) new meaning = meaning ≡ Err fault

-- the hart
abbrev pub hart_from : CapValue → Option Stack → Registers → ℕ → OpenHart
hart_from pcc stack registers memory_end =
    record {
      image = record { pcc = pcc; regs = registers.values };
      stack = stack;
      memory_end = end_of stack memory_end;
    }

unfoldable pub hart_of : Registers → HartPlaces → Result OpenHart MakeFault
hart_of registers places = do
  pcc ← pcc_at places.reach places.entry
  stacked ← with_stack registers (stack_of registers places)
  linked ← with_exit stacked places.reach places.exit
  Ok (hart_from pcc (stack_of registers places) (with_number linked places.number) places.memory_end)
