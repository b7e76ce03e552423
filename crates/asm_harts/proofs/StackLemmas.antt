-- A stack is behind what was taken.
use Rattle.std.proofs.Common.{◌≡◌, ℕ, ◌+◌, ◌-◌, ◌%◌, ◌^◌, ◌==◌, ◌<◌, ◌≤◌, Bool, true, false, cond, Option, Some, None, Ok, refl, sym, ap, ◌∙◌, arith}
use Rattle.std.specs.Prelude.{◌||◌}
use Rattle.asm_capabilities.specs.Capabilities.{stack_alignment}
use Rattle.asm_layout.specs.Placement.{next_multiple, padding}
use Rattle.asm_harts.specs.declared.registers.Registers.{Registers}
use Rattle.asm_harts.specs.declared.hart.HartPlaces.{HartPlaces}
use Rattle.asm_harts.specs.declared.hart.OpenHart.{OpenHart}
use Rattle.asm_harts.specs.declared.hart.Stack.{Stack}
use Rattle.asm_harts.specs.declared.hart.TheConstants.{STACK}
use Rattle.asm_harts.specs.Registers.{is_set}
use Rattle.asm_harts.specs.Harts.{stack_of, hart_of, end_of}
use Rattle.asm_harts.proofs.GivenLemmas.{steps_of}

padding_small : (none : Bool) (addr unit : ℕ) → (addr % unit == 0) ≡ none → padding addr unit ≤ unit
padding_small true addr unit e = rw e (omega arith)
padding_small false addr unit e = rw e (omega arith)

-- the next multiple lies behind, and is not far
next_behind : (addr unit size : ℕ) → addr + unit + size < 2 ^ 64
    → (addr ≤ next_multiple addr unit) × ((next_multiple addr unit + size) % 2 ^ 64 ≡ next_multiple addr unit + size)
next_behind addr unit size room =
    let pad = padding addr unit in
    let small : pad ≤ unit = padding_small (addr % unit == 0) addr unit refl in
    let start : next_multiple addr unit ≡ addr + pad = omega arith in
    (rw start (omega arith), rw start (omega arith))

-- a stack that is given
record Given (registers : Registers) (places : HartPlaces) (stack : Stack) : Type 0 where
  base : stack.base ≡ next_multiple places.memory_end (stack_alignment places.stack)
  size : stack.size ≡ places.stack

stack_given_by : (none : Bool) (registers : Registers) (places : HartPlaces) (stack : Stack)
    → ((places.stack == 0) || is_set registers STACK) ≡ none
    → stack_of registers places ≡ Some stack → Given registers places stack
unfolding stack_of
stack_given_by true registers places stack e h = absurd (cc (rw e at h))
stack_given_by false registers places stack e h =
    let this : Stack = record { base = next_multiple places.memory_end (stack_alignment places.stack); size = places.stack } in
    let is : this ≡ stack = cc (rw e at h) in
    record { base = ap (λ (s : Stack). s.base) (sym is); size = ap (λ (s : Stack). s.size) (sym is) }

pub apart : (registers : Registers) (places : HartPlaces) (hart : OpenHart) (stack : Stack)
    → hart_of registers places ≡ Ok hart → hart.stack ≡ Some stack
    → places.memory_end + stack_alignment places.stack + places.stack < 2 ^ 64
    → (places.memory_end ≤ stack.base) × (hart.memory_end ≡ stack.base + stack.size)
    × (stack.size ≡ places.stack)
apart registers places hart stack h has room =
    let steps = steps_of registers places hart h in
    let is : stack_of registers places ≡ Some stack = ap (λ (o : OpenHart). o.stack) steps.whole ∙ has in
    let given = stack_given_by ((places.stack == 0) || is_set registers STACK) registers places stack refl is in
    let behind = next_behind places.memory_end (stack_alignment places.stack) places.stack room in
    let ended : end_of (stack_of registers places) places.memory_end ≡ hart.memory_end =
    ap (λ (o : OpenHart). o.memory_end) steps.whole in
    let end_is : hart.memory_end ≡ (stack.base + stack.size) % 2 ^ 64 = sym ended ∙ ap (λ s. end_of s places.memory_end) is in
    (rw given.base behind.0, rw (given.base, given.size) (end_is ∙ rw (given.base, given.size) behind.1), given.size)
