-- A hart's values are what listings can write.
use Rattle.std.proofs.Common.{◌≡◌, ℕ, ◌-◌, ◌^◌, ◌==◌, ◌<◌, Bool, true, false, length, Option, Some, None, Ok, Err, All, refl, sym, subst, ap, ◌∙◌, arith}
use Rattle.std.specs.Prelude.{◌||◌, Result}
use Rattle.std.proofs.Math.ListN.{length-set}
use Rattle.std.proofs.lemmas.List.Elements.{All-set, recursion_from_All, All-from_recursion}
use Rattle.cap_model.specs.values.CapValue.{CapValue, raw}
use Rattle.cap_ops.specs.declared.making.MakeFault.{MakeFault}
use Rattle.canonical.specs.Listable.{IsWritable, IsWritablePcc, IsWritableHart}
use Rattle.asm_capabilities.specs.declared.code.Reach.{Reach}
use Rattle.asm_capabilities.specs.Capabilities.{sentry_at, stack_at, stack_alignment}
use Rattle.asm_layout.specs.Placement.{next_multiple}
use Rattle.asm_harts.specs.declared.registers.Registers.{Registers}
use Rattle.asm_harts.specs.declared.hart.HartPlaces.{HartPlaces}
use Rattle.asm_harts.specs.declared.hart.OpenHart.{OpenHart}
use Rattle.asm_harts.specs.declared.hart.Stack.{Stack}
use Rattle.asm_harts.specs.declared.hart.TheConstants.{STACK, LINK, ARGUMENT}
use Rattle.asm_harts.specs.Registers.{is_set, with_register, or_register}
use Rattle.asm_harts.specs.Harts.{stack_of, with_stack, with_exit, with_number, hart_of}
use Rattle.asm_harts.proofs.GivenLemmas.{steps_of}
use Rattle.asm_listable.specs.Places.{AreNumbers, AreWritable}
use Rattle.asm_listable.proofs.Capabilities.{pcc_writable, sentry_writable, stack_writable}

-- 31 writable values
pub record Values (r : Registers) : Type 0 where
  pub count : length r.values ≡ 31
  pub all : All IsWritable r.values

put_by : (none : Bool) (r : Registers) (register : ℕ) (v : CapValue) → (register == 0) ≡ none → IsWritable v → Values r
    → Values (with_register r register v)
unfolding with_register
put_by true r register v e w h = rw e h
put_by false r register v e w h =
    rw e (record {
      count = length-set r.values (register - 1) v ∙ h.count;
      all = All-set IsWritable r.values (register - 1) v w h.all;
    })

pub put : (r : Registers) (register : ℕ) (v : CapValue) → IsWritable v → Values r → Values (with_register r register v)
put r register v w h = put_by (register == 0) r register v refl w h

or_put_by : (there : Bool) (r : Registers) (register : ℕ) (v : CapValue) → is_set r register ≡ there → IsWritable v → Values r
    → Values (or_register r register v)
unfolding or_register
or_put_by true r register v e w h = rw e h
or_put_by false r register v e w h = rw e (put r register v w h)

or_put : (r : Registers) (register : ℕ) (v : CapValue) → IsWritable v → Values r → Values (or_register r register v)
or_put r register v w h = or_put_by (is_set r register) r register v refl w h

numbered : (r : Registers) (number : ℕ) → number < 2 ^ 8 → Values r → Values (with_number r number)
unfolding with_number
numbered r number low h = let small : number < 2 ^ 128 = omega arith in or_put r ARGUMENT (raw number) small h

linked_by : (sentry : Result CapValue MakeFault) (r after : Registers) (reach : Reach) (addr : ℕ) → sentry_at reach addr ≡ sentry
    → addr < 2 ^ 64 → with_exit r reach (Some addr) ≡ Ok after → Values r → Values after
unfolding with_exit
linked_by (Ok v) r after reach addr e low h values =
    let is : or_register r LINK v ≡ after = cc (rw e at h) in
    subst Values is (or_put r LINK v (sentry_writable reach addr v low e) values)
linked_by (Err fault) r after reach addr e low h values = absurd (cc (rw e at h))

linked : (exit : Option ℕ) (r after : Registers) (reach : Reach) → ((addr : ℕ) → exit ≡ Some addr → addr < 2 ^ 64)
    → with_exit r reach exit ≡ Ok after → Values r → Values after
unfolding with_exit
linked None r after reach low h values = let is : r ≡ after = cc in subst Values is values
linked (Some addr) r after reach low h values = linked_by (sentry_at reach addr) r after reach addr refl (low addr refl) h values

stacked_by : (value : Result CapValue MakeFault) (r after : Registers) (stack : Stack) → stack_at stack.base stack.size ≡ value
    → stack.base < 2 ^ 64 → with_stack r (Some stack) ≡ Ok after → Values r → Values after
unfolding with_stack
stacked_by (Ok v) r after stack e low h values =
    let is : with_register r STACK v ≡ after = cc (rw e at h) in
    subst Values is (put r STACK v (stack_writable stack.base stack.size v low e) values)
stacked_by (Err fault) r after stack e low h values = absurd (cc (rw e at h))

stacked : (stack : Option Stack) (r after : Registers) → ((one : Stack) → stack ≡ Some one → one.base < 2 ^ 64)
    → with_stack r stack ≡ Ok after → Values r → Values after
unfolding with_stack
stacked None r after low h values = let is : r ≡ after = cc in subst Values is values
stacked (Some one) r after low h values = stacked_by (stack_at one.base one.size) r after one refl (low one refl) h values

-- a stack's base is a number of 64 bits
base_low_by : (none : Bool) (r : Registers) (places : HartPlaces) (one : Stack) → ((places.stack == 0) || is_set r STACK) ≡ none
    → stack_of r places ≡ Some one → one.base < 2 ^ 64
unfolding stack_of
base_low_by true r places one e h = absurd (cc (rw e at h))
base_low_by false r places one e h =
    let this : Stack = record { base = next_multiple places.memory_end (stack_alignment places.stack); size = places.stack } in
    let is : this ≡ one = cc (rw e at h) in
    let low : this.base < 2 ^ 64 = omega arith in
    subst (λ (s : Stack). s.base < 2 ^ 64) is low

base_low : (r : Registers) (places : HartPlaces) (one : Stack) → stack_of r places ≡ Some one → one.base < 2 ^ 64
base_low r places one h = base_low_by ((places.stack == 0) || is_set r STACK) r places one refl h

pub hart_writable : (registers : Registers) (places : HartPlaces) (hart : OpenHart) → AreWritable registers → AreNumbers places
    → hart_of registers places ≡ Ok hart → IsWritableHart hart.image
hart_writable registers places hart writable numbers h =
    let steps = steps_of registers places hart h in
    let opening : Values registers = record { count = writable.count; all = All-from_recursion IsWritable registers.values writable.values } in
    let first : Values steps.first = stacked (stack_of registers places) registers steps.first (base_low registers places) steps.with_stack_is opening in
    let second : Values steps.second = linked places.exit steps.first steps.second places.reach numbers.exit steps.with_exit_is first in
    let last : Values (with_number steps.second places.number) = numbered steps.second places.number numbers.number second in
    let values : length hart.image.regs ≡ 31 = ap (λ (o : OpenHart). length o.image.regs) (sym steps.whole) ∙ last.count in
    let all : All IsWritable hart.image.regs = subst (λ (o : OpenHart). All IsWritable o.image.regs) steps.whole last.all in
    let pcc : IsWritablePcc hart.image.pcc =
    subst (λ (o : OpenHart). IsWritablePcc o.image.pcc) steps.whole (pcc_writable places.reach places.entry steps.pcc numbers.entry steps.made_at) in
    record { program_counter = pcc; count = values; values = recursion_from_All IsWritable hart.image.regs all }
