-- What a reason for a trap claims of the hart and the memory before the step.
use Rattle.std.specs.Prelude.{◌≡◌, ℕ, ◌%◌, ◌==◌, true, false, List}
use Rattle.std.specs.Option.{option_map, ForSome}
use Rattle.cap_model.specs.declared.permission.TheConstants as permission
use Rattle.cap_model.specs.values.CapValue.{CapValue, tag_of}
use Rattle.cap_model.specs.results.Addresses.{has_permission, in_bounds}
use Rattle.cap_model.specs.results.Readings.{base_of, top_of, object_type_of, is_sealed}
use Rattle.cap_model.specs.results.Seals.{is_sealable}
use Rattle.cheri_model.specs.declared.instr.Instr.{Instr}
use Rattle.cheri_model.specs.declared.trace.Trap.{Trap}
use Rattle.cheri_model.specs.instructions.Form.{form_of}
use Rattle.cheri_model.specs.steps.Hart.{HartState}
use Rattle.cheri_model.specs.steps.Memory.{is_in_ram}
use Rattle.cheri_model.specs.steps.Checks.{is_in_code}
use Rattle.origins.specs.Places.{value_at_spot}
use Rattle.origins.specs.Flows.{IsSpot}
use Rattle.facts.specs.declared.why.TrapWhy.{TrapWhy}
use Rattle.facts.specs.declared.why.TrapWhy.TheVariants as why
use Rattle.facts.specs.Names.{EachIs, reads_of}
use Rattle.facts.specs.StepFacts.{fetched_of}
use Rattle.facts.specs.Traps.{trap_why}

-- in a program of this many instructions
abbrev pub IsTrapSo : ℕ → HartState → List CapValue → TrapWhy → Type 0
IsTrapSo count hart memory (why.Untagged name) = tag_of (value_at_spot hart memory name) ≡ false
IsTrapSo count hart memory (why.Sealed name otype) =
    (is_sealed (value_at_spot hart memory name) ≡ true)
    × (otype ≡ object_type_of (value_at_spot hart memory name))
IsTrapSo count hart memory (why.NotInvocable name) =
    is_sealable (object_type_of (value_at_spot hart memory name)) ≡ false
IsTrapSo count hart memory (why.Lacks name number) =
    has_permission (value_at_spot hart memory name) number ≡ false
IsTrapSo count hart memory (why.HasExecute name) =
    has_permission (value_at_spot hart memory name) permission.EXECUTE ≡ true
IsTrapSo count hart memory (why.LacksStoreCap name stored) =
    (has_permission (value_at_spot hart memory name) permission.STORE_CAP ≡ false)
    × (tag_of (value_at_spot hart memory stored) ≡ true)
IsTrapSo count hart memory (why.LacksStoreLocal name stored) =
    (has_permission (value_at_spot hart memory name) permission.STORE_LOCAL ≡ false)
    × (tag_of (value_at_spot hart memory stored) ≡ true)
    × (has_permission (value_at_spot hart memory stored) permission.GLOBAL ≡ false)
IsTrapSo count hart memory (why.Outside bytes address base top name) =
    (in_bounds (value_at_spot hart memory name) address bytes ≡ false)
    × (base ≡ base_of (value_at_spot hart memory name))
    × (top ≡ top_of (value_at_spot hart memory name))
IsTrapSo count hart memory (why.Misaligned address bytes) = (address % bytes == 0) ≡ false
IsTrapSo count hart memory (why.NotInRam bytes address) = is_in_ram memory address bytes ≡ false
IsTrapSo count hart memory (why.NoInstruction address) = is_in_code count address ≡ false
IsTrapSo count hart memory (why.TypesDiffer code pair) = (code == pair) ≡ false

-- the registers that the next instruction of a hart reads are registers, if it is fetched
abbrev pub ReadsRegisters : List Instr → HartState → Type 0
ReadsRegisters program hart =
    ForSome (fetched_of program hart.pcc) (λ f. EachIs (IsSpot 0) (reads_of (form_of f.instr)))

-- why a step of a hart trapped so
abbrev pub step_trap_why : List Instr → HartState → Trap → TrapWhy
step_trap_why program hart trap =
    trap_why (option_map (λ f. f.instr) (fetched_of program hart.pcc)) hart trap
