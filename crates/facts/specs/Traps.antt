-- Why a step trapped, by the trap's cause.
use Rattle.std.specs.Prelude.{ℕ, ◌==◌, nat_lt, Bool, true, false, if◌then◌else◌, Option, Some, None}
use Rattle.cap_model.specs.declared.permission.TheConstants as permission
use Rattle.cap_model.specs.values.CapValue.{CapValue}
use Rattle.cap_model.specs.results.Addresses.{address_of, has_permission}
use Rattle.cap_model.specs.results.Readings.{base_of, top_of, object_type_of}
use Rattle.cheri_model.specs.declared.code.TheConstants.{INSTRUCTION_BYTES}
use Rattle.cheri_model.specs.declared.memory.TheConstants.{GRANULE_BYTES}
use Rattle.cheri_model.specs.declared.trace.Trap.{Trap}
use Rattle.cheri_model.specs.declared.trace.TheConstants.Trap as cause
use Rattle.cheri_model.specs.declared.instr.Instr.{Instr}
use Rattle.cheri_model.specs.declared.instr.Instr.TheVariants as instr
use Rattle.cheri_model.specs.steps.Memory.{bytes_of}
use Rattle.cheri_model.specs.steps.Hart.{HartState, null, register}
use Rattle.cheri_model.specs.steps.Actions.{Action, Put, Load, Store, LoadCap, StoreCap, Swap}
use Rattle.cheri_model.specs.steps.Actions.{Branch, Jump, JumpThrough, Invoke, Halt, action}
use Rattle.origins.specs.declared.place.Spot.{Spot}
use Rattle.origins.specs.declared.place.Spot.TheVariants.{Pcc, Register}
use Rattle.facts.specs.declared.step_facts.Extent.{Extent}
use Rattle.facts.specs.declared.why.TrapWhy.{TrapWhy}
use Rattle.facts.specs.declared.why.TrapWhy.TheVariants as why
use Rattle.facts.specs.Names.{extent}

-- the register that a trap names, and what is in it: null where there is no such register
abbrev pub name_of : ℕ → Spot
name_of reg = if reg == cause.PCC then Pcc else Register reg

abbrev pub named_by : HartState → ℕ → CapValue
named_by hart reg =
    if reg == cause.PCC then hart.pcc else if nat_lt reg 32 then register hart reg else null

-- the bytes that an action's checks are about: those of an access, or the instruction at a target
unfoldable pub checked_by : Action → Extent
checked_by (Put cd v) = extent 0 0
checked_by (Load cd c1 addr width signed) = extent addr (bytes_of width)
checked_by (Store c1 addr width number) = extent addr (bytes_of width)
checked_by (LoadCap cd c1 addr) = extent addr GRANULE_BYTES
checked_by (StoreCap c1 addr v) = extent addr GRANULE_BYTES
checked_by (Swap cd c1 addr v) = extent addr GRANULE_BYTES
checked_by (Branch taken target) = extent target INSTRUCTION_BYTES
checked_by (Jump cd target) = extent target INSTRUCTION_BYTES
checked_by (JumpThrough cd c1 is_entry target) = extent target INSTRUCTION_BYTES
checked_by (Invoke c1 c2 target) = extent target INSTRUCTION_BYTES
checked_by Halt = extent 0 0

-- the same of a step: of its fetch, or of the instruction that was fetched
abbrev pub checked_bytes : Option Instr → HartState → Extent
checked_bytes None hart = extent (address_of hart.pcc) INSTRUCTION_BYTES
checked_bytes (Some i) hart = checked_by (action i hart)

-- the register whose capability an instruction stores
abbrev pub stored_register : Instr → ℕ
stored_register (instr.Sc c2 c1 imm) = c2
stored_register (instr.AmoSwapC cd c2 c1) = c2
stored_register _ = 0

abbrev pub stored_by : Option Instr → Spot
stored_by None = Register 0
stored_by (Some i) = Register (stored_register i)

abbrev pub is_invoke : Option Instr → Bool
is_invoke (Some (instr.CInvoke c1 c2)) = true
is_invoke _ = false

-- the object types of an invoked pair
abbrev pub types_differ : Option Instr → HartState → TrapWhy
types_differ (Some (instr.CInvoke c1 c2)) hart =
    why.TypesDiffer (object_type_of (register hart c1)) (object_type_of (register hart c2))
types_differ _ hart = why.TypesDiffer 0 0

-- causes that speak of a register's tag, seal and permission to execute
abbrev pub not_invocable : Bool → Spot → CapValue → TrapWhy
not_invocable true name v = why.NotInvocable name
not_invocable false name v = why.Sealed name (object_type_of v)

abbrev pub execute_why : Spot → CapValue → TrapWhy
execute_why name v =
    if has_permission v permission.EXECUTE then why.HasExecute name
    else why.Lacks name permission.EXECUTE

abbrev pub outside : Extent → Spot → CapValue → TrapWhy
outside bytes name v = why.Outside bytes.bytes bytes.address (base_of v) (top_of v) name

-- The checks that an access of memory alone has; what is left are the causes of a pair of code and
-- data.
unfoldable pub access_why : ℕ → Spot → Spot → Extent → TrapWhy → TrapWhy
access_why number name stored bytes otherwise =
    if number == cause.LOAD then why.Lacks name permission.LOAD
    else if number == cause.STORE then why.Lacks name permission.STORE
    else if number == cause.STORE_CAP then why.LacksStoreCap name stored
    else if number == cause.STORE_LOCAL then why.LacksStoreLocal name stored
    else if number == cause.PLACE then why.NotInRam bytes.bytes bytes.address
    else if number == cause.CINVOKE then why.Lacks name permission.CINVOKE
    else otherwise

-- why a step of this hart trapped by a cause, which speaks of this register and its value
unfoldable pub why_of_cause : Option Instr → HartState → ℕ → Spot → CapValue → TrapWhy
why_of_cause fetched hart number name v =
    let bytes = checked_bytes fetched hart in
    if number == cause.TAG then why.Untagged name
    else if number == cause.SEAL then not_invocable (is_invoke fetched) name v
    else if number == cause.EXECUTE then execute_why name v
    else if number == cause.LENGTH then outside bytes name v
    else if number == cause.ALIGNMENT then why.Misaligned bytes.address bytes.bytes
    else if number == cause.FETCH then why.NoInstruction bytes.address
    else access_why number name (stored_by fetched) bytes (types_differ fetched hart)

-- the same of a trap, in its fetch or in the instruction that was fetched
abbrev pub trap_why : Option Instr → HartState → Trap → TrapWhy
trap_why fetched hart trap =
    why_of_cause fetched hart trap.cause (name_of trap.reg) (named_by hart trap.reg)
