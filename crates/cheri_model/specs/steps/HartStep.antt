-- One step of one hart: the fetch check, then the instruction at PCC. `action` says what the
-- instruction asks for; `execute` does it.
use Rattle.std.specs.Prelude.{ℕ, ◌-◌, ◌/◌, Bool, true, false, if◌then◌else◌, List, length}
use Rattle.std.specs.Prelude.{slice_index_or, Option, Some, None, Result, Ok, Err}
use Rattle.cheri_model.specs.declared.code.TheConstants.{INSTRUCTION_BYTES}
use Rattle.cheri_model.specs.declared.access.Access.{Access}
use Rattle.cheri_model.specs.declared.access.Access.TheVariants as access
use Rattle.cheri_model.specs.declared.trace.Trap.{Trap}
use Rattle.cheri_model.specs.declared.trace.Outcome.{Outcome}
use Rattle.cheri_model.specs.declared.trace.Outcome.TheVariants as outcome
use Rattle.cheri_model.specs.declared.trace.Status.TheVariants as status
use Rattle.cheri_model.specs.declared.instr.Instr.{Instr}
use Rattle.cheri_model.specs.declared.instr.Instr.TheVariants.{Ecall}
use Rattle.cheri_model.specs.declared.width.Width.{Width}
use Rattle.cap_model.specs.values.CapValue.{CapValue}
use Rattle.cheri_model.specs.steps.Memory.{bytes_of, load_data, store_data, load_capability}
use Rattle.cheri_model.specs.steps.Memory.{store_capability}
use Rattle.cap_model.specs.results.Addresses.{address_of, clear_tag, has_permission, with_address}
use Rattle.cap_model.specs.results.Seals.{unsealed}
use Rattle.cheri_model.specs.instructions.Integers.{extended}
use Rattle.cheri_model.specs.steps.Hart.{HartState, register, word_of_integer, put, next, link}
use Rattle.cheri_model.specs.steps.Actions.{Action, Put, Load, Store, LoadCap, StoreCap, Swap}
use Rattle.cheri_model.specs.steps.Actions.{Branch, Jump, JumpThrough, Invoke, Halt, action}
use Rattle.cheri_model.specs.steps.Checks.{first_failing, fetch_table, access_table, target_table}
use Rattle.cheri_model.specs.steps.Checks.{jump_table, invoke_table, code_base}
use Rattle.cap_model.specs.declared.permission.TheConstants as permission

-- what a step leaves: the hart, the memory and the outcome
pub record Stepped : Type 0 where
  pub hart : HartState
  pub memory : List CapValue
  pub outcome : Outcome

abbrev pub done : HartState → List CapValue → Stepped
done hart memory = record { hart = hart; memory = memory; outcome = outcome.Done }

-- a trap changes nothing but the hart's status
unfoldable pub trapped : Trap → HartState → List CapValue → Stepped
trapped trap hart memory =
    record {
      hart = record hart { status = status.Trapped trap };
      memory = memory;
      outcome = outcome.Trap trap;
    }

abbrev pub unless_trapped : Result (Unit {0}) Trap → HartState → List CapValue → Stepped → Stepped
unless_trapped (Ok u) hart memory after = after
unless_trapped (Err trap) hart memory after = trapped trap hart memory

-- the check of an access through c1
abbrev pub access_check : HartState → ℕ → ℕ → Access → Option CapValue → List CapValue
    → Result (Unit {0}) Trap
access_check hart c1 addr kind stored memory =
    first_failing (access_table (register hart c1) c1 addr kind stored memory)

-- a loaded number, sign-extended or not
abbrev pub loaded : Bool → Width → ℕ → ℕ
loaded true width number = extended width number
loaded false width number = number

-- a loaded capability keeps its tag only under the permission Load_Capability
unfoldable pub permitted : CapValue → CapValue → CapValue
permitted auth v = if has_permission auth permission.LOAD_CAP then v else clear_tag v

-- the hart at a target in the bounds of a capability, which becomes PCC
abbrev pub jumped_to : CapValue → ℕ → HartState → HartState
jumped_to pcc target hart = record hart { pcc = with_address pcc target }

-- the register that CInvoke leaves the unsealed data in
abbrev pub invoked_data : ℕ
invoked_data = 31

unfoldable pub execute : Action → HartState → List CapValue → Stepped
execute (Put cd v) hart memory = done (next (put cd v hart)) memory
execute (Load cd c1 addr width signed) hart memory =
    unless_trapped (access_check hart c1 addr (access.Load width) None memory) hart memory
    (let number = loaded signed width (load_data memory addr (bytes_of width)) in
    done (next (put cd (word_of_integer number) hart)) memory)
execute (Store c1 addr width number) hart memory =
    unless_trapped (access_check hart c1 addr (access.Store width) None memory) hart memory
    (done (next hart) (store_data memory addr (bytes_of width) number))
execute (LoadCap cd c1 addr) hart memory =
    unless_trapped (access_check hart c1 addr access.LoadCap None memory) hart memory
    (done (next (put cd (permitted (register hart c1) (load_capability memory addr)) hart)) memory)
execute (StoreCap c1 addr v) hart memory =
    unless_trapped (access_check hart c1 addr access.StoreCap (Some v) memory) hart memory
    (done (next hart) (store_capability memory addr v))
execute (Swap cd c1 addr v) hart memory =
    unless_trapped (access_check hart c1 addr access.Swap (Some v) memory) hart memory
    (done (next (put cd (permitted (register hart c1) (load_capability memory addr)) hart))
    (store_capability memory addr v))
execute (Branch false target) hart memory = done (next hart) memory
execute (Branch true target) hart memory =
    unless_trapped (first_failing (target_table hart.pcc target)) hart memory
    (done (jumped_to hart.pcc target hart) memory)
execute (Jump cd target) hart memory =
    unless_trapped (first_failing (target_table hart.pcc target)) hart memory
    (done (jumped_to hart.pcc target (put cd (link hart.pcc) hart)) memory)
execute (JumpThrough cd c1 is_entry target) hart memory =
    unless_trapped (first_failing (jump_table (register hart c1) c1 is_entry target)) hart memory
    (done (jumped_to (unsealed (register hart c1)) target (put cd (link hart.pcc) hart)) memory)
execute (Invoke c1 c2 target) hart memory =
    unless_trapped (first_failing (invoke_table (register hart c1) c1 (register hart c2) c2 target))
    hart memory
    (done (jumped_to (unsealed (register hart c1)) target
    (put invoked_data (unsealed (register hart c2)) hart)) memory)
execute Halt hart memory =
    record {
      hart = record hart { status = status.Halted };
      memory = memory;
      outcome = outcome.Halt;
    }

-- the instruction at an address of the code
unfoldable pub instruction_at : List Instr → ℕ → Instr
instruction_at program addr = slice_index_or program ((addr - code_base) / INSTRUCTION_BYTES) Ecall

-- one step of a hart that runs
unfoldable pub hart_step : List Instr → HartState → List CapValue → Stepped
hart_step program hart memory =
    unless_trapped (first_failing (fetch_table hart.pcc (length program))) hart memory
    (execute (action (instruction_at program (address_of hart.pcc)) hart) hart memory)
