-- Where the next step of a hart accesses memory.
use Rattle.std.specs.Prelude.{ℕ, List, length, Result, Ok, Err}
use Rattle.cheri_model.specs.declared.instr.Instr.{Instr}
use Rattle.cheri_model.specs.declared.trace.Trap.{Trap}
use Rattle.cap_model.specs.results.Addresses.{address_of}
use Rattle.cheri_model.specs.steps.Actions.{Action, Put, Load, Store, LoadCap, StoreCap, Swap}
use Rattle.cheri_model.specs.steps.Actions.{Branch, Jump, JumpThrough, Invoke, Halt, action}
use Rattle.cheri_model.specs.steps.Checks.{first_failing, fetch_table}
use Rattle.cheri_model.specs.steps.Hart.{HartState}
use Rattle.cheri_model.specs.steps.HartStep.{instruction_at}

-- the address that an action loads from or stores at, 0 where it does neither
abbrev pub address_in : Action → ℕ
address_in (Put cd v) = 0
address_in (Load cd c1 addr width signed) = addr
address_in (Store c1 addr width number) = addr
address_in (LoadCap cd c1 addr) = addr
address_in (StoreCap c1 addr v) = addr
address_in (Swap cd c1 addr v) = addr
address_in (Branch taken target) = 0
address_in (Jump cd target) = 0
address_in (JumpThrough cd c1 is_entry target) = 0
address_in (Invoke c1 c2 target) = 0
address_in Halt = 0

-- 0 after a trap
abbrev pub unless_fetch_traps : Result (Unit {0}) Trap → ℕ → ℕ
unless_fetch_traps (Ok u) address = address
unless_fetch_traps (Err trap) address = 0

-- the address that the next step of a hart accesses
unfoldable pub accessed_address : List Instr → HartState → ℕ
accessed_address program hart =
    unless_fetch_traps (first_failing (fetch_table hart.pcc (length program)))
    (address_in (action (instruction_at program (address_of hart.pcc)) hart))
