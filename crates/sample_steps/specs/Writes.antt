-- Which granule the next step of a hart may change.
use Rattle.std.specs.Prelude.{ℕ, List, Option, Some, None}
use Rattle.cap_model.specs.results.Addresses.{address_of}
use Rattle.cheri_model.specs.declared.instr.Instr.{Instr}
use Rattle.cheri_model.specs.steps.Actions.{Action, Put, Load, Store, LoadCap, StoreCap, Swap}
use Rattle.cheri_model.specs.steps.Actions.{Branch, Jump, JumpThrough, Invoke, Halt, action}
use Rattle.cheri_model.specs.steps.Hart.{HartState}
use Rattle.cheri_model.specs.steps.HartStep.{instruction_at}

-- the address that an action stores at, if it does
abbrev pub stored_at : Action → Option ℕ
stored_at (Put cd v) = None
stored_at (Load cd c1 addr width signed) = None
stored_at (Store c1 addr width number) = Some addr
stored_at (LoadCap cd c1 addr) = None
stored_at (StoreCap c1 addr v) = Some addr
stored_at (Swap cd c1 addr v) = Some addr
stored_at (Branch taken target) = None
stored_at (Jump cd target) = None
stored_at (JumpThrough cd c1 is_entry target) = None
stored_at (Invoke c1 c2 target) = None
stored_at Halt = None

-- the address that the instruction at PCC stores at, if it does, whether or not its fetch and its
-- access can pass their checks
unfoldable pub store_address : List Instr → HartState → Option ℕ
store_address program hart =
    stored_at (action (instruction_at program (address_of hart.pcc)) hart)
