-- Flows: for each instruction, which places it sets, and from where as they were before (CHERI ISA
-- v9, "provenance"). Where a result has no tag its flow says nothing.
use Rattle.std.specs.Prelude.{ℕ, ◌<◌, ◌==◌, if◌then◌else◌, List, [], ◌∷◌, ⊤}
use Rattle.cheri_model.specs.declared.instr.Instr.{Instr}
use Rattle.cheri_model.specs.declared.instr.Instr.TheVariants as instr
use Rattle.cheri_model.specs.declared.trace.Outcome.{Outcome}
use Rattle.cheri_model.specs.declared.trace.Outcome.TheVariants as outcome
use Rattle.cap_model.specs.values.CapValue.{CapValue}
use Rattle.cap_model.specs.results.Addresses.{address_of}
use Rattle.cheri_model.specs.steps.Memory.{granule_number}
use Rattle.cheri_model.specs.steps.Hart.{HartState}
use Rattle.cheri_model.specs.steps.Actions.{Action, Put, Load, Store, LoadCap, StoreCap, Swap}
use Rattle.cheri_model.specs.steps.Actions.{Branch, Jump, JumpThrough, Invoke, Halt, action}
use Rattle.cheri_model.specs.steps.HartStep.{hart_step, instruction_at, invoked_data}
use Rattle.origins.specs.declared.place.Spot.{Spot}
use Rattle.origins.specs.declared.place.Spot.TheVariants.{Pcc, Register, Granule}
use Rattle.origins.specs.declared.place.Flow.{Flow}
use Rattle.origins.specs.Places.{is_same}

-- what is set, and from where
abbrev pub flow : Spot → Spot → Flow
flow set source = record { set = set; source = source }

-- a result goes to cd, and a write to c0 is dropped
abbrev pub into : ℕ → Spot → List Flow
into cd source = if cd == 0 then [] else flow (Register cd) source ∷ []

-- the granule that the byte at an address is in
abbrev pub granule_of : ℕ → Spot
granule_of addr = Granule (granule_number addr)

-- the flows of each instruction, which accesses memory, if it does, at this address
unfoldable pub flows_at : Instr → ℕ → List Flow
flows_at (instr.CMove cd c1) addr = into cd (Register c1)
flows_at (instr.CClearTag cd c1) addr = into cd (Register c1)
flows_at (instr.CSetAddr cd c1 c2) addr = into cd (Register c1)
flows_at (instr.CIncOffset cd c1 c2) addr = into cd (Register c1)
flows_at (instr.CIncOffsetImm cd c1 imm) addr = into cd (Register c1)
flows_at (instr.CSetBounds cd c1 c2) addr = into cd (Register c1)
flows_at (instr.CSetBoundsImm cd c1 len) addr = into cd (Register c1)
flows_at (instr.CSetBoundsExact cd c1 c2) addr = into cd (Register c1)
flows_at (instr.CAndPerm cd c1 c2) addr = into cd (Register c1)
flows_at (instr.CSetFlags cd c1 c2) addr = into cd (Register c1)
flows_at (instr.CSetHigh cd c1 c2) addr = into cd (Register c1)
flows_at (instr.CSeal cd c1 c2) addr = into cd (Register c1)
flows_at (instr.CUnseal cd c1 c2) addr = into cd (Register c1)
flows_at (instr.CBuildCap cd c1 c2) addr = into cd (Register c1)
flows_at (instr.CSealEntry cd c1) addr = into cd (Register c1)
flows_at (instr.AuiPcc cd imm) addr = into cd Pcc
flows_at (instr.Lc cd c1 imm) addr = into cd (granule_of addr)
flows_at (instr.Sc c2 c1 imm) addr = flow (granule_of addr) (Register c2) ∷ []
flows_at (instr.AmoSwapC cd c2 c1) addr =
    flow (granule_of addr) (Register c2) ∷ into cd (granule_of addr)
flows_at (instr.CJal cd target) addr = into cd Pcc
flows_at (instr.CJalr cd c1 imm) addr = flow Pcc (Register c1) ∷ into cd Pcc
flows_at (instr.CInvoke c1 c2) addr =
    flow Pcc (Register c1) ∷ into invoked_data (Register c2)
flows_at _ addr = []

-- the address at which an action accesses memory; 0 where it does not
abbrev pub accessed_address : Action → ℕ
accessed_address (Put cd v) = 0
accessed_address (Load cd c1 addr width signed) = addr
accessed_address (Store c1 addr width number) = addr
accessed_address (LoadCap cd c1 addr) = addr
accessed_address (StoreCap c1 addr v) = addr
accessed_address (Swap cd c1 addr v) = addr
accessed_address (Branch taken target) = 0
accessed_address (Jump cd target) = 0
accessed_address (JumpThrough cd c1 is_entry target) = 0
accessed_address (Invoke c1 c2 target) = 0
accessed_address Halt = 0

-- the flows of an instruction that a hart does
abbrev pub flows : Instr → HartState → List Flow
flows i hart = flows_at i (accessed_address (action i hart))

-- a step that is not done sets nothing
abbrev pub flows_if : Outcome → List Flow → List Flow
flows_if outcome.Done list = list
flows_if outcome.Halt list = []
flows_if (outcome.Trap trap) list = []

-- the flows of one step of a hart
unfoldable pub step_flows : List Instr → HartState → List CapValue → List Flow
step_flows program hart memory =
    flows_if (hart_step program hart memory).outcome
    (flows (instruction_at program (address_of hart.pcc)) hart)

-- where the value in a place comes from: the first flow that sets it says so, and what none sets
-- stays
unfoldable pub source_of : List Flow → Spot → Spot
source_of [] spot = spot
source_of (flow ∷ rest) spot = if is_same flow.set spot then flow.source else source_of rest spot

-- a place that a hart names, in a machine with this many granules
abbrev pub IsSpot : ℕ → Spot → Type 0
IsSpot granules Pcc = ⊤
IsSpot granules (Register number) = number < 32
IsSpot granules (Granule number) = number < granules

-- flows between such places
abbrev pub AreSpots : ℕ → List Flow → Type 0
AreSpots granules [] = ⊤
AreSpots granules (flow ∷ rest) =
    IsSpot granules flow.set × IsSpot granules flow.source × AreSpots granules rest
