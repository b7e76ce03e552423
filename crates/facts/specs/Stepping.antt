-- What the running side keeps between the two halves of a step, and what its table of origins says.
use Rattle.std.specs.Prelude.{◌≡◌, ℕ, ◌+◌, ◌*◌, ◌<◌, true, List, length, Option, Some, None, ⊤}
use Rattle.std.specs.Option.{option_map}
use Rattle.cap_model.specs.values.CapValue.{CapValue}
use Rattle.cap_model.specs.results.Addresses.{address_of}
use Rattle.cheri_model.specs.steps.Hart.{HartState}
use Rattle.cheri_model.specs.steps.HartStep.{Stepped}
use Rattle.cheri_model.specs.steps.Memory.{fits}
use Rattle.cheri_model.specs.steps.Actions.{action}
use Rattle.cheri_model.specs.declared.instr.Instr.{Instr}
use Rattle.cheri_model.specs.declared.trace.Outcome.{Outcome}
use Rattle.cheri_model.specs.declared.trace.Outcome.TheVariants as outcome
use Rattle.cheri_model.specs.instructions.Form.{form_of}
use Rattle.instructions.specs.Actions.{action_of}
use Rattle.origins.specs.declared.place.Place.{Place}
use Rattle.origins.specs.Origins.{Origins}
use Rattle.origins.specs.Table.{Table, IsPlace, origin_in}
use Rattle.facts.specs.declared.step_facts.Extent.{Extent}
use Rattle.facts.specs.declared.step_facts.StepFacts.{StepFacts}
use Rattle.facts.specs.declared.stepping.Moment.{Moment}
use Rattle.facts.specs.declared.stepping.Seen.{Seen}
use Rattle.facts.specs.Names.{each_of, reads_of, access_of}
use Rattle.facts.specs.Losses.{clears_of}
use Rattle.facts.specs.StepFacts.{named_at, fetched_of, granule_accessed}

-- a table of a machine with this hart, and with this many granules
pub record IsTableFor (table : Table) (number granules : ℕ) : Type 0 where
  pub hart : number < table.harts
  pub size : length table.slots ≡ 33 * table.harts + granules

-- of a hart at one moment, and its memory
abbrev pub HasTable : Moment → Type 0
HasTable now = IsTableFor now.origins.now now.number (length now.ram.now)

-- how a step ended that left a hart so, and its memory
abbrev pub stepped_to : Moment → Outcome → Stepped
stepped_to after outcome =
    record { hart = after.hart.now; memory = after.ram.now; outcome = outcome }

-- a table says where each value is from
abbrev pub Tells : Table → Origins → Type 0
Tells table origins = (place : Place) → IsPlace table place → origin_in table place ≡ origins place

-- an access, if there is one, is aligned and lies in this memory
abbrev pub IsPlaced : List CapValue → Option Extent → Type 0
IsPlaced memory None = ⊤
IsPlaced memory (Some bytes) = fits memory bytes.address bytes.bytes ≡ true

-- what was seen of an instruction before its step, and the facts that are known by then
pub record IsSeen (seen : Seen) (facts : StepFacts) (number : ℕ) (hart : HartState)
    (memory : List CapValue) (origins : Origins) : Type 0 where
  pub pc : seen.pc ≡ address_of hart.pcc
  pub asked : action_of seen.action ≡ action seen.fetched.instr hart
  pub reads : facts.reads ≡
      each_of (named_at hart memory origins number) (reads_of (form_of seen.fetched.instr))
  pub at : seen.at ≡ access_of (action seen.fetched.instr hart)
  pub found : IsPlaced memory seen.at → facts.finds ≡
      option_map (named_at hart memory origins number) (granule_accessed seen.at)
  pub clears : facts.clears ≡ clears_of seen.fetched.instr hart facts.finds

-- a hart that a step stopped: its values are those before the step
abbrev pub IsStopped : HartState → HartState → Type 0
IsStopped hart after = after ≡ record hart { status = after.status }

-- an outcome that is no trap
abbrev pub IsNotTrap : Outcome → Type 0
IsNotTrap outcome.Done = ⊤
IsNotTrap outcome.Halt = ⊤
IsNotTrap (outcome.Trap trap) = ⊥

-- what was seen before a step of a hart: nothing where its fetch traps
abbrev pub IsSeenBefore : Option Seen → StepFacts → List Instr → ℕ → HartState → List CapValue
    → Origins → Type 0
IsSeenBefore None facts program number hart memory origins = fetched_of program hart.pcc ≡ None
IsSeenBefore (Some seen) facts program number hart memory origins =
    (fetched_of program hart.pcc ≡ Some seen.fetched) × IsSeen seen facts number hart memory origins

-- the address of an access; 0 where there is none
abbrev pub address_accessed : Option Extent → ℕ
address_accessed None = 0
address_accessed (Some bytes) = bytes.address
