-- The facts of one step.
use Rattle.std.specs.Prelude.{ℕ, ◌-◌, ◌/◌, if◌then◌else◌, List, length, Option, Some}
use Rattle.std.specs.Prelude.{None, Result, Ok, Err}
use Rattle.std.specs.Option.{option_map}
use Rattle.cap_model.specs.values.CapValue.{CapValue, tag_of}
use Rattle.cap_model.specs.results.Addresses.{address_of}
use Rattle.cheri_model.specs.declared.code.TheConstants.{INSTRUCTION_BYTES}
use Rattle.cheri_model.specs.declared.instr.Instr.{Instr}
use Rattle.cheri_model.specs.declared.trace.Entry.{Entry}
use Rattle.cheri_model.specs.declared.trace.Trap.{Trap}
use Rattle.cheri_model.specs.declared.trace.Outcome.{Outcome}
use Rattle.cheri_model.specs.declared.trace.Outcome.TheVariants as outcome
use Rattle.cheri_model.specs.instructions.Form.{form_of}
use Rattle.cheri_model.specs.steps.Checks.{code_base, first_failing, fetch_table}
use Rattle.cheri_model.specs.steps.Hart.{HartState}
use Rattle.cheri_model.specs.steps.Actions.{Action, action}
use Rattle.cheri_model.specs.steps.HartStep.{Stepped, hart_step, instruction_at}
use Rattle.cheri_model.specs.runs.Image.{ImageParts}
use Rattle.cheri_model.specs.runs.Machine.{MachineState, hart_at}
use Rattle.origins.specs.declared.place.Spot.{Spot}
use Rattle.origins.specs.Places.{value_at_spot, place_of}
use Rattle.origins.specs.Flows.{granule_of, step_flows}
use Rattle.origins.specs.Origins.{Origins, before_flows}
use Rattle.facts.specs.declared.step_facts.UpToTwo.TheVariants.{Zero}
use Rattle.facts.specs.declared.step_facts.NamedValue.{NamedValue}
use Rattle.facts.specs.declared.step_facts.Extent.{Extent}
use Rattle.facts.specs.declared.step_facts.Fetched.{Fetched}
use Rattle.facts.specs.declared.step_facts.Trapped.{Trapped}
use Rattle.facts.specs.declared.step_facts.StepFacts.{StepFacts}
use Rattle.facts.specs.Names.{each_of, reads_of, access_of, is_store, sets_of}
use Rattle.facts.specs.Losses.{clears_of}
use Rattle.facts.specs.Traps.{trap_why}

-- the origin of a value, which it has where it is tagged
abbrev pub origin_of : Origins → ℕ → Spot → CapValue → NamedValue
origin_of origins number spot v =
    record {
      name = spot;
      value = v;
      origin = if tag_of v then Some (origins (place_of number spot)) else None;
    }

-- what the hart with this number names so, with its origin
unfoldable pub named_at : HartState → List CapValue → Origins → ℕ → Spot → NamedValue
named_at hart memory origins number spot =
    origin_of origins number spot (value_at_spot hart memory spot)

-- the instruction that a fetch which passed its checks gives, and its number
abbrev pub fetched_by : Result (Unit {0}) Trap → List Instr → CapValue → Option Fetched
fetched_by (Err trap) program pcc = None
fetched_by (Ok u) program pcc =
    Some (record {
      number = (address_of pcc - code_base) / INSTRUCTION_BYTES;
      instr = instruction_at program (address_of pcc);
    })

unfoldable pub fetched_of : List Instr → CapValue → Option Fetched
fetched_of program pcc = fetched_by (first_failing (fetch_table pcc (length program))) program pcc

-- a trap of a step of this hart, in its fetch or in the instruction that was fetched, and why
abbrev pub trapped_by : Option Instr → HartState → Trap → Trapped
trapped_by i hart trap = record { trap = trap; why = trap_why i hart trap }

-- the trap of a fetch, if it trapped
abbrev pub fetch_trap : Outcome → HartState → Option Trapped
fetch_trap outcome.Done hart = None
fetch_trap outcome.Halt hart = None
fetch_trap (outcome.Trap trap) hart = Some (trapped_by None hart trap)

-- the granule that an access lies in, and that of a store
abbrev pub granule_accessed : Option Extent → Option Spot
granule_accessed at = option_map (λ bytes. granule_of bytes.address) at

abbrev pub granule_stored : Action → Option Spot
granule_stored act = if is_store act then granule_accessed (access_of act) else None

abbrev pub entry : ℕ → HartState → Outcome → Entry
entry number hart result = record { hart = number; pc = address_of hart.pcc; outcome = result }

-- facts of a step that did nothing, which are still to be filled in
abbrev pub blank_facts : StepFacts
blank_facts = record {
  entry = record { hart = 0; pc = 0; outcome = outcome.Done };
  fetched = None;
  reads = Zero;
  at = None;
  finds = None;
  traps = None;
  leaves = None;
  sets = Zero;
  clears = None;
}

-- the facts of a step whose fetch trapped
abbrev pub fetch_facts : ℕ → HartState → Outcome → StepFacts
fetch_facts number hart result =
    record {
      entry = entry number hart result;
      fetched = None;
      reads = Zero;
      at = None;
      finds = None;
      traps = fetch_trap result hart;
      leaves = None;
      sets = Zero;
      clears = None;
    }

-- the facts of an instruction that trapped: what it read, its access, and the trap
abbrev pub trapped_facts : ℕ → HartState → List CapValue → Origins → Fetched → Trap → StepFacts
trapped_facts number hart memory origins fetched trap =
    let act = action fetched.instr hart in
    let before = named_at hart memory origins number in
    record {
      entry = entry number hart (outcome.Trap trap);
      fetched = Some fetched;
      reads = each_of before (reads_of (form_of fetched.instr));
      at = access_of act;
      finds = None;
      traps = Some (trapped_by (Some fetched.instr) hart trap);
      leaves = None;
      sets = Zero;
      clears = None;
    }

-- The facts of an instruction that was done, from a hart and a memory to those after it. What was
-- there before is named with the first origins, and what is there after with the second.
abbrev pub done_facts : ℕ → HartState → List CapValue → Origins → Fetched → Stepped → Origins
    → StepFacts
done_facts number hart memory origins fetched after origins_after =
    let act = action fetched.instr hart in
    let before = named_at hart memory origins number in
    let later = named_at after.hart after.memory origins_after number in
    let found = option_map before (granule_accessed (access_of act)) in
    record {
      entry = entry number hart after.outcome;
      fetched = Some fetched;
      reads = each_of before (reads_of (form_of fetched.instr));
      at = access_of act;
      finds = found;
      traps = None;
      leaves = option_map later (granule_stored act);
      sets = each_of later (sets_of act);
      clears = clears_of fetched.instr hart found;
    }

-- those of a step that fetched an instruction, by its outcome
abbrev pub instruction_facts : Outcome → ℕ → HartState → List CapValue → Origins → Fetched → Stepped
    → Origins → StepFacts
instruction_facts outcome.Done number hart memory origins fetched after origins_after =
    done_facts number hart memory origins fetched after origins_after
instruction_facts outcome.Halt number hart memory origins fetched after origins_after =
    done_facts number hart memory origins fetched after origins_after
instruction_facts (outcome.Trap trap) number hart memory origins fetched after origins_after =
    trapped_facts number hart memory origins fetched trap

abbrev pub facts_by : Option Fetched → ℕ → HartState → List CapValue → Origins → Stepped → Origins
    → StepFacts
facts_by None number hart memory origins after origins_after =
    fetch_facts number hart after.outcome
facts_by (Some fetched) number hart memory origins after origins_after =
    instruction_facts after.outcome number hart memory origins fetched after origins_after

-- the facts of a step of a hart
unfoldable pub hart_facts : List Instr → ℕ → HartState → List CapValue → Origins → StepFacts
hart_facts program number hart memory origins =
    facts_by (fetched_of program hart.pcc) number hart memory origins
    (hart_step program hart memory)
    (λ place. origins (before_flows number (step_flows program hart memory) place))

-- the facts of a step of the hart with this number
abbrev pub step_facts : ImageParts → MachineState → Origins → ℕ → StepFacts
step_facts image state origins number =
    hart_facts image.program number (hart_at state number) state.memory origins
