-- The JSON report: one object, whose keys are in byte order at every level.
use Rattle.std.specs.Prelude.{ℕ, ◌+◌, List, [], ◌∷◌, map, codes, zero, suc}
use Rattle.serde_json.specs.Data.{Data, string, array, object, Members, no_members, member, put}
use Rattle.serde_json.specs.View.{items_of}
use Rattle.cheri_model.specs.declared.operation.Event.{Event}
use Rattle.cheri_model.specs.declared.trace.Status.{Status}
use Rattle.cheri_model.specs.declared.trace.Status.TheVariants as status
use Rattle.cap_model.specs.values.CapValue.{CapValue}
use Rattle.cheri_model.specs.steps.Hart.{HartState, register}
use Rattle.cheri_model.specs.runs.Image.{ImageParts}
use Rattle.cheri_model.specs.runs.Machine.{MachineState}
use Rattle.report_lines.specs.EventData.{event_data, image_data}
use Rattle.report_lines.specs.Names.{address_of_granule, register_name}
use Rattle.report_lines.specs.ValueData.{count, put_listed, value_data}
use Rattle.report_lines.specs.ValueText.{hex_text}
use Rattle.reports.specs.Report.{version_of}

-- the members with a hart's registers from this number on, this many
unfoldable pub put_registers : HartState → ℕ → ℕ → Members → Members
put_registers hart from zero members = members
put_registers hart from (suc more) members =
    put_registers hart (from + 1) more
    (put_listed (register_name from) (register hart from) members)

-- the members with how a hart stands, and of one that trapped the trap
abbrev pub put_status : Status → Members → Members
put_status status.Running members = put (codes "status") (string (codes "running")) members
put_status status.Halted members = put (codes "status") (string (codes "halted")) members
put_status (status.Trapped trap) members =
    put (codes "status") (string (codes "trapped"))
    (put (codes "reg") (count trap.reg) (put (codes "cause") (count trap.cause) members))

-- a hart: PCC, the registers c1 to c31 that are not null, and its status
abbrev pub status_data : Data → Data → Status → Data
status_data pcc regs status.Running = object
    (member (codes "pcc") pcc
    (member (codes "regs") regs
    (member (codes "status") (string (codes "running")) no_members)))
status_data pcc regs status.Halted = object
    (member (codes "pcc") pcc
    (member (codes "regs") regs
    (member (codes "status") (string (codes "halted")) no_members)))
status_data pcc regs (status.Trapped trap) = object
    (member (codes "cause") (count trap.cause)
    (member (codes "pcc") pcc
    (member (codes "reg") (count trap.reg)
    (member (codes "regs") regs
    (member (codes "status") (string (codes "trapped")) no_members)))))

unfoldable pub hart_data : HartState → Data
hart_data hart =
    status_data (value_data hart.pcc) (object (put_registers hart 1 31 no_members)) hart.status

-- the members with granules, of which the first has this number
unfoldable pub put_granules : ℕ → List CapValue → Members → Members
put_granules from [] members = members
put_granules from (v ∷ rest) members =
    put_granules (from + 1) rest (put_listed (hex_text 16 (address_of_granule from)) v members)

-- the events of a trace
abbrev pub events_data : List Event → Data
events_data events = array (items_of (map event_data events))

abbrev pub harts_data : List HartState → Data
harts_data harts = array (items_of (map hart_data harts))

-- a memory: each granule that is tagged or not all 0, under its address
abbrev pub memory_data : List CapValue → Data
memory_data memory = object (put_granules 0 memory no_members)

unfoldable pub json_report : ImageParts → List Event → MachineState → Data
json_report image events state = object
    (member (codes "entries") (events_data events)
    (member (codes "harts") (harts_data state.harts)
    (member (codes "image") (image_data image)
    (member (codes "mem") (memory_data state.memory)
    (member (codes "report") (count (version_of events)) no_members)))))
