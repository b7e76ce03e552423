-- The JSON report's parts, one by one, and that it has no float.
use Rattle.std.proofs.Common.{◌≡◌, ℕ, zero, suc, ◌+◌, ◌<◌, ◌≤◌, List, [], ◌∷◌, codes, length, drop, get_or, map, false, refl, drop-cons, add-one}
use Rattle.std.proofs.Math.ListN.{drop_of_length-le}
use Rattle.serde_json.specs.Data.{Data, string, array, object, Items, Members, no_members, member}
use Rattle.serde_json.specs.View.{items_of}
use Rattle.serde_json.specs.Written.{has_float, items_have_float, members_have_float}
use Rattle.cheri_model.specs.declared.operation.Event.{Event}
use Rattle.cheri_model.specs.declared.trace.Status.{Status}
use Rattle.cheri_model.specs.declared.trace.Status.TheVariants as status
use Rattle.cap_model.specs.values.CapValue.{CapValue}
use Rattle.cheri_model.specs.steps.Hart.{HartState, register}
use Rattle.cheri_model.specs.runs.Image.{ImageParts}
use Rattle.cheri_model.specs.runs.Machine.{MachineState}
use Rattle.report_lines.specs.EventData.{event_data, image_data}
use Rattle.report_lines.specs.Names.{address_of_granule, register_name}
use Rattle.report_lines.specs.ValueData.{count, put_listed, value_data}
use Rattle.report_lines.specs.ValueText.{hex_text}
use Rattle.report_lines.proofs.JsonLemmas.{event_no_float, image_no_float, listed_no_float, value_no_float}
use Rattle.reports.specs.Json.{put_registers, status_data, hart_data, put_granules, json_report}
use Rattle.reports.specs.Report.{version_of}

-- one register more
pub register_put : (hart : HartState) (number which more count : ℕ) (before after all : Members)
    → more ≡ suc count → which ≡ number
    → after ≡ put_listed (register_name number) (register hart which) before
    → put_registers hart number more before ≡ all
    → put_registers hart (number + 1) count after ≡ all
unfolding put_registers
register_put hart number which more count before after all one_more same put_now whole =
    rw (put_now, same) (rw one_more at whole)

pub registers_end : (hart : HartState) (number none : ℕ) (before all : Members)
    → none ≡ 0 → put_registers hart number none before ≡ all → before ≡ all
unfolding put_registers
registers_end hart number none before all no_more whole = rw no_more at whole

-- one granule more
pub granule_put : (memory : List CapValue) (number : ℕ) (d v : CapValue) (before after all : Members)
    → number < length memory → v ≡ get_or memory number d
    → after ≡ put_listed (hex_text 16 (address_of_granule number)) v before
    → put_granules number (drop number memory) before ≡ all
    → put_granules (number + 1) (drop (number + 1) memory) after ≡ all
unfolding put_granules
granule_put memory number d v before after all room here put_now whole =
    let next : drop number memory ≡ get_or memory number d ∷ drop (number + 1) memory =
    rw add-one (drop-cons memory number d room) in
    rw (put_now, here) (rw next at whole)

pub granules_end : (memory : List CapValue) (number : ℕ) (before all : Members)
    → length memory ≤ number → put_granules number (drop number memory) before ≡ all → before ≡ all
unfolding put_granules
granules_end memory number before all ended whole =
    let none : drop number memory ≡ [] = drop_of_length-le memory ended in
    rw none at whole

-- ---- no float

pub registers_no_float : (hart : HartState) (from more : ℕ) (members : Members)
    → members_have_float members ≡ false → members_have_float (put_registers hart from more members) ≡ false
unfolding put_registers
registers_no_float hart from zero made others = others
registers_no_float hart from (suc more) members others =
    registers_no_float hart (from + 1) more _ (listed_no_float _ (register hart from) members others)

pub granules_no_float : (from : ℕ) (granules : List CapValue) (members : Members)
    → members_have_float members ≡ false → members_have_float (put_granules from granules members) ≡ false
unfolding put_granules
granules_no_float from [] made others = others
granules_no_float from (v ∷ rest) members others = granules_no_float (from + 1) rest _ (listed_no_float _ v members others)

status_no_float : (pcc regs : Data) (s : Status) → has_float pcc ≡ false → has_float regs ≡ false
    → has_float (status_data pcc regs s) ≡ false
status_no_float pcc regs status.Running first second = rw (first, second)
status_no_float pcc regs status.Halted first second = rw (first, second)
status_no_float pcc regs (status.Trapped trap) first second = rw (first, second)

pub hart_no_float : (hart : HartState) → has_float (hart_data hart) ≡ false
unfolding hart_data
hart_no_float hart =
    status_no_float (value_data hart.pcc) (object (put_registers hart 1 31 no_members)) hart.status (value_no_float hart.pcc)
    (registers_no_float hart 1 31 no_members refl)

items_no_float : {X : Type 0} (data_of : X → Data) (each : (x : X) → has_float (data_of x) ≡ false) (items : List X)
    → items_have_float (items_of (map data_of items)) ≡ false
items_no_float data_of each [] = refl
items_no_float data_of each (x ∷ rest) = rw (each x) (items_no_float data_of each rest)

report_members_no_float : (entries harts : Items) (image : Data) (mem : Members) (version : ℕ)
    → items_have_float entries ≡ false → items_have_float harts ≡ false → has_float image ≡ false
    → members_have_float mem ≡ false
    → members_have_float (member (codes "entries") (array entries) (member (codes "harts") (array harts)
    (member (codes "image") image (member (codes "mem") (object mem) (member (codes "report") (count version) no_members)))))
    ≡ false
report_members_no_float entries harts image mem version first second third fourth = rw (first, second, third, fourth)

pub report_no_float : (image : ImageParts) (events : List Event) (state : MachineState)
    → has_float (json_report image events state) ≡ false
unfolding json_report
report_no_float image events state =
    report_members_no_float (items_of (map event_data events)) (items_of (map hart_data state.harts)) (image_data image)
    (put_granules 0 state.memory no_members) (version_of events) (items_no_float event_data event_no_float events)
    (items_no_float hart_data hart_no_float state.harts) (image_no_float image)
    (granules_no_float 0 state.memory no_members refl)

pub ruleset floatless = (event_no_float, hart_no_float, value_no_float, image_no_float)
