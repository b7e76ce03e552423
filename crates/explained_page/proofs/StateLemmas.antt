-- The state in JSON: one value more, and that it has no float.
use Rattle.std.proofs.Common.{◌≡◌, ℕ, zero, suc, ◌+◌, ◌<◌, ◌≤◌, Bool, true, false, if◌then◌else◌, List, [], ◌∷◌, ◌++◌, length, map, drop, get_or, refl, arith, add-one, drop-cons, append_assoc, append-nil}
use Rattle.std.proofs.lemmas.List.{map-append}
use Rattle.std.proofs.Math.ListN.{drop_of_length-le}
use Rattle.serde_json.specs.Data.{Data, object, Members, no_members, member, put}
use Rattle.serde_json.specs.View.{items_of}
use Rattle.serde_json.specs.Written.{has_float, members_have_float, items_have_float}
use Rattle.cap_model.specs.values.CapValue.{CapValue}
use Rattle.cheri_model.specs.declared.trace.Status.{Status}
use Rattle.cheri_model.specs.declared.trace.Status.TheVariants as status
use Rattle.cheri_model.specs.steps.Hart.{HartState, register}
use Rattle.cheri_model.specs.runs.ImageRules.{is_listed}
use Rattle.cheri_model.specs.runs.Machine.{MachineState}
use Rattle.report_lines.specs.Names.{address_of_granule, register_name}
use Rattle.report_lines.specs.ValueText.{hex_text}
use Rattle.report_lines.proofs.JsonLemmas.{put_no_float}
use Rattle.reports.specs.Json.{status_data}
use Rattle.origins.specs.declared.place.Spot.TheVariants.{Pcc, Register, Granule}
use Rattle.origins.specs.Origins.{Origins}
use Rattle.facts.specs.declared.step_facts.NamedValue.{NamedValue}
use Rattle.facts.specs.StepFacts.{origin_of}
use Rattle.explanations.specs.FactData.{named_data}
use Rattle.explanations.proofs.FactLemmas.{named_no_float}
use Rattle.explained_page.specs.State.{put_value, put_registers, hart_data, harts_from, put_granules, state_data}

-- ---- one more

pub register_put : (origins : Origins) (number : ℕ) (hart : HartState) (from which more count : ℕ) (before after all : Members)
    → more ≡ suc count → which ≡ from
    → after ≡ put_value (register_name from) (origin_of origins number (Register from) (register hart which)) before
    → put_registers origins number hart from more before ≡ all
    → put_registers origins number hart (from + 1) count after ≡ all
unfolding put_registers
register_put origins number hart from which more count before after all one_more same put_now whole =
    rw (put_now, same) (rw one_more at whole)

pub registers_end : (origins : Origins) (number : ℕ) (hart : HartState) (from none : ℕ) (before all : Members)
    → none ≡ 0 → put_registers origins number hart from none before ≡ all → before ≡ all
unfolding put_registers
registers_end origins number hart from none before all no_more whole = rw no_more at whole

pub hart_more : {V : Type 0} (view : V → Data) (origins : Origins) (harts : List HartState) (number : ℕ) (d hart : HartState)
    (items pushed : List V) (v : V) (all : List Data) → number < length harts → hart ≡ get_or harts number d
    → view v ≡ hart_data origins number hart → pushed ≡ items ++ v ∷ []
    → map view items ++ harts_from origins number (drop number harts) ≡ all
    → map view pushed ++ harts_from origins (number + 1) (drop (number + 1) harts) ≡ all
unfolding harts_from
hart_more view origins harts number d hart items pushed v all room here is more whole =
    let next : drop number harts ≡ get_or harts number d ∷ drop (number + 1) harts =
    rw add-one (drop-cons harts number d room) in
    rw (more, map-append, is, here, append_assoc) (rw next at whole)

pub harts_end : (origins : Origins) (harts : List HartState) (number : ℕ) (before all : List Data)
    → length harts ≤ number → before ++ harts_from origins number (drop number harts) ≡ all → before ≡ all
unfolding harts_from
harts_end origins harts number before all ended whole =
    let none : drop number harts ≡ [] = drop_of_length-le harts ended in
    rw append-nil at (rw none at whole)

pub granule_put : (origins : Origins) (memory : List CapValue) (number : ℕ) (d v : CapValue) (before after all : Members)
    → number < length memory → v ≡ get_or memory number d
    → after ≡ put_value (hex_text 16 (address_of_granule number)) (origin_of origins 0 (Granule number) v) before
    → put_granules origins number (drop number memory) before ≡ all
    → put_granules origins (number + 1) (drop (number + 1) memory) after ≡ all
unfolding put_granules
granule_put origins memory number d v before after all room here put_now whole =
    let next : drop number memory ≡ get_or memory number d ∷ drop (number + 1) memory =
    rw add-one (drop-cons memory number d room) in
    rw (put_now, here) (rw next at whole)

pub granules_end : (origins : Origins) (memory : List CapValue) (number : ℕ) (before all : Members)
    → length memory ≤ number → put_granules origins number (drop number memory) before ≡ all → before ≡ all
unfolding put_granules
granules_end origins memory number before all ended whole =
    let none : drop number memory ≡ [] = drop_of_length-le memory ended in
    rw none at whole

-- ---- no float

put_listed : (listed : Bool) (name : List ℕ) (d : Data) (members : Members)
    → has_float d ≡ false → members_have_float members ≡ false
    → members_have_float (if listed then put name d members else members) ≡ false
put_listed true name d members none others = put_no_float name d members none others
put_listed false name d members none others = others

value_put : (name : List ℕ) (named : NamedValue) (members : Members)
    → members_have_float members ≡ false → members_have_float (put_value name named members) ≡ false
value_put name named members others = put_listed (is_listed named.value) name (named_data named) members (named_no_float named) others

registers_no_float : (origins : Origins) (number : ℕ) (hart : HartState) (from more : ℕ) (members : Members)
    → members_have_float members ≡ false → members_have_float (put_registers origins number hart from more members) ≡ false
unfolding put_registers
registers_no_float origins number hart from zero members others = others
registers_no_float origins number hart from (suc more) members others =
    registers_no_float origins number hart (from + 1) more _
    (value_put (register_name from) (origin_of origins number (Register from) (register hart from)) members others)

status_no_float : (pcc regs : Data) (s : Status) → has_float pcc ≡ false → has_float regs ≡ false
    → has_float (status_data pcc regs s) ≡ false
status_no_float pcc regs status.Running first second = rw (first, second)
status_no_float pcc regs status.Halted first second = rw (first, second)
status_no_float pcc regs (status.Trapped trap) first second = rw (first, second)

harts_no_float : (origins : Origins) (number : ℕ) (harts : List HartState) → items_have_float (items_of (harts_from origins number harts)) ≡ false
unfolding harts_from hart_data
harts_no_float origins number [] = refl
harts_no_float origins number (hart ∷ rest) =
    rw (status_no_float (named_data (origin_of origins number Pcc hart.pcc)) (object (put_registers origins number hart 1 31 no_members)) hart.status
    (named_no_float (origin_of origins number Pcc hart.pcc)) (registers_no_float origins number hart 1 31 no_members refl))
    (harts_no_float origins (number + 1) rest)

granules_no_float : (origins : Origins) (from : ℕ) (granules : List CapValue) (members : Members)
    → members_have_float members ≡ false → members_have_float (put_granules origins from granules members) ≡ false
unfolding put_granules
granules_no_float origins from [] members others = others
granules_no_float origins from (v ∷ rest) members others =
    granules_no_float origins (from + 1) rest _
    (value_put (hex_text 16 (address_of_granule from)) (origin_of origins 0 (Granule from) v) members others)

pub state_no_float : (origins : Origins) (state : MachineState) → has_float (state_data origins state) ≡ false
unfolding state_data
state_no_float origins state =
    rw (harts_no_float origins 0 state.harts, granules_no_float origins 0 state.memory no_members refl) refl
