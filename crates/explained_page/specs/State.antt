-- The state of a machine in JSON, as in a report, each tagged value with its origin.
use Rattle.std.specs.Prelude.{ℕ, ◌+◌, List, [], ◌∷◌, if◌then◌else◌, codes, zero, suc}
use Rattle.serde_json.specs.Data.{Data, array, object, Members, no_members, member, put}
use Rattle.serde_json.specs.View.{items_of}
use Rattle.cap_model.specs.values.CapValue.{CapValue}
use Rattle.cheri_model.specs.steps.Hart.{HartState, register}
use Rattle.cheri_model.specs.runs.ImageRules.{is_listed}
use Rattle.cheri_model.specs.runs.Machine.{MachineState}
use Rattle.report_lines.specs.Names.{address_of_granule, register_name}
use Rattle.report_lines.specs.ValueText.{hex_text}
use Rattle.reports.specs.Json.{status_data}
use Rattle.origins.specs.declared.place.Spot.TheVariants.{Pcc, Register, Granule}
use Rattle.origins.specs.Origins.{Origins}
use Rattle.facts.specs.declared.step_facts.NamedValue.{NamedValue}
use Rattle.facts.specs.StepFacts.{origin_of}
use Rattle.explanations.specs.FactData.{named_data}

-- the members with one more, unless its value is an untagged 0
abbrev pub put_value : List ℕ → NamedValue → Members → Members
put_value name named members =
    if is_listed named.value then put name (named_data named) members else members

-- the members with the registers of the hart with this number, from this one on, this many
unfoldable pub put_registers : Origins → ℕ → HartState → ℕ → ℕ → Members → Members
put_registers origins number hart from zero members = members
put_registers origins number hart from (suc more) members =
    put_registers origins number hart (from + 1) more
    (put_value (register_name from)
    (origin_of origins number (Register from) (register hart from)) members)

-- the hart with this number
unfoldable pub hart_data : Origins → ℕ → HartState → Data
hart_data origins number hart =
    status_data (named_data (origin_of origins number Pcc hart.pcc))
    (object (put_registers origins number hart 1 31 no_members)) hart.status

-- harts, of which the first has this number
unfoldable pub harts_from : Origins → ℕ → List HartState → List Data
harts_from origins number [] = []
harts_from origins number (hart ∷ rest) =
    hart_data origins number hart ∷ harts_from origins (number + 1) rest

-- the members with granules, of which the first has this number
unfoldable pub put_granules : Origins → ℕ → List CapValue → Members → Members
put_granules origins from [] members = members
put_granules origins from (v ∷ rest) members =
    put_granules origins (from + 1) rest
    (put_value (hex_text 16 (address_of_granule from)) (origin_of origins 0 (Granule from) v)
    members)

unfoldable pub state_data : Origins → MachineState → Data
state_data origins state = object
    (member (codes "harts") (array (items_of (harts_from origins 0 state.harts)))
    (member (codes "mem") (object (put_granules origins 0 state.memory no_members)) no_members))
