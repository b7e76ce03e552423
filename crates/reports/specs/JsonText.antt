-- The text of the JSON report in pieces: the members of its object, and each granule by itself.
use Rattle.std.specs.Prelude.{ℕ, ◌+◌, Bool, false, ◌||◌, if◌then◌else◌}
use Rattle.std.specs.Prelude.{List, [], ◌∷◌, ◌++◌, codes, decimal}
use Rattle.serde_json.specs.Data.{string}
use Rattle.serde_json.specs.Written.{comma_if, compact_text}
use Rattle.cheri_model.specs.declared.operation.Event.{Event}
use Rattle.cap_model.specs.values.CapValue.{CapValue}
use Rattle.cheri_model.specs.steps.Hart.{HartState}
use Rattle.cheri_model.specs.runs.Image.{ImageParts}
use Rattle.cheri_model.specs.runs.ImageRules.{is_listed}
use Rattle.cheri_model.specs.runs.Machine.{MachineState}
use Rattle.report_lines.specs.EventData.{image_data}
use Rattle.report_lines.specs.Names.{address_of_granule}
use Rattle.report_lines.specs.Texts.{◌+++◌}
use Rattle.report_lines.specs.ValueData.{value_data}
use Rattle.report_lines.specs.ValueText.{hex_text}
use Rattle.reports.specs.Json.{events_data, harts_data, memory_data}
use Rattle.reports.specs.Report.{version_of}

-- a granule under its address, after a comma where one stands before; an untagged 0 has no text
unfoldable pub granule_member : Bool → ℕ → CapValue → List ℕ
granule_member later number v =
    let name = hex_text 16 (address_of_granule number) in
    if is_listed v
    then comma_if later ++ (compact_text (string name) ++ 58 ∷ compact_text (value_data v))
    else []

-- granules, of which the first has this number
unfoldable pub granule_members : Bool → ℕ → List CapValue → List ℕ
granule_members later number [] = []
granule_members later number (v ∷ rest) =
    granule_member later number v ++ granule_members (later || is_listed v) (number + 1) rest

-- the object's first part, with the events
abbrev pub events_part : List Event → List ℕ
events_part events = codes "{\"entries\":" ++ compact_text (events_data events)

abbrev pub harts_part : List HartState → List ℕ
harts_part harts = codes ",\"harts\":" ++ compact_text (harts_data harts)

-- what stands between the harts and the granules
abbrev pub image_part : ImageParts → List ℕ
image_part image = codes ",\"image\":" ++ compact_text (image_data image) ++ codes ",\"mem\":"

-- the image, and the granules
abbrev pub memory_part : ImageParts → List CapValue → List ℕ
memory_part image memory = image_part image ++ compact_text (memory_data memory)

-- the end
unfoldable pub last_part : List Event → List ℕ
last_part events = codes ",\"report\":" ++ (decimal (version_of events) ++ codes "}")

-- what is shown before the end
unfoldable pub json_parts : ImageParts → List Event → MachineState → List ℕ
json_parts image events state =
    events_part events +++ harts_part state.harts +++ memory_part image state.memory
