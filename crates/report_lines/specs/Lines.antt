-- Lines that a report is made of.
use Rattle.std.specs.Prelude.{ℕ, if◌then◌else◌, List, [], length, codes, decimal}
use Rattle.cheri_model.specs.declared.operation.Event.{Event}
use Rattle.cheri_model.specs.declared.trace.Status.{Status}
use Rattle.cheri_model.specs.runs.Image.{ImageParts}
use Rattle.cheri_model.specs.runs.ImageRules.{is_listed}
use Rattle.cap_model.specs.values.CapValue.{CapValue}
use Rattle.report_lines.specs.EventText.{event_text, status_text}
use Rattle.report_lines.specs.Names.{address_of_granule, memory_name, register_name}
use Rattle.report_lines.specs.Texts.{◌+++◌, line}
use Rattle.report_lines.specs.ValueText.{value_text}

-- how many harts, how many bytes of RAM, how many instructions
unfoldable pub image_line : ImageParts → List ℕ
image_line image =
    line (codes "image harts=" +++ decimal (length image.harts)
    +++ codes " ram=" +++ decimal image.ram +++ codes " code=" +++ decimal (length image.program))

-- how many events
unfoldable pub count_line : ℕ → List ℕ
count_line count = line (codes "entries " +++ decimal count)

-- an event, by its number from 0 on
unfoldable pub event_line : ℕ → Event → List ℕ
event_line number event = line (event_text number event)

-- a hart's number, and whether it runs
unfoldable pub status_line : ℕ → Status → List ℕ
status_line number status =
    line (codes "hart " +++ decimal number +++ codes " " +++ status_text status)

unfoldable pub pcc_line : CapValue → List ℕ
pcc_line pcc = line (codes "pcc " +++ value_text pcc)

-- a register that is null has no line
unfoldable pub register_line : ℕ → CapValue → List ℕ
register_line number v =
    if is_listed v then line (register_name number +++ codes " " +++ value_text v) else []

-- a granule that is an untagged 0 has no line
unfoldable pub granule_line : ℕ → CapValue → List ℕ
granule_line number v =
    if is_listed v
    then line (memory_name (address_of_granule number) +++ codes " " +++ value_text v)
    else []
