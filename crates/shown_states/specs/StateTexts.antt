-- A state as it is shown: its harts and its memory.
use Rattle.std.specs.Prelude.{ℕ, Bool, if◌then◌else◌, List, ◌++◌, codes, decimal}
use Rattle.serde_json.specs.Data.{Data, object, no_members, member}
use Rattle.serde_json.specs.Written.{compact_text}
use Rattle.cheri_model.specs.runs.Machine.{MachineState}
use Rattle.report_lines.specs.Lines.{granule_line}
use Rattle.report_lines.specs.Texts.{◌+++◌, line, numbered}
use Rattle.reports.specs.Json.{harts_data, memory_data}
use Rattle.reports.specs.Report.{hart_lines}
use Rattle.shown_states.specs.declared.form.Format.{Format}
use Rattle.shown_states.specs.declared.form.Format.TheVariants.{Text, Json}

-- how many states were kept, and whether these are all
abbrev pub states_word : Bool → List ℕ
states_word complete = if complete then codes "complete" else codes "unfinished"

unfoldable pub states_line : Bool → ℕ → List ℕ
states_line complete states =
    line (codes "states " +++ decimal states +++ codes " " +++ states_word complete)

-- the lines of the report for the harts and for memory
abbrev pub state_lines : MachineState → List ℕ
state_lines state = numbered hart_lines 0 state.harts +++ numbered granule_line 0 state.memory

-- the same in JSON
abbrev pub state_data : MachineState → Data
state_data state = object
    (member (codes "harts") (harts_data state.harts)
    (member (codes "mem") (memory_data state.memory) no_members))

-- its members as text
abbrev pub harts_member : MachineState → List ℕ
harts_member state = codes "\"harts\":" ++ compact_text (harts_data state.harts)

unfoldable pub state_members : MachineState → List ℕ
state_members state =
    harts_member state +++ codes ",\"mem\":" +++ compact_text (memory_data state.memory)

-- a state in a form
abbrev pub shown_state : Format → MachineState → List ℕ
shown_state Text state = state_lines state
shown_state Json state = state_members state
