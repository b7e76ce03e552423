-- One position of a run, as one JSON object.
use Rattle.std.specs.Prelude.{ℕ, ◌-◌, ◌/◌, ◌%◌, ◌==◌, ◌&&◌, if◌then◌else◌, min, List, ◌++◌, length}
use Rattle.std.specs.Prelude.{map, take, codes, decimal, Option, Some, None}
use Rattle.serde_json.specs.Data.{Data, null, array, object, no_members, member}
use Rattle.serde_json.specs.View.{items_of}
use Rattle.serde_json.specs.Written.{compact_text}
use Rattle.cap_model.specs.results.Addresses.{address_of}
use Rattle.cheri_model.specs.declared.code.TheConstants.{INSTRUCTION_BYTES}
use Rattle.cheri_model.specs.declared.operation.Op.{Op}
use Rattle.cheri_model.specs.steps.Checks.{code_base, is_in_code}
use Rattle.cheri_model.specs.steps.Hart.{HartState}
use Rattle.cheri_model.specs.runs.Image.{ImageParts}
use Rattle.cheri_model.specs.runs.Machine.{MachineState, is_running}
use Rattle.cheri_model.specs.runs.Replay.{operations_of, replayed_state}
use Rattle.listings.specs.LineNumbers.{instruction_lines_of}
use Rattle.cores.specs.Cores.{CoreParts}
use Rattle.cores.specs.Runs.{Run}
use Rattle.report_lines.specs.ValueData.{count}
use Rattle.origins.specs.Origins.{Origins, replayed_origins}
use Rattle.explanations.specs.declared.selection.Selection.{Selection}
use Rattle.explanations.specs.Explanation.{explained_events, shown_from, events_data}
use Rattle.explanations.specs.InstructionLines.{line_of, unmapped}
use Rattle.explained_page.specs.State.{state_data}
use Rattle.explained_page.specs.PagedRuns.{range}

-- ---- next instructions

-- the line of the instruction at an address, if one is there, by the lines of all instructions
unfoldable pub line_at : List ℕ → ℕ → Option ℕ
line_at lines addr =
    if is_in_code (length lines) addr && (addr % INSTRUCTION_BYTES == 0)
    then Some (line_of (unmapped lines) ((addr - code_base) / INSTRUCTION_BYTES))
    else None

-- that of a hart's next instruction, which a hart that has stopped doesn't have
unfoldable pub next_line : List ℕ → HartState → Option ℕ
next_line lines hart =
    if is_running hart.status then line_at lines (address_of hart.pcc) else None

abbrev pub line_or_null : Option ℕ → Data
line_or_null None = null
line_or_null (Some line) = count line

-- of each hart
unfoldable pub next_data : List ℕ → List HartState → Data
next_data lines harts =
    array (items_of (map (λ hart. line_or_null (next_line lines hart)) harts))

-- ---- a position

-- A position of the run of an order, all of whose operations are taken: how many of them were
-- taken there, the selected events of the whole run, and then the harts' next instructions and the
-- state, as they are at that position.
unfoldable pub look_data : ImageParts → List ℕ → ℕ → Selection → List Op → Data
look_data image lines at selection order = object
    (member (codes "at") (count (min at (length order)))
    (member (codes "events")
    (array (events_data (unmapped lines) (shown_from selection 0 (explained_events image order))))
    (member (codes "next") (next_data lines (replayed_state image (take at order)).harts)
    (member (codes "state") (state_data (replayed_origins image (take at order))
    (replayed_state image (take at order))) no_members))))

-- of what a core of a listing took, with the events from `first` to `last`
unfoldable pub core_look : List ℕ → ℕ → ℕ → ℕ → CoreParts → List ℕ
core_look listing at first last core =
    compact_text (look_data core.image (instruction_lines_of listing) at (range first last)
    (operations_of core.trace))

-- of a run: its core took the longest good prefix of the order
abbrev pub look_of : List ℕ → ℕ → ℕ → ℕ → Run → List ℕ
look_of listing at first last run = core_look listing at first last run.0

-- ---- its text in pieces

-- what is before the events
unfoldable pub look_head : ℕ → List ℕ
look_head at = codes "{\"at\":" ++ (decimal at ++ codes ",\"events\":[")

-- what is after them, at a position with these origins and this state
unfoldable pub look_end : List ℕ → Origins → MachineState → List ℕ
look_end lines origins state =
    codes ",\"next\":" ++ (compact_text (next_data lines state.harts)
    ++ (codes ",\"state\":" ++ (compact_text (state_data origins state) ++ codes "}")))
