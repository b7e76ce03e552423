-- What is said of outcomes: of each its state, or of each row of values how many have it.
use Rattle.std.specs.Prelude.{ℕ, Bool, List, length, map, codes, decimal, string_bytes}
use Rattle.serde_json.specs.Data.{Data, string, boolean, array, object, no_members, member}
use Rattle.serde_json.specs.View.{items_of}
use Rattle.serde_json.specs.Written.{compact_text}
use Rattle.cheri_model.specs.runs.Image.{ImageParts}
use Rattle.cheri_model.specs.runs.Machine.{MachineState}
use Rattle.outcomes.specs.ItemTexts.{items_text, put_items}
use Rattle.outcome_texts.specs.EndlessTexts.{endless_line, endless_data}
use Rattle.outcome_texts.specs.Told.{kept_state}
use Rattle.outcome_texts.specs.declared.told.Outcome.{Outcome}
use Rattle.outcome_texts.specs.declared.told.ShownRow.{ShownRow}
use Rattle.report_lines.specs.EventData.{image_data}
use Rattle.report_lines.specs.Lines.{image_line}
use Rattle.report_lines.specs.Texts.{◌+++◌, line, numbered}
use Rattle.report_lines.specs.ValueData.{count}
use Rattle.reports.specs.Json.{harts_data, memory_data}
use Rattle.shown_states.specs.StateTexts.{states_line, state_lines}
use Rattle.shown_states.specs.declared.form.Format.{Format}
use Rattle.shown_states.specs.declared.form.Format.TheVariants.{Text, Json}
use Rattle.state_loops.specs.declared.endless.Endless.{Endless}
use Rattle.states.specs.Kept.{KeptParts}
use Rattle.states.specs.Kept as kept_states

-- ---- before the outcomes

unfoldable pub head_lines : Bool → ImageParts → ℕ → Endless → ℕ → List ℕ
head_lines complete image states endless outcomes =
    line (codes "cheri-sim outcomes 1") +++ image_line image +++ states_line complete states
    +++ endless_line endless +++ line (codes "outcomes " +++ decimal outcomes)

-- ---- outcomes as states

unfoldable pub outcome_line : ℕ → List ℕ → List ℕ
outcome_line number order =
    line (codes "outcome " +++ decimal number +++ codes " order=" +++ order)

unfoldable pub outcome_lines : MachineState → ℕ → Outcome → List ℕ
outcome_lines state number outcome =
    outcome_line number (string_bytes outcome.order) +++ state_lines state

unfoldable pub kept_lines : KeptParts → ℕ → Outcome → List ℕ
kept_lines kept number outcome = outcome_lines (kept_state kept outcome.state) number outcome

unfoldable pub listed_text : KeptParts → Endless → List Outcome → List ℕ
listed_text kept endless outcomes =
    head_lines kept.complete kept.image (kept_states.count kept) endless (length outcomes)
    +++ numbered (kept_lines kept) 0 outcomes +++ line (codes "end")

unfoldable pub outcome_data : MachineState → Outcome → Data
outcome_data state outcome = object
    (member (codes "harts") (harts_data state.harts)
    (member (codes "mem") (memory_data state.memory)
    (member (codes "order") (string (string_bytes outcome.order)) no_members)))

unfoldable pub kept_data : KeptParts → Outcome → Data
kept_data kept outcome = outcome_data (kept_state kept outcome.state) outcome

unfoldable pub listed_data : KeptParts → Endless → List Outcome → Data
listed_data kept endless outcomes = object
    (member (codes "complete") (boolean kept.complete)
    (member (codes "endless") (endless_data endless)
    (member (codes "explore") (count 1)
    (member (codes "image") (image_data kept.image)
    (member (codes "outcomes") (array (items_of (map (kept_data kept) outcomes)))
    (member (codes "states") (count (kept_states.count kept)) no_members))))))

abbrev pub listed : Format → KeptParts → Endless → List Outcome → List ℕ
listed Text kept endless outcomes = listed_text kept endless outcomes
listed Json kept endless outcomes = line (compact_text (listed_data kept endless outcomes))

-- ---- outcomes as rows of values

unfoldable pub row_line : List (List ℕ) → ℕ → ShownRow → List ℕ
row_line names number row =
    line (decimal number +++ codes " states=" +++ decimal row.states
    +++ items_text names row.values.items +++ codes " order=" +++ string_bytes row.order)

unfoldable pub shown_text : List (List ℕ) → KeptParts → Endless → ℕ → List ShownRow → List ℕ
shown_text names kept endless outcomes rows =
    head_lines kept.complete kept.image (kept_states.count kept) endless outcomes
    +++ line (codes "shown " +++ decimal (length rows)) +++ numbered (row_line names) 0 rows
    +++ line (codes "end")

unfoldable pub row_data : List (List ℕ) → ShownRow → Data
row_data names row = object
    (member (codes "order") (string (string_bytes row.order))
    (member (codes "states") (count row.states)
    (member (codes "values") (object (put_items names row.values.items no_members)) no_members)))

unfoldable pub shown_data : List (List ℕ) → KeptParts → Endless → List ShownRow → Data
shown_data names kept endless rows = object
    (member (codes "complete") (boolean kept.complete)
    (member (codes "endless") (endless_data endless)
    (member (codes "explore") (count 1)
    (member (codes "image") (image_data kept.image)
    (member (codes "shown") (array (items_of (map (row_data names) rows)))
    (member (codes "states") (count (kept_states.count kept)) no_members))))))

abbrev pub shown : Format → List (List ℕ) → KeptParts → Endless → ℕ → List ShownRow → List ℕ
shown Text names kept endless outcomes rows = shown_text names kept endless outcomes rows
shown Json names kept endless outcomes rows =
    line (compact_text (shown_data names kept endless rows))
