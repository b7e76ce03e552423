-- What is said of outcomes, in the parts in which it is written.
use Rattle.std.specs.Prelude.{ℕ, Bool, false, if◌then◌else◌, nat_lt, List, ◌++◌, codes, decimal}
use Rattle.std.specs.Prelude.{length}
use Rattle.serde_json.specs.Data.{string}
use Rattle.serde_json.specs.Written.{comma_if, compact_text}
use Rattle.cheri_model.specs.runs.Image.{ImageParts}
use Rattle.cheri_model.specs.runs.Machine.{MachineState}
use Rattle.outcome_texts.specs.EndlessTexts.{endless_data}
use Rattle.outcome_texts.specs.OutcomeTexts.{head_lines, outcome_line, outcome_lines}
use Rattle.outcome_texts.specs.OutcomeTexts.{outcome_data}
use Rattle.outcome_texts.specs.ReducedTexts.{said_head_lines, said_row_line, said_row_data}
use Rattle.outcome_texts.specs.declared.told.ShownRow.{ShownRow}
use Rattle.outcome_texts.specs.Told.{kept_state}
use Rattle.outcome_texts.specs.declared.told.Outcome.{Outcome}
use Rattle.report_lines.specs.EventData.{image_data}
use Rattle.report_lines.specs.JsonText.{item_text}
use Rattle.report_lines.specs.Texts.{◌+++◌, line, numbered}
use Rattle.shown_states.specs.StateTexts.{shown_state}
use Rattle.shown_states.specs.declared.form.Format.{Format}
use Rattle.shown_states.specs.declared.form.Format.TheVariants.{Text, Json}
use Rattle.state_loops.specs.declared.endless.Endless.{Endless}
use Rattle.states.specs.Kept.{KeptParts}

abbrev pub complete_text : Bool → List ℕ
complete_text complete = if complete then codes "true" else codes "false"

-- the object's first part, up to the image
unfoldable pub json_head : Bool → Bool → ImageParts → Endless → List ℕ
json_head reduced complete image endless =
    codes "{\"complete\":" +++ complete_text complete +++ codes ",\"endless\":"
    +++ compact_text (endless_data endless) +++ codes ",\"explore\":"
    +++ decimal (if reduced then 2 else 1) +++ codes ",\"image\":"
    +++ compact_text (image_data image)

-- ---- outcomes as states

-- what stands before the outcomes
abbrev pub listed_head : Format → Bool → ImageParts → ℕ → Endless → ℕ → List ℕ
listed_head Text complete image states endless outcomes =
    head_lines complete image states endless outcomes
listed_head Json complete image states endless outcomes =
    json_head false complete image endless ++ codes ",\"outcomes\":["

-- what stands before an outcome's state, and what after it
abbrev pub outcome_before : Format → ℕ → List ℕ → List ℕ
outcome_before Text number order = outcome_line number order
outcome_before Json number order = comma_if (nat_lt 0 number) ++ codes "{"

abbrev pub outcome_after : Format → List ℕ → List ℕ
outcome_after Text order = codes ""
outcome_after Json order = codes ",\"order\":" +++ compact_text (string order) +++ codes "}"

-- an outcome of a number, with its order and its state
abbrev pub ordered_part : Format → MachineState → ℕ → List ℕ → List ℕ
ordered_part format state number order =
    outcome_before format number order
    ++ (shown_state format state ++ outcome_after format order)

-- an outcome by its number
abbrev pub outcome_part : Format → MachineState → ℕ → Outcome → List ℕ
outcome_part Text state number outcome = outcome_lines state number outcome
outcome_part Json state number outcome = item_text (outcome_data state) number outcome

unfoldable pub kept_part : Format → KeptParts → ℕ → Outcome → List ℕ
kept_part format kept number outcome =
    outcome_part format (kept_state kept outcome.state) number outcome

-- what stands after the outcomes
abbrev pub listed_tail : Format → ℕ → List ℕ
listed_tail Text states = line (codes "end")
listed_tail Json states = codes "],\"states\":" +++ decimal states +++ codes "}\n"

-- all but the end, and all
unfoldable pub listed_parts : Format → Bool → ImageParts → ℕ → Endless → KeptParts → List Outcome →
    List ℕ
listed_parts format complete image states endless kept outcomes =
    listed_head format complete image states endless (length outcomes)
    ++ numbered (kept_part format kept) 0 outcomes

unfoldable pub listed_whole : Format → Bool → ImageParts → ℕ → Endless → KeptParts → List Outcome →
    List ℕ
listed_whole format complete image states endless kept outcomes =
    listed_parts format complete image states endless kept outcomes ++ listed_tail format states

-- ---- outcomes as rows of values

-- what stands before a row's items, and before the rows in JSON
abbrev pub row_opening : Bool → ℕ → ℕ → List ℕ
row_opening reduced number states =
    if reduced then decimal number else (decimal number ++ codes " states=" ++ decimal states)

abbrev pub shown_opening : Bool → List ℕ
shown_opening reduced =
    if reduced then codes ",\"reduced\":[\"registers\"],\"shown\":["
    else codes ",\"shown\":["

-- the whole text, and the whole line of JSON
unfoldable pub shown_lines : Bool → Bool → ImageParts → ℕ → Endless → ℕ → List (List ℕ) →
    List ShownRow → List ℕ
shown_lines reduced complete image states endless outcomes names rows =
    said_head_lines reduced complete image states endless outcomes
    +++ line (codes "shown " +++ decimal (length rows))
    +++ numbered (said_row_line reduced names) 0 rows +++ line (codes "end")

unfoldable pub shown_json : Bool → Bool → ImageParts → ℕ → Endless → List (List ℕ) →
    List ShownRow → List ℕ
shown_json reduced complete image states endless names rows =
    json_head reduced complete image endless +++ shown_opening reduced
    +++ numbered (item_text (said_row_data reduced names)) 0 rows
    +++ codes "],\"states\":" +++ decimal states +++ codes "}\n"

abbrev pub shown_whole : Format → Bool → Bool → ImageParts → ℕ → Endless → ℕ → List (List ℕ) →
    List ShownRow → List ℕ
shown_whole Text reduced complete image states endless outcomes names rows =
    shown_lines reduced complete image states endless outcomes names rows
shown_whole Json reduced complete image states endless outcomes names rows =
    shown_json reduced complete image states endless names rows
