-- What is said of rows of values where registers were forgotten: that they were, and nothing of how
-- many outcomes there are.
use Rattle.std.specs.Prelude.{ℕ, Bool, true, false, List, length, map, codes, decimal}
use Rattle.std.specs.Prelude.{string_bytes}
use Rattle.serde_json.specs.Data.{Data, string, boolean, array, object, no_members, member}
use Rattle.serde_json.specs.View.{items_of}
use Rattle.serde_json.specs.Written.{compact_text}
use Rattle.cheri_model.specs.runs.Image.{ImageParts}
use Rattle.found_texts.specs.ReducedTexts.{reduced_line, reduced_data}
use Rattle.outcome_texts.specs.EndlessTexts.{endless_line, endless_data}
use Rattle.outcomes.specs.ItemTexts.{items_text, put_items}
use Rattle.outcome_texts.specs.OutcomeTexts.{head_lines, row_data, row_line}
use Rattle.outcome_texts.specs.declared.told.ShownRow.{ShownRow}
use Rattle.report_lines.specs.EventData.{image_data}
use Rattle.report_lines.specs.Lines.{image_line}
use Rattle.report_lines.specs.Texts.{◌+++◌, line, numbered}
use Rattle.report_lines.specs.ValueData.{count}
use Rattle.shown_states.specs.StateTexts.{states_line}
use Rattle.shown_states.specs.declared.form.Format.{Format}
use Rattle.shown_states.specs.declared.form.Format.TheVariants.{Text, Json}
use Rattle.state_loops.specs.declared.endless.Endless.{Endless}

-- ---- as text

unfoldable pub reduced_head_lines : Bool → ImageParts → ℕ → Endless → List ℕ
reduced_head_lines complete image states endless =
    line (codes "cheri-sim outcomes 2") +++ image_line image +++ reduced_line
    +++ states_line complete states +++ endless_line endless +++ line (codes "outcomes -")

unfoldable pub reduced_row_line : List (List ℕ) → ℕ → ShownRow → List ℕ
reduced_row_line names number row =
    line (decimal number +++ items_text names row.values.items +++ codes " order="
    +++ string_bytes row.order)

unfoldable pub reduced_shown_text : List (List ℕ) → Bool → ImageParts → ℕ → Endless
    → List ShownRow → List ℕ
reduced_shown_text names complete image states endless rows =
    reduced_head_lines complete image states endless
    +++ line (codes "shown " +++ decimal (length rows))
    +++ numbered (reduced_row_line names) 0 rows +++ line (codes "end")

-- ---- in JSON

unfoldable pub reduced_row_data : List (List ℕ) → ShownRow → Data
reduced_row_data names row = object
    (member (codes "order") (string (string_bytes row.order))
    (member (codes "values") (object (put_items names row.values.items no_members)) no_members))

unfoldable pub reduced_shown_data : List (List ℕ) → Bool → ImageParts → ℕ → Endless
    → List ShownRow → Data
reduced_shown_data names complete image states endless rows = object
    (member (codes "complete") (boolean complete)
    (member (codes "endless") (endless_data endless)
    (member (codes "explore") (count 2)
    (member (codes "image") (image_data image)
    (member (codes "reduced") reduced_data
    (member (codes "shown") (array (items_of (map (reduced_row_data names) rows)))
    (member (codes "states") (count states) no_members)))))))

-- so many states were kept, which have forgotten
abbrev pub reduced_shown : Format → List (List ℕ) → Bool → ImageParts → ℕ → Endless
    → List ShownRow → List ℕ
reduced_shown Text names complete image states endless rows =
    reduced_shown_text names complete image states endless rows
reduced_shown Json names complete image states endless rows =
    line (compact_text (reduced_shown_data names complete image states endless rows))

-- ---- by whether registers were forgotten

abbrev pub said_head_lines : Bool → Bool → ImageParts → ℕ → Endless → ℕ → List ℕ
said_head_lines false complete image states endless outcomes =
    head_lines complete image states endless outcomes
said_head_lines true complete image states endless outcomes =
    reduced_head_lines complete image states endless

abbrev pub said_row_line : Bool → List (List ℕ) → ℕ → ShownRow → List ℕ
said_row_line false = row_line
said_row_line true = reduced_row_line

abbrev pub said_row_data : Bool → List (List ℕ) → ShownRow → Data
said_row_data false = row_data
said_row_data true = reduced_row_data
