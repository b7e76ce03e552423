-- What is said of a state that was found, or where none was.
use Rattle.std.specs.Prelude.{ℕ, Bool, if◌then◌else◌, List, codes, decimal}
use Rattle.serde_json.specs.Data.{Data, string, object, no_members, member}
use Rattle.serde_json.specs.Written.{compact_text}
use Rattle.cheri_model.specs.declared.operation.Op.{Op}
use Rattle.cheri_model.specs.runs.Image.{ImageParts}
use Rattle.cheri_model.specs.runs.Machine.{MachineState}
use Rattle.order_texts.specs.OrderTexts.{order_text}
use Rattle.report_lines.specs.EventData.{image_data}
use Rattle.report_lines.specs.Texts.{◌+++◌, line}
use Rattle.report_lines.specs.ValueData.{count}
use Rattle.shown_states.specs.StateTexts.{state_lines, state_data}
use Rattle.shown_states.specs.declared.form.Ending.{Ending}
use Rattle.shown_states.specs.declared.form.Ending.TheVariants.{Unfinished, Nowhere}
use Rattle.shown_states.specs.declared.form.Format.{Format}
use Rattle.shown_states.specs.declared.form.Format.TheVariants.{Text, Json}

-- ---- a state that was found, and the order that leads to it

unfoldable pub found_line : List Op → List ℕ
found_line order = line (codes "found order=" +++ order_text order)

unfoldable pub found_text : List Op → MachineState → List ℕ
found_text order state = found_line order +++ state_lines state +++ line (codes "end")

unfoldable pub found_data : ImageParts → List Op → MachineState → Data
found_data image order state = object
    (member (codes "answer") (string (codes "found"))
    (member (codes "explore") (count 1)
    (member (codes "image") (image_data image)
    (member (codes "order") (string (order_text order))
    (member (codes "state") (state_data state) no_members)))))

abbrev pub found : Format → ImageParts → List Op → MachineState → List ℕ
found Text image order state = found_text order state
found Json image order state = line (compact_text (found_data image order state))

-- ---- none was found, of so many states: of all, or of those that were kept

abbrev pub absent_answer : Bool → List ℕ
absent_answer complete = if complete then codes "none" else codes "unknown"

abbrev pub absent_joint : Bool → List ℕ
absent_joint complete = if complete then codes "in" else codes "after"

unfoldable pub absent_line : Bool → ℕ → List ℕ
absent_line complete states =
    line (absent_answer complete +++ codes " " +++ absent_joint complete +++ codes " "
    +++ decimal states +++ codes " states")

unfoldable pub absent_data : Bool → ImageParts → ℕ → Data
absent_data complete image states = object
    (member (codes "answer") (string (absent_answer complete))
    (member (codes "explore") (count 1)
    (member (codes "image") (image_data image)
    (member (codes "states") (count states) no_members))))

abbrev pub absent : Format → Bool → ImageParts → ℕ → List ℕ
absent Text complete image states = absent_line complete states
absent Json complete image states = line (compact_text (absent_data complete image states))

abbrev pub absent_ending : Bool → Ending
absent_ending complete = if complete then Nowhere else Unfinished
