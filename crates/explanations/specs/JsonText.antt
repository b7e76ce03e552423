-- The text of an explanation in JSON, in pieces.
use Rattle.std.specs.Prelude.{ℕ, Bool, if◌then◌else◌, List, [], ◌++◌, codes, decimal, Option}
use Rattle.std.specs.Prelude.{Some, None}
use Rattle.serde_json.specs.Data.{Data, object, no_members}
use Rattle.serde_json.specs.Written.{comma_if, compact_text, items_text}
use Rattle.cheri_model.specs.runs.Image.{ImageParts}
use Rattle.report_lines.specs.EventData.{image_data}
use Rattle.facts.specs.declared.step_facts.NamedValue.{NamedValue}
use Rattle.facts.specs.declared.step_facts.UpToTwo.{UpToTwo}
use Rattle.facts.specs.declared.step_facts.UpToTwo.TheVariants.{Zero, One, Two}
use Rattle.explanations.specs.InstructionLines.{LineParts}
use Rattle.explanations.specs.FactData.{put_named}
use Rattle.explanations.specs.declared.selection.Selection.{Selection}
use Rattle.explanations.specs.Explanation.{Explained, is_shown, shown_from, event_data}
use Rattle.explanations.specs.Explanation.{events_data}

-- a member's text, if there is one: what is before its value, the value, and what is after it
abbrev pub if_there : List ℕ → List ℕ → Option Data → List ℕ
if_there before after None = []
if_there before after (Some value) = before ++ (compact_text value ++ after)

-- what is read or set, if something is
abbrev pub names_data : UpToTwo NamedValue → Option Data
names_data Zero = None
names_data (One x) = Some (object (put_named x no_members))
names_data (Two x y) = Some (object (put_named y (put_named x no_members)))

-- what is before the events
abbrev pub json_head : ℕ → List ℕ
json_head count = codes "{\"entries\":" ++ (decimal count ++ codes ",\"events\":[")

-- an event, after a comma where one is before it; nothing where it isn't shown
unfoldable pub shown_item : LineParts → Selection → Bool → ℕ → Explained → List ℕ
shown_item lines selection later number explained =
    if is_shown selection number explained.1
    then comma_if later ++ compact_text (event_data lines number explained)
    else []

-- the events from one on, of which the first has this number, and the bracket after them
abbrev pub events_from : LineParts → Selection → Bool → ℕ → List Explained → List ℕ
events_from lines selection later number events =
    items_text later (events_data lines (shown_from selection number events))

-- what is after them
unfoldable pub json_end : ImageParts → List ℕ
json_end image =
    codes ",\"explanation\":" ++ (decimal 1 ++ (codes ",\"image\":"
    ++ (compact_text (image_data image) ++ codes "}\n")))
