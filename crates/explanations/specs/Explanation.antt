-- The explanation of a run: which of its events are shown, and their facts, as text and in JSON.
use Rattle.std.specs.Prelude.{ℕ, ◌+◌, nat_le, Bool, true, false, ◌&&◌, if◌then◌else◌}
use Rattle.std.specs.Prelude.{List, [], ◌∷◌, ◌++◌, length, map, codes, is_some}
use Rattle.std.specs.List.{zip}
use Rattle.serde_json.specs.Data.{Data, array, object, Items, no_members, member}
use Rattle.serde_json.specs.View.{items_of}
use Rattle.serde_json.specs.Written.{compact_text}
use Rattle.cheri_model.specs.declared.operation.Op.{Op}
use Rattle.cheri_model.specs.runs.Image.{ImageParts}
use Rattle.report_lines.specs.Texts.{◌+++◌, line, numbered}
use Rattle.report_lines.specs.Lines.{image_line, count_line, event_line}
use Rattle.report_lines.specs.ValueData.{count}
use Rattle.report_lines.specs.EventData.{image_data}
use Rattle.facts.specs.EventFacts.{EventFacts, step, sweep, replayed_facts}
use Rattle.cheri_model.specs.declared.operation.Event.{Event}
use Rattle.cheri_model.specs.runs.Replay.{replayed_events}
use Rattle.explanations.specs.declared.selection.Selection.{Selection}
use Rattle.explanations.specs.InstructionLines.{LineParts}
use Rattle.explanations.specs.Filters.{passes}
use Rattle.explanations.specs.FactLines.{step_lines, swept_lines}
use Rattle.explanations.specs.FactData.{step_data, sweep_data}

-- an event of a run, and its facts
abbrev pub Explained : Type 0
Explained = Event × EventFacts

-- those of the run of an order, all of whose operations are taken
abbrev pub explained_events : ImageParts → List Op → List Explained
explained_events image order = zip (replayed_events image order) (replayed_facts image order)

-- ---- which events are shown

abbrev pub has_trap : EventFacts → Bool
has_trap (step facts) = is_some facts.traps
has_trap (sweep places) = false

abbrev pub is_filled : {X : Type 0} → List X → Bool
is_filled [] = false
is_filled (x ∷ rest) = true

abbrev pub has_clears : EventFacts → Bool
has_clears (step facts) = is_some facts.clears
has_clears (sweep places) = is_filled places

-- its number is in the range, and it has a fact that is asked for
unfoldable pub is_shown : Selection → ℕ → EventFacts → Bool
is_shown selection number facts =
    nat_le selection.first number && nat_le number selection.last
    && passes selection.filter (has_trap facts) (has_clears facts)

-- ---- the text

-- an event and its facts, in a listing that has the instructions on these lines
abbrev pub event_lines : LineParts → ℕ → Explained → List ℕ
event_lines lines number (event, step facts) = step_lines lines number facts
event_lines lines number (event, sweep places) = event_line number event ++ swept_lines places

-- nothing where it isn't shown
unfoldable pub shown_lines : LineParts → Selection → ℕ → Explained → List ℕ
shown_lines lines selection number explained =
    if is_shown selection number explained.1 then event_lines lines number explained else []

-- those of the run of an order
abbrev pub events_lines : ImageParts → LineParts → Selection → List Op → List ℕ
events_lines image lines selection order =
    numbered (shown_lines lines selection) 0 (explained_events image order)

-- what is said before the first event
unfoldable pub head_lines : ImageParts → ℕ → List ℕ
head_lines image count =
    line (codes "cheri-sim explanation 1") +++ image_line image +++ count_line count

-- of the run of an order, all of whose operations are taken
unfoldable pub explanation : ImageParts → LineParts → Selection → List Op → List ℕ
explanation image lines selection order =
    head_lines image (length order) +++ events_lines image lines selection order
    +++ line (codes "end")

-- ---- JSON

-- the events that are shown, with their numbers, of events of which the first has this number
unfoldable pub shown_from : Selection → ℕ → List Explained → List (ℕ × Explained)
shown_from selection number [] = []
shown_from selection number (explained ∷ rest) =
    if is_shown selection number explained.1
    then (number, explained) ∷ shown_from selection (number + 1) rest
    else shown_from selection (number + 1) rest

abbrev pub event_data : LineParts → ℕ → Explained → Data
event_data lines number (event, step facts) = step_data lines number facts
event_data lines number (event, sweep places) = sweep_data number event places

abbrev pub events_data : LineParts → List (ℕ × Explained) → Items
events_data lines shown = items_of (map (λ e. event_data lines e.0 e.1) shown)

unfoldable pub explanation_data : ImageParts → LineParts → Selection → List Op → Data
explanation_data image lines selection order = object
    (member (codes "entries") (count (length order))
    (member (codes "events")
    (array (events_data lines (shown_from selection 0 (explained_events image order))))
    (member (codes "explanation") (count 1)
    (member (codes "image") (image_data image) no_members))))

-- its text, which a newline ends
abbrev pub explanation_json : ImageParts → LineParts → Selection → List Op → List ℕ
explanation_json image lines selection order =
    line (compact_text (explanation_data image lines selection order))
