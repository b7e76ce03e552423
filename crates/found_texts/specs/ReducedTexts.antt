-- What is said where something was left out: the same, and what it was.
use Rattle.std.specs.Prelude.{ℕ, Bool, List, Option, Some, None, codes}
use Rattle.serde_json.specs.Data.{Data, string, array, object, item, no_items, no_members, member}
use Rattle.serde_json.specs.Written.{compact_text}
use Rattle.cheri_model.specs.declared.operation.Op.{Op}
use Rattle.cheri_model.specs.runs.Image.{ImageParts}
use Rattle.cheri_model.specs.runs.Machine.{MachineState}
use Rattle.order_texts.specs.OrderTexts.{order_text}
use Rattle.reduced_texts.specs.ReducedTexts as words
use Rattle.reductions.specs.declared.reduction.LeftOut.{LeftOut}
use Rattle.report_lines.specs.EventData.{image_data}
use Rattle.report_lines.specs.Texts.{◌+++◌, line}
use Rattle.report_lines.specs.ValueData.{count}
use Rattle.shown_states.specs.StateTexts.{state_data}
use Rattle.shown_states.specs.declared.form.Format.{Format}
use Rattle.shown_states.specs.declared.form.Format.TheVariants.{Text, Json}
use Rattle.found_texts.specs.FoundTexts.{found, found_text, absent, absent_answer}
use Rattle.found_texts.specs.FoundTexts.{absent_data, absent_line}

-- that registers alone were left out, for answers that keep which hart stands where: a line, and a
-- list of texts
unfoldable pub reduced_line : List ℕ
reduced_line = line (codes "reduced registers")

abbrev pub reduced_data : Data
reduced_data = array (item (string (codes "registers")) no_items)

-- a state that was found, and the order that leads to it
unfoldable pub reduced_found_data : LeftOut → ImageParts → List Op → MachineState → Data
reduced_found_data left_out image order state = object
    (member (codes "answer") (string (codes "found"))
    (member (codes "explore") (count 2)
    (member (codes "image") (image_data image)
    (member (codes "order") (string (order_text order))
    (member (codes "reduced") (words.reduced_data left_out)
    (member (codes "state") (state_data state) no_members))))))

abbrev pub reduced_found : LeftOut → Format → ImageParts → List Op → MachineState → List ℕ
reduced_found left_out Text image order state =
    words.reduced_line left_out +++ found_text order state
reduced_found left_out Json image order state =
    line (compact_text (reduced_found_data left_out image order state))

-- none was found, of so many states
unfoldable pub reduced_absent_data : LeftOut → Bool → ImageParts → ℕ → Data
reduced_absent_data left_out complete image states = object
    (member (codes "answer") (string (absent_answer complete))
    (member (codes "explore") (count 2)
    (member (codes "image") (image_data image)
    (member (codes "reduced") (words.reduced_data left_out)
    (member (codes "states") (count states) no_members)))))

abbrev pub reduced_absent : LeftOut → Format → Bool → ImageParts → ℕ → List ℕ
reduced_absent left_out Text complete image states =
    words.reduced_line left_out +++ absent_line complete states
reduced_absent left_out Json complete image states =
    line (compact_text (reduced_absent_data left_out complete image states))

-- what is said, by what was left out, if anything was
abbrev pub said_absent_data : Option LeftOut → Bool → ImageParts → ℕ → Data
said_absent_data None complete image states = absent_data complete image states
said_absent_data (Some left_out) complete image states =
    reduced_absent_data left_out complete image states

abbrev pub said_found : Option LeftOut → Format → ImageParts → List Op → MachineState → List ℕ
said_found None format image order state = found format image order state
said_found (Some left_out) format image order state =
    reduced_found left_out format image order state

abbrev pub said_absent : Option LeftOut → Format → Bool → ImageParts → ℕ → List ℕ
said_absent None format complete image states = absent format complete image states
said_absent (Some left_out) format complete image states =
    reduced_absent left_out format complete image states
