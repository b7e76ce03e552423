-- What is said of a state that was found, in the parts in which it is written.
use Rattle.std.specs.Prelude.{ℕ, Bool, if◌then◌else◌, List, Option, is_some, codes, decimal}
use Rattle.serde_json.specs.Data.{string}
use Rattle.serde_json.specs.Written.{compact_text}
use Rattle.cheri_model.specs.declared.operation.Op.{Op}
use Rattle.cheri_model.specs.runs.Image.{ImageParts}
use Rattle.cheri_model.specs.runs.Machine.{MachineState}
use Rattle.order_texts.specs.OrderTexts.{order_text}
use Rattle.reduced_texts.specs.ReducedTexts.{line_if_any, member_if_any}
use Rattle.reductions.specs.declared.reduction.LeftOut.{LeftOut}
use Rattle.report_lines.specs.EventData.{image_data}
use Rattle.report_lines.specs.Texts.{◌+++◌, line}
use Rattle.shown_states.specs.StateTexts.{shown_state}
use Rattle.shown_states.specs.declared.form.Format.{Format}
use Rattle.shown_states.specs.declared.form.Format.TheVariants.{Text, Json}
use Rattle.found_texts.specs.FoundTexts.{found_line}

-- the members up to the image, the one of the order, that of what was left out, if anything was,
-- and the bracket that opens the state
unfoldable pub image_members : Bool → ImageParts → List ℕ
image_members reduced image =
    codes "{\"answer\":\"found\",\"explore\":" +++ decimal (if reduced then 2 else 1)
    +++ codes ",\"image\":" +++ compact_text (image_data image)

unfoldable pub order_member : List Op → List ℕ
order_member order = codes ",\"order\":" +++ compact_text (string (order_text order))

abbrev pub json_head : Option LeftOut → ImageParts → List Op → List ℕ
json_head left_out image order =
    image_members (is_some left_out) image +++ order_member order +++ member_if_any left_out
    +++ codes ",\"state\":{"

-- the line of what was left out, if anything was, and the one of the order
abbrev pub text_head : Option LeftOut → List Op → List ℕ
text_head left_out order = line_if_any left_out +++ found_line order

abbrev pub found_head : Format → Option LeftOut → ImageParts → List Op → List ℕ
found_head Text left_out image order = text_head left_out order
found_head Json left_out image order = json_head left_out image order

abbrev pub found_tail : Format → List ℕ
found_tail Text = line (codes "end")
found_tail Json = line (codes "}}")

-- all but the end
abbrev pub found_parts : Format → Option LeftOut → ImageParts → List Op → MachineState → List ℕ
found_parts format left_out image order state =
    found_head format left_out image order +++ shown_state format state
