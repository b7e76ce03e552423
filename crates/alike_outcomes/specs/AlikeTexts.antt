-- What is said of outcomes up to which hart of a group stands where: what was left out, nothing of
-- how many outcomes there are, and nothing of runs that go on for ever.
use Rattle.std.specs.Prelude.{ℕ, Bool, true, List, length, codes, decimal, Vec}
use Rattle.std.specs.Global.{Global}
use Rattle.serde_json.specs.Written.{compact_text}
use Rattle.cheri_model.specs.declared.operation.Op.{Op}
use Rattle.cheri_model.specs.runs.Image.{ImageParts}
use Rattle.cheri_model.specs.runs.Replay.{replayed_state}
use Rattle.order_texts.specs.OrderTexts.{order_text}
use Rattle.outcome_texts.specs.OutcomeParts.{complete_text, ordered_part}
use Rattle.outcome_texts.specs.ReducedTexts.{said_row_data, said_row_line}
use Rattle.outcome_texts.specs.declared.told.ShownRow.{ShownRow}
use Rattle.reduced_texts.specs.ReducedTexts.{reduced_line, reduced_member}
use Rattle.reductions.specs.declared.reduction.LeftOut.{LeftOut}
use Rattle.report_lines.specs.EventData.{image_data}
use Rattle.report_lines.specs.JsonText.{item_text}
use Rattle.report_lines.specs.Lines.{image_line}
use Rattle.report_lines.specs.Texts.{◌+++◌, line, numbered}
use Rattle.shown_states.specs.StateTexts.{states_line}
use Rattle.shown_states.specs.declared.form.Format.{Format}
use Rattle.shown_states.specs.declared.form.Format.TheVariants.{Text, Json}

-- ---- before the outcomes

unfoldable pub alike_head_lines : LeftOut → Bool → ImageParts → ℕ → List ℕ
alike_head_lines left_out complete image states =
    line (codes "cheri-sim outcomes 2") +++ image_line image +++ reduced_line left_out
    +++ states_line complete states +++ codes "endless -\noutcomes -\n"

unfoldable pub alike_json_head : Bool → ImageParts → List ℕ
alike_json_head complete image =
    codes "{\"complete\":" +++ complete_text complete +++ codes ",\"explore\":2,\"image\":"
    +++ compact_text (image_data image)

-- ---- outcomes as states

-- an outcome by its number: the order that leads to it, and the state that the order leaves
unfoldable pub left_part : Format → ImageParts → ℕ → List Op → List ℕ
left_part format image number order =
    ordered_part format (replayed_state image order) number (order_text order)

abbrev pub left_text : Format → ImageParts → ℕ → Vec Op Global → List ℕ
left_text format image number order = left_part format image number order.items

unfoldable pub alike_listed_text : LeftOut → Bool → ImageParts → ℕ → List (Vec Op Global) → List ℕ
alike_listed_text left_out complete image states orders =
    alike_head_lines left_out complete image states
    +++ numbered (left_text Text image) 0 orders +++ line (codes "end")

unfoldable pub alike_listed_json : LeftOut → Bool → ImageParts → ℕ → List (Vec Op Global) → List ℕ
alike_listed_json left_out complete image states orders =
    alike_json_head complete image +++ codes ",\"outcomes\":["
    +++ numbered (left_text Json image) 0 orders +++ codes "]" +++ reduced_member left_out
    +++ codes ",\"states\":" +++ decimal states +++ codes "}\n"

abbrev pub alike_listed : Format → LeftOut → Bool → ImageParts → ℕ → List (Vec Op Global) → List ℕ
alike_listed Text left_out complete image states orders =
    alike_listed_text left_out complete image states orders
alike_listed Json left_out complete image states orders =
    alike_listed_json left_out complete image states orders

-- ---- outcomes as rows of values

unfoldable pub alike_shown_text : LeftOut → Bool → ImageParts → ℕ → List (List ℕ) → List ShownRow
    → List ℕ
alike_shown_text left_out complete image states names rows =
    alike_head_lines left_out complete image states
    +++ line (codes "shown " +++ decimal (length rows))
    +++ numbered (said_row_line true names) 0 rows +++ line (codes "end")

unfoldable pub alike_shown_json : LeftOut → Bool → ImageParts → ℕ → List (List ℕ) → List ShownRow
    → List ℕ
alike_shown_json left_out complete image states names rows =
    alike_json_head complete image +++ reduced_member left_out +++ codes ",\"shown\":["
    +++ numbered (item_text (said_row_data true names)) 0 rows
    +++ codes "],\"states\":" +++ decimal states +++ codes "}\n"

abbrev pub alike_shown : Format → LeftOut → Bool → ImageParts → ℕ → List (List ℕ) → List ShownRow
    → List ℕ
alike_shown Text left_out complete image states names rows =
    alike_shown_text left_out complete image states names rows
alike_shown Json left_out complete image states names rows =
    alike_shown_json left_out complete image states names rows
