-- What is said of properties, in the parts in which it is written.
use Rattle.std.specs.Prelude.{ℕ, Bool, if◌then◌else◌, List, codes, decimal}
use Rattle.std.specs.Prelude.{Option, Some, None}
use Rattle.serde_json.specs.Written.{compact_text}
use Rattle.cheri_model.specs.runs.Image.{ImageParts}
use Rattle.explore_checks.specs.CheckTexts.{line_of, property_data}
use Rattle.explore_verdicts.specs.declared.verdict.PropertyVerdict.{PropertyVerdict}
use Rattle.reduced_texts.specs.ReducedTexts.{line_if_any, member_if_any}
use Rattle.reductions.specs.declared.reduction.LeftOut.{LeftOut}
use Rattle.report_lines.specs.EventData.{image_data}
use Rattle.report_lines.specs.JsonText.{item_text}
use Rattle.report_lines.specs.Lines.{image_line}
use Rattle.report_lines.specs.Texts.{◌+++◌, line, numbered}
use Rattle.shown_states.specs.StateTexts.{states_line}
use Rattle.shown_states.specs.declared.form.Format.{Format}
use Rattle.shown_states.specs.declared.form.Format.TheVariants.{Text, Json}

-- ---- as text

abbrev pub first_line : Option LeftOut → List ℕ
first_line None = codes "cheri-sim check 1\n"
first_line (Some left_out) = codes "cheri-sim check 2\n"

unfoldable pub check_lines : Option LeftOut → Bool → ImageParts → ℕ → List PropertyVerdict → List ℕ
check_lines reduced complete image states verdicts =
    first_line reduced +++ image_line image +++ line_if_any reduced
    +++ states_line complete states +++ numbered line_of 0 verdicts +++ line (codes "end")

-- ---- in JSON

abbrev pub complete_text : Bool → List ℕ
complete_text complete = if complete then codes "true" else codes "false"

-- the answer's version
abbrev pub version_of : Option LeftOut → ℕ
version_of None = 1
version_of (Some left_out) = 2

-- the object's first part, up to the image
unfoldable pub json_head : Option LeftOut → Bool → ImageParts → List ℕ
json_head reduced complete image =
    codes "{\"complete\":" +++ complete_text complete +++ codes ",\"explore\":"
    +++ decimal (version_of reduced) +++ codes ",\"image\":"
    +++ compact_text (image_data image)

unfoldable pub check_json : Option LeftOut → Bool → ImageParts → ℕ → List PropertyVerdict → List ℕ
check_json reduced complete image states verdicts =
    json_head reduced complete image +++ codes ",\"properties\":["
    +++ numbered (item_text property_data) 0 verdicts +++ codes "]"
    +++ member_if_any reduced +++ codes ",\"states\":" +++ decimal states +++ codes "}\n"

abbrev pub checked_whole : Option LeftOut → Format → Bool → ImageParts → ℕ → List PropertyVerdict
    → List ℕ
checked_whole reduced Text complete image states verdicts =
    check_lines reduced complete image states verdicts
checked_whole reduced Json complete image states verdicts =
    check_json reduced complete image states verdicts
