-- What is said of properties where states were told apart without something: the same, and without
-- what.
use Rattle.std.specs.Prelude.{ℕ, Bool, List, Option, Some, None, codes, map}
use Rattle.serde_json.specs.Data.{Data, boolean, array, object, no_members, member}
use Rattle.serde_json.specs.View.{items_of}
use Rattle.serde_json.specs.Written.{compact_text}
use Rattle.cheri_model.specs.runs.Image.{ImageParts}
use Rattle.explore_checks.specs.CheckTexts.{checked, line_of, property_data}
use Rattle.explore_verdicts.specs.declared.verdict.PropertyVerdict.{PropertyVerdict}
use Rattle.reduced_texts.specs.ReducedTexts.{reduced_data, reduced_line}
use Rattle.reductions.specs.declared.reduction.LeftOut.{LeftOut}
use Rattle.report_lines.specs.EventData.{image_data}
use Rattle.report_lines.specs.Lines.{image_line}
use Rattle.report_lines.specs.Texts.{◌+++◌, line, numbered}
use Rattle.report_lines.specs.ValueData.{count}
use Rattle.shown_states.specs.StateTexts.{states_line}
use Rattle.shown_states.specs.declared.form.Format.{Format}
use Rattle.shown_states.specs.declared.form.Format.TheVariants.{Text, Json}

unfoldable pub reduced_check_text : LeftOut → Bool → ImageParts → ℕ → List PropertyVerdict → List ℕ
reduced_check_text left_out complete image states verdicts =
    line (codes "cheri-sim check 2") +++ image_line image +++ reduced_line left_out
    +++ states_line complete states +++ numbered line_of 0 verdicts +++ line (codes "end")

unfoldable pub reduced_check_data : LeftOut → Bool → ImageParts → ℕ → List PropertyVerdict → Data
reduced_check_data left_out complete image states verdicts = object
    (member (codes "complete") (boolean complete)
    (member (codes "explore") (count 2)
    (member (codes "image") (image_data image)
    (member (codes "properties") (array (items_of (map property_data verdicts)))
    (member (codes "reduced") (reduced_data left_out)
    (member (codes "states") (count states) no_members))))))

abbrev pub reduced_checked : LeftOut → Format → Bool → ImageParts → ℕ → List PropertyVerdict
    → List ℕ
reduced_checked left_out Text complete image states verdicts =
    reduced_check_text left_out complete image states verdicts
reduced_checked left_out Json complete image states verdicts =
    line (compact_text (reduced_check_data left_out complete image states verdicts))

-- what is said, by what states were told apart without, if anything
abbrev pub said_checked : Option LeftOut → Format → Bool → ImageParts → ℕ → List PropertyVerdict
    → List ℕ
said_checked None format complete image states verdicts =
    checked format complete image states verdicts
said_checked (Some left_out) format complete image states verdicts =
    reduced_checked left_out format complete image states verdicts
