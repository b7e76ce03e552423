-- Names for `unfolding(..)` that open what their own line names.
use Rattle.std.specs.Prelude.{ℕ, Bool, List, Option}
use Rattle.cheri_model.specs.runs.Image.{ImageParts}
use Rattle.explore_checks.specs.CheckParts.{check_json, check_lines}
use Rattle.explore_checks.specs.CheckTexts.{property_data, property_line}
use Rattle.explore_verdicts.specs.declared.verdict.PropertyVerdict.{PropertyVerdict}
use Rattle.reductions.specs.declared.reduction.LeftOut.{LeftOut}
use Rattle.report_lines.specs.JsonText.{item_text}

unfoldable pub texts : PropertyVerdict → List ℕ
unfolding property_line check_lines
texts told = property_line told

unfoldable pub json : Option LeftOut → Bool → ImageParts → ℕ → List PropertyVerdict → List ℕ
unfolding check_json property_data item_text
json reduced complete image states verdicts = check_json reduced complete image states verdicts
