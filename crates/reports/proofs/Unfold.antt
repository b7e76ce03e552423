-- Names for `unfolding(..)` that open what their own line names.
use Rattle.std.specs.Prelude.{ℕ, Bool, List}
use Rattle.cap_model.specs.values.CapValue.{CapValue}
use Rattle.report_lines.specs.JsonText.{item_text}
use Rattle.reports.specs.JsonText.{granule_member}
use Rattle.reports.specs.Json.{hart_data, json_report}

unfoldable pub json_parts : Bool → ℕ → CapValue → List ℕ
unfolding granule_member item_text
json_parts later number v = granule_member later number v

unfoldable pub json : ℕ
unfolding hart_data json_report
json = 0
