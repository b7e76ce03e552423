-- Names for `unfolding(..)` that open what their own line names.
use Rattle.std.specs.Prelude.{ℕ}
use Rattle.report_lines.specs.JsonText.{item_text}
use Rattle.sample_texts.specs.SampleTexts.{row_line, drawn_line, outcome_line, outcome_lines, trap_line}
use Rattle.sample_texts.specs.SampleData.{trap_data}
use Rattle.sample_texts.specs.SampleJson.{numbers_json, drawn_json, outcome_json}
use Rattle.sample_texts.specs.PropertyTexts.{property_line, property_data}

unfoldable pub traps : ℕ
unfolding item_text trap_line trap_data
traps = 0

unfoldable pub rows : ℕ
unfolding row_line item_text
rows = 0

unfoldable pub members : ℕ
unfolding item_text numbers_json
members = 0

unfoldable pub properties : ℕ
unfolding property_line property_data item_text
properties = 0

unfoldable pub drawn : ℕ
unfolding item_text drawn_line drawn_json
drawn = 0

unfoldable pub ends : ℕ
unfolding outcome_line outcome_lines outcome_json
ends = 0
