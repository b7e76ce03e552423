-- Names for `unfolding(..)` that open what their own line names.
use Rattle.std.specs.Prelude.{ℕ, List}
use Rattle.outcome_texts.specs.OutcomeTexts.{outcome_line, row_line, row_data}
use Rattle.outcome_texts.specs.OutcomeParts.{listed_parts, listed_whole, shown_lines, shown_json}
use Rattle.outcome_texts.specs.ReducedTexts.{reduced_row_line, reduced_row_data}
use Rattle.report_lines.specs.JsonText.{item_text}

unfoldable pub listed : ℕ → List ℕ → List ℕ
unfolding outcome_line listed_parts listed_whole
listed number order = outcome_line number order

unfoldable pub shown : ℕ → List ℕ → List ℕ
unfolding outcome_line row_line row_data reduced_row_line reduced_row_data shown_lines shown_json item_text
shown number order = outcome_line number order
