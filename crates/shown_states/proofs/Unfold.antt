-- Names for `unfolding(..)` that open what their own line names.
use Rattle.std.specs.Prelude.{ℕ}
use Rattle.shown_states.specs.StateTexts.{states_line, state_members}
use Rattle.reports.specs.Report.{hart_lines}

unfoldable pub texts : ℕ
unfolding states_line hart_lines state_members
texts = 0
