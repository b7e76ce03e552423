-- Names for `unfolding(..)` that open what their own line names.
use Rattle.std.specs.Prelude.{ℕ}
use Rattle.outcomes.specs.Items.{status_value, value_of, code_of}
use Rattle.cheri_model.specs.runs.Machine.{hart_at}

unfoldable pub items : ℕ
unfolding status_value value_of code_of hart_at
items = 0
