-- Names for `unfolding(..)` that open what their own line names.
use Rattle.std.specs.Prelude.{ℕ, Bool, List}
use Rattle.asm_labels.specs.Labels.{is_shown, instruction_of, first_label}
use Rattle.asm_labels.specs.Before.{last_label}

unfoldable pub labels : List ℕ → Bool
unfolding is_shown instruction_of first_label
labels name = is_shown name

unfoldable pub before : List ℕ → Bool
unfolding last_label
before name = is_shown name
