-- Names for `unfolding(..)` that open what their own line names.
use Rattle.std.specs.Prelude.{ℕ, Bool, List, Option}
use Rattle.asm_requests.specs.Numbers.{number_up_to, integer_of, stack_of}
use Rattle.asm_requests.specs.Values.{typed, operands_of, literal_of, symbol_of, held_of}
use Rattle.asm_requests.specs.Settings.{exit_of, plain_setting, register_setting}
use Rattle.asm_requests.specs.Settings.{named_setting, setting_of, is_link, drops_exit}

unfoldable pub numbers : List ℕ → Option ℕ
unfolding number_up_to integer_of stack_of
numbers text = integer_of text

unfoldable pub values : List ℕ → Option ℕ
unfolding typed operands_of literal_of symbol_of held_of
values text = integer_of text

unfoldable pub settings : List ℕ → Bool
unfolding exit_of plain_setting register_setting named_setting setting_of is_link drops_exit
settings word = drops_exit word
