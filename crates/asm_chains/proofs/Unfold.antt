-- Names for `unfolding(..)` that open what their own line names.
use Rattle.std.specs.Prelude.{ℕ, List, Option}
use Rattle.asm_values.specs.declared.values.Value.{Value}
use Rattle.asm_chains.specs.Scenes.{named_in, worked_out, symbol_worked_out}
use Rattle.asm_chains.specs.Tables.{value_at, by_table, symbol_by_table, lead_of, late_value, late_symbol}
use Rattle.asm_chains.specs.Orders.{work_of}

unfoldable pub tables : List (Option Value) → ℕ → Option Value
unfolding named_in worked_out symbol_worked_out by_table symbol_by_table
tables values symbol = value_at values symbol

unfoldable pub orders : List (Option Value) → ℕ → Option Value
unfolding work_of
orders values symbol = value_at values symbol

unfoldable pub faults : List (Option Value) → ℕ → Option Value
unfolding lead_of late_value late_symbol
faults values symbol = value_at values symbol
