-- Names for `unfolding(..)` that open what their own line names, and for `using(..)` of a long path.
use Rattle.std.specs.Prelude.{ℕ, List}
use Rattle.cheri_model.specs.declared.instr.Instr.{Instr}
use Rattle.cheri_model.specs.steps.Actions.{Action, action}
use Rattle.cheri_model.specs.steps.Checks.{CheckLine, fetch_table, target_table, jump_table}
use Rattle.cheri_model.specs.steps.Checks.{invoke_table}
use Rattle.cheri_model.specs.steps.Hart.{HartState}
use Rattle.cheri_model.specs.steps.HartStep.{Stepped, execute, trapped, hart_step, permitted}
use Rattle.cheri_model.specs.steps.HartStep.{instruction_at}
use Rattle.cap_model.specs.values.CapValue.{CapValue}

unfoldable pub done : Action → HartState → List CapValue → Stepped
unfolding execute trapped permitted hart_step
done action hart memory = execute action hart memory

unfoldable pub fetches : CapValue → ℕ → List CheckLine
unfolding fetch_table instruction_at
fetches pcc count = fetch_table pcc count

unfoldable pub jump_checks : CapValue → ℕ → List CheckLine
unfolding target_table jump_table invoke_table
jump_checks pcc target = target_table pcc target
