-- Names for `unfolding(..)` that open what their own line names.
use Rattle.std.specs.Prelude.{ℕ, List, Option}
use Rattle.cheri_model.specs.declared.instr.Instr.{Instr}
use Rattle.cheri_model.specs.instructions.Integers.{sum}
use Rattle.cheri_model.specs.steps.Actions.{action}
use Rattle.cheri_model.specs.steps.Hart.{HartState}
use Rattle.cheri_model.specs.steps.HartStep.{instruction_at}
use Rattle.sample_steps.specs.Writes.{store_address}

unfoldable pub stores : List Instr → HartState → Option ℕ
unfolding store_address instruction_at action sum
stores program hart = store_address program hart
