-- Names for `unfolding(..)` that open what their own line names.
use Rattle.std.proofs.Common.{Bool}
use Rattle.cheri_model.specs.declared.operation.Op.{Op}
use Rattle.cheri_model.specs.runs.Image.{ImageParts}
use Rattle.cheri_model.specs.runs.Machine.{MachineState, state_after_one}
use Rattle.sample_draws.specs.Orders.{running_harts, is_over}
use Rattle.cheri_model.specs.runs.Machine.{hart_at}
use Rattle.sample_checks.specs.Deciding.{decides_when}
use Rattle.sample_checks.specs.Deciding.{decides}

unfoldable pub operation : ImageParts → MachineState → Op → MachineState
unfolding state_after_one decides
operation image state op = state_after_one image state op

unfoldable pub running : MachineState → Bool
unfolding running_harts hart_at decides_when
running state = is_over state
