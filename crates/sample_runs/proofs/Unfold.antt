-- Names for `unfolding(..)` that open what their own line names.
use Rattle.cheri_model.specs.runs.Image.{ImageParts}
use Rattle.cheri_model.specs.runs.Machine.{MachineState, state_after_one}
use Rattle.sample_draws.specs.Orders.{running_harts, told}
use Rattle.sample_steps.specs.Hangs.{is_hung}
use Rattle.sample_runs.specs.declared.runner.RunEnd.{RunEnd}
use Rattle.sample_runs.specs.Runs.{end_in}

unfoldable pub runner : ImageParts → MachineState → RunEnd
unfolding state_after_one told running_harts is_hung end_in
runner image state = end_in image state
