-- Where the edges of the graph of a machine's states lead.
use Rattle.std.proofs.Common.{◌≡◌, ℕ, ◌-◌, ◌<◌, ◌≤◌, List, length, arith}
use Rattle.std.specs.Prelude.{Some, None, slice_get, true, false}
use Rattle.std.proofs.lemmas.Bool.Decides.{nat_tests}
use Rattle.cheri_model.specs.runs.Image.{ImageParts}
use Rattle.cheri_model.specs.runs.Machine.{MachineState, hart_at, is_running, may_take, state_after_one, state_after_step}
use Rattle.schedules.specs.declared.ranges.SweepRange.{SweepRange}
use Rattle.schedules.specs.Schedules.{next, taken, operation_of_label, sweep_of}

-- the step of a hart that runs
pub next_of_running : (image : ImageParts) (sweeps : List SweepRange) (s : MachineState) (j : ℕ) →
    j < length image.harts → j < length s.harts → is_running (hart_at s j).status ≡ true →
    next image sweeps s j ≡ Some (state_after_step image s j)
unfolding next taken operation_of_label may_take state_after_one
next_of_running image sweeps s j there below runs = grind (arith, nat_tests)

-- a hart that does not run has none
pub next_of_stopped : (image : ImageParts) (sweeps : List SweepRange) (s : MachineState) (j : ℕ) →
    j < length image.harts → is_running (hart_at s j).status ≡ false →
    next image sweeps s j ≡ None
unfolding next taken operation_of_label may_take state_after_one
next_of_stopped image sweeps s j there stops = grind (arith, nat_tests)

-- the sweep of a label past the harts
pub next_of_sweep : (image : ImageParts) (sweeps : List SweepRange) (s : MachineState) (label : ℕ) (range : SweepRange) →
    length image.harts ≤ label → slice_get sweeps (label - length image.harts) ≡ Some range →
    next image sweeps s label ≡ taken image s (Some (sweep_of range))
unfolding next operation_of_label
next_of_sweep image sweeps s label range past at = grind (arith, nat_tests)
