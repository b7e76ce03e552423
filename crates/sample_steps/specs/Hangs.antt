-- Whether harts go round for ever: each that runs, let on alone, comes back to a state that it had
-- and changes no memory until then.
use Rattle.std.specs.Prelude.{ℕ, zero, suc, Bool, true, false, not, ◌&&◌, ◌||◌, List, [], ◌∷◌}
use Rattle.std.specs.Prelude.{if◌then◌else◌}
use Rattle.cap_model.specs.values.CapValue.{CapValue}
use Rattle.cheri_model.specs.declared.instr.Instr.{Instr}
use Rattle.cheri_model.specs.steps.Hart.{HartState}
use Rattle.cheri_model.specs.steps.HartStep.{hart_step}
use Rattle.cheri_model.specs.runs.Image.{ImageParts}
use Rattle.cheri_model.specs.runs.Machine.{MachineState, is_running}
use Rattle.sample_draws.specs.declared.cycles.Cycle.{Cycle}
use Rattle.sample_draws.specs.Cycles.{cycle_from, is_back, gone_on}
use Rattle.sample_draws.specs.Orders.{is_changed}
use Rattle.sample_steps.specs.declared.hanging.TheConstants.{ALONE}

-- A hart that is let on alone comes back to a state that it had, within so many steps, and changes
-- no memory until then.
unfoldable pub goes_round : List Instr → ℕ → Cycle → HartState → List CapValue → Bool
goes_round program zero cycle hart memory = false
goes_round program (suc left) cycle hart memory =
    let after = hart_step program hart memory in
    if is_changed memory after.memory then false
    else if not (is_running after.hart.status) then false
    else if is_back cycle after.hart then true
    else goes_round program left (gone_on after.hart cycle) after.hart after.memory

-- a hart that runs goes round
abbrev pub stays : List Instr → List CapValue → HartState → Bool
stays program memory hart =
    not (is_running hart.status) || goes_round program ALONE (cycle_from hart) hart memory

unfoldable pub all_stay : List Instr → List CapValue → List HartState → Bool
all_stay program memory [] = true
all_stay program memory (hart ∷ harts) =
    stays program memory hart && all_stay program memory harts

-- each hart that runs, let on alone, goes round
unfoldable pub is_hung : ImageParts → MachineState → Bool
is_hung image state = all_stay image.program state.memory state.harts
