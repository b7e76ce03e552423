-- Turns of machines whose harts forget the registers that don't matter to them. There are no sweeps:
-- whether a sweep sees a hart depends on what the hart would forget.
use Rattle.std.specs.Prelude.{◌≡◌, ℕ, Bool, [], Option}
use Rattle.cheri_model.specs.runs.Image.{ImageParts}
use Rattle.cheri_model.specs.runs.Machine.{MachineState}
use Rattle.cheri_model.specs.steps.Hart.{HartState}
use Rattle.explore_sights.specs.declared.sights.Sight.{Sight}
use Rattle.explore_turns.specs.Turns.{start_by, turn_by}
use Rattle.forgotten_runs.specs.ForgottenRuns.{forgotten_state}
use Rattle.graph_merging.specs.Merging.{merged}
use Rattle.live_registers.specs.LiveSets.{LiveSets, forgotten_hart}

-- what a question sees of a step is nothing that a hart forgets
abbrev pub HidesForgotten : LiveSets → (HartState → HartState → Bool) → Type 0
HidesForgotten live hides = (before after : HartState) →
    hides (forgotten_hart live before) (forgotten_hart live after) ≡ hides before after

-- a state passes a test just where what it forgets to be does
abbrev pub PassesForgotten : LiveSets → (MachineState → Bool) → Type 0
PassesForgotten live passing =
    (state : MachineState) → passing (forgotten_state live state) ≡ passing state

-- where a label's turn leads, after which each hart forgets
abbrev pub forgotten_turn : ImageParts → Sight → LiveSets → MachineState → ℕ → Option MachineState
forgotten_turn image sight live = merged (turn_by image [] sight) (forgotten_state live)

-- where such turns begin: the opening state with each hart at its rest, in which each then forgets
abbrev pub forgotten_start : ImageParts → Sight → LiveSets → MachineState
forgotten_start image sight live = forgotten_state live (start_by image [] sight)
