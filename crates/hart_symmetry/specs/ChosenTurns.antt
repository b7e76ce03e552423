-- Turns after each of which one state is chosen of those that differ in the order of harts alone.
use Rattle.std.specs.Prelude.{ℕ, Option}
use Rattle.cheri_model.specs.runs.Image.{ImageParts}
use Rattle.cheri_model.specs.runs.Machine.{MachineState}
use Rattle.explore_sights.specs.declared.sights.Sight.{Sight}
use Rattle.forgotten_turns.specs.ForgottenTurns.{forgotten_start, forgotten_turn}
use Rattle.graph_merging.specs.Merging.{merged}
use Rattle.live_registers.specs.LiveSets.{LiveSets}

-- where a label's turn leads, after which each hart forgets and a state is chosen
abbrev pub chosen_turn : ImageParts → Sight → LiveSets → (MachineState → MachineState)
    → MachineState → ℕ → Option MachineState
chosen_turn image sight live choose = merged (forgotten_turn image sight live) choose

-- where such turns begin
abbrev pub chosen_start : ImageParts → Sight → LiveSets → (MachineState → MachineState)
    → MachineState
chosen_start image sight live choose = choose (forgotten_start image sight live)
