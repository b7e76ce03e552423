-- Turns after which harts forget, and those of one group stand in order.
use Rattle.std.specs.Prelude.{ℕ, ◌==◌, Bool, List, Option}
use Rattle.cheri_model.specs.runs.Image.{ImageParts}
use Rattle.cheri_model.specs.runs.Machine.{MachineState}
use Rattle.explore_sights.specs.declared.sights.Sight.{Sight}
use Rattle.forgotten_turns.specs.ForgottenTurns.{forgotten_start, forgotten_turn}
use Rattle.hart_order.specs.Arrangements.{arranged_state, group_of, place_in}
use Rattle.hart_symmetry.specs.ChosenTurns.{chosen_start, chosen_turn}
use Rattle.hart_symmetry.specs.Symmetry.{own_labels}
use Rattle.live_registers.specs.LiveSets.{LiveSets}

-- where a label's turn leads, and where such turns begin
abbrev pub grouped_turn : ImageParts → Sight → LiveSets → List ℕ → MachineState → ℕ
    → Option MachineState
grouped_turn image sight live groups = chosen_turn image sight live (arranged_state groups)

abbrev pub grouped_start : ImageParts → Sight → LiveSets → List ℕ → MachineState
grouped_start image sight live groups = chosen_start image sight live (arranged_state groups)

-- the labels of a walk of such turns, by the numbers that the harts have in the machine
abbrev pub machine_labels : ImageParts → Sight → LiveSets → List ℕ → List ℕ → List ℕ
machine_labels image sight live groups =
    own_labels (forgotten_turn image sight live) (arranged_state groups) (place_in groups)
    (place_in groups (forgotten_start image sight live)) (grouped_start image sight live groups)

-- harts of no group keep their numbers
abbrev pub keeps_number : List ℕ → ℕ → Bool
keeps_number groups hart = group_of groups hart == 0
