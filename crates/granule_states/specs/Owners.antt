-- Steps that respect owners of granules, which a list has.
use Rattle.std.specs.Prelude.{◌≡◌, ℕ, ◌<◌, List, [], length, Bool, true, Option, Some}
use Rattle.cheri_model.specs.runs.Machine.{MachineState}
use Rattle.explore_turns.specs.declared.quiet.TheConstants.{MAX_QUIET_STEPS}
use Rattle.granule_states.specs.Graphs.{GranuleParts, is_shared, owner_of, quiet_in, step_in}
use Rattle.own_granules.specs.Granules.{respects_in}
use Rattle.own_granules.specs.Rests.{after_passes, ways_pass}
use Rattle.schedules.specs.Schedules.{next}

-- the step of a hart respects these owners
abbrev pub passes_in : GranuleParts → List (Option ℕ) → MachineState → ℕ → Bool
passes_in parts owners =
    respects_in parts.graph.image [] (is_shared parts.shared) (owner_of owners)

-- so do the step of a label, and the quiet steps after it
abbrev pub EdgePasses : GranuleParts → List (Option ℕ) → MachineState → ℕ → Type 0
EdgePasses parts owners s l = (t : MachineState) → next parts.graph.image [] s l ≡ Some t →
    (passes_in parts owners s l ≡ true)
    × (after_passes (step_in parts) (quiet_in parts) (passes_in parts owners) MAX_QUIET_STEPS
    (length parts.graph.image.harts) l t ≡ true)

-- so do those of all harts
abbrev pub NodePasses : GranuleParts → List (Option ℕ) → MachineState → Type 0
NodePasses parts owners s = (l : ℕ) → l < length parts.graph.image.harts →
    EdgePasses parts owners s l

-- So do the quiet steps that bring the harts of a state to their rest, and all steps from the
-- states of a search, with the quiet steps after them.
pub record Respect (parts : GranuleParts) (owners : List (Option ℕ)) (opening : MachineState)
    (at : ℕ → Option MachineState) : Type 0 where
  pub ways :
      ways_pass (step_in parts) (quiet_in parts) (passes_in parts owners) MAX_QUIET_STEPS
      (length parts.graph.image.harts) opening ≡ true
  pub nodes : (i : ℕ) (s : MachineState) → at i ≡ Some s → NodePasses parts owners s

-- they respect some owners
abbrev pub RespectSome : GranuleParts → MachineState → (ℕ → Option MachineState) → Type 0
RespectSome parts opening at = (owners : List (Option ℕ)) × Respect parts owners opening at
