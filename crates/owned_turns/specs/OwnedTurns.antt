-- Turns in which accesses to granules that aren't shared are quiet steps, and after which each hart
-- forgets the registers that don't matter. Without sweeps.
use Rattle.std.specs.Prelude.{◌≡◌, ℕ, Bool, true, [], length, Option, Some}
use Rattle.cheri_model.specs.runs.Image.{ImageParts}
use Rattle.cheri_model.specs.runs.Machine.{MachineState, opening_state, state_after_step}
use Rattle.explore_sights.specs.declared.sights.Sight.{Sight}
use Rattle.explore_sights.specs.Sights.{hides}
use Rattle.explore_turns.specs.declared.quiet.TheConstants.{MAX_QUIET_STEPS}
use Rattle.forgotten_runs.specs.ForgottenRuns.{forgotten_state}
use Rattle.graph_merging.specs.Merging.{merged}
use Rattle.graph_search.specs.Walks.{IsReachable}
use Rattle.live_registers.specs.LiveSets.{LiveSets}
use Rattle.own_granules.specs.Granules.{is_quiet, respects_in}
use Rattle.own_granules.specs.Rests.{after_passes, ways_pass}
use Rattle.own_granules.specs.Turns.{start, turn}
use Rattle.schedules.specs.Schedules.{next}

-- where a label's turn leads, after which each hart forgets
abbrev pub owned_turn : ImageParts → (ℕ → Bool) → Sight → LiveSets → MachineState → ℕ
    → Option MachineState
owned_turn image shared sight live =
    merged (turn image [] shared (hides sight) MAX_QUIET_STEPS) (forgotten_state live)

-- where such turns begin: the opening state with each hart at its rest, in which each then forgets
abbrev pub owned_start : ImageParts → (ℕ → Bool) → Sight → LiveSets → MachineState
owned_start image shared sight live =
    forgotten_state live (start image [] shared (hides sight) MAX_QUIET_STEPS)

-- the quiet steps that bring the harts of a state to their rest respect owners
abbrev pub WaysRespect : ImageParts → (ℕ → Bool) → (ℕ → Option ℕ) → Sight → MachineState → Type 0
WaysRespect image shared owner sight state =
    ways_pass (state_after_step image) (is_quiet image [] shared (hides sight))
    (respects_in image [] shared owner) MAX_QUIET_STEPS (length image.harts) state ≡ true

-- so do the step of a label, and the quiet steps after it
abbrev pub EdgeRespects : ImageParts → (ℕ → Bool) → (ℕ → Option ℕ) → Sight → MachineState → ℕ
    → Type 0
EdgeRespects image shared owner sight s l = (t : MachineState) → next image [] s l ≡ Some t →
    (respects_in image [] shared owner s l ≡ true)
    × (after_passes (state_after_step image) (is_quiet image [] shared (hides sight))
    (respects_in image [] shared owner) MAX_QUIET_STEPS (length image.harts) l t ≡ true)

-- All that a search by such turns has met respects owners: the quiet steps of the opening state, in
-- which nothing is forgotten, each step from a state that such turns reach, and the quiet steps
-- after it.
pub record AreOwnedForgotten (image : ImageParts) (shared : ℕ → Bool) (owner : ℕ → Option ℕ)
    (sight : Sight) (live : LiveSets) : Type 0 where
  pub opening : WaysRespect image shared owner sight (opening_state image)
  pub edges : (s : MachineState) (l : ℕ) →
      IsReachable (owned_turn image shared sight live) (owned_start image shared sight live) s →
      EdgeRespects image shared owner sight s l
