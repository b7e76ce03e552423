-- What the next step of a hart asks of memory.
use Rattle.std.specs.Prelude.{◌≡◌, true, false, Option, Some, None}
use Rattle.cheri_model.specs.runs.Image.{ImageParts}
use Rattle.cheri_model.specs.runs.Machine.{is_running}
use Rattle.cheri_model.specs.steps.Hart.{HartState}
use Rattle.explore_turns.specs.QuietSteps.{asks_memory}
use Rattle.granule_states.specs.declared.accesses.Access.{Access}
use Rattle.own_granules.specs.Granules.{asks_store, granule_of}

-- what the next step of a hart that runs asks of memory
pub record IsAsked (image : ImageParts) (hart : HartState) (access : Access) : Type 0 where
  pub runs : is_running hart.status ≡ true
  pub asks : access.asks ≡ asks_memory image.program hart
  pub granule : access.granule ≡ granule_of image hart
  pub stores : access.stores ≡ asks_store image.program hart

-- the same, where the hart runs
abbrev pub IsAccess : ImageParts → HartState → Option Access → Type 0
IsAccess image hart None = is_running hart.status ≡ false
IsAccess image hart (Some access) = IsAsked image hart access
