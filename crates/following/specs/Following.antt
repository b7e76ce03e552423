-- A core that is followed: where the values of its state are from, and the facts of what it does
-- next.
use Rattle.std.specs.Prelude.{◌≡◌, ℕ, ◌+◌, ◌*◌, List, length, Result}
use Rattle.cheri_model.specs.declared.operation.Op.TheVariants as operation
use Rattle.cheri_model.specs.steps.HartStep.{hart_step}
use Rattle.cheri_model.specs.runs.Machine.{hart_at}
use Rattle.cheri_model.specs.runs.Replay.{operations_of}
use Rattle.cores.specs.declared.faults.StepFault.{StepFault}
use Rattle.cores.specs.Cores.{CoreParts, IsCore, refused, unless_refused}
use Rattle.origins.specs.declared.place.Place.{Place}
use Rattle.origins.specs.Origins.{Origins, replayed_origins}
use Rattle.origins.specs.Table.{Table, IsPlaceIn, TellsOrigins}
use Rattle.facts.specs.declared.step_facts.StepFacts.{StepFacts}
use Rattle.facts.specs.StepFacts.{step_facts}
use Rattle.facts.specs.EventFacts.{swept_places}
use Rattle.facts.specs.StepLaw.{IsTrapTold, IsLossTold}

-- it is a core, whose machine's places the table has, and it tells where their values are from
pub record IsFollowed (core : CoreParts) (table : Table) : Type 0 where
  pub kept : IsCore core
  pub harts : table.harts ≡ length core.state.harts
  pub size : length table.slots ≡ 33 * table.harts + length core.state.memory
  pub tells : TellsOrigins core.image (operations_of core.trace) table

-- where the values of a core's state are from
abbrev pub origins_now : CoreParts → Origins
origins_now core = replayed_origins core.image (operations_of core.trace)

-- the facts of the next step, of the hart with this number, and what a sweep clears
abbrev pub next_facts : CoreParts → ℕ → StepFacts
next_facts core hart = step_facts core.image core.state (origins_now core) hart

abbrev pub next_swept : CoreParts → ℕ → ℕ → List Place
next_swept core lo hi = swept_places lo hi core.state

-- what facts tell of a trap of the next step, of the hart with this number: nothing where it does
-- not trap, else its trap, for a reason that holds now
abbrev pub TellsTrap : CoreParts → ℕ → StepFacts → Type 0
TellsTrap core hart facts =
    IsTrapTold (length core.image.program) (hart_at core.state hart) core.state.memory
    (hart_step core.image.program (hart_at core.state hart) core.state.memory).outcome facts.traps

-- what they tell of a tag that it loses: nothing where it loses none, else a place that has no tag
-- after it, and why it lost it
abbrev pub TellsLoss : CoreParts → ℕ → StepFacts → Type 0
TellsLoss core hart facts =
    IsLossTold core.image.program (hart_at core.state hart) core.state.memory facts.clears

-- what a step answers: its refusal, if it is refused
abbrev pub answered_step : CoreParts → ℕ → Result (Unit {0}) StepFault
answered_step core hart = unless_refused (refused core (operation.Step hart)) tt

-- a place of the core's machine
abbrev pub IsPlaceOf : CoreParts → Place → Type 0
IsPlaceOf core place =
    IsPlaceIn (length core.state.harts)
    (33 * length core.state.harts + length core.state.memory) place
