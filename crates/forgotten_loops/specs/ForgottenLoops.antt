-- Runs that go on for ever, found where harts forget the registers that don't matter: an order
-- leads to a state, and a cycle after it, again and again, to states that forget to be the same. All
-- of it is said of the machine's own replay, which forgets nothing.
use Rattle.std.specs.Prelude.{◌≡◌, ℕ, zero, suc, ◌+◌, ◌*◌, ◌<◌, List, [], ◌++◌, length, Some, true}
use Rattle.cheri_model.specs.declared.operation.Op.{Op}
use Rattle.cheri_model.specs.runs.Image.{ImageParts}
use Rattle.cheri_model.specs.runs.Machine.{MachineState, opening_state}
use Rattle.cheri_model.specs.runs.Replay.{is_legal, replayed_state}
use Rattle.explore_turns.specs.declared.quiet.TheConstants.{MAX_QUIET_STEPS}
use Rattle.explore_turns.specs.Orders.{turns_from}
use Rattle.explore_turns.specs.Turns.{start_by, turn_by}
use Rattle.forgotten_runs.specs.ForgottenRuns.{forgotten_state}
use Rattle.forgotten_states.specs.Sought.{IsOrderTo}
use Rattle.forgotten_states.specs.Surveys.{SurveyParts, at, count}
use Rattle.graph_loops.specs.Loops.{actor_count}
use Rattle.graph_search.specs.Walks.{IsWalk}
use Rattle.loop_search.specs.declared.judging.FoundLoop.{FoundLoop}
use Rattle.schedules.specs.Schedules.{AreAllowed, AreLabelsOf}
use Rattle.state_loops.specs.declared.endless.Lasso.{Lasso}
use Rattle.state_loops.specs.declared.endless.Endless.{Endless}
use Rattle.state_loops.specs.declared.endless.Endless.TheVariants.{Yes, Unknown, Unfair, No}
use Rattle.state_loops.specs.Endless.{AreFairRounds, HasNoFairLoop, HasNoLoop, IsFair, Steps}
use Rattle.state_loops.specs.Endless.{step_count}

-- a cycle, so many times
abbrev pub repeated : ℕ → List Op → List Op
repeated zero cycle = []
repeated (suc n) cycle = repeated n cycle ++ cycle

-- A run that goes on for ever: the order, and after it the cycle as many times as one likes, are
-- legal; and the cycle has at least one step.
pub record GoesOn (image : ImageParts) (order cycle : List Op) : Type 0 where
  pub order_allowed : AreAllowed [] order
  pub cycle_allowed : AreAllowed [] cycle
  pub again : (n : ℕ) → is_legal image (opening_state image) (order ++ repeated n cycle) ≡ true
  pub steps : (hart : ℕ) × Steps cycle hart

-- each time round, each hart that then runs takes a step
abbrev pub IsFairForever : ImageParts → List Op → List Op → Type 0
IsFairForever image order cycle =
    (n : ℕ) → IsFair (replayed_state image (order ++ repeated n cycle)) cycle

-- The order is the witness of a state of the survey, and the cycle can be taken after it again and
-- again: each time round, what the machine's state forgets to be is that state.
pub record IsForgottenLasso (survey : SurveyParts) (lasso : Lasso) : Type 0 where
  pub number : ℕ
  pub state : MachineState
  pub there : at survey number ≡ Some state
  pub to : IsOrderTo survey.image survey.sight survey.live survey.groups state lasso.order.items
  pub on : GoesOn survey.image lasso.order.items lasso.cycle.items
  pub comes : (n : ℕ) →
      forgotten_state survey.live
      (replayed_state survey.image (lasso.order.items ++ repeated n lasso.cycle.items)) ≡ state

-- turns of the machine, from where they begin, have fewer steps of harts, one a turn, than the
-- survey has states
abbrev pub HasFewTurns : SurveyParts → Type 0
HasFewTurns survey = (labels : List ℕ) (state : MachineState) →
    IsWalk (turn_by survey.image [] survey.sight)
    (start_by survey.image [] survey.sight) labels state →
    actor_count (length survey.image.harts) labels < count survey

-- A legal order of steps is short: a turn has at most so many quiet steps, and so may each hart
-- take before them. So every run ends.
abbrev pub HasFewSteps : SurveyParts → Type 0
HasFewSteps survey = (order : List Op) → AreAllowed [] order →
    is_legal survey.image (opening_state survey.image) order ≡ true →
    step_count order
    < (MAX_QUIET_STEPS + 2) * count survey + length survey.image.harts * (MAX_QUIET_STEPS + 1)

-- there are fewer fair rounds of turns of the machine, one after the other, than the survey has
-- states
abbrev pub HasFewRounds : SurveyParts → Type 0
HasFewRounds survey = (rounds : List (List Op)) →
    AreFairRounds survey.image [] survey.sight (start_by survey.image [] survey.sight) rounds →
    length rounds < count survey

-- what an answer says of the machine's runs
abbrev pub IsForgottenEndless : SurveyParts → Endless → Type 0
IsForgottenEndless survey (Yes lasso) =
    IsForgottenLasso survey lasso × IsFairForever survey.image lasso.order.items lasso.cycle.items
IsForgottenEndless survey Unknown = Unit {0}
IsForgottenEndless survey (Unfair lasso) =
    (survey.complete ≡ true) × HasNoFairLoop survey.image [] × HasFewRounds survey
    × IsForgottenLasso survey lasso
IsForgottenEndless survey No =
    (survey.complete ≡ true) × HasNoLoop survey.image [] × HasFewTurns survey × HasFewSteps survey

-- what is made of a loop that was found: the order to its node, and the turns of its labels after
-- it
abbrev pub IsLassoOf : SurveyParts → FoundLoop → Lasso → Type 0
IsLassoOf survey found lasso = (state : MachineState) → at survey found.node ≡ Some state →
    IsOrderTo survey.image survey.sight survey.live survey.groups state lasso.order.items
    × ((ops : List Op) × AreLabelsOf survey.image [] found.labels.items ops
    × (lasso.cycle.items ≡ turns_from survey.image [] survey.sight
    (replayed_state survey.image lasso.order.items) ops))
