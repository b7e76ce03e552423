-- Runs that go on for ever, found where accesses to own granules are quiet: an order leads to a
-- state, and a loop from it back to it, which can be taken again and again. All of it is said of
-- the machine's own replay.
use Rattle.std.specs.Prelude.{◌≡◌, ℕ, ◌+◌, ◌*◌, ◌<◌, List, [], ◌∷◌, length, Bool, true, false, Some}
use Rattle.cheri_model.specs.declared.operation.Op.{Op}
use Rattle.cheri_model.specs.runs.Machine.{MachineState, opening_state}
use Rattle.cheri_model.specs.runs.Replay.{is_legal}
use Rattle.explore_turns.specs.declared.quiet.TheConstants.{MAX_QUIET_STEPS}
use Rattle.granule_states.specs.Graphs.{GranuleParts, start_in, turn_in}
use Rattle.granule_states.specs.Orders.{IsOrderTo, steps_of, turns_in}
use Rattle.granule_states.specs.Owned.{OwnedParts, at, count}
use Rattle.graph_loops.specs.Loops.{Takes, actor_count}
use Rattle.graph_loops.specs.Loops as graphs
use Rattle.graph_search.specs.Walks.{IsWalk}
use Rattle.loop_search.specs.declared.judging.FoundLoop.{FoundLoop}
use Rattle.loop_search.specs.declared.judging.Verdict.{Verdict}
use Rattle.loop_search.specs.declared.judging.Verdict.TheVariants as verdict
use Rattle.schedules.specs.Schedules.{AreAllowed}
use Rattle.state_loops.specs.declared.endless.Lasso.{Lasso}
use Rattle.state_loops.specs.declared.endless.Endless.{Endless}
use Rattle.state_loops.specs.declared.endless.Endless.TheVariants.{Yes, Unknown, Unfair, No}
use Rattle.state_loops.specs.Endless.{HasNoFairLoop, HasNoLoop, IsFair, IsLoop, step_count}

-- how many harts there are
abbrev pub harts : OwnedParts → ℕ
harts kept = length kept.graph.graph.image.harts

-- The order is the witness of a kept state, with each of its steps, and the cycle a loop of it: the
-- steps of turns of these harts.
pub record IsOwnedLasso (kept : OwnedParts) (lasso : Lasso) (state : MachineState) : Type 0 where
  pub number : ℕ
  pub there : at kept number ≡ Some state
  pub to : IsOrderTo kept.graph state lasso.order.items
  pub loops : IsLoop kept.graph.graph.image [] state lasso.cycle.items
  pub labels : List ℕ
  pub turns : lasso.cycle.items ≡ steps_of (turns_in kept.graph state labels)

-- turns from where they begin, one after the other, are fewer than there are kept states
abbrev pub HasFewTurns : OwnedParts → Type 0
HasFewTurns kept = (labels : List ℕ) (state : MachineState) →
    IsWalk (turn_in kept.graph) (start_in kept.graph) labels state →
    actor_count (harts kept) labels < count kept

-- A legal order of steps is short: a turn has at most so many quiet steps, and so may each hart
-- take before them.
abbrev pub HasFewSteps : OwnedParts → Type 0
HasFewSteps kept = (order : List Op) → AreAllowed [] order →
    is_legal kept.graph.graph.image (opening_state kept.graph.graph.image) order ≡ true →
    step_count order < (MAX_QUIET_STEPS + 2) * count kept + harts kept * (MAX_QUIET_STEPS + 1)

-- a round from one state to another: turns of harts, at least one, and one of each that has one in
-- the first state
pub record IsFairRound (graph : GranuleParts) (state : MachineState) (round : List ℕ)
    (to : MachineState) : Type 0 where
  pub leads : IsWalk (turn_in graph) state round to
  pub hart : ℕ
  pub low : hart < length graph.graph.image.harts
  pub takes : Takes round hart
  pub fair : graphs.IsFair (turn_in graph) (length graph.graph.image.harts) state round

-- such rounds, one after the other
abbrev pub AreFairRounds : GranuleParts → MachineState → List (List ℕ) → Type 0
AreFairRounds graph state [] = Unit {0}
AreFairRounds graph state (round ∷ rounds) =
    (to : MachineState) × IsFairRound graph state round to × AreFairRounds graph to rounds

-- there are fewer such rounds, from where turns begin, than there are kept states
abbrev pub HasFewRounds : OwnedParts → Type 0
HasFewRounds kept = (rounds : List (List ℕ)) →
    AreFairRounds kept.graph (start_in kept.graph) rounds → length rounds < count kept

-- what is made of a loop that was found: the order to its node, and the steps of its labels' turns
abbrev pub IsLassoOf : OwnedParts → FoundLoop → Lasso → Type 0
IsLassoOf kept found lasso = (state : MachineState) → at kept found.node ≡ Some state →
    IsOrderTo kept.graph state lasso.order.items
    × (lasso.cycle.items ≡ steps_of (turns_in kept.graph state found.labels.items))

-- what an answer says of the machine's runs
abbrev pub IsOwnedEndless : OwnedParts → Endless → Type 0
IsOwnedEndless kept (Yes lasso) =
    (state : MachineState) × IsOwnedLasso kept lasso state × IsFair state lasso.cycle.items
IsOwnedEndless kept Unknown = Unit {0}
IsOwnedEndless kept (Unfair lasso) =
    (kept.complete ≡ true) × HasNoFairLoop kept.graph.graph.image [] × HasFewRounds kept
    × ((state : MachineState) × IsOwnedLasso kept lasso state)
IsOwnedEndless kept No =
    (kept.complete ≡ true) × HasNoLoop kept.graph.graph.image [] × HasFewTurns kept
    × HasFewSteps kept

-- the answer of a verdict, where the kept states are all, or may not be
abbrev pub IsAnswerOf : Bool → Verdict → Endless → Type 0
IsAnswerOf complete (verdict.Fair found) (Yes lasso) = Unit {0}
IsAnswerOf complete verdict.Unknown Unknown = Unit {0}
IsAnswerOf true (verdict.Unfair found) (Unfair lasso) = Unit {0}
IsAnswerOf true verdict.NoLoop No = Unit {0}
IsAnswerOf false (verdict.Unfair found) Unknown = Unit {0}
IsAnswerOf false verdict.NoLoop Unknown = Unit {0}
IsAnswerOf complete found answer = ⊥
