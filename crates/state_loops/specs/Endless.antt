-- Runs that go on for ever: an order leads from a state back to it, and can be taken again and
-- again. All of it is said of the machine's own replay.
use Rattle.std.specs.Prelude.{◌≡◌, ℕ, ◌+◌, ◌*◌, ◌<◌, List, [], ◌∷◌, length, take, Some, true, ◌⊎◌}
use Rattle.cheri_model.specs.declared.operation.Op.{Op}
use Rattle.cheri_model.specs.declared.operation.Op.TheVariants as operation
use Rattle.cheri_model.specs.runs.Image.{ImageParts}
use Rattle.cheri_model.specs.runs.Machine.{MachineState, opening_state, may_take}
use Rattle.cheri_model.specs.runs.Replay.{is_legal, state_after, replayed_state}
use Rattle.graph_search.specs.Trees.{IsFound}
use Rattle.graph_search.specs.Walks.{IsWalk}
use Rattle.graph_loops.specs.Loops.{actor_count}
use Rattle.schedules.specs.declared.ranges.SweepRange.{SweepRange}
use Rattle.schedules.specs.Schedules.{AreAllowed, AreLabelsOf}
use Rattle.explore_sights.specs.declared.sights.Sight.{Sight}
use Rattle.explore_turns.specs.declared.quiet.TheConstants.{MAX_QUIET_STEPS}
use Rattle.explore_turns.specs.Orders.{turns_from}
use Rattle.explore_turns.specs.Turns.{turn_by, start_by}
use Rattle.states.specs.Kept.{KeptParts, at, count, IsWitnessOrder}
use Rattle.loop_search.specs.declared.judging.FoundLoop.{FoundLoop}
use Rattle.loop_search.specs.declared.judging.Verdict.{Verdict}
use Rattle.loop_search.specs.declared.judging.Verdict.TheVariants as verdict
use Rattle.state_loops.specs.declared.endless.Lasso.{Lasso}
use Rattle.state_loops.specs.declared.endless.Endless.{Endless}
use Rattle.state_loops.specs.declared.endless.Endless.TheVariants.{Yes, Unknown, Unfair, No}

-- the hart with this number takes a step in the order
abbrev pub Steps : List Op → ℕ → Type 0
Steps [] hart = ⊥
Steps (op ∷ order) hart = (op ≡ operation.Step hart) ⊎ Steps order hart

-- A loop of a state: an order of steps and of these sweeps that is legal there and leads back to
-- the state, with at least one step.
pub record IsLoop (image : ImageParts) (sweeps : List SweepRange) (state : MachineState)
    (cycle : List Op) : Type 0 where
  pub allowed : AreAllowed sweeps cycle
  pub legal : is_legal image state cycle ≡ true
  pub back : state_after image state cycle ≡ state
  pub steps : (hart : ℕ) × Steps cycle hart

-- each hart that runs in the state takes a step
abbrev pub IsFair : MachineState → List Op → Type 0
IsFair state cycle = (hart : ℕ) → may_take state (operation.Step hart) ≡ true → Steps cycle hart

-- no state that a legal order of steps and of these sweeps leaves has a loop; or a fair one
abbrev pub HasNoLoop : ImageParts → List SweepRange → Type 0
HasNoLoop image sweeps = (order cycle : List Op) → AreAllowed sweeps order →
    is_legal image (opening_state image) order ≡ true →
    ¬ IsLoop image sweeps (replayed_state image order) cycle

abbrev pub HasNoFairLoop : ImageParts → List SweepRange → Type 0
HasNoFairLoop image sweeps = (order cycle : List Op) → AreAllowed sweeps order →
    is_legal image (opening_state image) order ≡ true →
    IsLoop image sweeps (replayed_state image order) cycle →
    ¬ IsFair (replayed_state image order) cycle

-- how many steps of harts an order has
abbrev pub step_count : List Op → ℕ
step_count [] = 0
step_count (operation.Step hart ∷ order) = step_count order + 1
step_count (operation.Sweep lo hi ∷ order) = step_count order

-- turns from where they begin have fewer steps of harts, one a turn, than there are kept states
abbrev pub HasFewTurns : KeptParts → Type 0
HasFewTurns kept = (labels : List ℕ) (state : MachineState) →
    IsWalk (turn_by kept.image kept.sweeps kept.sight)
    (start_by kept.image kept.sweeps kept.sight) labels state →
    actor_count (length kept.image.harts) labels < count kept

-- A legal order of steps and of these sweeps is short: a turn has at most so many quiet steps, and
-- so may each hart take before them, one that a sweep would change one step more.
abbrev pub HasFewSteps : KeptParts → Type 0
HasFewSteps kept = (order : List Op) → AreAllowed kept.sweeps order →
    is_legal kept.image (opening_state kept.image) order ≡ true →
    step_count order
    < (MAX_QUIET_STEPS + 2) * count kept + length kept.image.harts * (MAX_QUIET_STEPS + 1)

-- A round of turns from one state to another: turns that begin with these operations, at least one
-- of them a step, and one a step of each hart that runs in the state.
pub record IsFairRound (image : ImageParts) (sweeps : List SweepRange) (sight : Sight)
    (state : MachineState) (round : List Op) (to : MachineState) : Type 0 where
  pub labels : List ℕ
  pub operations : AreLabelsOf image sweeps labels round
  pub leads : IsWalk (turn_by image sweeps sight) state labels to
  pub steps : (hart : ℕ) × Steps round hart
  pub fair : IsFair state round

-- such rounds, one after the other
abbrev pub AreFairRounds : ImageParts → List SweepRange → Sight → MachineState → List (List Op)
    → Type 0
AreFairRounds image sweeps sight state [] = Unit {0}
AreFairRounds image sweeps sight state (round ∷ rounds) =
    (to : MachineState) × IsFairRound image sweeps sight state round to
    × AreFairRounds image sweeps sight to rounds

-- there are fewer such rounds, from where turns begin, than there are kept states
abbrev pub HasFewRounds : KeptParts → Type 0
HasFewRounds kept = (rounds : List (List Op)) →
    AreFairRounds kept.image kept.sweeps kept.sight
    (start_by kept.image kept.sweeps kept.sight) rounds → length rounds < count kept

-- The order is the witness of a kept state, and the cycle a loop of it: turns, after each of which
-- the state is kept.
pub record IsLasso (kept : KeptParts) (lasso : Lasso) (state : MachineState) : Type 0 where
  pub number : ℕ
  pub there : at kept number ≡ Some state
  pub witness : IsWitnessOrder kept.image kept.sweeps kept.sight state lasso.order.items
  pub loops : IsLoop kept.image kept.sweeps state lasso.cycle.items
  pub ops : List Op
  pub turns : lasso.cycle.items ≡ turns_from kept.image kept.sweeps kept.sight state ops
  pub way : (n : ℕ) → IsFound (at kept) (state_after kept.image state
      (turns_from kept.image kept.sweeps kept.sight state (take n ops)))

-- what is made of a loop that was found: its node's witness, and the turns of its labels
abbrev pub IsLassoOf : KeptParts → FoundLoop → Lasso → Type 0
IsLassoOf kept found lasso = (state : MachineState) → at kept found.node ≡ Some state →
    IsWitnessOrder kept.image kept.sweeps kept.sight state lasso.order.items
    × ((ops : List Op) × AreLabelsOf kept.image kept.sweeps found.labels.items ops
    × (lasso.cycle.items ≡ turns_from kept.image kept.sweeps kept.sight state ops))

-- what an answer says of the kept states
abbrev pub IsEndless : KeptParts → Endless → Type 0
IsEndless kept (Yes lasso) =
    (state : MachineState) × IsLasso kept lasso state × IsFair state lasso.cycle.items
IsEndless kept Unknown = Unit {0}
IsEndless kept (Unfair lasso) =
    (kept.complete ≡ true) × HasNoFairLoop kept.image kept.sweeps × HasFewRounds kept
    × ((state : MachineState) × IsLasso kept lasso state)
IsEndless kept No =
    (kept.complete ≡ true) × HasNoLoop kept.image kept.sweeps × HasFewTurns kept
    × HasFewSteps kept

-- the answer of a verdict
abbrev pub IsAnswerOf : Verdict → Endless → Type 0
IsAnswerOf (verdict.Fair given) (Yes lasso) = Unit {0}
IsAnswerOf verdict.Unknown Unknown = Unit {0}
IsAnswerOf (verdict.Unfair given) (Unfair lasso) = Unit {0}
IsAnswerOf verdict.NoLoop No = Unit {0}
IsAnswerOf given answer = ⊥

-- the same search, whose states have the same numbers and witnesses
pub record IsSame (old new : KeptParts) : Type 0 where
  pub image : new.image ≡ old.image
  pub sweeps : new.sweeps ≡ old.sweeps
  pub sight : new.sight ≡ old.sight
  pub edges : new.edges ≡ old.edges
  pub limit : new.limit ≡ old.limit
  pub complete : new.complete ≡ old.complete
  pub nodes : new.nodes ≡ old.nodes
  pub states : at new ≡ at old
