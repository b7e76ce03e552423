-- What the search for a state answers.
use Rattle.std.specs.Prelude.{◌≡◌, ℕ, ◌≤◌, List, [], ◌∷◌, Option, Some, None, Bool, true, false}
use Rattle.cheri_model.specs.declared.operation.Op.{Op}
use Rattle.cheri_model.specs.runs.Image.{ImageParts}
use Rattle.cheri_model.specs.runs.Machine.{MachineState, opening_state}
use Rattle.cheri_model.specs.runs.Replay.{is_legal, replayed_state}
use Rattle.conditions.specs.declared.parts.Node.{Node}
use Rattle.conditions.specs.Holding.{holds}
use Rattle.explore_sights.specs.declared.sights.Sight.TheVariants as sights
use Rattle.schedules.specs.declared.ranges.SweepRange.{SweepRange}
use Rattle.schedules.specs.Schedules.{AreAllowed}
use Rattle.shown_states.specs.declared.form.Ending.{Ending}
use Rattle.shown_states.specs.declared.form.Ending.TheVariants.{Done}
use Rattle.shown_states.specs.declared.form.Format.{Format}
use Rattle.states.specs.Kept.{KeptParts, count, at, IsKeptOf, IsSearch, IsWitnessOrder}
use Rattle.states.specs.Kept.{IsFirstPassing, IsWhole}
use Rattle.states.specs.Searches.{SearchParts}
use Rattle.found_texts.specs.FoundTexts.{found, absent, absent_ending}

-- the order is legal, and leaves this state
abbrev pub IsRun : ImageParts → List Op → MachineState → Type 0
IsRun image order state =
    (is_legal image (opening_state image) order ≡ true) × (replayed_state image order ≡ state)

-- an order of steps and of these sweeps that leaves this state, in which the condition holds
pub record IsShortened (image : ImageParts) (condition : List Node) (sweeps : List SweepRange)
    (order : List Op) (state : MachineState) : Type 0 where
  pub allowed : AreAllowed sweeps order
  pub run : IsRun image order state
  pub holding : holds state condition ≡ true

-- The order leads, by steps and these sweeps, to the state, in which the condition holds. Where
-- every step is asked for, the state is the kept one with this number, and the order its witness.
pub record IsLed (every_step : Bool) (condition : List Node) (kept : KeptParts) (number : ℕ)
    (order : List Op) (state : MachineState) : Type 0 where
  pub shortened : IsShortened kept.image condition kept.sweeps order state
  pub least : every_step ≡ true → (at kept number ≡ Some state)
      × IsWitnessOrder kept.image kept.sweeps kept.sight state order

-- a text says such an order, the only one, and the state that it leaves
pub record IsShown (every_step : Bool) (condition : List Node) (format : Format)
    (kept : KeptParts) (number : ℕ) (orders : List (List Op)) (text : List ℕ) : Type 0 where
  pub state : MachineState
  pub order : List Op
  pub led : IsLed every_step condition kept number order state
  pub told : orders ≡ order ∷ []
  pub text_is : text ≡ found format kept.image order state

-- a text with its orders, and how it ends, say whether a kept state was found, and what leads to
-- one
abbrev pub Says : Bool → List Node → Format → KeptParts → Option ℕ → List (List Op) → List ℕ
    → Ending → Type 0
Says every_step condition format kept None orders text ending =
    (orders ≡ []) × (text ≡ absent format kept.complete kept.image (count kept))
    × (ending ≡ absent_ending kept.complete)
Says every_step condition format kept (Some number) orders text ending =
    IsShown every_step condition format kept number orders text × (ending ≡ Done)

-- The answer, with the orders that it tells of: that there is a kept state in which the condition
-- holds, and what leads to one, or that there is none. Where there is none, all states were kept,
-- or as many as may be.
pub record IsFindAnswer (search : SearchParts) (condition : List Node) (format : Format)
    (orders : List (List Op)) (text : List ℕ) (ending : Ending) : Type 0 where
  pub kept : KeptParts
  pub kept_of : IsKeptOf search (sights.Condition condition) kept
  pub searched : IsSearch kept
  pub within : kept.limit ≤ search.limit
  pub number : Option ℕ
  pub first : IsFirstPassing kept (λ s. holds s condition) number
  pub whole : number ≡ None → IsWhole kept search.limit
  pub says : Says search.every_step condition format kept number orders text ending

-- no legal order of steps and of the search's sweeps leads to a state in which the condition holds
abbrev pub IsNowhere : SearchParts → List Node → Type 0
IsNowhere search condition = (order : List Op) → AreAllowed search.sweeps order →
    is_legal search.image (opening_state search.image) order ≡ true →
    holds (replayed_state search.image order) condition ≡ false
