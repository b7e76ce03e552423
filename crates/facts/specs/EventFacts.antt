-- The facts of an event, and of all events of an order.
use Rattle.std.specs.Prelude.{ℕ, if◌then◌else◌, List, [], ◌∷◌, ◌++◌, length, slice_index_or}
use Rattle.std.proofs.Common.{zero, suc}
use Rattle.cap_model.specs.values.CapValue.{CapValue}
use Rattle.cap_model.specs.results.Swept.{is_in_sweep}
use Rattle.cheri_model.specs.declared.operation.Op.{Op}
use Rattle.cheri_model.specs.declared.operation.Op.TheVariants as operation
use Rattle.cheri_model.specs.steps.Hart.{HartState, register}
use Rattle.cheri_model.specs.steps.Memory.{granule_at}
use Rattle.cheri_model.specs.runs.Image.{ImageParts}
use Rattle.cheri_model.specs.runs.Machine.{MachineState, opening_state, no_hart, state_after_one}
use Rattle.origins.specs.declared.place.Place.{Place}
use Rattle.origins.specs.declared.place.Place.TheVariants.{PccOf, RegisterOf, GranuleOf}
use Rattle.origins.specs.Origins.{Origins, came_from}
use Rattle.facts.specs.declared.step_facts.StepFacts.{StepFacts}
use Rattle.facts.specs.StepFacts.{step_facts}

-- of the places from number 0 up to n, in this order, those whose tag a sweep clears
unfoldable pub swept_among : (ℕ → Place) → (ℕ → CapValue) → ℕ → ℕ → ℕ → List Place
swept_among place value lo hi zero = []
swept_among place value lo hi (suc n) =
    swept_among place value lo hi n
    ++ (if is_in_sweep lo hi (value n) then place n ∷ [] else [])

-- in a hart: PCC, then its registers
unfoldable pub swept_in_hart : ℕ → ℕ → ℕ → HartState → List Place
swept_in_hart lo hi number hart =
    (if is_in_sweep lo hi hart.pcc then PccOf number ∷ [] else [])
    ++ swept_among (λ k. RegisterOf number k) (register hart) lo hi 32

-- in the first n harts
unfoldable pub swept_in_harts : ℕ → ℕ → List HartState → ℕ → List Place
swept_in_harts lo hi harts zero = []
swept_in_harts lo hi harts (suc n) =
    swept_in_harts lo hi harts n ++ swept_in_hart lo hi n (slice_index_or harts n no_hart)

-- the places whose tag a sweep of the addresses from lo up to hi clears: the harts in order, then
-- the granules
unfoldable pub swept_places : ℕ → ℕ → MachineState → List Place
swept_places lo hi state =
    swept_in_harts lo hi state.harts (length state.harts)
    ++ swept_among GranuleOf (granule_at state.memory) lo hi (length state.memory)

-- what is said of an event: of a step its facts, of a sweep what it cleared
pub data EventFacts : Type 0 where
  step : StepFacts → EventFacts
  sweep : List Place → EventFacts

unfoldable pub facts_of : ImageParts → MachineState → Origins → Op → EventFacts
facts_of image state origins (operation.Step number) = step (step_facts image state origins number)
facts_of image state origins (operation.Sweep lo hi) = sweep (swept_places lo hi state)

-- the facts of the events of an order, from a state with these origins
unfoldable pub facts_along : ImageParts → MachineState → Origins → List Op → List EventFacts
facts_along image state origins [] = []
facts_along image state origins (op ∷ order) =
    facts_of image state origins op
    ∷ facts_along image (state_after_one image state op)
    (λ place. origins (came_from image state op place)) order

-- the same from the image's opening state, where each place is its own origin
unfoldable pub replayed_facts : ImageParts → List Op → List EventFacts
replayed_facts image order = facts_along image (opening_state image) (λ place. place) order
