-- States that decide what a property claims, and the first of them that an order leads through.
use Rattle.std.specs.Prelude.{ℕ, ◌+◌, Bool, false, not, ◌&&◌, if◌then◌else◌, List, [], ◌∷◌, take}
use Rattle.std.specs.Prelude.{Option, Some, None}
use Rattle.cheri_model.specs.declared.operation.Op.{Op}
use Rattle.cheri_model.specs.runs.Image.{ImageParts}
use Rattle.cheri_model.specs.runs.Machine.{MachineState, opening_state, state_after_one}
use Rattle.conditions.specs.declared.parts.Node.{Node}
use Rattle.conditions.specs.Holding.{holds}
use Rattle.explore_properties.specs.declared.claims.Claim.{Claim}
use Rattle.explore_properties.specs.declared.claims.Claim.TheVariants.{Holds, Ends, EndsFairly}
use Rattle.explore_properties.specs.declared.claims.When.{When}
use Rattle.explore_properties.specs.declared.claims.When.TheVariants.{Never, Always, Sometimes}
use Rattle.explore_properties.specs.declared.claims.When.TheVariants.{Finally}
use Rattle.sample_draws.specs.Orders.{is_over}

-- The condition holds, where it never may or has to in some state; or it doesn't, where it always
-- has to, or has to where no hart runs.
unfoldable pub decides_when : When → List Node → MachineState → Bool
decides_when Never condition state = holds state condition
decides_when Always condition state = not (holds state condition)
decides_when Sometimes condition state = holds state condition
decides_when Finally condition state = is_over state && not (holds state condition)

-- no state decides whether runs end
unfoldable pub decides : Claim → MachineState → Bool
decides (Holds when condition) state = decides_when when condition state
decides Ends state = false
decides EndsFairly state = false

-- the states that an order leads through, the one before it first
unfoldable pub states_along : ImageParts → MachineState → List Op → List MachineState
states_along image state [] = state ∷ []
states_along image state (op ∷ order) =
    state ∷ states_along image (state_after_one image state op) order

abbrev pub one_later : Option ℕ → Option ℕ
one_later None = None
one_later (Some place) = Some (place + 1)

-- the place of the first item that passes
unfoldable pub first_place : {A : Type 0} → (A → Bool) → List A → Option ℕ
first_place passes [] = None
first_place passes (item ∷ items) =
    if passes item then Some 0 else one_later (first_place passes items)

-- after how many of its operations an order first leads to a state that decides a claim
unfoldable pub decided_after : ImageParts → Claim → List Op → Option ℕ
decided_after image claim order =
    first_place (decides claim) (states_along image (opening_state image) order)

-- an order up to there
abbrev pub up_to : Option ℕ → List Op → Option (List Op)
up_to None order = None
up_to (Some count) order = Some (take count order)

unfoldable pub deciding_part : ImageParts → Claim → List Op → Option (List Op)
deciding_part image claim order = up_to (decided_after image claim order) order
