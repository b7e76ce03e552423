-- Origins: for each place, the place of the opening state that its value came from, along an order
-- of operations. An untagged value has an origin too, of no meaning.
use Rattle.std.specs.Prelude.{ℕ, ◌==◌, if◌then◌else◌, List, [], ◌∷◌}
use Rattle.cheri_model.specs.declared.operation.Op.{Op}
use Rattle.cheri_model.specs.declared.operation.Op.TheVariants as operation
use Rattle.cheri_model.specs.runs.Image.{ImageParts}
use Rattle.cheri_model.specs.runs.Machine.{MachineState, opening_state, hart_at, state_after_one}
use Rattle.origins.specs.declared.place.Spot.{Spot}
use Rattle.origins.specs.declared.place.Spot.TheVariants.{Pcc, Register, Granule}
use Rattle.origins.specs.declared.place.Place.{Place}
use Rattle.origins.specs.declared.place.Place.TheVariants.{PccOf, RegisterOf, GranuleOf}
use Rattle.origins.specs.declared.place.Flow.{Flow}
use Rattle.origins.specs.Places.{place_of}
use Rattle.origins.specs.Flows.{step_flows, source_of}

-- where what is in a place of a hart was before the flows of the hart with this number
abbrev pub before_in : ℕ → List Flow → ℕ → Spot → Place
before_in number flows hart spot =
    if number == hart then place_of number (source_of flows spot) else place_of hart spot

-- where what is in a place was before these flows of the hart with this number
unfoldable pub before_flows : ℕ → List Flow → Place → Place
before_flows number flows (PccOf hart) = before_in number flows hart Pcc
before_flows number flows (RegisterOf hart register) =
    before_in number flows hart (Register register)
before_flows number flows (GranuleOf granule) =
    place_of number (source_of flows (Granule granule))

-- Where what is in a place was before an operation. A sweep takes tags away and moves nothing.
unfoldable pub came_from : ImageParts → MachineState → Op → Place → Place
came_from image state (operation.Step number) place =
    before_flows number (step_flows image.program (hart_at state number) state.memory) place
came_from image state (operation.Sweep lo hi) place = place

-- the origin of what is in each place
abbrev pub Origins : Type 0
Origins = Place → Place

-- the origins after an order, run from a state where they were these
unfoldable pub origins_after : ImageParts → MachineState → Origins → List Op → Origins
origins_after image state origins [] = origins
origins_after image state origins (op ∷ order) =
    origins_after image (state_after_one image state op)
    (λ place. origins (came_from image state op place)) order

-- the origins after an order, run from the opening state, where each place is its own origin
unfoldable pub replayed_origins : ImageParts → List Op → Origins
replayed_origins image order = origins_after image (opening_state image) (λ place. place) order
