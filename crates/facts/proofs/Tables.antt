-- The table of origins has what a hart names, and an access that is placed lies in memory.
use Rattle.std.proofs.Common.{◌≡◌, ℕ, ◌+◌, ◌^◌, ◌<◌, true, List, [], ◌∷◌, length, arith}
use Rattle.std.proofs.lemmas.Bool.Decides.{nat_tests}
use Rattle.cap_model.specs.values.CapValue.{CapValue}
use Rattle.cheri_model.specs.steps.Memory.{ram_base, granule_number, fits, IsMemory}
use Rattle.origins.specs.declared.place.Spot.{Spot}
use Rattle.origins.specs.declared.place.Spot.TheVariants.{Pcc, Register, Granule}
use Rattle.origins.specs.Places.{place_of}
use Rattle.origins.specs.declared.place.Flow.{Flow}
use Rattle.origins.specs.Flows.{IsSpot, AreSpots}
use Rattle.origins.specs.Table.{Table, IsPlace, AreFlows}
use Rattle.facts.specs.Stepping.{IsTableFor}

-- what a hart names is a place of its table
pub spot_is_place : (table : Table) (number granules : ℕ) (spot : Spot) → IsTableFor table number granules → IsSpot granules spot → IsPlace table (place_of number spot)
spot_is_place table number granules Pcc for there = for.hart
spot_is_place table number granules (Register reg) for there = (for.hart, there)
spot_is_place table number granules (Granule k) for there =
    let size = for.size in
    let below : k < granules = there in
    omega arith

-- an access that fits memory begins below RAM's end, in a granule of it
pub fits_below : (memory : List CapValue) (address bytes : ℕ) → IsMemory memory → fits memory address bytes ≡ true → address < ram_base + 2 ^ 20
fits_below memory address bytes is fitting =
    let size = is.size in
    grind (arith, nat_tests)

pub fits_granule : (memory : List CapValue) (address bytes : ℕ) → fits memory address bytes ≡ true → granule_number address < length memory
fits_granule memory address bytes fitting = grind (arith, nat_tests)

pub ruleset placed = (fits_below, fits_granule)

pub ruleset tables = (spot_is_place, placed)

-- flows between what a hart names are between places of its table
pub spots_are_flows : (table : Table) (number granules : ℕ) (flows : List Flow) → IsTableFor table number granules → AreSpots granules flows → AreFlows table number flows
spots_are_flows table number granules [] for are = tt
spots_are_flows table number granules (flow ∷ rest) for are =
    (spot_is_place table number granules flow.set for are.0, spot_is_place table number granules flow.source for are.1, spots_are_flows table number granules rest for are.2)
