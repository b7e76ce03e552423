-- The table of origins that a run keeps: for each place of a machine the place that its value came
-- from, the places of each hart one after another and then the granules.
use Rattle.std.specs.Prelude.{◌≡◌, ℕ, ◌+◌, ◌-◌, ◌*◌, ◌/◌, ◌%◌, ◌==◌, ◌<◌, nat_lt, if◌then◌else◌, ⊤}
use Rattle.std.specs.Prelude.{List, [], ◌∷◌, length, slice_index_or, slice_set}
use Rattle.origins.specs.declared.step_flows.StepFlows.{StepFlows}
use Rattle.origins.specs.declared.step_flows.StepFlows.TheVariants.{Nothing, One, Two}
use Rattle.origins.specs.declared.place.Flow.{Flow}
use Rattle.origins.specs.declared.place.Place.{Place}
use Rattle.origins.specs.declared.place.Place.TheVariants.{PccOf, RegisterOf, GranuleOf}
use Rattle.cheri_model.specs.declared.operation.Op.{Op}
use Rattle.cheri_model.specs.runs.Image.{ImageParts}
use Rattle.cheri_model.specs.runs.Machine.{hart_at}
use Rattle.cheri_model.specs.runs.Replay.{replayed_state}
use Rattle.origins.specs.Places.{place_of}
use Rattle.origins.specs.Flows.{step_flows}
use Rattle.origins.specs.Origins.{before_flows, replayed_origins}

-- flows as the list that they are
abbrev pub list_of : StepFlows → List Flow
list_of Nothing = []
list_of (One first) = first ∷ []
list_of (Two first second) = first ∷ second ∷ []

-- origins of so many harts, each with its PCC and 32 registers, and of granules
pub record Table : Type 0 where
  pub harts : ℕ
  pub slots : List Place

-- where the origin of a place is, in a table of so many harts
unfoldable pub slot_of : ℕ → Place → ℕ
slot_of harts (PccOf hart) = 33 * hart
slot_of harts (RegisterOf hart number) = 33 * hart + 1 + number
slot_of harts (GranuleOf number) = 33 * harts + number

-- a table of so many harts and slots has this place
abbrev pub IsPlaceIn : ℕ → ℕ → Place → Type 0
IsPlaceIn harts slots (PccOf hart) = hart < harts
IsPlaceIn harts slots (RegisterOf hart number) = (hart < harts) × (number < 32)
IsPlaceIn harts slots (GranuleOf number) = 33 * harts + number < slots

abbrev pub IsPlace : Table → Place → Type 0
IsPlace table place = IsPlaceIn table.harts (length table.slots) place

-- the origin that it has for a place
unfoldable pub origin_in : Table → Place → Place
origin_in table place = slice_index_or table.slots (slot_of table.harts place) place

-- the table with another origin for a place
abbrev pub with_origin : Table → Place → Place → Table
with_origin table place origin =
    record table { slots = slice_set table.slots (slot_of table.harts place) origin }

-- it has all places of flows of a hart
abbrev pub AreFlows : Table → ℕ → List Flow → Type 0
AreFlows table number [] = ⊤
AreFlows table number (flow ∷ rest) =
    IsPlace table (place_of number flow.set) × IsPlace table (place_of number flow.source)
    × AreFlows table number rest

-- the place whose origin is in a slot
unfoldable pub place_at : ℕ → ℕ → Place
place_at harts slot =
    if nat_lt slot (33 * harts)
    then (if slot % 33 == 0 then PccOf (slot / 33) else RegisterOf (slot / 33) (slot % 33 - 1))
    else GranuleOf (slot - 33 * harts)

-- a table of so many harts and granules in which each place is its own origin
pub record IsOpening (count granules : ℕ) (table : Table) : Type 0 where
  pub harts : table.harts ≡ count
  pub size : length table.slots ≡ 33 * count + granules
  pub own : (place : Place) → IsPlace table place → origin_in table place ≡ place

-- the table after flows of a hart: each place has the origin that it had where they took it from
pub record IsAfter (number : ℕ) (flows : List Flow) (old new : Table) : Type 0 where
  pub harts : new.harts ≡ old.harts
  pub size : length new.slots ≡ length old.slots
  pub origins : (place : Place) → IsPlace old place →
      origin_in new place ≡ origin_in old (before_flows number flows place)

-- it tells the origins after an order, for each place that it has
abbrev pub TellsOrigins : ImageParts → List Op → Table → Type 0
TellsOrigins image order table =
    (place : Place) → IsPlace table place
    → origin_in table place ≡ replayed_origins image order place

-- the flows of the step of a hart after an order
abbrev pub next_flows : ImageParts → List Op → ℕ → List Flow
next_flows image order number =
    step_flows image.program (hart_at (replayed_state image order) number)
    (replayed_state image order).memory
