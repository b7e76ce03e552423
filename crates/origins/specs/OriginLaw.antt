-- What an origin promises: a tagged value lies within the capability that it came from.
use Rattle.std.specs.Prelude.{◌≡◌, ◌≤◌, List, Contains, ⊤}
use Rattle.cheri_model.specs.declared.operation.Op.{Op}
use Rattle.cap_model.specs.values.Capability.{Capability, last_sealable_type}
use Rattle.cap_model.specs.values.CapValue.{CapValue, valid, raw}
use Rattle.cap_model.specs.results.Derivation.{IsWithin}
use Rattle.cheri_model.specs.runs.Image.{ImageParts}
use Rattle.cheri_model.specs.runs.Machine.{MachineState, opening_state}
use Rattle.cheri_model.specs.runs.Authority.{IsGrantedType, values_of_image}
use Rattle.origins.specs.declared.place.Place.{Place}
use Rattle.origins.specs.Places.{value_in}
use Rattle.origins.specs.Origins.{Origins, replayed_origins}

-- a value is made of another: where it is tagged, so is the other, and it lies within it
abbrev pub IsOf : CapValue → CapValue → Type 0
IsOf (valid c) (valid d) = IsWithin c d
IsOf (valid c) (raw word) = ⊥
IsOf (raw word) v = ⊤

-- what is in each place of a state is made of what its origin held at the start
pub record IsFrom (start : MachineState) (origins : Origins) (state : MachineState) : Type 0 where
  pub each : (place : Place) → IsOf (value_in state place) (value_in start (origins place))

-- After an order, the capability in a place has an origin: the initial capability that the origin
-- names is one of the image's, the capability lies within it, and its object type, if it is one
-- that can be sealed with, comes from the image too.
pub record HasOrigin (image : ImageParts) (order : List Op) (place : Place) (c : Capability)
    : Type 0 where
  pub initial : Capability
  pub named : value_in (opening_state image) (replayed_origins image order place) ≡ valid initial
  pub within : IsWithin c initial
  pub held : Contains (values_of_image image) (valid initial)
  pub sealed : c.otype ≤ last_sealable_type → IsGrantedType (values_of_image image) c.otype
