-- The values of a machine by place.
use Rattle.std.specs.Prelude.{ℕ, Bool, true, false, ◌==◌}
use Rattle.origins.specs.declared.place.Spot.{Spot}
use Rattle.origins.specs.declared.place.Spot.TheVariants.{Pcc, Register, Granule}
use Rattle.origins.specs.declared.place.Place.{Place}
use Rattle.origins.specs.declared.place.Place.TheVariants.{PccOf, RegisterOf, GranuleOf}
use Rattle.cap_model.specs.values.CapValue.{CapValue}
use Rattle.cheri_model.specs.steps.Hart.{HartState, register}
use Rattle.cheri_model.specs.steps.Memory.{granule_at}
use Rattle.cheri_model.specs.runs.Machine.{MachineState, hart_at}
use Rattle.std.specs.Prelude.{List}

-- what is in a place that a hart names
abbrev pub value_at_spot : HartState → List CapValue → Spot → CapValue
value_at_spot hart memory Pcc = hart.pcc
value_at_spot hart memory (Register number) = register hart number
value_at_spot hart memory (Granule number) = granule_at memory number

-- what is in a place of the machine; null where the machine has no such place
abbrev pub value_in : MachineState → Place → CapValue
value_in state (PccOf number) = (hart_at state number).pcc
value_in state (RegisterOf hart number) = register (hart_at state hart) number
value_in state (GranuleOf number) = granule_at state.memory number

-- the place that the hart with this number names so
abbrev pub place_of : ℕ → Spot → Place
place_of hart Pcc = PccOf hart
place_of hart (Register number) = RegisterOf hart number
place_of hart (Granule number) = GranuleOf number

abbrev pub is_same : Spot → Spot → Bool
is_same Pcc Pcc = true
is_same (Register a) (Register b) = a == b
is_same (Granule a) (Granule b) = a == b
is_same _ _ = false
