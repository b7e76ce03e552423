-- What the listed places of a sweep are: those that lost their tag, and no more of them than tags.
use Rattle.std.specs.Prelude.{◌≡◌, ◌↔◌, true, false, List, length, Contains, All}
use Rattle.cap_model.specs.values.CapValue.{tag_of}
use Rattle.cheri_model.specs.steps.Hart.{HartState}
use Rattle.cheri_model.specs.runs.Machine.{MachineState}
use Rattle.origins.specs.declared.place.Place.{Place}
use Rattle.origins.specs.Places.{value_in}

-- a hart has its 32 registers, and each of several has
abbrev pub HasRegisters : HartState → Type 0
HasRegisters hart = length hart.regs ≡ 32

abbrev pub HaveRegisters : List HartState → Type 0
HaveRegisters harts = All HasRegisters harts

-- a place has a tag in one state and none in another
abbrev pub IsTagLost : MachineState → MachineState → Place → Type 0
IsTagLost before after place =
    (tag_of (value_in before place) ≡ true) × (tag_of (value_in after place) ≡ false)

-- the places of a list are those that lost their tag
abbrev pub AreTagsLost : MachineState → MachineState → List Place → Type 0
AreTagsLost before after places =
    (place : Place) → Contains places place ↔ IsTagLost before after place
