-- Authority: what a tagged capability can reach, and that every one of a run lies within one that
-- was there before (CHERI ISA v9, "capability monotonicity").
use Rattle.std.specs.Prelude.{◌≡◌, ℕ, ◌/◌, ◌%◌, ◌^◌, ◌<◌, ◌≤◌, ◌⊎◌, List, [], ◌∷◌, ◌++◌, map, All}
use Rattle.std.specs.Prelude.{Contains, ⊤}
use Rattle.std.specs.List.{flat_map}
use Rattle.cheri_model.specs.declared.image.HartImage.{HartImage}
use Rattle.cheri_model.specs.declared.operation.Event.{Event}
use Rattle.cap_model.specs.values.Capability.{Capability, last_sealable_type}
use Rattle.cap_model.specs.values.CapValue.{CapValue, valid, raw, IsLawfulValue}
use Rattle.cap_model.specs.results.Derivation.{IsWithin}
use Rattle.cheri_model.specs.steps.Hart.{HartState}
use Rattle.cheri_model.specs.runs.Image.{ImageParts}
use Rattle.cheri_model.specs.runs.Machine.{MachineState}
use Rattle.cheri_model.specs.runs.Replay.{operations_of, replayed_state}

-- a capability may seal with an object type: the type is in its bounds, and it has Seal, which is
-- permission 7
pub record CanSealWith (d : Capability) (otype : ℕ) : Type 0 where
  pub base : d.base ≤ otype
  pub top : otype < d.top
  pub seal : d.perms / 2 ^ 7 % 2 ≡ 1

-- an object type comes from a tagged capability among these values, which has it or may seal with
-- it
pub record IsGrantedType (sources : List CapValue) (otype : ℕ) : Type 0 where
  pub source : Capability
  pub held : Contains sources (valid source)
  pub by : (otype ≡ source.otype) ⊎ CanSealWith source otype

-- A capability lies within some tagged one among these values, and its object type, if it is one
-- that can be sealed with, comes from some tagged one among them.
pub record IsGranted (sources : List CapValue) (c : Capability) : Type 0 where
  pub source : Capability
  pub held : Contains sources (valid source)
  pub within : IsWithin c source
  pub sealed : c.otype ≤ last_sealable_type → IsGrantedType sources c.otype

-- the same of a value, if it is tagged
abbrev pub IsGrantedValue : List CapValue → CapValue → Type 0
IsGrantedValue sources (valid c) = IsGranted sources c
IsGrantedValue sources (raw word) = ⊤

-- what holds of PCC and of every register
pub record EachOfHart (P : CapValue → Type 0) (hart : HartState) : Type 0 where
  pub pcc : P hart.pcc
  pub regs : All P hart.regs

-- what holds of every value of a state: in every hart and in every granule
pub record EachOfState (P : CapValue → Type 0) (state : MachineState) : Type 0 where
  pub harts : All (EachOfHart P) state.harts
  pub memory : All P state.memory

-- the values that an image gives; the tagged ones are the initial capabilities
abbrev pub values_of_hart : HartImage → List CapValue
values_of_hart hart = hart.pcc ∷ hart.regs

unfoldable pub values_of_image : ImageParts → List CapValue
values_of_image image = flat_map values_of_hart image.harts ++ map (λ entry. entry.1) image.granules

-- the values of a state: PCC and the registers of each hart, and the granules
abbrev pub values_in_hart : HartState → List CapValue
values_in_hart hart = hart.pcc ∷ hart.regs

unfoldable pub values_of_state : MachineState → List CapValue
values_of_state state = flat_map values_in_hart state.harts ++ state.memory

-- every value of a state is lawful
abbrev pub IsLawfulState : MachineState → Type 0
IsLawfulState state = EachOfState IsLawfulValue state

-- every tagged value of a state is granted by the initial capabilities of the image
abbrev pub IsConfined : ImageParts → MachineState → Type 0
IsConfined image state = EachOfState (IsGrantedValue (values_of_image image)) state

-- every tagged value of a state is granted by the values of another
abbrev pub IsConfinedTo : MachineState → MachineState → Type 0
IsConfinedTo before state = EachOfState (IsGrantedValue (values_of_state before)) state

-- the state of a machine of this one hart
abbrev pub alone : HartState → List CapValue → MachineState
alone hart memory = record { harts = hart ∷ []; memory = memory }

-- for every prefix of a trace, every tagged value of a state is granted by the values that its
-- replay left
abbrev pub IsMonotone : ImageParts → List Event → MachineState → Type 0
IsMonotone image trace state =
    (before later : List Event) → trace ≡ before ++ later
    → IsConfinedTo (replayed_state image (operations_of before)) state
