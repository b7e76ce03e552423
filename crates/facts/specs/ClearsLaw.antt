-- What the laws of cleared tags say: where a tag is lost, and which reasons are so.
use Rattle.std.specs.Prelude.{◌≡◌, ℕ, ◌==◌, Bool, true, false, not, ◌&&◌, if◌then◌else◌, List, []}
use Rattle.std.specs.Prelude.{◌∷◌, ◌++◌, All}
use Rattle.std.specs.Prelude.{Option, Some, None, ⊤}
use Rattle.cap_model.specs.declared.reason.Reason.{Reason}
use Rattle.cap_model.specs.values.CapValue.{CapValue, tag_of}
use Rattle.cap_model.specs.results.CapInstructions.{CapInstruction, capability_result}
use Rattle.cap_model.specs.results.Reasons.{reasons}
use Rattle.cheri_model.specs.declared.instr.Instr.{Instr}
use Rattle.cheri_model.specs.declared.instr.Instr.TheVariants as instr
use Rattle.cheri_model.specs.steps.Hart.{HartState, register}
use Rattle.cheri_model.specs.steps.Memory.{load_capability}
use Rattle.cheri_model.specs.steps.Actions.{Action, Put, Store, LoadCap, Swap}
use Rattle.cheri_model.specs.steps.Actions.{action}
use Rattle.cheri_model.specs.steps.HartStep.{permitted}
use Rattle.origins.specs.declared.place.Spot.{Spot}
use Rattle.origins.specs.declared.place.Spot.TheVariants.{Pcc, Register, Granule}
use Rattle.origins.specs.declared.place.Flow.{Flow}
use Rattle.origins.specs.Places.{value_at_spot}
use Rattle.origins.specs.Flows.{flows}
use Rattle.origins.specs.Origins.{Origins}
use Rattle.facts.specs.declared.operands.Operands.{Operands}
use Rattle.facts.specs.declared.why.Why.{Why}
use Rattle.facts.specs.declared.step_facts.NamedValue.{NamedValue}
use Rattle.facts.specs.Operands.{Derivation}
use Rattle.facts.specs.Names.{access_of}
use Rattle.facts.specs.StepFacts.{named_at, granule_accessed}
use Rattle.facts.specs.Losses.{why_of}
use Rattle.std.specs.Option.{option_map}

-- whether an instruction that is done writes a result without a tag
abbrev pub has_untagged_result : Action → HartState → List CapValue → Bool
has_untagged_result (Put cd v) hart memory = not (tag_of v)
has_untagged_result (LoadCap cd c1 addr) hart memory =
    not (tag_of (permitted (register hart c1) (load_capability memory addr)))
has_untagged_result (Swap cd c1 addr v) hart memory =
    not (tag_of (permitted (register hart c1) (load_capability memory addr)))
has_untagged_result _ hart memory = false

-- whether what flows into a register has a tag
abbrev pub is_register : Spot → Bool
is_register Pcc = false
is_register (Register number) = true
is_register (Granule number) = false

unfoldable pub source_tag : List Flow → HartState → List CapValue → Bool
source_tag [] hart memory = false
source_tag (flow ∷ rest) hart memory =
    if is_register flow.set then tag_of (value_at_spot hart memory flow.source)
    else source_tag rest hart memory

-- whether a result without a tag is explained: where its source has one, and that of CBuildCap
-- wherever it is set
abbrev pub is_explained : Instr → HartState → List CapValue → Bool
is_explained (instr.CBuildCap cd c1 c2) hart memory = not (cd == 0)
is_explained i hart memory = source_tag (flows i hart) hart memory

-- whether an instruction that is done loses a tag: the granule of a data store, and what has a
-- result without a tag whose source had one
abbrev pub loses_by : Action → Instr → HartState → List CapValue → Bool
loses_by (Store c1 addr width number) i hart memory = tag_of (load_capability memory addr)
loses_by act i hart memory = has_untagged_result act hart memory && is_explained i hart memory

abbrev pub loses_tag : Instr → HartState → List CapValue → Bool
loses_tag i hart memory = loses_by (action i hart) i hart memory

-- the granule that an instruction finds
abbrev pub found_by : Instr → HartState → List CapValue → Origins → ℕ → Option NamedValue
found_by i hart memory origins number =
    option_map (named_at hart memory origins number) (granule_accessed (access_of (action i hart)))

-- the reason of the first line of a table that holds: no line before it does
pub record IsFirst (table : List (Bool × Reason)) (reason : Reason) : Type 0 where
  pub before : List (Bool × Reason)
  pub after : List (Bool × Reason)
  pub lines : table ≡ before ++ (true, reason) ∷ after
  pub none_before : All (λ line. line.0 ≡ false) before

-- the first reason of the instruction's table that holds, with its numbers
pub record IsReason (op : CapInstruction) (o : Operands) (why : Why) : Type 0 where
  pub reason : Reason
  pub first : IsFirst (reasons op o.v o.w) reason
  pub said : why ≡ why_of op o reason

-- an action writes the result of a derivation, and without one no tagged value but by a load
abbrev pub IsWritten : Option Derivation → Action → Type 0
IsWritten (Some d) act = act ≡ Put d.1.cd (capability_result d.0 d.1.v d.1.w)
IsWritten None (Put cd v) = tag_of v ≡ false
IsWritten None _ = ⊤
