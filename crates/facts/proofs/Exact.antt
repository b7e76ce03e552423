-- A cleared tag is said exactly where an instruction loses one.
use Rattle.std.specs.Prelude.{◌≡◌, ◌==◌, Bool, true, false, not, ◌&&◌, ◌||◌, List, Option, Some, None, is_some, is_none, if◌then◌else◌}
use Rattle.std.proofs.Common.{ℕ, refl, sym, ◌∙◌, ap}
use Rattle.std.specs.Option.{option_map}
use Rattle.cap_model.specs.declared.permission.TheConstants as permission
use Rattle.cap_model.specs.values.CapValue.{CapValue, raw, valid, IsLawfulValue, tag_of}
use Rattle.cap_model.specs.results.Addresses.{has_permission, clear_tag}
use Rattle.cap_model.specs.results.CapInstructions as cap
use Rattle.cheri_model.specs.declared.instr.Instr.{Instr}
use Rattle.cheri_model.specs.declared.instr.Instr.TheVariants as instr
use Rattle.cheri_model.specs.instructions.Integers.{immediate, upper_immediate}
use Rattle.cheri_model.specs.steps.Hart.{HartState, register}
use Rattle.cheri_model.specs.steps.Memory.{load_capability}
use Rattle.cheri_model.specs.steps.Actions.{action, at}
use Rattle.cheri_model.specs.steps.HartStep.{permitted}
use Rattle.cheri_model.specs.runs.Authority.{EachOfHart}
use Rattle.origins.proofs.StepOrigins.{register_lawful}
use Rattle.origins.specs.declared.place.Spot.{Spot}
use Rattle.origins.specs.declared.place.Spot.TheVariants.{Pcc, Register}
use Rattle.origins.specs.Places.{value_at_spot}
use Rattle.origins.specs.Flows.{flows_at, into, granule_of}
use Rattle.origins.specs.Origins.{Origins}
use Rattle.facts.specs.declared.operands.Operands.{Operands}
use Rattle.facts.specs.declared.why.Why.{Why}
use Rattle.facts.specs.declared.step_facts.Cleared.{Cleared}
use Rattle.facts.specs.Operands.{operands, operands_by, derivation_of}
use Rattle.facts.specs.Losses.{why_lost, lost, is_build, cleared, lost_by_load, clears_of}
use Rattle.facts.specs.StepFacts.{named_at}
use Rattle.facts.specs.ClearsLaw.{source_tag, loses_tag, found_by}
use Rattle.facts.proofs.Reasons.{kept_without_why}

some_if : (b : Bool) (name : Spot) (why : Option Why) → is_some (if b then option_map (cleared name) why else None) ≡ (b && not (is_none why))
some_if true name None = refl
some_if true name (Some why) = refl
some_if false name why = refl

-- what a derivation loses
lost_exactly : (op : cap.CapInstruction) (o : Operands) → IsLawfulValue o.v →
    is_some (lost op o) ≡ ((not (o.cd == 0) && (tag_of o.v || is_build op)) && not (tag_of (cap.capability_result op o.v o.w)))
unfolding lost
lost_exactly op o lawful =
    rw (kept_without_why op o lawful) (some_if (not (o.cd == 0) && (tag_of o.v || is_build op)) (Register o.cd) (why_lost op o))

or_false : (b : Bool) → (b || false) ≡ b
or_false true = refl
or_false false = refl

and_swapped : (a b : Bool) → (a && b) ≡ (b && a)
and_swapped true true = refl
and_swapped true false = refl
and_swapped false true = refl
and_swapped false false = refl

-- the source of a result in cd
into_tag : (b : Bool) (cd : ℕ) (source : Spot) (hart : HartState) (memory : List CapValue) → (cd == 0) ≡ b →
    source_tag (into cd source) hart memory ≡ (not b && tag_of (value_at_spot hart memory source))
unfolding source_tag
into_tag true cd source hart memory is = rw is refl
into_tag false cd source hart memory is = rw is refl

-- an instruction that makes a capability, CBuildCap aside, loses a tag where the source has one
made_exactly : (op : cap.CapInstruction) (o : Operands) (source : Spot) (hart : HartState) (memory : List CapValue) →
    is_build op ≡ false → o.v ≡ value_at_spot hart memory source → IsLawfulValue o.v →
    is_some (lost op o) ≡ (not (tag_of (cap.capability_result op o.v o.w)) && source_tag (into o.cd source) hart memory)
made_exactly op o source hart memory no_build read lawful =
    lost_exactly op o lawful
    ∙ ap (λ b. (not (o.cd == 0) && (tag_of o.v || b)) && not (tag_of (cap.capability_result op o.v o.w))) no_build
    ∙ ap (λ b. (not (o.cd == 0) && b) && not (tag_of (cap.capability_result op o.v o.w))) (or_false (tag_of o.v))
    ∙ and_swapped (not (o.cd == 0) && tag_of o.v) (not (tag_of (cap.capability_result op o.v o.w)))
    ∙ ap (λ v. not (tag_of (cap.capability_result op o.v o.w)) && (not (o.cd == 0) && tag_of v)) read
    ∙ ap (λ b. not (tag_of (cap.capability_result op o.v o.w)) && b) (sym (into_tag (o.cd == 0) o.cd source hart memory refl))

or_true : (b : Bool) → (b || true) ≡ true
or_true true = refl
or_true false = refl

and_true : (b : Bool) → (b && true) ≡ b
and_true true = refl
and_true false = refl

built_exactly : (o : Operands) → IsLawfulValue o.v →
    is_some (lost cap.CBuildCap o) ≡ (not (tag_of (cap.capability_result cap.CBuildCap o.v o.w)) && not (o.cd == 0))
built_exactly o lawful =
    lost_exactly cap.CBuildCap o lawful
    ∙ ap (λ b. (not (o.cd == 0) && b) && not (tag_of (cap.capability_result cap.CBuildCap o.v o.w))) (or_true (tag_of o.v))
    ∙ ap (λ b. b && not (tag_of (cap.capability_result cap.CBuildCap o.v o.w))) (and_true (not (o.cd == 0)))
    ∙ and_swapped (not (o.cd == 0)) (not (tag_of (cap.capability_result cap.CBuildCap o.v o.w)))

-- a capability that is loaded loses its tag where the register lacks the permission
load_cases : (zero may : Bool) (v : CapValue) (c : Cleared) →
    is_some (if not zero && tag_of v && not may then Some c else None) ≡ (not (tag_of (if may then v else clear_tag v)) && (not zero && tag_of v))
load_cases true true (valid x) c = refl
load_cases true true (raw x) c = refl
load_cases true false (valid x) c = refl
load_cases true false (raw x) c = refl
load_cases false true (valid x) c = refl
load_cases false true (raw x) c = refl
load_cases false false (valid x) c = refl
load_cases false false (raw x) c = refl

loaded_exactly : (cd c1 addr number : ℕ) (hart : HartState) (memory : List CapValue) (origins : Origins) →
    is_some (lost_by_load cd c1 hart (Some (named_at hart memory origins number (granule_of addr))))
    ≡ (not (tag_of (permitted (register hart c1) (load_capability memory addr))) && source_tag (into cd (granule_of addr)) hart memory)
unfolding named_at permitted load_capability
loaded_exactly cd c1 addr number hart memory origins =
    load_cases (cd == 0) (has_permission (register hart c1) permission.LOAD_CAP) (load_capability memory addr) _
    ∙ ap (λ b. not (tag_of (permitted (register hart c1) (load_capability memory addr))) && b) (sym (into_tag (cd == 0) cd (granule_of addr) hart memory refl))

-- data stored over a granule
store_cases : (tag : Bool) (c : Cleared) → is_some (if tag then Some c else None) ≡ tag
store_cases true c = refl
store_cases false c = refl

pub cleared_exactly : (i : Instr) (hart : HartState) (memory : List CapValue) (origins : Origins) (number : ℕ) → EachOfHart IsLawfulValue hart →
    is_some (clears_of i hart (found_by i hart memory origins number)) ≡ loses_tag i hart memory
unfolding clears_of derivation_of action flows_at source_tag named_at load_capability cap.capability_result
cleared_exactly (instr.CMove cd c1) hart memory origins number lawful =
    made_exactly cap.CMove (operands cd c1 c1 hart) (Register c1) hart memory refl refl (register_lawful hart c1 lawful)
cleared_exactly (instr.CClearTag cd c1) hart memory origins number lawful =
    made_exactly cap.CClearTag (operands cd c1 c1 hart) (Register c1) hart memory refl refl (register_lawful hart c1 lawful)
cleared_exactly (instr.CSetAddr cd c1 c2) hart memory origins number lawful =
    made_exactly cap.CSetAddr (operands cd c1 c2 hart) (Register c1) hart memory refl refl (register_lawful hart c1 lawful)
cleared_exactly (instr.CIncOffset cd c1 c2) hart memory origins number lawful =
    made_exactly cap.CIncOffset (operands cd c1 c2 hart) (Register c1) hart memory refl refl (register_lawful hart c1 lawful)
cleared_exactly (instr.CIncOffsetImm cd c1 imm) hart memory origins number lawful =
    made_exactly cap.CIncOffset (operands_by cd (Register c1) (register hart c1) (immediate imm)) (Register c1) hart memory refl refl (register_lawful hart c1 lawful)
cleared_exactly (instr.CSetBounds cd c1 c2) hart memory origins number lawful =
    made_exactly cap.CSetBounds (operands cd c1 c2 hart) (Register c1) hart memory refl refl (register_lawful hart c1 lawful)
cleared_exactly (instr.CSetBoundsImm cd c1 len) hart memory origins number lawful =
    made_exactly cap.CSetBounds (operands_by cd (Register c1) (register hart c1) len) (Register c1) hart memory refl refl (register_lawful hart c1 lawful)
cleared_exactly (instr.CSetBoundsExact cd c1 c2) hart memory origins number lawful =
    made_exactly cap.CSetBoundsExact (operands cd c1 c2 hart) (Register c1) hart memory refl refl (register_lawful hart c1 lawful)
cleared_exactly (instr.CAndPerm cd c1 c2) hart memory origins number lawful =
    made_exactly cap.CAndPerm (operands cd c1 c2 hart) (Register c1) hart memory refl refl (register_lawful hart c1 lawful)
cleared_exactly (instr.CSetFlags cd c1 c2) hart memory origins number lawful =
    made_exactly cap.CSetFlags (operands cd c1 c2 hart) (Register c1) hart memory refl refl (register_lawful hart c1 lawful)
cleared_exactly (instr.CSetHigh cd c1 c2) hart memory origins number lawful =
    made_exactly cap.CSetHigh (operands cd c1 c2 hart) (Register c1) hart memory refl refl (register_lawful hart c1 lawful)
cleared_exactly (instr.CSeal cd c1 c2) hart memory origins number lawful =
    made_exactly cap.CSeal (operands cd c1 c2 hart) (Register c1) hart memory refl refl (register_lawful hart c1 lawful)
cleared_exactly (instr.CUnseal cd c1 c2) hart memory origins number lawful =
    made_exactly cap.CUnseal (operands cd c1 c2 hart) (Register c1) hart memory refl refl (register_lawful hart c1 lawful)
cleared_exactly (instr.CBuildCap cd c1 c2) hart memory origins number lawful =
    built_exactly (operands cd c1 c2 hart) (register_lawful hart c1 lawful)
cleared_exactly (instr.CSealEntry cd c1) hart memory origins number lawful =
    made_exactly cap.CSealEntry (operands cd c1 c1 hart) (Register c1) hart memory refl refl (register_lawful hart c1 lawful)
cleared_exactly (instr.AuiPcc cd imm) hart memory origins number lawful =
    made_exactly cap.CIncOffset (operands_by cd Pcc hart.pcc (upper_immediate imm)) Pcc hart memory refl refl lawful.pcc
cleared_exactly (instr.Lc cd c1 imm) hart memory origins number lawful =
    loaded_exactly cd c1 (at hart c1 imm) number hart memory origins
cleared_exactly (instr.AmoSwapC cd c2 c1) hart memory origins number lawful =
    loaded_exactly cd c1 _ number hart memory origins
cleared_exactly (instr.Sb c2 c1 imm) hart memory origins number lawful = store_cases _ _
cleared_exactly (instr.Sh c2 c1 imm) hart memory origins number lawful = store_cases _ _
cleared_exactly (instr.Sw c2 c1 imm) hart memory origins number lawful = store_cases _ _
cleared_exactly (instr.Sd c2 c1 imm) hart memory origins number lawful = store_cases _ _
cleared_exactly _ hart memory origins number lawful = refl
