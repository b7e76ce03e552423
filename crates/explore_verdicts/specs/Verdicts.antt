-- What the kept states of a search say of a property. All of it is said of the machine's own
-- replay.
use Rattle.std.specs.Prelude.{◌≡◌, ℕ, Bool, true, false, if◌then◌else◌, List, [], ◌∷◌, Option, Some}
use Rattle.std.specs.Prelude.{None, Vec}
use Rattle.std.specs.Global.{Global}
use Rattle.cheri_model.specs.declared.operation.Op.{Op}
use Rattle.cheri_model.specs.runs.Machine.{MachineState}
use Rattle.conditions.specs.declared.parts.Node.{Node}
use Rattle.explore_properties.specs.Properties.{PropertyParts}
use Rattle.explore_properties.specs.declared.claims.Claim.{Claim}
use Rattle.explore_properties.specs.declared.claims.Claim.TheVariants as claim
use Rattle.explore_properties.specs.declared.claims.When.{When}
use Rattle.explore_properties.specs.declared.claims.When.TheVariants.{Never, Always, Sometimes}
use Rattle.explore_properties.specs.declared.claims.When.TheVariants.{Finally}
use Rattle.explore_verdicts.specs.Deciding.{decides}
use Rattle.explore_verdicts.specs.declared.verdict.PropertyVerdict.{PropertyVerdict}
use Rattle.explore_verdicts.specs.declared.verdict.Verdict.{Verdict}
use Rattle.explore_verdicts.specs.declared.verdict.Verdict.TheVariants.{Holds, HoldsAfter, Violated}
use Rattle.explore_verdicts.specs.declared.verdict.Verdict.TheVariants.{ViolatedAfter, ViolatedBy}
use Rattle.explore_verdicts.specs.declared.verdict.Verdict.TheVariants.{Unknown}
use Rattle.state_loops.specs.declared.endless.Endless.{Endless}
use Rattle.state_loops.specs.declared.endless.Endless.TheVariants as endless
use Rattle.state_loops.specs.declared.endless.Lasso.{Lasso}
use Rattle.states.specs.Kept.{KeptParts, at, IsFirstPassing, IsWitnessOrder, NonePasses}

-- ---- on when a condition holds

-- the witness of the state of this number
abbrev pub IsOrderTo : KeptParts → ℕ → List Op → Type 0
IsOrderTo kept number order = (state : MachineState) → at kept number ≡ Some state →
    IsWitnessOrder kept.image kept.sweeps kept.sight state order

-- the verdict where this order leads to a state that decides
abbrev pub found_verdict : When → Vec Op Global → Verdict
found_verdict Never order = ViolatedAfter order
found_verdict Always order = ViolatedAfter order
found_verdict Sometimes order = HoldsAfter order
found_verdict Finally order = ViolatedAfter order

-- the verdict where the state of this number is the first that decides
abbrev pub IsFoundVerdict : KeptParts → When → ℕ → Verdict → Type 0
IsFoundVerdict kept Sometimes number (HoldsAfter order) = IsOrderTo kept number order.items
IsFoundVerdict kept Never number (ViolatedAfter order) = IsOrderTo kept number order.items
IsFoundVerdict kept Always number (ViolatedAfter order) = IsOrderTo kept number order.items
IsFoundVerdict kept Finally number (ViolatedAfter order) = IsOrderTo kept number order.items
IsFoundVerdict kept when number verdict = ⊥

-- the verdict where no kept state decides, which are all or not
abbrev pub decided_by_none : When → Verdict
decided_by_none Never = Holds
decided_by_none Always = Holds
decided_by_none Sometimes = Violated
decided_by_none Finally = Holds

abbrev pub absent_verdict : When → Bool → Verdict
absent_verdict when complete = if complete then decided_by_none when else Unknown

abbrev pub Says : KeptParts → When → Option ℕ → Verdict → Type 0
Says kept when None verdict = verdict ≡ absent_verdict when kept.complete
Says kept when (Some number) verdict = IsFoundVerdict kept when number verdict

-- The verdict of the first kept state that decides, with its witness; or that none does. Where none
-- does and these are all, no state decides that a legal order of steps and of these sweeps leaves,
-- of any length.
pub record IsStateVerdict (kept : KeptParts) (when : When) (condition : List Node)
    (verdict : Verdict) : Type 0 where
  pub number : Option ℕ
  pub first : IsFirstPassing kept (decides when condition) number
  pub says : Says kept when number verdict
  pub none : number ≡ None → kept.complete ≡ true →
      NonePasses kept.image kept.sweeps (decides when condition)

-- ---- on whether runs end

abbrev pub IsLassoVerdict : Lasso → Verdict → Type 0
IsLassoVerdict lasso (ViolatedBy run) =
    (run.order.items ≡ lasso.order.items) × (run.cycle.items ≡ lasso.cycle.items)
IsLassoVerdict lasso verdict = ⊥

-- A run that goes on for ever violates it; where only those do in which each hart is let on, a loop
-- that is not fair doesn't.
abbrev pub IsEndsVerdict : Bool → Endless → Verdict → Type 0
IsEndsVerdict fairly (endless.Yes lasso) verdict = IsLassoVerdict lasso verdict
IsEndsVerdict fairly endless.Unknown verdict = verdict ≡ Unknown
IsEndsVerdict true (endless.Unfair lasso) verdict = verdict ≡ Holds
IsEndsVerdict false (endless.Unfair lasso) verdict = IsLassoVerdict lasso verdict
IsEndsVerdict fairly endless.No verdict = verdict ≡ Holds

-- ---- on properties

-- on a claim, where this is what a verdict says on when a condition holds
abbrev pub IsVerdict : (When → List Node → Verdict → Type 0) → Endless → Claim → Verdict → Type 0
IsVerdict judged forever (claim.Holds when condition) verdict =
    judged when condition verdict
IsVerdict judged forever claim.Ends verdict = IsEndsVerdict false forever verdict
IsVerdict judged forever claim.EndsFairly verdict = IsEndsVerdict true forever verdict

-- of this property, by what it claims
pub record IsPropertyVerdict (judged : When → List Node → Verdict → Type 0)
    (forever : Endless) (property : PropertyParts) (told : PropertyVerdict) : Type 0 where
  pub property_is : told.property.now ≡ property
  pub verdict_is : IsVerdict judged forever property.claim told.verdict

-- one after another
abbrev pub AreVerdicts : (When → List Node → Verdict → Type 0) → Endless → List PropertyParts
    → List PropertyVerdict → Type 0
AreVerdicts judged forever [] [] = Unit {0}
AreVerdicts judged forever [] (v ∷ vs) = ⊥
AreVerdicts judged forever (p ∷ ps) [] = ⊥
AreVerdicts judged forever (p ∷ ps) (v ∷ vs) =
    IsPropertyVerdict judged forever p v × AreVerdicts judged forever ps vs
