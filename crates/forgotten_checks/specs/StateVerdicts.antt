-- What the states of a survey say of when a condition holds, in which each hart has forgotten the
-- registers that don't matter, and harts of one group stand in order. What is said of orders is
-- said of the machine, whose harts forget nothing and keep their numbers.
use Rattle.std.specs.Prelude.{◌≡◌, ℕ, true, [], List, Option, Some, None, Vec}
use Rattle.std.specs.Global.{Global}
use Rattle.cheri_model.specs.declared.operation.Op.{Op}
use Rattle.cheri_model.specs.runs.Machine.{MachineState}
use Rattle.cheri_model.specs.runs.Replay.{replayed_state}
use Rattle.conditions.specs.declared.parts.Node.{Node}
use Rattle.explore_properties.specs.declared.claims.When.{When}
use Rattle.explore_verdicts.specs.Deciding.{decides}
use Rattle.explore_verdicts.specs.Verdicts.{absent_verdict, found_verdict}
use Rattle.explore_verdicts.specs.declared.verdict.Verdict.{Verdict}
use Rattle.forgotten_states.specs.Nodes.{IsFirstPassing}
use Rattle.forgotten_states.specs.Sought.{IsOrderTo}
use Rattle.forgotten_states.specs.Surveys.{SurveyParts, at, count}
use Rattle.states.specs.Kept.{NonePasses}

-- The verdict where the state of this number is the first that decides: by the order that tells the
-- turns of its witness, step by step. The machine takes it, and the state that it leaves decides.
pub record IsMetVerdict (survey : SurveyParts) (when : When) (condition : List Node) (number : ℕ)
    (verdict : Verdict) : Type 0 where
  pub state : MachineState
  pub there : at survey number ≡ Some state
  pub order : Vec Op Global
  pub leads : IsOrderTo survey.image survey.sight survey.live survey.groups state order.items
  pub met : decides when condition (replayed_state survey.image order.items) ≡ true
  pub verdict_is : verdict ≡ found_verdict when order

abbrev pub Says : SurveyParts → When → List Node → Option ℕ → Verdict → Type 0
Says survey when condition None verdict = verdict ≡ absent_verdict when survey.complete
Says survey when condition (Some number) verdict =
    IsMetVerdict survey when condition number verdict

-- The verdict of the first state that decides; or that none does. Where none does and these are
-- all, no state of the machine decides that a legal order of steps leaves, of any length.
pub record IsForgottenStateVerdict (survey : SurveyParts) (when : When) (condition : List Node)
    (verdict : Verdict) : Type 0 where
  pub number : Option ℕ
  pub first : IsFirstPassing (at survey) (count survey) (decides when condition) number
  pub says : Says survey when condition number verdict
  pub none : number ≡ None → survey.complete ≡ true →
      NonePasses survey.image [] (decides when condition)
