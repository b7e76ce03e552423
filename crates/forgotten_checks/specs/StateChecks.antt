-- What the search for what violates properties answers, where harts may forget the registers that
-- don't matter, and harts that are the same may change places.
use Rattle.std.specs.Prelude.{◌≡◌, ℕ, true, ◌||◌, List}
use Rattle.cheri_model.specs.declared.operation.Op.{Op}
use Rattle.explore_checks.specs.Checks.{ending_of, IsCheckAnswer, one_asks, orders_against}
use Rattle.explore_checks.specs.ReducedChecks.{reduced_checked}
use Rattle.explore_properties.specs.Properties.{PropertyParts}
use Rattle.explore_sights.specs.declared.sights.Sight.TheVariants as sights
use Rattle.explore_verdicts.specs.Deciding.{watches_of}
use Rattle.explore_verdicts.specs.Verdicts.{AreVerdicts}
use Rattle.explore_verdicts.specs.declared.verdict.PropertyVerdict.{PropertyVerdict}
use Rattle.forgotten_checks.specs.Asked.{properties_ask, properties_name}
use Rattle.forgotten_checks.specs.StateVerdicts.{IsForgottenStateVerdict}
use Rattle.forgotten_loops.specs.ForgottenLoops.{IsForgottenEndless}
use Rattle.forgotten_states.specs.Surveys.{IsSurvey, IsSurveyOf, SurveyParts, count}
use Rattle.live_registers.specs.LiveSets.{LiveSets}
use Rattle.reductions.specs.Reductions.{MayReduce, left_out_of}
use Rattle.reductions.specs.declared.reduction.Keeps.{Keeps}
use Rattle.reductions.specs.declared.reduction.LeftOut.{LeftOut}
use Rattle.shown_states.specs.declared.form.Ending.{Ending}
use Rattle.shown_states.specs.declared.form.Format.{Format}
use Rattle.state_loops.specs.declared.endless.Endless.{Endless}
use Rattle.states.specs.Searches.{SearchParts}

-- What one search found for all properties, where these registers matter and harts of these groups
-- change places: the survey of its states, which passed over none that decides one of them, and,
-- where one asks it, whether runs go on for ever.
pub record IsSurveyed (search : SearchParts) (properties : List PropertyParts) (live : LiveSets)
    (groups : List ℕ) (survey : SurveyParts) (endless : Endless) : Type 0 where
  pub of : IsSurveyOf search (sights.Watches (watches_of properties)) live groups survey
  pub surveyed : IsSurvey survey
  pub forever : one_asks properties ≡ true → IsForgottenEndless survey endless

-- A text with its orders, and how it ends, say what was left out, and the verdict on each property
-- by what was found, in the order of their lines.
pub record SaysChecked (survey : SurveyParts) (left_out : LeftOut) (endless : Endless)
    (properties : List PropertyParts) (format : Format) (orders : List (List Op)) (text : List ℕ)
    (ending : Ending) : Type 0 where
  pub verdicts : List PropertyVerdict
  pub are : AreVerdicts (IsForgottenStateVerdict survey) endless properties verdicts
  pub text_is :
      text ≡ reduced_checked left_out format survey.complete survey.image (count survey) verdicts
  pub ending_is : ending ≡ ending_of verdicts
  pub orders_are : orders ≡ orders_against verdicts

-- the answer of a search where these registers matter, and harts of these groups change places
pub record IsReducedCheckAnswer (search : SearchParts) (properties : List PropertyParts)
    (live : LiveSets) (groups : List ℕ) (format : Format) (orders : List (List Op))
    (text : List ℕ) (ending : Ending) : Type 0 where
  pub survey : SurveyParts
  pub endless : Endless
  pub found : IsSurveyed search properties live groups survey endless
  pub says :
      SaysChecked survey (left_out_of live groups) endless properties format orders text ending

-- What is kept for properties: what is to be kept, and all harts where one of them asks whether
-- runs go on for ever, since a loop may come back with its harts in another order.
abbrev pub keeps_for : Keeps → List PropertyParts → Keeps
keeps_for keeps properties =
    record { registers = keeps.registers; harts = keeps.harts || one_asks properties }

-- the answer of a search that is told what to keep: of all, or of what isn't left out
abbrev pub IsCheckStatesAnswer : Keeps → SearchParts → List PropertyParts → Format
    → List (List Op) → List ℕ → Ending → Type 0
IsCheckStatesAnswer keeps search properties format orders text ending =
    MayReduce (keeps_for keeps properties) search (properties_ask properties)
    (properties_name properties)
    (IsCheckAnswer search properties format orders text ending)
    (λ live groups. IsReducedCheckAnswer search properties live groups format orders text ending)
