-- What was found is an answer.
use Rattle.std.proofs.Common.{◌≡◌, ℕ, List, ◌∙◌, Bool, true, false, sym, subst}
use Rattle.std.specs.Prelude.{Option, Some}
use Rattle.asked_registers.specs.Asked.{HasAsked}
use Rattle.cheri_model.specs.declared.operation.Op.{Op}
use Rattle.cheri_model.specs.runs.Image.{ImageParts}
use Rattle.explore_checks.specs.Checks.{ending_of, one_asks, orders_against}
use Rattle.explore_checks.specs.ReducedChecks.{said_checked}
use Rattle.explore_properties.specs.Properties.{PropertyParts}
use Rattle.explore_sights.specs.declared.sights.Sight.{Sight}
use Rattle.explore_sights.specs.declared.sights.Sight.TheVariants as sights
use Rattle.explore_sights.specs.declared.watches.Watch.{Watch}
use Rattle.explore_verdicts.specs.Deciding.{AreSeen, watches_of}
use Rattle.explore_verdicts.specs.Verdicts.{AreVerdicts}
use Rattle.explore_verdicts.specs.declared.verdict.PropertyVerdict.{PropertyVerdict}
use Rattle.explore_verdicts.proofs.WatchLemmas.{watches_seen}
use Rattle.forgotten_loops.specs.ForgottenLoops.{IsForgottenEndless}
use Rattle.forgotten_states.specs.Surveys.{IsSurvey, IsSurveyOf, SurveyParts, count}
use Rattle.hart_order.specs.GroupedTurns.{keeps_number}
use Rattle.hart_symmetry.specs.Named.{NamedStay}
use Rattle.live_registers.specs.LiveSets.{LiveSets}
use Rattle.reductions.specs.Reductions.{left_out_of}
use Rattle.reductions.specs.declared.reduction.LeftOut.{LeftOut}
use Rattle.shown_states.specs.declared.form.Ending.{Ending}
use Rattle.shown_states.specs.declared.form.Format.{Format}
use Rattle.state_loops.specs.declared.endless.Endless.{Endless}
use Rattle.states.specs.Searches.{SearchParts}
use Rattle.forgotten_checks.specs.Asked.{properties_ask, properties_name}
use Rattle.forgotten_checks.specs.StateChecks.{IsReducedCheckAnswer, IsSurveyed, SaysChecked}
use Rattle.forgotten_checks.specs.StateVerdicts.{IsForgottenStateVerdict}

module _ (search : SearchParts) (properties : List PropertyParts) (live : LiveSets) (groups : List ℕ) (survey : SurveyParts)
    (of : IsSurveyOf search (sights.Watches (watches_of properties)) live groups survey) where
  -- the search passed over no state that decides
  pub surveyed_seen : AreSeen survey.sight properties
  surveyed_seen = subst (λ (s : Sight). AreSeen s properties) (sym of.sight_is) (watches_seen false properties)

  -- and its harts keep what the properties ask for
  pub surveyed_asked : HasAsked live.asked (properties_ask properties) → HasAsked survey.live.asked (properties_ask properties)
  surveyed_asked asked = subst (λ (l : LiveSets). HasAsked l.asked (properties_ask properties)) (sym of.live_is) asked

  -- and those that the properties name stay
  pub surveyed_named : NamedStay (keeps_number groups) (properties_name properties) →
      NamedStay (keeps_number survey.groups) (properties_name properties)
  surveyed_named named = subst (λ (g : List ℕ). NamedStay (keeps_number g) (properties_name properties)) (sym of.groups_are) named

  pub reduced_is : (left_out : LeftOut) (endless : Endless) (format : Format) (asks : Bool) (orders : List (List Op)) (text : List ℕ) (ending : Ending) →
      IsSurvey survey → left_out ≡ left_out_of live groups → asks ≡ one_asks properties → (asks ≡ true → IsForgottenEndless survey endless) →
      SaysChecked survey left_out endless properties format orders text ending →
      IsReducedCheckAnswer search properties live groups format orders text ending
  reduced_is left_out endless format asks orders text ending surveyed left_out_is asks_is forever says =
      let found : IsSurveyed search properties live groups survey endless = record {
        of = of;
        surveyed = surveyed;
        forever = λ ask. forever (asks_is ∙ ask);
      } in
      record {
        survey = survey;
        endless = endless;
        found = found;
        says = subst (λ (out : LeftOut). SaysChecked survey out endless properties format orders text ending) left_out_is says;
      }

-- the survey that is given back is that of what the properties watch
pub given_back : (search : SearchParts) (properties : List PropertyParts) (watches : List Watch) (live : LiveSets)
    (groups : List ℕ) (old survey : SurveyParts) → watches ≡ watches_of properties →
    IsSurveyOf search (sights.Watches watches) live groups old → survey ≡ old →
    IsSurveyOf search (sights.Watches (watches_of properties)) live groups survey
given_back search properties watches live groups old survey is of same =
    subst (λ (s : SurveyParts). IsSurveyOf search (sights.Watches (watches_of properties)) live groups s) (sym same)
    (subst (λ (ws : List Watch). IsSurveyOf search (sights.Watches ws) live groups old) is of)

pub says_is : (survey : SurveyParts) (endless : Endless) (properties : List PropertyParts) (format : Format)
    (verdicts told shown against : List PropertyVerdict) (left_out : LeftOut) (reduced : Option LeftOut) (complete : Bool)
    (image : ImageParts) (states : ℕ)
    (orders : List (List Op)) (text : List ℕ) (ending : Ending) →
    AreVerdicts (IsForgottenStateVerdict survey) endless properties verdicts → told ≡ verdicts → shown ≡ verdicts →
    against ≡ verdicts → reduced ≡ Some left_out → complete ≡ survey.complete → image ≡ survey.image → states ≡ count survey →
    text ≡ said_checked reduced format complete image states told → ending ≡ ending_of shown → orders ≡ orders_against against →
    SaysChecked survey left_out endless properties format orders text ending
says_is survey endless properties format verdicts told shown against left_out reduced complete image states orders text ending are told_are
    shown_are against_are reduced_is complete_is image_is states_are text_is ending_is orders_are = record {
      verdicts = verdicts;
      are = are;
      text_is = rw (reduced_is, complete_is, image_is, states_are, told_are) at text_is;
      ending_is = rw shown_are at ending_is;
      orders_are = rw against_are at orders_are;
    }
