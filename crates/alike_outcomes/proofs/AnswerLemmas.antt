-- What was found is an answer.
use Rattle.std.proofs.Common.{◌≡◌, ℕ, ◌<◌, List, refl, sym, ap, ◌∙◌, subst}
use Rattle.std.specs.Prelude.{Bool, true, Vec}
use Rattle.std.specs.Global.{Global}
use Rattle.asked_registers.specs.Asked.{HasAsked, items_ask}
use Rattle.cheri_model.specs.declared.operation.Op.{Op}
use Rattle.cheri_model.specs.runs.Image.{ImageParts}
use Rattle.conditions.specs.Items.{ItemList}
use Rattle.forgotten_outcomes.specs.ShownStates.{AreRowsTold}
use Rattle.forgotten_outcomes.proofs.AnswerLemmas.{all_shown}
use Rattle.forgotten_states.specs.Surveys.{SurveyParts, at, count}
use Rattle.hart_order.specs.GroupedTurns.{keeps_number}
use Rattle.hart_symmetry.specs.Named.{NamedStay}
use Rattle.live_registers.specs.LiveSets.{LiveSets}
use Rattle.live_registers.specs.RegisterSets.{has}
use Rattle.named_items.specs.NamedItems.{items_name}
use Rattle.outcomes.specs.Rows.{AreRows, values_at}
use Rattle.outcomes.specs.declared.rows.Row.{Row}
use Rattle.outcome_texts.specs.declared.told.ShownRow.{ShownRow}
use Rattle.reductions.specs.Reductions.{left_out_of}
use Rattle.reductions.specs.declared.reduction.LeftOut.{LeftOut}
use Rattle.shown_states.specs.Endings.{ending_of}
use Rattle.shown_states.specs.declared.form.Format.{Format}
use Rattle.states.specs.Searches.{SearchParts}
use Rattle.alike_outcomes.specs.AlikeOutcomes.{AreAllAlike, AreLeftBy, IsAlikeListedAnswer, IsAlikeShownAnswer, IsAlikeSurvey}
use Rattle.alike_outcomes.specs.AlikeTexts.{alike_listed, alike_shown}
use Rattle.alike_outcomes.proofs.LeftLemmas.{all_alike}

module _ (search : SearchParts) (live : LiveSets) (groups : List ℕ) (survey : SurveyParts) (numbers : List ℕ)
    (surveyed : IsAlikeSurvey search live groups survey numbers) (format : Format) (left_out : LeftOut) (complete : Bool)
    (image : ImageParts) (states : ℕ) (left_out_is : left_out ≡ left_out_of live groups) (complete_is : complete ≡ survey.complete)
    (image_is : image ≡ survey.image) (states_are : states ≡ count survey) where
  -- outcomes as states
  pub listed_said : (orders : List (Vec Op Global)) → ((reg : ℕ) → reg < 32 → has live.asked reg ≡ true) →
      AreLeftBy survey numbers orders →
      IsAlikeListedAnswer search live groups format (alike_listed format left_out complete image states orders)
      (ending_of survey.complete)
  listed_said orders asked told =
      let live_is = surveyed.survey_is.live_is in
      let asked_there : (reg : ℕ) → reg < 32 → has survey.live.asked reg ≡ true =
      λ reg low. ap (λ (l : LiveSets). has l.asked reg) live_is ∙ asked reg low in
      record {
        survey = survey;
        numbers = numbers;
        surveyed = surveyed;
        orders = orders;
        told = told;
        all = λ done. subst (λ (gs : List ℕ). AreAllAlike survey.image gs orders) surveyed.survey_is.groups_are
            (all_alike survey surveyed.nodes numbers orders surveyed.outcomes told (λ reg low. asked_there reg low) done);
        text_is = rw (left_out_is, complete_is, image_is, states_are) refl;
        ending_is = refl;
      }

  -- outcomes as rows of values
  pub shown_said : (items : ItemList) (rows : List Row) (shown_rows : List ShownRow) (names : List (List ℕ)) →
      HasAsked live.asked (items_ask items.shown) → NamedStay (keeps_number groups) (items_name items.shown) →
      AreRows (values_at (at survey) items.shown) numbers rows → AreRowsTold survey items.shown rows shown_rows →
      names ≡ items.names →
      IsAlikeShownAnswer search items live groups format (alike_shown format left_out complete image states names shown_rows)
      (ending_of survey.complete)
  shown_said items rows shown_rows names asked named distinct told names_are =
      let asked_there = subst (λ (l : LiveSets). HasAsked l.asked (items_ask items.shown)) (sym surveyed.survey_is.live_is)
      (λ reg asks. asked reg asks) in
      let named_there = subst (λ (gs : List ℕ). NamedStay (keeps_number gs) (items_name items.shown)) (sym surveyed.survey_is.groups_are)
      (λ hart names. named hart names) in
      record {
        survey = survey;
        numbers = numbers;
        surveyed = surveyed;
        rows = rows;
        distinct = distinct;
        shown_rows = shown_rows;
        told = told;
        all = all_shown survey surveyed.nodes items.shown (λ reg asks. asked_there reg asks) (λ hart names. named_there hart names)
            numbers rows shown_rows surveyed.outcomes distinct told;
        text_is = rw (left_out_is, complete_is, image_is, states_are, names_are) refl;
        ending_is = refl;
      }
