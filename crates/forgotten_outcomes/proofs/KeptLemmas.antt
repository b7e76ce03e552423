-- What is found is an answer by what the search left out.
use Rattle.std.proofs.Common.{ℕ, Bool, true, List}
use Rattle.std.specs.Prelude.{Some, None}
use Rattle.asked_registers.specs.Asked.{HasAsked, items_ask}
use Rattle.conditions.specs.Items.{ItemList}
use Rattle.named_harts.specs.NamedHarts.{IsSetOf}
use Rattle.outcome_texts.specs.Answers.{IsShownAnswer}
use Rattle.reductions.proofs.ReductionLemmas.{by_reduction, by_whole}
use Rattle.reductions.specs.Reductions.{IsReduction}
use Rattle.reductions.specs.declared.reduction.Reduction.{Reduction}
use Rattle.shown_states.specs.declared.form.Ending.{Ending}
use Rattle.shown_states.specs.declared.form.Format.{Format}
use Rattle.states.specs.Searches.{SearchParts}
use Rattle.forgotten_outcomes.specs.ShownStates.{IsReducedShownAnswer, IsShownStatesAnswer, shown_keeps}

module _ (keeps : Bool) (search : SearchParts) (items : ItemList) (format : Format) (asked named : List Bool)
    (has : HasAsked asked (items_ask items.shown)) (set : IsSetOf (λ hart. true) named) where
  -- an answer of all states is one, where nothing is left out
  pub whole_shown : IsReduction (shown_keeps keeps) search asked named None → (text : List ℕ) (ending : Ending) →
      IsShownAnswer search items format text ending → IsShownStatesAnswer keeps search items format text ending
  whole_shown is text ending answer =
      by_whole (shown_keeps keeps) search asked named (items_ask items.shown) (λ hart. true)
      (IsShownAnswer search items format text ending)
      (λ live groups. IsReducedShownAnswer search items live groups format text ending) has set is answer

  -- an answer of a search that forgets is one, of what it leaves out
  pub reduced_shown : (found : Reduction) → IsReduction (shown_keeps keeps) search asked named (Some found) →
      (text : List ℕ) (ending : Ending) → IsReducedShownAnswer search items found.live found.groups format text ending →
      IsShownStatesAnswer keeps search items format text ending
  reduced_shown found is text ending answer =
      by_reduction (shown_keeps keeps) search asked named (items_ask items.shown) (λ hart. true)
      (IsShownAnswer search items format text ending)
      (λ live groups. IsReducedShownAnswer search items live groups format text ending) has set found is answer
