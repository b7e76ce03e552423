-- What is found is an answer by whether harts change places.
use Rattle.std.proofs.Common.{◌≡◌, ℕ, List, [], Bool, false}
use Rattle.std.specs.Prelude.{Some, None}
use Rattle.asked_registers.specs.Asked.{HasAsked, items_ask}
use Rattle.conditions.specs.Items.{ItemList}
use Rattle.forgotten_outcomes.specs.ShownStates.{IsShownStatesAnswer}
use Rattle.live_registers.specs.LiveSets.{IsRight}
use Rattle.named_harts.specs.NamedHarts.{IsSetOf}
use Rattle.named_items.specs.NamedItems.{items_name}
use Rattle.outcome_texts.specs.Answers.{IsListedAnswer}
use Rattle.reductions.specs.declared.reduction.Keeps.{Keeps}
use Rattle.reductions.specs.declared.reduction.Reduction.{Reduction}
use Rattle.reductions.proofs.ReductionLemmas.{by_turns, unswept}
use Rattle.shown_states.specs.declared.form.Ending.{Ending}
use Rattle.shown_states.specs.declared.form.Format.{Format}
use Rattle.states.specs.Searches.{SearchParts}
use Rattle.alike_outcomes.specs.AlikeOutcomes.{IsAlikeListed, IsAlikeListedAnswer, IsAlikeShown, IsAlikeShownAnswer, whole_keeps}
use Rattle.alike_outcomes.specs.Grouped.{IsGroupedReduction}
use Rattle.alike_outcomes.proofs.ReducedLemmas.{by_none, by_some}

-- ---- whole states

no_register : (asked : List Bool) → HasAsked asked (λ reg. false)
no_register asked reg asks = absurd (cc)

module _ (keeps_harts : Bool) (search : SearchParts) (format : Format) (asked named : List Bool)
    (set : IsSetOf (λ hart. false) named) (text : List ℕ) (ending : Ending) where
  pub whole_listed : IsGroupedReduction (whole_keeps keeps_harts) search asked named None →
      IsListedAnswer search format text ending → IsAlikeListed keeps_harts search format text ending
  whole_listed is answer =
      by_none (whole_keeps keeps_harts) search asked named (λ reg. false) (λ hart. false) (IsListedAnswer search format text ending)
      (λ live groups. IsAlikeListedAnswer search live groups format text ending) (no_register asked) set is answer

  pub grouped_listed : (found : Reduction) → IsGroupedReduction (whole_keeps keeps_harts) search asked named (Some found) →
      IsAlikeListedAnswer search found.live found.groups format text ending → IsAlikeListed keeps_harts search format text ending
  grouped_listed found is answer =
      by_some (whole_keeps keeps_harts) search asked named (λ reg. false) (λ hart. false) (IsListedAnswer search format text ending)
      (λ live groups. IsAlikeListedAnswer search live groups format text ending) (no_register asked) set found is answer

-- ---- items

module _ (keeps : Keeps) (search : SearchParts) (items : ItemList) (format : Format) (asked named : List Bool)
    (has : HasAsked asked (items_ask items.shown)) (set : IsSetOf (items_name items.shown) named)
    (text : List ℕ) (ending : Ending) where
  pub whole_shown : IsGroupedReduction keeps search asked named None →
      IsShownStatesAnswer keeps.registers search items format text ending → IsAlikeShown keeps search items format text ending
  whole_shown is answer =
      by_none keeps search asked named (items_ask items.shown) (items_name items.shown)
      (IsShownStatesAnswer keeps.registers search items format text ending)
      (λ live groups. IsAlikeShownAnswer search items live groups format text ending) has set is answer

  pub grouped_shown : (found : Reduction) → IsGroupedReduction keeps search asked named (Some found) →
      IsAlikeShownAnswer search items found.live found.groups format text ending → IsAlikeShown keeps search items format text ending
  grouped_shown found is answer =
      by_some keeps search asked named (items_ask items.shown) (items_name items.shown)
      (IsShownStatesAnswer keeps.registers search items format text ending)
      (λ live groups. IsAlikeShownAnswer search items live groups format text ending) has set found is answer

-- ---- what is searched

module _ (keeps : Keeps) (search : SearchParts) (asked named : List Bool) (found : Reduction)
    (is : IsGroupedReduction keeps search asked named (Some found)) where
  pub grouped_turns : search.every_step ≡ false
  grouped_turns = by_turns keeps search is.0.not_all

  pub grouped_unswept : search.sweeps ≡ []
  grouped_unswept = unswept keeps search is.0.not_all

  pub grouped_right : IsRight search.image.program found.live
  grouped_right = is.0.right
