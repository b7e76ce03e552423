-- What is answered where something is left out.
use Rattle.std.proofs.Common.{ℕ, List, Bool, Option}
use Rattle.cheri_model.specs.declared.operation.Op.{Op}
use Rattle.conditions.specs.declared.parts.Node.{Node}
use Rattle.conditions.specs.Holding.{holds}
use Rattle.explore_sights.specs.declared.sights.Sight.TheVariants as sights
use Rattle.forgotten_states.specs.Sought.{IsSoughtBy}
use Rattle.hart_order.specs.GroupedTurns.{keeps_number}
use Rattle.hart_symmetry.specs.Named.{NamedStay, condition_names}
use Rattle.hart_symmetry.specs.Renaming.{PassesRenamed}
use Rattle.hart_symmetry.proofs.HoldingLemmas.{holds_same}
use Rattle.live_registers.specs.LiveSets.{LiveSets}
use Rattle.reductions.specs.Reductions.{left_out_of}
use Rattle.shown_states.specs.declared.form.Ending.{Ending}
use Rattle.shown_states.specs.declared.form.Format.{Format}
use Rattle.states.specs.Searches.{SearchParts}
use Rattle.found_texts.specs.Reduced.{IsReducedAnswer, SaysMet}

-- a condition doesn't depend on which hart of a group stands where, if it names none of them
pub holds_renamed : (groups : List ℕ) (condition : List Node) → NamedStay (keeps_number groups) (condition_names condition) →
    PassesRenamed (keeps_number groups) (λ s. holds s condition)
holds_renamed groups condition named one other renaming =
    holds_same (keeps_number groups) renaming.0 one other renaming.1 condition named

pub reduced_is : (search : SearchParts) (condition : List Node) (live : LiveSets) (groups : List ℕ) (format : Format)
    (met : Option (List Op)) (count : ℕ) (complete : Bool) (orders : List (List Op)) (text : List ℕ) (ending : Ending)
    → IsSoughtBy search (sights.Condition condition) live groups (λ s. holds s condition) met count complete
    → SaysMet search condition (left_out_of live groups) format met count complete orders text ending
    → IsReducedAnswer search condition live groups format orders text ending
reduced_is search condition live groups format met count complete orders text ending sought says = record {
  met = met;
  count = count;
  complete = complete;
  sought = sought;
  says = says;
}
