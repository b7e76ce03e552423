-- What a question sees is nothing that a hart forgets, where what it asks for is kept.
use Rattle.std.proofs.Common.{◌≡◌, ℕ, zero, suc, List, [], ◌∷◌, refl, ap, ◌∙◌}
use Rattle.std.specs.Prelude.{Bool, ◌&&◌, if◌then◌else◌, slice_get, Some}
use Rattle.std.specs.List.{list_all}
use Rattle.cheri_model.specs.declared.instr.Instr.{Instr}
use Rattle.cheri_model.specs.steps.Hart.{HartState}
use Rattle.conditions.specs.declared.parts.Node.{Node}
use Rattle.conditions.specs.Hiding as condition
use Rattle.explore_sights.specs.declared.sights.Sight.TheVariants as sight
use Rattle.explore_sights.specs.declared.watches.Watch.{Watch}
use Rattle.explore_sights.specs.Sights.{hides}
use Rattle.explore_sights.specs.Watches as watches
use Rattle.live_registers.specs.LiveSets.{IsRight, LiveSets, forgotten_hart}
use Rattle.asked_registers.specs.Asked.{HasAsked, condition_asks}
use Rattle.asked_registers.proofs.HidingLemmas.{hides_same}
use Rattle.forgotten_turns.specs.ForgottenTurns.{HidesForgotten}

pub condition_forgets : (program : List Instr) (live : LiveSets) (nodes : List Node) → IsRight program live →
    HasAsked live.asked (condition_asks nodes) → HidesForgotten live (hides (sight.Condition nodes))
unfolding hides
condition_forgets program live nodes right asked before after = hides_same program live right before after nodes asked

module _ (program : List Instr) (live : LiveSets) (right : IsRight program live) (before after : HartState) where
  watch_forgets : (watch : Watch) → HasAsked live.asked (condition_asks watch.condition) →
      watches.hides watch (forgotten_hart live before) (forgotten_hart live after) ≡ watches.hides watch before after
  watch_forgets watch asked =
      ap (λ (b : Bool). if watch.holds then b
      else condition.hides watch.condition (forgotten_hart live after) (forgotten_hart live before))
      (hides_same program live right before after watch.condition asked)
      ∙ ap (λ (b : Bool). if watch.holds then condition.hides watch.condition before after else b)
      (hides_same program live right after before watch.condition asked)

  all_forget : (ws : List Watch) →
      ((number : ℕ) (watch : Watch) → slice_get ws number ≡ Some watch → HasAsked live.asked (condition_asks watch.condition)) →
      list_all (λ watch. watches.hides watch (forgotten_hart live before) (forgotten_hart live after)) ws
      ≡ list_all (λ watch. watches.hides watch before after) ws
  all_forget [] asked = refl
  all_forget (w ∷ ws) asked =
      ap (λ (b : Bool). b && list_all (λ watch. watches.hides watch (forgotten_hart live before) (forgotten_hart live after)) ws)
      (watch_forgets w (asked 0 w refl))
      ∙ ap (λ (b : Bool). watches.hides w before after && b) (all_forget ws (λ number watch at. asked (suc number) watch at))

pub watches_forget : (program : List Instr) (live : LiveSets) (ws : List Watch) → IsRight program live →
    ((number : ℕ) (watch : Watch) → slice_get ws number ≡ Some watch → HasAsked live.asked (condition_asks watch.condition)) →
    HidesForgotten live (hides (sight.Watches ws))
unfolding hides
watches_forget program live ws right asked before after = all_forget program live right before after ws asked
