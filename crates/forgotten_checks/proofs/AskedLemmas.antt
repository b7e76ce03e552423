-- What properties ask for: each of them, and what a search has to see for them.
use Rattle.std.proofs.Common.{◌≡◌, ℕ, zero, suc, ◌<◌, length, List, [], ◌∷◌, ◌++◌, slice_get, ◌∙◌, subst}
use Rattle.std.specs.Prelude.{Bool, Some, slice_index_or}
use Rattle.std.proofs.lemmas.Bool.{or_left, or_right}
use Rattle.std.proofs.lemmas.List.Folds.{list_any_at}
use Rattle.std.proofs.lemmas.Option.{none-some, same_Some}
use Rattle.cheri_model.specs.declared.instr.Instr.{Instr}
use Rattle.explore_properties.specs.Properties.{PropertyParts}
use Rattle.explore_properties.specs.declared.claims.Claim.{Claim}
use Rattle.explore_properties.specs.declared.claims.Claim.TheVariants.{Holds, Ends, EndsFairly}
use Rattle.explore_properties.specs.declared.claims.When.TheVariants.{Never, Always, Sometimes, Finally}
use Rattle.explore_sights.specs.declared.watches.Watch.{Watch}
use Rattle.explore_sights.specs.declared.sights.Sight.TheVariants as sight
use Rattle.explore_sights.specs.Sights.{hides}
use Rattle.explore_verdicts.specs.Deciding.{watch_of, watches_of}
use Rattle.forgotten_turns.specs.ForgottenTurns.{HidesForgotten}
use Rattle.forgotten_turns.proofs.SightLemmas.{watches_forget}
use Rattle.live_registers.specs.LiveSets.{IsRight, LiveSets}
use Rattle.live_registers.specs.RegisterSets.{has}
use Rattle.asked_registers.specs.Asked.{condition_asks, HasAsked, IsWith}
use Rattle.forgotten_checks.specs.Asked.{claim_asks, properties_ask}

-- what was added to a set is in it
pub added : (set all : List Bool) (asking : ℕ → Bool) → IsWith set asking all → HasAsked all asking
added set all asking is reg asks = is reg ∙ or_right (has set reg) (asking reg) asks

-- of a property of the list
pub claim_asked : (set : List Bool) (list : List PropertyParts) (i : ℕ) (d : PropertyParts) → HasAsked set (properties_ask list) →
    i < length list → HasAsked set (claim_asks (slice_index_or list i d).claim)
unfolding properties_ask
claim_asked set list i d asked within reg asks =
    asked reg (list_any_at (λ property. claim_asks property.claim reg) list i d within asks)

module _ (set : List Bool) where
  -- the first that is watched asks for what the claim does, and the others for what the others do
  first_asked : (watch w : Watch) (ws : List Watch) (n : ℕ) → HasAsked set (condition_asks watch.condition) →
      ((m : ℕ) (v : Watch) → slice_get ws m ≡ Some v → HasAsked set (condition_asks v.condition)) →
      slice_get (watch ∷ ws) n ≡ Some w → HasAsked set (condition_asks w.condition)
  first_asked watch w ws zero asked later at =
      subst (λ (v : Watch). HasAsked set (condition_asks v.condition)) (same_Some watch w at) asked
  first_asked watch w ws (suc n) asked later at = later n w at

  claim_watched : (claim : Claim) (ws : List Watch) (n : ℕ) (w : Watch) → HasAsked set (claim_asks claim) →
      ((m : ℕ) (v : Watch) → slice_get ws m ≡ Some v → HasAsked set (condition_asks v.condition)) →
      slice_get (watch_of claim ++ ws) n ≡ Some w → HasAsked set (condition_asks w.condition)
  claim_watched (Holds Never condition) ws n w asked later at = first_asked _ w ws n asked later at
  claim_watched (Holds Always condition) ws n w asked later at = first_asked _ w ws n asked later at
  claim_watched (Holds Sometimes condition) ws n w asked later at = first_asked _ w ws n asked later at
  claim_watched (Holds Finally condition) ws n w asked later at = later n w at
  claim_watched Ends ws n w asked later at = later n w at
  claim_watched EndsFairly ws n w asked later at = later n w at

  pub watches_asked : (ps : List PropertyParts) → HasAsked set (properties_ask ps) → (n : ℕ) (w : Watch) →
      slice_get (watches_of ps) n ≡ Some w → HasAsked set (condition_asks w.condition)
  unfolding watches_of properties_ask
  watches_asked [] asked n w at = absurd (none-some w at)
  watches_asked (p ∷ ps) asked n w at =
      claim_watched p.claim (watches_of ps) n w
      (λ reg asks. asked reg (or_left (claim_asks p.claim reg) _ asks))
      (watches_asked ps (λ reg asks. asked reg (or_right (claim_asks p.claim reg) _ asks))) at

-- what a search sees for properties is nothing that is forgotten
pub properties_forget : (program : List Instr) (live : LiveSets) (ps : List PropertyParts) → IsRight program live →
    HasAsked live.asked (properties_ask ps) → HidesForgotten live (hides (sight.Watches (watches_of ps)))
properties_forget program live ps right asked =
    watches_forget program live (watches_of ps) right (watches_asked live.asked ps asked)
