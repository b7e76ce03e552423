-- Memory of the states that orders lead to is as large as the image's.
use Rattle.std.proofs.Common.{◌≡◌, ℕ, List, [], length, ap, sym, ◌∙◌, refl}
use Rattle.std.specs.Prelude.{Bool, true, false, ◌&&◌, ◌==◌, Option}
use Rattle.std.proofs.lemmas.Bool.{eq-eqb}
use Rattle.cheri_model.specs.runs.Image.{ImageParts}
use Rattle.cheri_model.specs.runs.ImageRules.{is_image}
use Rattle.cheri_model.specs.runs.Machine.{MachineState, opening_state}
use Rattle.cheri_model.specs.steps.Hart.{HartState}
use Rattle.forgotten_runs.specs.ForgottenRuns.{forgotten_state}
use Rattle.forgotten_turns.specs.ForgottenTurns.{PassesForgotten}
use Rattle.graph_merging.proofs.MergingLemmas.{walk_fits}
use Rattle.graph_search.specs.Walks.{IsReachable}
use Rattle.live_registers.specs.LiveSets.{LiveSets}
use Rattle.own_granules.specs.Granules.{granules_of}
use Rattle.own_granules.specs.Turns.{AreOwned, is_state_of, respecting_next}
use Rattle.own_granules.proofs.MachineLemmas.{fits_is}
use Rattle.own_granules.proofs.OwnLemmas.{opening_fits, own_merging}
use Rattle.own_granules.proofs.SearchLemmas.{same_steps}
use Rattle.schedules.specs.Schedules.{next}
use Rattle.owned_search.specs.Sought.{sized}

module _ (image : ImageParts) (shared : ℕ → Bool) (owner : ℕ → Option ℕ) (hides : HartState → HartState → Bool) (most : ℕ)
    (is : is_image image ≡ true) (owned : AreOwned image [] shared owner hides most) where
  pub reached_size : (s : MachineState) → IsReachable (next image []) (opening_state image) s →
      length s.memory ≡ granules_of image
  reached_size s reached =
      let steps = same_steps image [] shared owner hides most is owned (opening_state image) reached.0 ([], refl) in
      let fit = walk_fits (respecting_next image [] shared owner) (is_state_of image [] shared)
      (own_merging image [] shared owner hides most).keeps (opening_state image) s reached.0
      (opening_fits image [] shared is owned.kept) (sym steps ∙ reached.1) in
      (fits_is image [] shared s fit).memory

and_none : (a : Bool) → (a && false) ≡ false
and_none true = refl
and_none false = refl

module _ (image : ImageParts) (passing : MachineState → Bool) where
  pub sized_none : (s : MachineState) → passing s ≡ false → sized image passing s ≡ false
  sized_none s fails =
      ap (λ (b : Bool). (length s.memory == granules_of image) && b) fails ∙ and_none (length s.memory == granules_of image)

  pub unsized : (s : MachineState) → length s.memory ≡ granules_of image → sized image passing s ≡ false →
      passing s ≡ false
  unsized s size fails =
      sym (ap (λ (b : Bool). b && passing s) (eq-eqb (length s.memory) (granules_of image) size)) ∙ fails

  pub sized_forgets : (live : LiveSets) → PassesForgotten live passing → PassesForgotten live (sized image passing)
  unfolding forgotten_state
  sized_forgets live same s = ap (λ (b : Bool). (length s.memory == granules_of image) && b) (same s)
