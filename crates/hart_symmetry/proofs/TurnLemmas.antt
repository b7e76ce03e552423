-- What is reached by turns after each of which one of the states that are alike is chosen.
use Rattle.std.proofs.Common.{◌≡◌, ℕ, length, List, [], sym, ap, ◌∙◌, subst}
use Rattle.std.specs.Prelude.{Bool, true, Option}
use Rattle.cheri_model.specs.declared.operation.Op.{Op}
use Rattle.cheri_model.specs.runs.Image.{ImageParts}
use Rattle.cheri_model.specs.runs.Machine.{MachineState, opening_state}
use Rattle.cheri_model.specs.runs.Replay.{is_legal, replayed_state}
use Rattle.explore_sights.specs.declared.sights.Sight.{Sight}
use Rattle.explore_sights.specs.Sights.{hides}
use Rattle.explore_turns.specs.declared.quiet.TheConstants.{MAX_QUIET_STEPS}
use Rattle.explore_turns.specs.Turns.{KeepsPassing, has_harts_of, rest_by, rest_of}
use Rattle.explore_turns.proofs.TurnLemmas.{go, merging, opening_count}
use Rattle.forgotten_runs.specs.ForgottenRuns.{forgotten_state}
use Rattle.forgotten_turns.specs.ForgottenTurns.{HidesForgotten, PassesForgotten, forgotten_start, forgotten_turn}
use Rattle.forgotten_turns.proofs.OrderLemmas.{reaches_forgotten, order_reached, rest_passes_forgotten}
use Rattle.graph_merging.proofs.MergingLemmas.{kept_reachable}
use Rattle.graph_search.specs.Walks.{IsReachable, IsWalk}
use Rattle.live_registers.specs.LiveSets.{IsRight, LiveSets}
use Rattle.schedules.specs.Schedules.{AreAllowed, next}
use Rattle.schedules.proofs.WalkLemmas.{reachable_replayed}
use Rattle.hart_symmetry.specs.ChosenTurns.{chosen_start, chosen_turn}
use Rattle.hart_symmetry.specs.Renaming.{IsRenamed, IsRenaming, Renames, RenamesFrom, PassesRenamed}
use Rattle.hart_symmetry.specs.Symmetry.{own_labels}
use Rattle.hart_symmetry.proofs.RenamingLemmas.{renamed_third}
use Rattle.hart_symmetry.proofs.StepLemmas.{have_as_many, rest_fits, forgotten_fits, forgotten_turns_alike, forgotten_turns_by}
use Rattle.hart_symmetry.proofs.SymmetryLemmas.{GoesBack, GoesForth, walk_back, walk_forth, walk_own}

opening_fits : (image : ImageParts) → has_harts_of image (opening_state image) ≡ true
opening_fits image = have_as_many image (opening_state image) (opening_count image)

pub forgotten_start_fits : (image : ImageParts) (sight : Sight) (live : LiveSets) →
    has_harts_of image (forgotten_start image sight live) ≡ true
forgotten_start_fits image sight live =
    forgotten_fits image live (rest_by image [] sight (opening_state image))
    (rest_fits image [] (hides sight) MAX_QUIET_STEPS (opening_state image) (opening_fits image))

module _ (image : ImageParts) (sight : Sight) (live : LiveSets) (stays : ℕ → Bool)
    (choose : MachineState → MachineState) (chooses : Renames stays choose) where
  abbrev turns : MachineState → ℕ → Option MachineState
  turns = forgotten_turn image sight live

  abbrev Alike : MachineState → MachineState → Type 0
  Alike s t = IsRenaming stays s t

  pub chosen_back : (o r : MachineState) (labels : List ℕ) → has_harts_of image o ≡ true →
      IsWalk (chosen_turn image sight live choose) (choose o) labels r →
      GoesBack turns (has_harts_of image) Alike (forgotten_turns_alike image stays sight live) o r labels
  chosen_back o r labels fit walk =
      walk_back turns (has_harts_of image) Alike (forgotten_turns_alike image stays sight live) choose chooses o r labels
      fit walk

  pub chosen_forth : (o s : MachineState) (labels : List ℕ) → has_harts_of image o ≡ true → IsWalk turns o labels s →
      GoesForth turns (has_harts_of image) Alike (forgotten_turns_alike image stays sight live) choose chooses (choose o) s labels
  chosen_forth o s labels fit walk =
      walk_forth turns (has_harts_of image) Alike (forgotten_turns_alike image stays sight live) choose chooses o s labels
      fit walk

  module _ (right : IsRight image.program live) (hidden : HidesForgotten live (hides sight)) where
    -- an order that leads to a state, but for what is forgotten and the order of the harts
    abbrev IsLedTo : MachineState → Type 0
    IsLedTo r =
        (order : List Op) × AreAllowed [] order × (is_legal image (opening_state image) order ≡ true)
        × Alike (forgotten_state live (replayed_state image order)) r

    pub chosen_sound : (r : MachineState) →
        IsReachable (chosen_turn image sight live choose) (chosen_start image sight live choose) r → IsLedTo r
    chosen_sound r reached =
        let walk = chosen_back (forgotten_start image sight live) r reached.0 (forgotten_start_fits image sight live) reached.1 in
        let rested = reaches_forgotten image sight live right (λ before after. hidden before after) walk.1 (walk.0, walk.2) in
        let steps = kept_reachable (next image []) (length image.harts) (has_harts_of image)
        (rest_of image [] (hides sight) MAX_QUIET_STEPS) (go image [] (hides sight) MAX_QUIET_STEPS)
        (merging image [] (hides sight) MAX_QUIET_STEPS) (opening_state image) rested.0 (opening_fits image) rested.1 in
        let order = reachable_replayed image [] rested.0 steps in (
          order.0,
          order.1,
          order.2,
          subst (λ (s : MachineState). Alike s r)
              (sym (ap (forgotten_state live) order.3 ∙ rested.2)) walk.3,
        )

    pub chosen_complete : (order : List Op) → AreAllowed [] order → is_legal image (opening_state image) order ≡ true →
        (r : MachineState)
        × IsReachable (chosen_turn image sight live choose) (chosen_start image sight live choose) r
        × Alike (forgotten_state live (rest_by image [] sight (replayed_state image order))) r
    chosen_complete order allowed legal =
        let reached = order_reached image sight live right (λ before after. hidden before after) order allowed legal in
        let walk = chosen_forth (forgotten_start image sight live)
        (forgotten_state live (rest_by image [] sight (replayed_state image order))) reached.0
        (forgotten_start_fits image sight live) reached.1 in
        (walk.1, (walk.0, walk.2), walk.3)

pub chosen_passes : (image : ImageParts) (sight : Sight) (live : LiveSets) (stays : ℕ → Bool)
    (passing : MachineState → Bool) → KeepsPassing (hides sight) passing → PassesForgotten live passing →
    PassesRenamed stays passing → (s r : MachineState) → passing s ≡ true →
    IsRenaming stays (forgotten_state live (rest_by image [] sight s)) r → passing r ≡ true
chosen_passes image sight live stays passing keeps same renamed s r holds alike =
    renamed (forgotten_state live (rest_by image [] sight s)) r alike
    ∙ rest_passes_forgotten image sight live passing keeps same s holds

-- the labels of a walk of chosen states, by the numbers that the harts have where none is chosen
pub chosen_own : (image : ImageParts) (sight : Sight) (live : LiveSets) (stays : ℕ → Bool)
    (choose : MachineState → MachineState) (from : MachineState → ℕ → ℕ) → RenamesFrom stays choose from →
    (o r : MachineState) (labels : List ℕ) → has_harts_of image o ≡ true →
    IsWalk (chosen_turn image sight live choose) (choose o) labels r →
    (s : MachineState) × (place : ℕ → ℕ)
    × IsWalk (forgotten_turn image sight live) o
    (own_labels (forgotten_turn image sight live) choose from (from o) (choose o) labels) s
    × IsRenamed stays place s r
chosen_own image sight live stays choose from chooses o r labels fit walk =
    let turns = forgotten_turn image sight live in
    walk_own turns (has_harts_of image) (λ p s t. IsRenamed stays p s t)
    (λ s t l fits goes. (forgotten_turns_alike image stays sight live).keeps s t l fits goes)
    (renamed_third stays) (forgotten_turns_by image stays sight live) choose from (λ s. chooses s) o r labels fit walk
