-- Turns and walks of states whose harts stand under other numbers of their groups.
use Rattle.std.proofs.Common.{◌≡◌, ℕ, List, [], refl, sym, ap, ◌∙◌}
use Rattle.std.specs.Prelude.{Bool, true, Option, Some}
use Rattle.cheri_model.specs.declared.operation.Op.{Op}
use Rattle.cheri_model.specs.runs.Image.{ImageParts}
use Rattle.cheri_model.specs.runs.Machine.{MachineState, opening_state}
use Rattle.cheri_model.specs.runs.Replay.{is_legal, replayed_state}
use Rattle.explore_sights.specs.declared.sights.Sight.{Sight}
use Rattle.explore_sights.specs.Sights.{hides}
use Rattle.explore_turns.specs.Turns.{has_harts_of, rest_by}
use Rattle.forgotten_runs.specs.ForgottenRuns.{forgotten_state}
use Rattle.forgotten_turns.specs.ForgottenTurns.{HidesForgotten, forgotten_start, forgotten_turn}
use Rattle.forgotten_turns.proofs.OrderLemmas.{order_reached}
use Rattle.graph_search.specs.Walks.{IsReachable, IsWalk}
use Rattle.hart_order.specs.Arrangements.{arranged_state, group_of, place_in}
use Rattle.hart_order.specs.GroupedTurns.{grouped_start, grouped_turn, keeps_number, machine_labels}
use Rattle.hart_order.proofs.GroupedLemmas.{renames_from}
use Rattle.hart_symmetry.proofs.RenamingLemmas.{renamed_itself, renamed_other, renamed_third}
use Rattle.hart_symmetry.proofs.StepLemmas.{forgotten_turns_alike, forgotten_turns_by}
use Rattle.hart_symmetry.proofs.SymmetryLemmas.{walk_forth, walk_own}
use Rattle.hart_symmetry.proofs.TurnLemmas.{forgotten_start_fits}
use Rattle.hart_symmetry.specs.Symmetry.{IsSymmetry}
use Rattle.live_registers.specs.LiveSets.{IsRight, LiveSets}
use Rattle.schedules.specs.Schedules.{AreAllowed}
use Rattle.hart_regrouping.specs.Regrouping.{IsRegrouped, IsRegrouping}
use Rattle.hart_regrouping.proofs.PlaceGroups.{place_keeps}

module _ (groups : List ℕ) where
  abbrev stays : ℕ → Bool
  stays = keeps_number groups

  regrouped_other : (p : ℕ → ℕ) (s t : MachineState) (r : IsRegrouped groups p s t) → IsRegrouped groups r.0.to t s
  regrouped_other p s t r =
      (renamed_other stays p s t r.0, λ i. sym (r.1 (r.0.to i)) ∙ ap (group_of groups) (r.0.back i))

  regrouped_third : (p q : ℕ → ℕ) (s t u : MachineState) → IsRegrouped groups p s t → IsRegrouped groups q t u →
      IsRegrouped groups (λ i. p (q i)) s u
  regrouped_third p q s t u one two = (renamed_third stays p q s t u one.0 two.0, λ i. one.1 (q i) ∙ two.1 i)

  regrouping_itself : (s : MachineState) → IsRegrouping groups s s
  regrouping_itself s = (λ i. i, (renamed_itself stays s, λ i. refl))

  pub regrouping_other : (s t : MachineState) → IsRegrouping groups s t → IsRegrouping groups t s
  regrouping_other s t r = (r.1.0.to, regrouped_other r.0 s t r.1)

  pub regrouping_third : (s t u : MachineState) → IsRegrouping groups s t → IsRegrouping groups t u → IsRegrouping groups s u
  regrouping_third s t u one two = (λ i. one.0 (two.0 i), regrouped_third one.0 two.0 s t u one.1 two.1)

  -- the state with its harts in order
  arranged_regrouped : (s : MachineState) → IsRegrouped groups (place_in groups s) s (arranged_state groups s)
  arranged_regrouped s = (renames_from groups s, place_keeps groups s)

  arranged_regrouping : (s : MachineState) → IsRegrouping groups s (arranged_state groups s)
  arranged_regrouping s = (place_in groups s, arranged_regrouped s)

  module _ (image : ImageParts) (sight : Sight) (live : LiveSets) where
    abbrev turns : MachineState → ℕ → Option MachineState
    turns = forgotten_turn image sight live

    turns_by : (p : ℕ → ℕ) (s t y : MachineState) (l : ℕ) → has_harts_of image s ≡ true → IsRegrouped groups p s t →
        turns t l ≡ Some y → (x : MachineState) × (turns s (p l) ≡ Some x) × IsRegrouped groups p x y
    turns_by p s t y l fit r goes =
        let edge = forgotten_turns_by image stays sight live p s t y l fit r.0 goes in
        (edge.0, edge.1, (edge.2, r.1))

    turns_keep : (s t : MachineState) (l : ℕ) → has_harts_of image s ≡ true → turns s l ≡ Some t → has_harts_of image t ≡ true
    turns_keep s t l fit goes = (forgotten_turns_alike image stays sight live).keeps s t l fit goes

    fits_too : (s t : MachineState) → has_harts_of image s ≡ true → IsRegrouping groups s t → has_harts_of image t ≡ true
    fits_too s t fit r = (forgotten_turns_alike image stays sight live).fitting s t fit (r.0, r.1.0)

    edges_regroup : (s t x : MachineState) (l : ℕ) → has_harts_of image s ≡ true → IsRegrouping groups s t → turns s l ≡ Some x →
        (m : ℕ) × (y : MachineState) × (turns t m ≡ Some y) × IsRegrouping groups x y
    edges_regroup s t x l fit r goes =
        let edge = turns_by r.1.0.to t s x l (fits_too s t fit r) (regrouped_other r.0 s t r.1) goes in
        (r.1.0.to l, edge.0, edge.1, regrouping_other edge.0 x (r.1.0.to, edge.2))

    turns_regroup : IsSymmetry turns (has_harts_of image) (IsRegrouping groups)
    turns_regroup = record {
      keeps = turns_keep;
      fitting = fits_too;
      itself = regrouping_itself;
      other = regrouping_other;
      third = regrouping_third;
      edges = edges_regroup;
    }

    pub regrouped_walk : (labels : List ℕ) (r : MachineState) →
        IsWalk (grouped_turn image sight live groups) (grouped_start image sight live groups) labels r →
        (s : MachineState) × IsWalk turns (forgotten_start image sight live) (machine_labels image sight live groups labels) s
        × IsRegrouping groups s r
    regrouped_walk labels r walk =
        let own = walk_own turns (has_harts_of image) (λ p s t. IsRegrouped groups p s t) turns_keep regrouped_third turns_by
        (arranged_state groups) (place_in groups) arranged_regrouped (forgotten_start image sight live) r labels
        (forgotten_start_fits image sight live) walk in
        (own.0, own.2, (own.1, own.3))

    pub regrouped_reached : IsRight image.program live → HidesForgotten live (hides sight) → (order : List Op) → AreAllowed [] order →
        is_legal image (opening_state image) order ≡ true →
        (r : MachineState)
        × IsReachable (grouped_turn image sight live groups) (grouped_start image sight live groups) r
        × IsRegrouping groups (forgotten_state live (rest_by image [] sight (replayed_state image order))) r
    regrouped_reached right hidden order allowed legal =
        let reached = order_reached image sight live right (λ before after. hidden before after) order allowed legal in
        let walk = walk_forth turns (has_harts_of image) (IsRegrouping groups) turns_regroup (arranged_state groups) arranged_regrouping
        (forgotten_start image sight live)
        (forgotten_state live (rest_by image [] sight (replayed_state image order))) reached.0
        (forgotten_start_fits image sight live) reached.1 in
        (walk.1, (walk.0, walk.2), walk.3)
