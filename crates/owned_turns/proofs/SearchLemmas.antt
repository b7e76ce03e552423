-- Searches by turns after which harts forget, beside those in which no hart forgets.
use Rattle.std.proofs.Common.{◌≡◌, ℕ, length, List, [], sym, ap, ◌∙◌}
use Rattle.std.specs.Prelude.{Bool, true, Option, Some, option_map}
use Rattle.cheri_model.specs.declared.operation.Op.{Op}
use Rattle.cheri_model.specs.runs.Image.{ImageParts}
use Rattle.cheri_model.specs.runs.ImageRules.{is_image}
use Rattle.cheri_model.specs.runs.Machine.{MachineState, opening_state, state_after_step}
use Rattle.cheri_model.specs.runs.Replay.{is_legal, replayed_state}
use Rattle.explore_sights.specs.declared.sights.Sight.{Sight}
use Rattle.explore_sights.specs.Sights.{hides}
use Rattle.explore_turns.specs.declared.quiet.TheConstants.{MAX_QUIET_STEPS}
use Rattle.forgotten_runs.specs.ForgottenRuns.{forgotten_state}
use Rattle.forgotten_turns.specs.ForgottenTurns.{HidesForgotten, PassesForgotten}
use Rattle.graph_search.specs.Walks.{IsReachable, IsWalk, after}
use Rattle.live_registers.specs.LiveSets.{IsRight, LiveSets}
use Rattle.own_granules.specs.Granules.{is_quiet, respects_in}
use Rattle.own_granules.specs.Rests.{after_passes}
use Rattle.own_granules.specs.Turns.{AreOwned, KeepsPassing, rest_of, start, turn}
use Rattle.own_granules.proofs.KeptLemmas.{none_kept}
use Rattle.own_granules.proofs.OrderLemmas.{first_passing}
use Rattle.own_granules.proofs.SearchLemmas.{rests_found}
use Rattle.schedules.specs.Schedules.{AreAllowed, next}
use Rattle.schedules.proofs.WalkLemmas.{replayed_reachable}
use Rattle.owned_turns.specs.OwnedTurns.{AreOwnedForgotten, owned_start, owned_turn}
use Rattle.owned_turns.proofs.RestLemmas.{passes_alike}
use Rattle.owned_turns.proofs.StateLemmas.{edge_forgets, edge_may, quiet_may, respects_forgets, state_forgets, turn_forgets}
use Rattle.owned_turns.proofs.WalkLemmas as graph

module _ (image : ImageParts) (shared : ℕ → Bool) (sight : Sight) (live : LiveSets)
    (right : IsRight image.program live) (hidden : HidesForgotten live (hides sight)) where
  abbrev turns : MachineState → ℕ → Option MachineState
  turns = turn image [] shared (hides sight) MAX_QUIET_STEPS

  abbrev begin : MachineState
  begin = start image [] shared (hides sight) MAX_QUIET_STEPS

  abbrev lost_turns : MachineState → ℕ → Option MachineState
  lost_turns = owned_turn image shared sight live

  abbrev lost_begin : MachineState
  lost_begin = owned_start image shared sight live

  same_edges : (s : MachineState) (l : ℕ) → lost_turns (forgotten_state live s) l ≡ lost_turns s l
  same_edges = turn_forgets image live right shared sight hidden

  pub walks_forget : (s : MachineState) (labels : List ℕ) →
      after lost_turns (forgotten_state live s) labels ≡ option_map (forgotten_state live) (after turns s labels)
  walks_forget s labels = graph.walk_forgets turns (forgotten_state live) same_edges s labels

  pub reached_forgets : (s : MachineState) → IsReachable turns begin s →
      IsReachable lost_turns lost_begin (forgotten_state live s)
  reached_forgets s reached = graph.reached_forgets turns (forgotten_state live) same_edges begin s reached

  pub walk_found : (labels : List ℕ) (r : MachineState) → IsWalk lost_turns lost_begin labels r →
      (s : MachineState) × IsWalk turns begin labels s × (forgotten_state live s ≡ r)
  walk_found labels r walk = graph.walk_found turns (forgotten_state live) same_edges begin r labels walk

  -- ---- owners

  module _ (owner : ℕ → Option ℕ) (owned : AreOwnedForgotten image shared owner sight live) where
    edge_owned : (s t : MachineState) (l : ℕ) → IsReachable turns begin s → next image [] s l ≡ Some t →
        (respects_in image [] shared owner s l ≡ true)
        × (after_passes (state_after_step image) (is_quiet image [] shared (hides sight))
        (respects_in image [] shared owner) MAX_QUIET_STEPS (length image.harts) l t ≡ true)
    edge_owned s t l reached goes =
        let there = graph.mapped (forgotten_state live) (next image [] (forgotten_state live s) l) (forgotten_state live t)
        (edge_forgets image live right s l ∙ ap (option_map (forgotten_state live)) goes) in
        let met = owned.edges (forgotten_state live s) l (reached_forgets s reached) there.0 there.1 in (
          sym (respects_forgets image live right shared owner s l (edge_may image s t l goes)) ∙ met.0,
          sym (passes_alike (state_after_step image) (is_quiet image [] shared (hides sight)) (forgotten_state live)
              (state_forgets image live right shared (hides sight) hidden) (respects_in image [] shared owner)
              (λ x m quiet. respects_forgets image live right shared owner x m
              (quiet_may image live right shared (hides sight) hidden x m quiet))
              MAX_QUIET_STEPS (length image.harts) l there.0 t there.2) ∙ met.1,
        )

    pub all_owned : AreOwned image [] shared owner (hides sight) MAX_QUIET_STEPS
    all_owned = record {
      kept = none_kept shared 0 (opening_state image).memory;
      met = record { opening = owned.opening; edges = edge_owned };
    }

    -- what any order leads to
    pub order_reached : (order : List Op) → is_image image ≡ true → AreAllowed [] order →
        is_legal image (opening_state image) order ≡ true →
        IsReachable lost_turns lost_begin (forgotten_state live
        (rest_of image [] shared (hides sight) MAX_QUIET_STEPS (replayed_state image order)))
    order_reached order is allowed legal =
        reached_forgets (rest_of image [] shared (hides sight) MAX_QUIET_STEPS (replayed_state image order))
        (rests_found image [] shared owner (hides sight) MAX_QUIET_STEPS is all_owned (replayed_state image order)
        (replayed_reachable image [] order allowed legal))

pub rest_passes : (image : ImageParts) (shared : ℕ → Bool) (sight : Sight) (live : LiveSets)
    (passing : MachineState → Bool) → KeepsPassing image [] shared (hides sight) passing →
    PassesForgotten live passing → (s : MachineState) → passing s ≡ true →
    passing (forgotten_state live (rest_of image [] shared (hides sight) MAX_QUIET_STEPS s)) ≡ true
rest_passes image shared sight live passing keeps same s holds =
    same (rest_of image [] shared (hides sight) MAX_QUIET_STEPS s)
    ∙ first_passing (state_after_step image) (is_quiet image [] shared (hides sight)) MAX_QUIET_STEPS passing keeps
    (length image.harts) s holds
