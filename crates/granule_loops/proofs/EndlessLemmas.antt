-- What a verdict says of the machine's runs.
use Rattle.std.proofs.Common.{◌≡◌, ℕ, suc, ◌+◌, ◌*◌, ◌<◌, List, [], ◌∷◌, ◌++◌, length, sym, ◌∙◌, refl, subst}
use Rattle.std.specs.Prelude.{Option, Some, true, slice_get}
use Rattle.std.proofs.lemmas.Option.{slice_get_within}
use Rattle.cheri_model.specs.declared.operation.Op.{Op}
use Rattle.cheri_model.specs.runs.ImageRules.{is_image}
use Rattle.cheri_model.specs.runs.Machine.{MachineState, opening_state}
use Rattle.cheri_model.specs.runs.Replay.{is_legal, replayed_state, state_after}
use Rattle.explore_sights.specs.Sights.{hides}
use Rattle.explore_turns.proofs.TurnLemmas.{opening_count}
use Rattle.explore_turns.specs.declared.quiet.TheConstants.{MAX_QUIET_STEPS}
use Rattle.granule_loops.proofs.StepLemmas.{fair_of_turns, loop_of_turns, replayed_size}
use Rattle.granule_loops.specs.GranuleLoops.{AreFairRounds, HasFewRounds, HasFewSteps, HasFewTurns, IsLassoOf, IsOwnedLasso, harts}
use Rattle.granule_states.specs.Graphs.{is_shared, owner_of, start_in, state_in, turn_in}
use Rattle.granule_states.specs.Owned.{AreAllKept, AreSomeOwned, IsSearch, OwnedParts, at, count}
use Rattle.graph_loops.proofs.ChainLemmas.{Chain, LeadsFairly, fair_chain_short, walk_append, walk_short}
use Rattle.graph_loops.specs.Loops.{IsKnown}
use Rattle.graph_loops.specs.declared.scans.Loops.TheVariants as known
use Rattle.graph_search.proofs.TreeLemmas.{row_of}
use Rattle.graph_search.specs.Walks.{IsReachable}
use Rattle.loop_search.specs.declared.judging.FoundLoop.{FoundLoop}
use Rattle.loop_search.specs.Verdicts.{IsFoundFair, IsFoundLoop}
use Rattle.own_granules.proofs.SearchLemmas.{few_steps as few_in_all, step_fair, step_loops}
use Rattle.own_granules.specs.Turns.{rest_of}
use Rattle.schedules.proofs.WalkLemmas.{legal_labels, legal_walk, replayed_reachable}
use Rattle.schedules.specs.Schedules.{AreAllowed}
use Rattle.state_loops.proofs.LabelLemmas.{labels_of_fair, labels_of_loop, labels_steps}
use Rattle.state_loops.specs.declared.endless.Lasso.{Lasso}
use Rattle.state_loops.specs.Endless.{HasNoFairLoop, HasNoLoop, IsFair, IsLoop, step_count}
use Rattle.states.proofs.NodeLemmas.{node_of}

-- a kept state is one of those that are counted, and has the image's harts
kept_within : (kept : OwnedParts) (i : ℕ) (s : MachineState) → at kept i ≡ Some s → i < count kept
kept_within kept i s is =
    let row = row_of (state_in kept.graph) kept.nodes i s is in
    slice_get_within kept.nodes i row.0 row.1

kept_size : (kept : OwnedParts) (i : ℕ) (s : MachineState) → at kept i ≡ Some s → length s.harts ≡ harts kept
kept_size kept i s is =
    let row = row_of (state_in kept.graph) kept.nodes i s is in
    (node_of kept.graph.graph row.0 s row.2).count

pub lasso_made : (kept : OwnedParts) (found : FoundLoop) (lasso : Lasso) → IsLassoOf kept found lasso →
    (h : IsFoundLoop (turn_in kept.graph) (harts kept) (at kept) found) → IsOwnedLasso kept lasso h.0
lasso_made kept found lasso made h =
    let whole = made h.0 h.1 in
    record {
      number = found.node;
      there = h.1;
      to = whole.0;
      loops = subst (λ (cycle : List Op). IsLoop kept.graph.graph.image [] h.0 cycle) (sym whole.1)
          (loop_of_turns kept.graph h.0 found.labels.items h.2);
      labels = found.labels.items;
      turns = whole.1;
    }

pub fair_lasso : (kept : OwnedParts) (found : FoundLoop) (lasso : Lasso) → IsLassoOf kept found lasso →
    IsFoundFair (turn_in kept.graph) (harts kept) (at kept) found →
    (s : MachineState) × IsOwnedLasso kept lasso s × IsFair s lasso.cycle.items
fair_lasso kept found lasso made h =
    let whole = made h.0 h.1 in (
      h.0,
      lasso_made kept found lasso made (h.0, h.1, h.2, h.3),
      subst (λ (cycle : List Op). IsFair h.0 cycle) (sym whole.1)
          (fair_of_turns kept.graph h.0 found.labels.items (kept_size kept found.node h.0 h.1) h.4),
    )

module _ (kept : OwnedParts) (search : IsSearch kept) (formed : is_image kept.graph.graph.image ≡ true)
    (finished : kept.finished ≡ true) (owned : AreSomeOwned kept.graph) where
  abbrev rests : MachineState → MachineState
  rests s = rest_of kept.graph.graph.image [] (is_shared kept.graph.shared) (hides kept.graph.sight) MAX_QUIET_STEPS s

  -- walks of turns, and rounds, are short
  pub few_turns : IsKnown (turn_in kept.graph) (harts kept) (at kept) known.NoLoop → HasFewTurns kept
  few_turns none labels state walk =
      walk_short (turn_in kept.graph) (harts kept) (at kept) (count kept) (start_in kept.graph) (kept_within kept)
      (search.complete finished) none labels state walk

  rounds_chain : (s : MachineState) → IsReachable (turn_in kept.graph) (start_in kept.graph) s → (rounds : List (List ℕ)) →
      AreFairRounds kept.graph s rounds → Chain (LeadsFairly (turn_in kept.graph) (harts kept)) s (length rounds)
  rounds_chain s reach [] fair = tt
  rounds_chain s reach (round ∷ rounds) fair =
      let t = fair.0 in
      let one = fair.1 in (
        t,
        (round, one.leads, (one.hart, one.low, one.takes), one.fair),
        rounds_chain t (
          reach.0 ++ round,
          walk_append (turn_in kept.graph) (start_in kept.graph) s t reach.0 round reach.1 one.leads,
        ) rounds fair.2,
      )

  pub few_rounds : IsKnown (turn_in kept.graph) (harts kept) (at kept) known.Unfair → HasFewRounds kept
  few_rounds none rounds fair =
      fair_chain_short (turn_in kept.graph) (harts kept) (at kept) (count kept) (start_in kept.graph) (kept_within kept)
      (search.complete finished) none (length rounds) (rounds_chain (start_in kept.graph) ([], refl) rounds fair)

  -- legal orders are short
  pub few_steps : HasFewTurns kept → HasFewSteps kept
  few_steps short order allowed legal =
      let image = kept.graph.graph.image in
      let start = opening_state image in
      let ls = legal_labels image [] start order (opening_count image) allowed legal in
      let walk = legal_walk image [] start ls.0 order ls.1 legal in
      let bound = few_in_all image [] (is_shared kept.graph.shared) (owner_of owned.0) (hides kept.graph.sight) MAX_QUIET_STEPS
      formed owned.1 (count kept) (state_after image start order) ls.0 (λ r ms way. short ms r way) walk in
      subst (λ (n : ℕ). n < (MAX_QUIET_STEPS + 2) * count kept + harts kept * (MAX_QUIET_STEPS + 1))
      (labels_steps image [] ls.0 order ls.1) bound

  module _ (all : AreAllKept kept) where
    -- no state that a legal order leaves has a loop, or a fair one
    pub no_loop : IsKnown (turn_in kept.graph) (harts kept) (at kept) known.NoLoop → HasNoLoop kept.graph.graph.image []
    no_loop none order cycle allowed legal loop =
        let image = kept.graph.graph.image in
        let s = replayed_state image order in
        let found = all order allowed legal in
        let ls = labels_of_loop image [] s (replayed_size image order) cycle loop in
        let ms = step_loops image [] (is_shared kept.graph.shared) (owner_of owned.0) (hides kept.graph.sight) MAX_QUIET_STEPS
        formed owned.1 s ls.0 (replayed_reachable image [] order allowed legal) ls.2 in
        none found.0 (rests s) ms.0 found.1 ms.1

    pub no_fair_loop : IsKnown (turn_in kept.graph) (harts kept) (at kept) known.Unfair → HasNoFairLoop kept.graph.graph.image []
    no_fair_loop none order cycle allowed legal loop fair =
        let image = kept.graph.graph.image in
        let s = replayed_state image order in
        let found = all order allowed legal in
        let reached = replayed_reachable image [] order allowed legal in
        let ls = labels_of_loop image [] s (replayed_size image order) cycle loop in
        let ms = step_loops image [] (is_shared kept.graph.shared) (owner_of owned.0) (hides kept.graph.sight) MAX_QUIET_STEPS
        formed owned.1 s ls.0 reached ls.2 in
        none found.0 (rests s) ms.0 found.1 ms.1
        (step_fair image [] (is_shared kept.graph.shared) (owner_of owned.0) (hides kept.graph.sight) MAX_QUIET_STEPS
        formed owned.1 s ls.0 ms.0 reached (labels_of_fair image [] s (replayed_size image order) ls.0 cycle ls.1 fair) ms.2)
