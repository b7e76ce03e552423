-- What a verdict says of the machine's runs.
use Rattle.std.proofs.Common.{◌≡◌, ℕ, suc, ◌+◌, ◌*◌, ◌<◌, List, [], ◌∷◌, ◌++◌, length, sym, ◌∙◌, refl, subst}
use Rattle.std.specs.Prelude.{Option, Some, IsSome, true, slice_get}
use Rattle.std.proofs.lemmas.Option.{slice_get_within}
use Rattle.cheri_model.specs.declared.operation.Op.{Op}
use Rattle.cheri_model.specs.runs.Machine.{MachineState, opening_state}
use Rattle.cheri_model.specs.runs.Replay.{is_legal, state_after, replayed_state}
use Rattle.explore_sights.specs.Sights.{hides}
use Rattle.explore_turns.specs.declared.quiet.TheConstants.{MAX_QUIET_STEPS}
use Rattle.explore_turns.specs.Turns.{rest_by, start_by, turn_by, has_harts_of}
use Rattle.explore_turns.proofs.OrderLemmas.{turns_labelled}
use Rattle.explore_turns.proofs.TurnLemmas.{go_most, merging, opening_fits, is_fit, rest_reached}
use Rattle.graph_search.proofs.TreeLemmas.{row_of}
use Rattle.graph_search.specs.Walks.{IsReachable}
use Rattle.graph_merging.proofs.CountLemmas.{walks_bounded}
use Rattle.graph_loops.proofs.ChainLemmas.{Chain, LeadsFairly, walk_append, walk_short, fair_chain_short}
use Rattle.graph_loops.specs.Loops.{IsKnown}
use Rattle.graph_loops.specs.declared.scans.Loops.TheVariants as known
use Rattle.loop_search.specs.declared.judging.FoundLoop.{FoundLoop}
use Rattle.loop_search.specs.Verdicts.{IsFoundLoop, IsFoundFair}
use Rattle.schedules.specs.Schedules.{next, operation_of_label}
use Rattle.schedules.specs.Schedules.{AreAllowed}
use Rattle.schedules.proofs.WalkLemmas.{legal_walk, legal_labels, replayed_reachable}
use Rattle.states.specs.Graphs.{state_in}
use Rattle.states.specs.Kept.{KeptParts, graph_of, at, count, IsSearch}
use Rattle.states.proofs.NodeLemmas.{node_of}
use Rattle.states.proofs.KeptLemmas.{labels_mean}
use Rattle.state_loops.specs.declared.endless.Lasso.{Lasso}
use Rattle.state_loops.specs.Endless.{IsLasso, IsLassoOf, IsLoop, IsFair, HasNoLoop, HasNoFairLoop, HasFewTurns, HasFewSteps, AreFairRounds, HasFewRounds}
use Rattle.state_loops.proofs.LabelLemmas.{labels_steps, steps_takes}
use Rattle.state_loops.proofs.TurnLemmas.{going, loop_of_turns, fair_of_turns, way_of_turns, loop_rests, labels_of_fair_turns, rest_size}

-- a kept state is within, and has the image's harts
pub kept_within : (kept : KeptParts) (i : ℕ) (s : MachineState) → at kept i ≡ Some s → i < count kept
kept_within kept i s is =
    let row = row_of (state_in (graph_of kept)) kept.nodes i s is in
    slice_get_within kept.nodes i row.0 row.1

kept_size : (kept : KeptParts) (i : ℕ) (s : MachineState) → at kept i ≡ Some s → length s.harts ≡ length kept.image.harts
kept_size kept i s is =
    let row = row_of (state_in (graph_of kept)) kept.nodes i s is in
    (node_of (graph_of kept) row.0 s row.2).count

abbrev turning : KeptParts → MachineState → ℕ → Option MachineState
turning kept = turn_by kept.image kept.sweeps kept.sight

abbrev resting : KeptParts → MachineState → MachineState
resting kept = rest_by kept.image kept.sweeps kept.sight

-- of the state that a legal order leaves, the one with each hart at its rest is kept, where all are
all_kept : (kept : KeptParts) → IsSearch kept → kept.complete ≡ true → (order : List Op) → AreAllowed kept.sweeps order →
    is_legal kept.image (opening_state kept.image) order ≡ true →
    (i : ℕ) × (at kept i ≡ Some (resting kept (replayed_state kept.image order)))
all_kept kept h done order allowed legal =
    h.complete done (resting kept (replayed_state kept.image order))
    (rest_reached kept.image kept.sweeps (hides kept.sight) MAX_QUIET_STEPS (replayed_state kept.image order)
    (replayed_reachable kept.image kept.sweeps order allowed legal))

-- each label of a loop is that of an operation
pub walk_means : (kept : KeptParts) (given : FoundLoop) →
    IsFoundLoop (turning kept) (length kept.image.harts) (at kept) given →
    (i l : ℕ) → slice_get given.labels.items i ≡ Some l → IsSome (operation_of_label kept.image kept.sweeps l)
walk_means kept given h =
    let ops = turns_labelled kept.image kept.sweeps kept.sight given.labels.items h.0 h.0 (h.2).0 in
    labels_mean kept.image kept.sweeps given.labels.items ops.0 ops.1

pub lasso_made : (kept : KeptParts) (given : FoundLoop) (lasso : Lasso) → IsLassoOf kept given lasso →
    (h : IsFoundLoop (turning kept) (length kept.image.harts) (at kept) given) → IsLasso kept lasso h.0
lasso_made kept given lasso made h =
    let whole = made h.0 h.1 in
    let ops = whole.1.0 in
    let are = whole.1.1 in
    let told = whole.1.2 in record {
      number = given.node;
      there = h.1;
      witness = whole.0;
      loops = subst (λ (cycle : List Op). IsLoop kept.image kept.sweeps h.0 cycle) (sym told)
          (loop_of_turns kept.image kept.sweeps kept.sight h.0 given.labels.items ops are h.2);
      ops = ops;
      turns = told;
      way = way_of_turns kept.image kept.sweeps kept.sight (at kept) h.0 h.0 given.labels.items ops are (h.2).0 h.3;
    }

pub fair_lasso : (kept : KeptParts) (given : FoundLoop) (lasso : Lasso) → IsLassoOf kept given lasso →
    IsFoundFair (turning kept) (length kept.image.harts) (at kept) given →
    (s : MachineState) × IsLasso kept lasso s × IsFair s lasso.cycle.items
fair_lasso kept given lasso made h =
    let whole = made h.0 h.1 in (
      h.0,
      lasso_made kept given lasso made (h.0, h.1, h.2, h.3),
      subst (λ (cycle : List Op). IsFair h.0 cycle) (sym whole.1.2)
          (fair_of_turns kept.image kept.sweeps kept.sight h.0 (kept_size kept given.node h.0 h.1) given.labels.items
          whole.1.0 whole.1.1 h.4),
    )

module _ (kept : KeptParts) (search : IsSearch kept) (done : kept.complete ≡ true) where
  -- a state that a legal order leaves has the image's harts
  left_size : (s : MachineState) (i : ℕ) → at kept i ≡ Some (resting kept s) → length s.harts ≡ length kept.image.harts
  left_size s i there =
      sym (rest_size kept.image kept.sweeps kept.sight s) ∙ kept_size kept i (resting kept s) there

  pub no_loop : IsKnown (turning kept) (length kept.image.harts) (at kept) known.NoLoop →
      HasNoLoop kept.image kept.sweeps
  no_loop none order cycle allowed legal loop =
      let i = all_kept kept search done order allowed legal in
      let s = replayed_state kept.image order in
      let ms = loop_rests kept.image kept.sweeps kept.sight s (left_size s i.0 i.1) cycle loop in
      none i.0 (resting kept s) ms.0 i.1 ms.1

  pub no_fair_loop : IsKnown (turning kept) (length kept.image.harts) (at kept) known.Unfair →
      HasNoFairLoop kept.image kept.sweeps
  no_fair_loop none order cycle allowed legal loop fair =
      let i = all_kept kept search done order allowed legal in
      let s = replayed_state kept.image order in
      let ms = loop_rests kept.image kept.sweeps kept.sight s (left_size s i.0 i.1) cycle loop in
      none i.0 (resting kept s) ms.0 i.1 ms.1 (ms.2 fair)

  -- walks of turns, orders and rounds are short
  pub few_turns : IsKnown (turning kept) (length kept.image.harts) (at kept) known.NoLoop → HasFewTurns kept
  few_turns none labels state walk =
      walk_short (turning kept) (length kept.image.harts) (at kept) (count kept)
      (start_by kept.image kept.sweeps kept.sight) (kept_within kept) (search.complete done) none labels state walk

  pub few_steps : HasFewTurns kept → HasFewSteps kept
  few_steps short order allowed legal =
      let start = opening_state kept.image in
      let size = opening_fits kept.image kept.sweeps (hides kept.sight) MAX_QUIET_STEPS in
      let ls = legal_labels kept.image kept.sweeps start order size allowed legal in
      let walk = legal_walk kept.image kept.sweeps start ls.0 order ls.1 legal in
      let fit = is_fit kept.image kept.sweeps (hides kept.sight) MAX_QUIET_STEPS start size in
      let bound = walks_bounded (next kept.image kept.sweeps) (length kept.image.harts) (has_harts_of kept.image)
      (resting kept) (going kept.image kept.sweeps kept.sight) (merging kept.image kept.sweeps (hides kept.sight) MAX_QUIET_STEPS)
      (suc MAX_QUIET_STEPS) (go_most kept.image kept.sweeps (hides kept.sight) MAX_QUIET_STEPS)
      (count kept) start (state_after kept.image start order) ls.0 fit (λ u ms way. short ms u way) walk in
      subst (λ (n : ℕ). n < (MAX_QUIET_STEPS + 2) * count kept + length kept.image.harts * (MAX_QUIET_STEPS + 1))
      (labels_steps kept.image kept.sweeps ls.0 order ls.1) bound

  rounds_chain : (s : MachineState) → IsReachable (turning kept) (start_by kept.image kept.sweeps kept.sight) s →
      (rounds : List (List Op)) → AreFairRounds kept.image kept.sweeps kept.sight s rounds →
      Chain (LeadsFairly (turning kept) (length kept.image.harts)) s (length rounds)
  rounds_chain s reach [] fair = tt
  rounds_chain s reach (round ∷ rounds) fair =
      let t = fair.0 in
      let one = fair.1 in
      let hart = one.steps in
      let takes = steps_takes kept.image kept.sweeps one.labels round hart.0 one.operations hart.1 in (
        t,
        (
          one.labels,
          one.leads,
          (hart.0, takes.1, takes.0),
          labels_of_fair_turns kept.image kept.sweeps kept.sight s one.labels round one.operations one.fair,
        ),
        rounds_chain t (
          reach.0 ++ one.labels,
          walk_append (turning kept) (start_by kept.image kept.sweeps kept.sight) s t reach.0 one.labels
              reach.1 one.leads,
        ) rounds fair.2,
      )

  pub few_rounds : IsKnown (turning kept) (length kept.image.harts) (at kept) known.Unfair → HasFewRounds kept
  few_rounds none rounds fair =
      fair_chain_short (turning kept) (length kept.image.harts) (at kept) (count kept)
      (start_by kept.image kept.sweeps kept.sight) (kept_within kept) (search.complete done) none (length rounds)
      (rounds_chain (start_by kept.image kept.sweeps kept.sight) ([], refl) rounds fair)
