-- What a verdict on states that have forgotten says of the machine's runs.
use Rattle.std.proofs.Common.{◌≡◌, ℕ, suc, ◌+◌, ◌*◌, ◌<◌, List, [], ◌∷◌, length, ap, sym, ◌∙◌, subst}
use Rattle.std.specs.Prelude.{Option, Some, option_map, slice_get, true}
use Rattle.std.proofs.lemmas.Option.{slice_get_within}
use Rattle.cheri_model.specs.declared.operation.Op.{Op}
use Rattle.cheri_model.specs.runs.Machine.{MachineState, opening_state}
use Rattle.cheri_model.specs.runs.Replay.{replayed_state, state_after}
use Rattle.explore_sights.specs.Sights.{hides}
use Rattle.explore_turns.specs.declared.quiet.TheConstants.{MAX_QUIET_STEPS}
use Rattle.explore_turns.specs.Turns.{has_harts_of, rest_by, start_by, turn_by}
use Rattle.explore_turns.proofs.TurnLemmas.{go_most, is_fit, merging, opening_fits}
use Rattle.forgotten_runs.specs.ForgottenRuns.{forgotten_state}
use Rattle.forgotten_turns.specs.ForgottenTurns.{HidesForgotten, forgotten_start, forgotten_turn}
use Rattle.forgotten_turns.proofs.OrderLemmas.{turn_forgets, walk_forgets, walk_of_turns}
use Rattle.forgotten_states.specs.Sought.{IsOrderTo}
use Rattle.forgotten_states.specs.Surveys.{IsSurvey, SurveyParts, at, count, edge}
use Rattle.forgotten_states.proofs.NodeLemmas.{labels_below}
use Rattle.forgotten_states.proofs.SurveyLemmas.{all_there_ungrouped, order_leads_ungrouped}
use Rattle.graph_loops.proofs.ChainLemmas.{Chain, LeadsFairly, fair_chain_short, walk_short}
use Rattle.graph_loops.specs.Loops.{IsKnown}
use Rattle.graph_loops.specs.Loops as graphs
use Rattle.graph_loops.specs.declared.scans.Loops.TheVariants as known
use Rattle.graph_merging.proofs.CountLemmas.{walks_bounded}
use Rattle.graph_merging.proofs.MergingLemmas.{merged_some}
use Rattle.graph_search.specs.Searches.{IsExplored}
use Rattle.graph_search.specs.Walks.{IsWalk}
use Rattle.hart_order.specs.Arrangements.{IsUngrouped}
use Rattle.hart_order.specs.GroupedTurns.{grouped_start}
use Rattle.hart_order.proofs.GroupedLemmas.{start_ungrouped, turns_ungrouped}
use Rattle.loop_search.specs.declared.judging.FoundLoop.{FoundLoop}
use Rattle.loop_search.specs.Verdicts.{IsFoundFair, IsFoundLoop}
use Rattle.explore_turns.proofs.OrderLemmas.{turns_labelled}
use Rattle.schedules.specs.Schedules.{next}
use Rattle.schedules.proofs.WalkLemmas.{legal_labels, legal_walk}
use Rattle.state_loops.specs.declared.endless.Lasso.{Lasso}
use Rattle.state_loops.specs.Endless.{AreFairRounds, HasNoFairLoop, HasNoLoop}
use Rattle.state_loops.proofs.LabelLemmas.{labels_steps, steps_takes}
use Rattle.state_loops.proofs.TurnLemmas.{going, labels_of_fair_turns, loop_rests}
use Rattle.forgotten_loops.specs.ForgottenLoops.{HasFewRounds, HasFewSteps, HasFewTurns, IsFairForever, IsForgottenLasso, IsLassoOf}
use Rattle.forgotten_loops.proofs.CycleLemmas.{fair_forever, goes_on, replayed_size, rounds}

module _ (survey : SurveyParts) (is : IsSurvey survey) (none_grouped : IsUngrouped survey.groups) where
  abbrev lost : MachineState → MachineState
  lost s = forgotten_state survey.live s

  abbrev turning : MachineState → ℕ → Option MachineState
  turning = turn_by survey.image [] survey.sight

  abbrev goes : MachineState → ℕ → Option MachineState
  goes = forgotten_turn survey.image survey.sight survey.live

  abbrev resting : MachineState → MachineState
  resting s = rest_by survey.image [] survey.sight s

  abbrev actors : ℕ
  actors = length survey.image.harts

  hidden : HidesForgotten survey.live (hides survey.sight)
  hidden before after = is.hidden before after

  -- the survey's states are those that forgotten turns lead to
  nodes : IsExplored goes (forgotten_start survey.image survey.sight survey.live) survey.limit (at survey) (edge survey)
      (count survey) survey.complete
  nodes =
      subst (λ (s : MachineState). IsExplored goes s survey.limit (at survey) (edge survey) (count survey) survey.complete)
      (start_ungrouped survey.groups none_grouped survey.image survey.sight survey.live)
      (subst (λ (f : MachineState → ℕ → Option MachineState). IsExplored f
      (grouped_start survey.image survey.sight survey.live survey.groups) survey.limit (at survey) (edge survey) (count survey)
      survey.complete) (turns_ungrouped survey.groups none_grouped survey.image survey.sight survey.live) is.nodes)

  -- the state that an order to a state of the survey leaves forgets to be it
  leads : (s : MachineState) (order : List Op) → IsOrderTo survey.image survey.sight survey.live survey.groups s order →
      lost (replayed_state survey.image order) ≡ s
  leads s order to = order_leads_ungrouped survey.image survey.sight survey.live survey.groups s order none_grouped to

  -- ---- a loop that was found

  -- each label of its walk is a hart's number
  pub loop_labels : (given : FoundLoop) → IsFoundLoop goes actors (at survey) given →
      (i label : ℕ) → slice_get given.labels.items i ≡ Some label → label < actors
  loop_labels given h =
      let start = forgotten_start survey.image survey.sight survey.live in
      let way = nodes.sound h.0 (given.node, h.1) in
      let before = walk_of_turns survey.image survey.sight survey.live is.right hidden way.0 h.0 way.1 in
      let on = merged_some lost _ h.0
      (sym (walk_forgets survey.image survey.sight survey.live is.right hidden before.0 given.labels.items)
      ∙ subst (λ (x : MachineState). IsWalk goes x given.labels.items h.0) (sym before.2) h.2.0) in
      let ops = turns_labelled survey.image [] survey.sight given.labels.items before.0 on.0 on.1 in
      labels_below survey.image given.labels.items ops.0 ops.1

  pub lasso_made : (given : FoundLoop) (lasso : Lasso) → IsLassoOf survey given lasso →
      IsFoundLoop goes actors (at survey) given → IsForgottenLasso survey lasso
  lasso_made given lasso made h =
      let whole = made h.0 h.1 in
      let to = whole.0 in
      let ops = whole.1.0 in record {
        number = given.node;
        state = h.0;
        there = h.1;
        to = to;
        on = goes_on survey.image survey.sight survey.live is.right hidden h.0 given.labels.items ops lasso.order.items
            lasso.cycle.items whole.1.1 h.2 to.allowed to.legal (leads h.0 lasso.order.items to) whole.1.2;
        comes = λ n. (rounds survey.image survey.sight survey.live is.right hidden h.0 given.labels.items ops lasso.order.items
            lasso.cycle.items whole.1.1 h.2 to.allowed to.legal (leads h.0 lasso.order.items to) whole.1.2 n).back;
      }

  pub fair_lasso : (given : FoundLoop) (lasso : Lasso) → IsLassoOf survey given lasso →
      IsFoundFair goes actors (at survey) given →
      IsForgottenLasso survey lasso × IsFairForever survey.image lasso.order.items lasso.cycle.items
  fair_lasso given lasso made h =
      let whole = made h.0 h.1 in
      let to = whole.0 in (
        lasso_made given lasso made (h.0, h.1, h.2, h.3),
        fair_forever survey.image survey.sight survey.live is.right hidden h.0 given.labels.items whole.1.0 lasso.order.items
            lasso.cycle.items whole.1.1 h.2 to.allowed to.legal (leads h.0 lasso.order.items to) whole.1.2 h.4,
      )

  -- ---- where these are all states

  -- a loop of turns is one of forgotten turns, and fair where it is
  lost_loop : (s : MachineState) (labels : List ℕ) → graphs.IsLoop turning actors s labels →
      graphs.IsLoop goes actors (lost s) labels
  lost_loop s labels loop =
      (walk_forgets survey.image survey.sight survey.live is.right hidden s labels ∙ ap (option_map lost) loop.0, loop.1)

  lost_fair : (s : MachineState) (labels : List ℕ) → graphs.IsFair turning actors s labels →
      graphs.IsFair goes actors (lost s) labels
  lost_fair s labels fair m t low edge =
      let own = merged_some lost (turning s m) t (sym (turn_forgets survey.image survey.sight survey.live is.right hidden s m) ∙ edge) in
      fair m own.0 low own.1

  within : (i : ℕ) (s : MachineState) → at survey i ≡ Some s → i < count survey
  within i s there = slice_get_within survey.states i s there

  module _ (done : survey.complete ≡ true) where
    pub no_loop : IsKnown goes actors (at survey) known.NoLoop → HasNoLoop survey.image []
    no_loop none order cycle allowed legal loop =
        let s = replayed_state survey.image order in
        let there = all_there_ungrouped survey is done order allowed legal none_grouped in
        let ms = loop_rests survey.image [] survey.sight s (replayed_size survey.image order) cycle loop in
        none there.0 (lost (resting s)) ms.0 there.1 (lost_loop (resting s) ms.0 ms.1)

    pub no_fair_loop : IsKnown goes actors (at survey) known.Unfair → HasNoFairLoop survey.image []
    no_fair_loop none order cycle allowed legal loop fair =
        let s = replayed_state survey.image order in
        let there = all_there_ungrouped survey is done order allowed legal none_grouped in
        let ms = loop_rests survey.image [] survey.sight s (replayed_size survey.image order) cycle loop in
        none there.0 (lost (resting s)) ms.0 there.1 (lost_loop (resting s) ms.0 ms.1)
        (lost_fair (resting s) ms.0 (ms.2 fair))

    -- walks of turns, orders and rounds are short
    pub few_turns : IsKnown goes actors (at survey) known.NoLoop → HasFewTurns survey
    few_turns none labels state walk =
        let start = start_by survey.image [] survey.sight in
        walk_short goes actors (at survey) (count survey) (lost start) within (nodes.complete done) none labels (lost state)
        (walk_forgets survey.image survey.sight survey.live is.right hidden start labels ∙ ap (option_map lost) walk)

    pub few_steps : HasFewTurns survey → HasFewSteps survey
    few_steps short order allowed legal =
        let image = survey.image in
        let start = opening_state image in
        let size = opening_fits image [] (hides survey.sight) MAX_QUIET_STEPS in
        let ls = legal_labels image [] start order size allowed legal in
        let walk = legal_walk image [] start ls.0 order ls.1 legal in
        let fit = is_fit image [] (hides survey.sight) MAX_QUIET_STEPS start size in
        let bound = walks_bounded (next image []) actors (has_harts_of image)
        resting (going image [] survey.sight) (merging image [] (hides survey.sight) MAX_QUIET_STEPS)
        (suc MAX_QUIET_STEPS) (go_most image [] (hides survey.sight) MAX_QUIET_STEPS)
        (count survey) start (state_after image start order) ls.0 fit (λ u ms way. short ms u way) walk in
        subst (λ (n : ℕ). n < (MAX_QUIET_STEPS + 2) * count survey + actors * (MAX_QUIET_STEPS + 1))
        (labels_steps image [] ls.0 order ls.1) bound

    rounds_chain : (s : MachineState) → (rounds : List (List Op)) → AreFairRounds survey.image [] survey.sight s rounds →
        Chain (LeadsFairly goes actors) (lost s) (length rounds)
    rounds_chain s [] fair = tt
    rounds_chain s (round ∷ rounds) fair =
        let t = fair.0 in
        let one = fair.1 in
        let hart = one.steps in
        let takes = steps_takes survey.image [] one.labels round hart.0 one.operations hart.1 in (
          lost t,
          (
            one.labels,
            walk_forgets survey.image survey.sight survey.live is.right hidden s one.labels ∙ ap (option_map lost) one.leads,
            (hart.0, takes.1, takes.0),
            lost_fair s one.labels
                (labels_of_fair_turns survey.image [] survey.sight s one.labels round one.operations one.fair),
          ),
          rounds_chain t rounds fair.2,
        )

    pub few_rounds : IsKnown goes actors (at survey) known.Unfair → HasFewRounds survey
    few_rounds none rounds fair =
        let start = start_by survey.image [] survey.sight in
        fair_chain_short goes actors (at survey) (count survey) (lost start) within (nodes.complete done) none (length rounds)
        (rounds_chain start rounds fair)
