-- What a survey says of the machine's own orders.
use Rattle.std.proofs.Common.{◌≡◌, ℕ, zero, suc, ◌<◌, ◌+◌, List, [], ◌∷◌, length, arith, ap, sym, ◌∙◌, refl, subst}
use Rattle.std.specs.Prelude.{Option, Some, None, Bool, true, false, slice_get}
use Rattle.std.proofs.Math.Path.{fun_ext}
use Rattle.cheri_model.specs.declared.operation.Op.{Op}
use Rattle.cheri_model.specs.runs.Image.{ImageParts}
use Rattle.cheri_model.specs.runs.Machine.{MachineState, is_running, opening_state}
use Rattle.cheri_model.specs.runs.Replay.{is_legal, replayed_state}
use Rattle.cheri_model.specs.steps.Hart.{HartState}
use Rattle.explore_sights.specs.declared.sights.Sight.{Sight}
use Rattle.explore_sights.specs.Sights.{hides}
use Rattle.explore_turns.specs.declared.quiet.TheConstants.{MAX_QUIET_STEPS}
use Rattle.explore_turns.specs.Turns.{KeepsPassing, rest_by}
use Rattle.explore_turns.proofs.TurnLemmas.{stopped_rests}
use Rattle.forgotten_runs.specs.ForgottenRuns.{forgotten_state}
use Rattle.forgotten_turns.specs.ForgottenTurns.{PassesForgotten}
use Rattle.graph_loops.specs.Loops.{AreMeant}
use Rattle.graph_search.specs.Searches.{IsExplored}
use Rattle.graph_search.specs.Trees.{Found, IsFound, edge_at, state_at}
use Rattle.graph_search.proofs.TreeLemmas.{stands_same}
use Rattle.hart_order.specs.Arrangements.{IsUngrouped, arranged_state}
use Rattle.hart_order.specs.GroupedTurns.{grouped_start, grouped_turn, keeps_number}
use Rattle.hart_order.proofs.GroupedLemmas.{renames, ungrouped_same}
use Rattle.hart_symmetry.specs.Renaming.{IsRenaming, PassesRenamed}
use Rattle.hart_symmetry.proofs.TurnLemmas.{chosen_complete}
use Rattle.live_registers.specs.LiveSets.{LiveSets}
use Rattle.loop_search.specs.Verdicts.{AreDistinct, IsVerdict}
use Rattle.loop_search.specs.declared.judging.Verdict.{Verdict}
use Rattle.loop_search.proofs.VerdictLemmas.{on_same}
use Rattle.schedules.specs.Schedules.{AreAllowed}
use Rattle.states.specs.Kept.{NonePasses}
use Rattle.forgotten_states.specs.Graphs.{ForgottenParts, state_in, turn_in}
use Rattle.forgotten_states.specs.Nodes.{AreNodes, IsFirstPassing}
use Rattle.forgotten_states.specs.Nodes as nodes
use Rattle.forgotten_states.specs.Sought.{IsOrderTo}
use Rattle.forgotten_states.proofs.NodeLemmas.{none_passes as none_of_nodes}
use Rattle.forgotten_states.specs.Surveys.{IsKeptSurvey, IsSurvey, SurveyParts, at, before, count, states_of, survey_of}

-- ---- the states of rows that mean some

module _ (meaning : List ℕ → Option MachineState) where
  states_at : (rows : List (List ℕ)) → ((i : ℕ) → i < length rows → (s : MachineState) × (state_at meaning rows i ≡ Some s)) →
      (i : ℕ) → slice_get (states_of meaning rows) i ≡ state_at meaning rows i
  states_at [] meant zero = refl
  states_at [] meant (suc i) = refl
  states_at (row ∷ rows) meant zero =
      let first = meant 0 (omega arith) in
      ap (λ (o : Option MachineState). slice_get (before o (states_of meaning rows)) 0) first.1 ∙ sym first.1
  states_at (row ∷ rows) meant (suc i) =
      let first = meant 0 (omega arith) in
      ap (λ (o : Option MachineState). slice_get (before o (states_of meaning rows)) (suc i)) first.1
      ∙ states_at rows (λ k below. meant (suc k) (omega arith)) i

  states_count : (rows : List (List ℕ)) → ((i : ℕ) → i < length rows → (s : MachineState) × (state_at meaning rows i ≡ Some s)) →
      length (states_of meaning rows) ≡ length rows
  states_count [] meant = refl
  states_count (row ∷ rows) meant =
      let first = meant 0 (omega arith) in
      ap (λ (o : Option MachineState). length (before o (states_of meaning rows))) first.1
      ∙ ap suc (states_count rows (λ k below. meant (suc k) (omega arith)))

-- meanings that are the same of all rows are the same states
states_alike : (meaning other : List ℕ → Option MachineState) (rows : List (List ℕ)) →
    ((i : ℕ) → state_at meaning rows i ≡ state_at other rows i) → states_of meaning rows ≡ states_of other rows
states_alike meaning other [] same = refl
states_alike meaning other (row ∷ rows) same =
    ap (λ (o : Option MachineState). before o (states_of meaning rows)) (same 0)
    ∙ ap (before (other row)) (states_alike meaning other rows (λ i. same (suc i)))

module _ (image : ImageParts) (sight : Sight) (live : LiveSets) (groups : List ℕ) (g : ForgottenParts) (found : Found) (limit : ℕ)
    (kept : IsKeptSurvey image sight live groups g found limit) where
  abbrev whole : SurveyParts
  whole = survey_of image sight live groups g found limit

  pub survey_at : at whole ≡ nodes.at g found
  survey_at = fun_ext (states_at (state_in g) found.nodes kept.are.nodes.meant)

  pub survey_count : count whole ≡ length found.nodes
  survey_count = states_count (state_in g) found.nodes kept.are.nodes.meant

  pub survey_made : IsSurvey whole
  survey_made = record {
    right = kept.right;
    hidden = λ before after. kept.hidden before after;
    few = kept.are.few;
    nodes = subst (λ (a : ℕ → Option MachineState). IsExplored (grouped_turn image sight live groups)
        (grouped_start image sight live groups) limit a (edge_at found.edges) (count whole) found.complete) (sym survey_at)
        (subst (λ (n : ℕ). IsExplored (grouped_turn image sight live groups) (grouped_start image sight live groups)
        limit (nodes.at g found) (edge_at found.edges) n found.complete) (sym survey_count) kept.are.nodes);
  }

-- what an order leaves passes where the state does to which it leads
pub order_passes : (image : ImageParts) (sight : Sight) (live : LiveSets) (groups : List ℕ) (s : MachineState)
    (passing : MachineState → Bool) (order : List Op) → IsOrderTo image sight live groups s order → PassesForgotten live passing →
    PassesRenamed (keeps_number groups) passing → passing s ≡ true → passing (replayed_state image order) ≡ true
order_passes image sight live groups s passing order to same renamed holds =
    let left = replayed_state image order in
    sym (same left) ∙ (sym (renamed (forgotten_state live left) s to.leads) ∙ holds)

-- where no hart is of a group, what an order leaves forgets to be the state to which it leads
pub order_leads_ungrouped : (image : ImageParts) (sight : Sight) (live : LiveSets) (groups : List ℕ) (s : MachineState)
    (order : List Op) → IsUngrouped groups → IsOrderTo image sight live groups s order →
    forgotten_state live (replayed_state image order) ≡ s
order_leads_ungrouped image sight live groups s order none to =
    sym (ungrouped_same groups none (forgotten_state live (replayed_state image order)) s to.leads)

-- ---- all states are there

module _ (survey : SurveyParts) (is : IsSurvey survey) (done : survey.complete ≡ true) where
  abbrev forgets : MachineState → MachineState
  forgets s = forgotten_state survey.live s

  abbrev rests : MachineState → MachineState
  rests s = rest_by survey.image [] survey.sight s

  -- a state is there, with harts of one group in some order
  abbrev pub IsThere : MachineState → Type 0
  IsThere s = (r : MachineState) × IsRenaming (keeps_number survey.groups) s r × IsFound (at survey) r

  there_ungrouped : (s : MachineState) → IsUngrouped survey.groups → IsThere s → IsFound (at survey) s
  there_ungrouped s none there =
      subst (λ (t : MachineState). IsFound (at survey) t) (ungrouped_same survey.groups none s there.0 there.1) there.2

  module _ (order : List Op) (allowed : AreAllowed [] order)
      (legal : is_legal survey.image (opening_state survey.image) order ≡ true) where
    abbrev left : MachineState
    left = replayed_state survey.image order

    -- what the state that an order leaves forgets to be at its rest is there
    pub all_there : IsThere (forgets (rests left))
    all_there =
        let reached = chosen_complete survey.image survey.sight survey.live (keeps_number survey.groups) (arranged_state survey.groups)
        (renames survey.groups) is.right (λ before after. is.hidden before after) order allowed legal in
        (reached.0, reached.2, is.nodes.complete done reached.0 reached.1)

    pub all_there_ungrouped : IsUngrouped survey.groups → IsFound (at survey) (forgets (rests left))
    all_there_ungrouped none = there_ungrouped (forgets (rests left)) none all_there

    -- where no hart runs each is at its rest
    pub stopped_there : ((hart : ℕ) (h : HartState) → slice_get left.harts hart ≡ Some h → is_running h.status ≡ false) →
        IsThere (forgets left)
    stopped_there stopped =
        subst (λ (s : MachineState). IsThere (forgets s))
        (stopped_rests survey.image [] (hides survey.sight) MAX_QUIET_STEPS left stopped) all_there

    pub stopped_there_ungrouped : IsUngrouped survey.groups →
        ((hart : ℕ) (h : HartState) → slice_get left.harts hart ≡ Some h → is_running h.status ≡ false) →
        IsFound (at survey) (forgets left)
    stopped_there_ungrouped none stopped = there_ungrouped (forgets left) none (stopped_there stopped)

  -- where no state of the survey passes, no state does that an order leaves
  pub none_passes : (passing : MachineState → Bool) → KeepsPassing (hides survey.sight) passing →
      PassesForgotten survey.live passing → PassesRenamed (keeps_number survey.groups) passing →
      IsFirstPassing (at survey) (count survey) passing None → NonePasses survey.image [] passing
  none_passes passing keeps same renamed none =
      none_of_nodes survey.image survey.sight survey.live survey.groups is.right (λ before after. is.hidden before after) (at survey)
      (is.nodes.complete done) passing keeps same renamed none

-- ---- while the graph learns

module _ (image : ImageParts) (sight : Sight) (live : LiveSets) (groups : List ℕ) (g : ForgottenParts) (found : Found) (limit : ℕ)
    (kept : IsKeptSurvey image sight live groups g found limit) where
  pub survey_meant : AreMeant (nodes.at g found) (length found.nodes)
  unfolding AreMeant
  survey_meant = kept.are.nodes.meant

  pub survey_distinct : AreDistinct (nodes.at g found)
  unfolding AreDistinct
  survey_distinct = kept.are.nodes.distinct

  module _ (g' : ForgottenParts) (edges : turn_in g' ≡ turn_in g)
      (width : length g'.graph.image.harts + 1 ≡ length g.graph.image.harts + 1)
      (states : nodes.at g' found ≡ nodes.at g found) where
    harts_same : length g'.graph.image.harts ≡ length image.harts
    harts_same = let same = kept.are.harts in omega arith

    nodes_again : AreNodes image sight live groups g' found limit
    nodes_again = record {
      edges = edges ∙ kept.are.edges;
      harts = harts_same;
      few = kept.are.few;
      nodes = subst (λ (a : ℕ → Option MachineState). IsExplored (grouped_turn image sight live groups)
          (grouped_start image sight live groups) limit a (edge_at found.edges) (length found.nodes) found.complete)
          (sym states) kept.are.nodes;
      wide = kept.are.wide;
      stands = stands_same (turn_in g) (turn_in g') (state_in g) (state_in g') limit
          found.nodes found.edges edges states found.cut kept.are.stands;
    }

    pub kept_again : IsKeptSurvey image sight live groups g' found limit
    kept_again = record { right = kept.right; hidden = λ before after. kept.hidden before after; are = nodes_again }

    pub survey_same : survey_of image sight live groups g' found limit ≡ survey_of image sight live groups g found limit
    survey_same =
        ap (λ (ss : List MachineState). record (survey_of image sight live groups g found limit) { states = ss })
        (states_alike (state_in g') (state_in g) found.nodes (λ i. ap (λ (a : ℕ → Option MachineState). a i) states))

    pub survey_verdict : (actors : ℕ) (v : Verdict) → actors ≡ length image.harts →
        IsVerdict (turn_in g) actors (nodes.at g found) found.complete v →
        IsVerdict (grouped_turn image sight live groups) (length image.harts) (at (survey_of image sight live groups g' found limit))
        found.complete v
    survey_verdict actors v number verdict =
        on_same (λ (n : MachineState → ℕ → Option MachineState) (a : ℕ → Option MachineState).
        IsVerdict n (length image.harts) a found.complete v) (grouped_turn image sight live groups) (turn_in g)
        (at (survey_of image sight live groups g' found limit)) (nodes.at g found) kept.are.edges
        (sym (survey_at image sight live groups g' found limit kept_again ∙ states))
        (subst (λ (n : ℕ). IsVerdict (turn_in g) n (nodes.at g found) found.complete v) number verdict)
