-- What was kept of a search stays so while its graph learns.
use Rattle.std.proofs.Common.{◌≡◌, ℕ, ◌+◌, ◌<◌, List, length, arith, ap, sym, ◌∙◌, refl, subst}
use Rattle.std.specs.Prelude.{Option, Some}
use Rattle.cheri_model.specs.runs.Image.{ImageParts}
use Rattle.cheri_model.specs.runs.Machine.{MachineState}
use Rattle.explore_sights.specs.declared.sights.Sight.{Sight}
use Rattle.explore_turns.specs.Turns.{start_by, turn_by}
use Rattle.graph_search.specs.Searches.{IsExplored}
use Rattle.graph_search.specs.Trees.{Found, state_at, edge_at}
use Rattle.graph_search.proofs.TreeLemmas.{stands_same}
use Rattle.graph_loops.specs.Loops.{AreMeant}
use Rattle.loop_search.specs.Verdicts.{AreDistinct, IsVerdict}
use Rattle.loop_search.specs.declared.judging.Verdict.{Verdict}
use Rattle.loop_search.proofs.VerdictLemmas.{on_same}
use Rattle.schedules.specs.declared.ranges.SweepRange.{SweepRange}
use Rattle.states.specs.Graphs.{GraphParts, state_in, turn_in}
use Rattle.states.specs.Kept.{kept_of, at, IsKept}
use Rattle.state_loops.specs.Endless.{IsSame}
use Rattle.states.proofs.MeaningLemmas.{same_meaning, states_in}

module _ (image : ImageParts) (sweeps : List SweepRange) (sight : Sight) (g : GraphParts) (found : Found) (limit : ℕ)
    (kept : IsKept image sweeps sight g found limit) where
  pub graph_meant : AreMeant (state_at (state_in g) found.nodes) (length found.nodes)
  unfolding AreMeant
  graph_meant = subst (λ (a : ℕ → Option MachineState). (i : ℕ) → i < length found.nodes →
      (s : MachineState) × (a i ≡ Some s)) (states_in image sweeps sight g found limit kept) kept.search.meant

  pub graph_distinct : AreDistinct (state_at (state_in g) found.nodes)
  unfolding AreDistinct
  graph_distinct = subst (λ (a : ℕ → Option MachineState). (i j : ℕ) (s : MachineState) → a i ≡ Some s →
      a j ≡ Some s → i ≡ j) (states_in image sweeps sight g found limit kept) kept.search.distinct

  -- the graph learned something
  module _ (g' : GraphParts) (edges : turn_in g' ≡ turn_in g)
      (width : length g'.image.harts + 1 ≡ length g.image.harts + 1)
      (states : state_at (state_in g') found.nodes ≡ state_at (state_in g) found.nodes) where
    harts_same : length g'.image.harts ≡ length image.harts
    harts_same = let same = kept.harts in omega arith

    pub states_same : at (kept_of image sweeps sight g'.store found limit) ≡ at (kept_of image sweeps sight g.store found limit)
    states_same =
        ap (λ (m : List ℕ → Option MachineState). state_at m found.nodes) (sym (same_meaning g' image sweeps sight harts_same))
        ∙ (states ∙ sym (states_in image sweeps sight g found limit kept))

    pub kept_again : IsKept image sweeps sight g' found limit
    kept_again = record {
      edges = edges ∙ kept.edges;
      harts = harts_same;
      search = subst (λ (a : ℕ → Option MachineState). IsExplored (turn_by image sweeps sight) (start_by image sweeps sight) limit a
          (edge_at found.edges) (length found.nodes) found.complete) (sym states_same) kept.search;
      wide = kept.wide;
      stands = stands_same (turn_in g) (turn_in g') (state_in g) (state_in g') limit
          found.nodes found.edges edges states found.cut kept.stands;
    }

    pub kept_same : IsSame (kept_of image sweeps sight g.store found limit) (kept_of image sweeps sight g'.store found limit)
    kept_same = record {
      image = refl;
      sweeps = refl;
      sight = refl;
      edges = refl;
      limit = refl;
      complete = refl;
      nodes = refl;
      states = states_same;
    }

    pub verdict_of_kept : (actors : ℕ) (v : Verdict) →
        IsVerdict (turn_in g) actors (state_at (state_in g) found.nodes) found.complete v →
        IsVerdict (turn_by image sweeps sight) actors (at (kept_of image sweeps sight g'.store found limit)) found.complete v
    verdict_of_kept actors v verdict =
        on_same (λ (n : MachineState → ℕ → Option MachineState) (a : ℕ → Option MachineState).
        IsVerdict n actors a found.complete v) (turn_by image sweeps sight) (turn_in g)
        (at (kept_of image sweeps sight g'.store found limit)) (state_at (state_in g) found.nodes)
        kept.edges (sym (states_same ∙ (states_in image sweeps sight g found limit kept))) verdict
