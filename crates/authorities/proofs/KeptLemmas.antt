-- The states of a graph are those that were kept.
use Rattle.std.proofs.Common.{◌≡◌, ℕ, ◌<◌, List, length, ap, sym, ◌∙◌, subst}
use Rattle.std.specs.Prelude.{Option, Some}
use Rattle.cheri_model.specs.runs.Image.{ImageParts}
use Rattle.cheri_model.specs.runs.Machine.{MachineState}
use Rattle.graph_search.specs.Trees.{Found, state_at}
use Rattle.explore_sights.specs.declared.sights.Sight.{Sight}
use Rattle.schedules.specs.declared.ranges.SweepRange.{SweepRange}
use Rattle.states.specs.Graphs.{GraphParts, state_in}
use Rattle.states.specs.Kept.{KeptParts, kept_of, at, IsKept}
use Rattle.states.proofs.MeaningLemmas.{states_in}

module _ (image : ImageParts) (sweeps : List SweepRange) (sight : Sight) (g : GraphParts) (found : Found) (limit : ℕ)
    (kept : IsKept image sweeps sight g found limit) where
  pub graph_meant : (i : ℕ) → i < length found.nodes →
      (s : MachineState) × (state_at (state_in g) found.nodes i ≡ Some s)
  graph_meant = subst (λ (a : ℕ → Option MachineState). (i : ℕ) → i < length found.nodes →
      (s : MachineState) × (a i ≡ Some s)) (states_in image sweeps sight g found limit kept) kept.search.meant

  -- what is so of the graph's states is so of those that were kept
  pub on_kept : (P : (ℕ → Option MachineState) → Type 0) (whole : KeptParts) →
      kept_of image sweeps sight g.store found limit ≡ whole → P (state_at (state_in g) found.nodes) → P (at whole)
  on_kept P whole same holds = subst P (sym (states_in image sweeps sight g found limit kept) ∙ ap at same) holds
