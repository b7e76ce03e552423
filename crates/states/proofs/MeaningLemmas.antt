-- Rows mean the same in a graph and in what is kept of it.
use Rattle.std.proofs.Common.{◌≡◌, ℕ, List, length, ap, sym}
use Rattle.std.specs.Prelude.{Option, None, ◌+◌, ◌==◌, if◌then◌else◌}
use Rattle.cheri_model.specs.runs.Image.{ImageParts}
use Rattle.cheri_model.specs.runs.Machine.{MachineState}
use Rattle.explore_sights.specs.declared.sights.Sight.{Sight}
use Rattle.graph_search.specs.Trees.{Found, state_at}
use Rattle.schedules.specs.declared.ranges.SweepRange.{SweepRange}
use Rattle.state_store.specs.Stores.{state_of}
use Rattle.states.specs.Graphs.{GraphParts, state_in}
use Rattle.states.specs.Kept.{kept_of, at, IsKept}

pub same_meaning : (g : GraphParts) (image : ImageParts) (sweeps : List SweepRange) (sight : Sight) →
    length g.image.harts ≡ length image.harts →
    state_in g ≡ state_in (record { image = image; sweeps = sweeps; sight = sight; store = g.store })
unfolding state_in
same_meaning g image sweeps sight same =
    let meaning : ℕ → List ℕ → Option MachineState = λ n row. if length row == n + 1 then state_of g.store row else None in
    ap meaning same

-- the states are those of the graph
pub states_in : (image : ImageParts) (sweeps : List SweepRange) (sight : Sight) (g : GraphParts) (found : Found) (limit : ℕ) →
    IsKept image sweeps sight g found limit → at (kept_of image sweeps sight g.store found limit) ≡ state_at (state_in g) found.nodes
states_in image sweeps sight g found limit kept =
    ap (λ (m : List ℕ → Option MachineState). state_at m found.nodes) (sym (same_meaning g image sweeps sight kept.harts))
