use Rattle.std.proofs.Common.{◌≡◌, ◌*◌, List, ap, ◌∙◌, subst, arith, length}
use Rattle.cap_model.specs.values.CapValue.{CapValue}
use Rattle.cheri_model.specs.runs.Machine.{MachineState, opening_state}
use Rattle.granule_states.specs.Graphs.{state_in}
use Rattle.granule_states.specs.Owners.{RespectSome}
use Rattle.graph_search.specs.Trees.{state_at}
use Rattle.hart.specs.View.{state_of}
use Rattle.state_store.specs.Stores.{Stored}
use Rattle.states.proofs.OpeningLemmas.{opening_granules, opening_harts}
use Rattle.states.proofs.SizeLemmas.{sizes_of}
use Rattle.owned_search.proofs.nodes.is_whole.Goals as goal

pub are_owned-requires : goal.are_owned-requires
are_owned-requires c =
    let image = c.args.graph.now.graph.image in
    let opening : state_of c.view-view.result ≡ opening_state image = c.view-view.ensures.state ∙ c.requires.opening in
    let sixteen : 16 * length c.view-view.result.ram.now ≡ image.ram =
    ap (λ (v : List CapValue). 16 * length v) (ap (λ (s : MachineState). s.memory) opening)
    ∙ opening_granules image c.requires.nodes.formed in
    let count = ap (λ (st : Stored). st.granules) c.store-store.ensures.store in
    let size = c.store-store.ensures.size in
    record {
      harts = ap (λ (s : MachineState). length s.harts) opening ∙ opening_harts image;
      size = omega (arith, sixteen, count, size);
      few_harts = (sizes_of image c.requires.nodes.formed).harts_few;
      few = c.requires.nodes.short;
      meant = c.requires.nodes.meant;
    }

pub returns : goal.returns
returns c holds = record {
  complete = c.in_ok-whole.ensures.complete holds;
  owned = subst (λ (s : MachineState). RespectSome c.args.graph.now s (state_at (state_in c.args.graph.now) c.args.reached.now.nodes))
      (c.view-view.ensures.state ∙ c.requires.opening) (c.in_ok-whole.ensures.owned holds);
}
