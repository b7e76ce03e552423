use Rattle.std.proofs.Common.{◌≡◌, ◌*◌, List, ap, sym, ◌∙◌, length}
use Rattle.std.specs.Prelude.{Some}
use Rattle.cap_model.specs.values.CapValue.{CapValue}
use Rattle.cheri_model.specs.runs.Image.{ImageParts}
use Rattle.cheri_model.specs.runs.Machine.{MachineState, opening_state}
use Rattle.hart.specs.View.{state_of}
use Rattle.states.proofs.OpeningLemmas.{opening_granules, opening_harts}
use Rattle.granule_states.proofs.kept.opened_graph.Goals as goal

pub graph_of-requires : goal.graph_of-requires
graph_of-requires c =
    let opening : state_of c.view-view.result ≡ opening_state c.args.image.now = c.view-view.ensures.state ∙ c.requires in
    record {
      size = ap (λ (m : List CapValue). 16 * length m) (ap (λ (s : MachineState). s.memory) opening)
          ∙ opening_granules c.args.image.now c.granules-granules.ensures.formed;
    }

pub node-requires-clause-harts : goal.node-requires-clause-harts
node-requires-clause-harts c =
    let opening : state_of c.view-view.result ≡ opening_state c.args.image.now = c.view-view.ensures.state ∙ c.requires in
    ap (λ (s : MachineState). length s.harts) opening
    ∙ (opening_harts c.args.image.now ∙ ap (λ (i : ImageParts). length i.harts) (sym c.in_ok-graph.ensures.image))

pub node-requires-clause-size : goal.node-requires-clause-size
node-requires-clause-size c = sym c.in_ok-graph.ensures.granules

pub returns-clause-row : goal.returns-clause-row
returns-clause-row c =
    let opening : state_of c.view-view.result ≡ opening_state c.args.image.now = c.view-view.ensures.state ∙ c.requires in
    c.in_ok-row.ensures.node ∙ ap (λ (s : MachineState). Some s) opening
