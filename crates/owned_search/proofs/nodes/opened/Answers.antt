use Rattle.std.proofs.Common.{◌≡◌, ap, ◌∙◌}
use Rattle.std.specs.Vec.{with_items}
use Rattle.std.proofs.lemmas.List.{with_items_is}
use Rattle.cheri_model.specs.runs.Machine.{opening_state}
use Rattle.granule_states.specs.Graphs as granules
use Rattle.granule_states.proofs.OwnedLemmas.{begun_at}
use Rattle.states.proofs.NodeLemmas.{is_some}
use Rattle.owned_search.specs.Graphs.{state_in}
use Rattle.owned_search.proofs.NodeLemmas.{begun_row, rested_row}
use Rattle.owned_search.proofs.nodes.opened.Goals as goal

pub forget_harts-requires : goal.forget_harts-requires
forget_harts-requires c =
    let image = c.args.turns.image.now in
    let row : c.as_mut_slice-2.result.now ≡ c.settle_all.new.row =
    c.as_mut_slice-2.ensures.value ∙ with_items_is c.in_ok-graph.row c.settle_all.new.row
    (c.settle_all.ensures.same_room ∙ c.as_mut_slice.ensures.len) in
    let rests = c.in_ok-settle_all.ensures.rest (opening_state image)
    (ap (granules.state_in c.in_ok-graph.graph) c.as_mut_slice.ensures.value ∙ c.in_ok-graph.ensures.row) in
    let begun = begun_at image c.in_ok-graph.graph c.settle_all.new.self c.as_mut_slice-2.result.now c.settle_all.new.row
    c.in_ok-graph.ensures.image c.settle_all.ensures.learns row rests in
    is_some (state_in c.new-graph.result c.as_mut_slice-2.result.now) (granules.start_in c.new-graph.result.graph)
    (rested_row c.settle_all.new.self c.new-graph.result c.as_mut_slice-2.result.now c.new-graph.ensures.graph begun)

pub returns-clause-row : goal.returns-clause-row
returns-clause-row c =
    let image = c.args.turns.image.now in
    let row : c.as_mut_slice-2.result.now ≡ c.settle_all.new.row =
    c.as_mut_slice-2.ensures.value ∙ with_items_is c.in_ok-graph.row c.settle_all.new.row
    (c.settle_all.ensures.same_room ∙ c.as_mut_slice.ensures.len) in
    let rests = c.in_ok-settle_all.ensures.rest (opening_state image)
    (ap (granules.state_in c.in_ok-graph.graph) c.as_mut_slice.ensures.value ∙ c.in_ok-graph.ensures.row) in
    let begun = begun_at image c.in_ok-graph.graph c.settle_all.new.self c.as_mut_slice-2.result.now c.settle_all.new.row
    c.in_ok-graph.ensures.image c.settle_all.ensures.learns row rests in
    begun_row c.settle_all.new.self c.new-graph.result c.forget_harts.new.self c.as_mut_slice-2.result.now c.forget_harts.new.row _
    c.new-graph.ensures.graph c.forget_harts.ensures.remembers begun (λ s is. c.in_ok-forget_harts.ensures.forgotten s is)
    (with_items_is (with_items c.in_ok-graph.row c.settle_all.new.row) c.forget_harts.new.row
    (c.forget_harts.ensures.size ∙ c.as_mut_slice-2.ensures.len))
