use Rattle.std.proofs.Common.{◌≡◌, ap, ◌∙◌}
use Rattle.std.specs.Prelude.{option_map}
use Rattle.std.proofs.lemmas.List.{with_items_is}
use Rattle.cheri_model.specs.runs.Machine.{opening_state}
use Rattle.states.proofs.NodeLemmas.{is_some, node_of}
use Rattle.granule_states.specs.Graphs.{placed, placed_in, start_in, state_in}
use Rattle.granule_states.proofs.OwnedLemmas.{begun_at, searched_by}
use Rattle.granule_states.proofs.kept.search_graph.Goals as goal

pub settle_all-requires : goal.settle_all-requires
settle_all-requires g c =
    record {
      meant = is_some (state_in c.in_ok-graph.graph c.as_mut_slice.result.now) _
          (ap (state_in c.in_ok-graph.graph) c.as_mut_slice.ensures.value ∙ c.in_ok-graph.ensures.row);
    }

pub explore-requires-clause-some : goal.explore-requires-clause-some
explore-requires-clause-some g c = c.requires.search.0

pub explore-requires-clause-opened : goal.explore-requires-clause-opened
explore-requires-clause-opened g c =
    let image = c.args.search.now.image.now in
    let row : c.as_slice.result.now ≡ c.settle_all.new.row =
    c.as_slice.ensures.value ∙ with_items_is c.in_ok-graph.start c.settle_all.new.row
    (c.settle_all.ensures.same_room ∙ c.as_mut_slice.ensures.len) in
    let rests = c.in_ok-settle_all.ensures.rest (opening_state image)
    (ap (state_in c.in_ok-graph.graph) c.as_mut_slice.ensures.value ∙ c.in_ok-graph.ensures.row) in
    let there = begun_at image c.in_ok-graph.graph c.settle_all.new.self c.as_slice.result.now c.settle_all.new.row
    c.in_ok-graph.ensures.image c.settle_all.ensures.learns row rests in
    is_some (placed_in c.settle_all.new.self c.as_slice.result.now)
    (placed c.settle_all.new.self (start_in c.settle_all.new.self))
    (ap (option_map (placed c.settle_all.new.self)) there)

pub explore-requires-clause-wide : goal.explore-requires-clause-wide
explore-requires-clause-wide g c =
    let image = c.args.search.now.image.now in
    let row : c.as_slice.result.now ≡ c.settle_all.new.row =
    c.as_slice.ensures.value ∙ with_items_is c.in_ok-graph.start c.settle_all.new.row
    (c.settle_all.ensures.same_room ∙ c.as_mut_slice.ensures.len) in
    let rests = c.in_ok-settle_all.ensures.rest (opening_state image)
    (ap (state_in c.in_ok-graph.graph) c.as_mut_slice.ensures.value ∙ c.in_ok-graph.ensures.row) in
    let there = begun_at image c.in_ok-graph.graph c.settle_all.new.self c.as_slice.result.now c.settle_all.new.row
    c.in_ok-graph.ensures.image c.settle_all.ensures.learns row rests in
    (node_of c.settle_all.new.self.graph c.as_slice.result.now (start_in c.settle_all.new.self) there).width

pub returns : goal.returns
returns g c =
    let image = c.args.search.now.image.now in
    let row : c.as_slice.result.now ≡ c.settle_all.new.row =
    c.as_slice.ensures.value ∙ with_items_is c.in_ok-graph.start c.settle_all.new.row
    (c.settle_all.ensures.same_room ∙ c.as_mut_slice.ensures.len) in
    let rests = c.in_ok-settle_all.ensures.rest (opening_state image)
    (ap (state_in c.in_ok-graph.graph) c.as_mut_slice.ensures.value ∙ c.in_ok-graph.ensures.row) in
    let there = begun_at image c.in_ok-graph.graph c.settle_all.new.self c.as_slice.result.now c.settle_all.new.row
    c.in_ok-graph.ensures.image c.settle_all.ensures.learns row rests in
    searched_by image c.args.sees.now c.in_ok-graph.graph c.settle_all.new.self c.explore.new.graph
    c.as_slice.result.now c.in_ok-reached.reached c.args.search.now.limit c.in_ok-graph.ensures.image
    c.in_ok-graph.ensures.sight c.settle_all.ensures.learns there
    (λ p is. c.in_ok-reached.ensures.explored p is) c.in_ok-reached.ensures.wide
