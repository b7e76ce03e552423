use Rattle.std.proofs.Common.{◌≡◌, ◌+◌, length, ◌∙◌, arith}
use Rattle.explore_turns.specs.Turns.{start_by}
use Rattle.states.specs.Graphs.{state_in, turn_in}
use Rattle.states.proofs.NodeLemmas.{node_of, is_some}
use Rattle.states.proofs.KeptLemmas.{searched}
use Rattle.states.proofs.kept.Kept.search.Goals as goal

pub explore-requires-clause-opened : goal.explore-requires-clause-opened
explore-requires-clause-opened g c =
    is_some (state_in c.args.graph c.args.start.now) (start_by c.args.turns.image c.args.turns.sweeps.items c.args.turns.sight) c.requires.opening

pub explore-requires-clause-wide : goal.explore-requires-clause-wide
explore-requires-clause-wide g c = (node_of c.args.graph c.args.start.now (start_by c.args.turns.image c.args.turns.sweeps.items c.args.turns.sight) c.requires.opening).width

pub invariant_of-result : goal.invariant_of-result
invariant_of-result g c =
    let edges : turn_in c.explore.new.graph ≡ turn_in c.args.graph =
    c.explore.ensures.same_graph in
    let width : length c.explore.new.graph.image.harts + 1 ≡ length c.args.graph.image.harts + 1 = c.explore.ensures.same_width in
    let same = c.requires.harts in
    let harts : length c.explore.new.graph.image.harts ≡ length c.args.turns.image.harts = omega arith in
    searched c.explore.new.graph c.args.turns.image c.args.turns.sweeps.items c.args.turns.sight c.in_ok-reached.reached c.args.limit (edges ∙ c.requires.edges) harts
    (c.in_ok-reached.ensures.explored (start_by c.args.turns.image c.args.turns.sweeps.items c.args.turns.sight) c.requires.opening)
    c.in_ok-reached.ensures.wide c.in_ok-reached.ensures.stands
