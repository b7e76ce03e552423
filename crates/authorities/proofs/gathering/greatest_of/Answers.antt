use Rattle.std.proofs.Common.{[], arith}
use Rattle.std.proofs.lemmas.Option.{slice_get_within}
use Rattle.graph_search.specs.Trees.{state_at}
use Rattle.graph_search.proofs.TreeLemmas.{row_of}
use Rattle.states.specs.Graphs.{state_in}
use Rattle.authorities.specs.Authorities.{values_of}
use Rattle.authorities.proofs.GatherLemmas.{gathered_none, none_marked, none_seen, greatest_made}
use Rattle.authorities.proofs.gathering.greatest_of.Goals as goal

pub loop-state-init : goal.loop-state-init
loop-state-init c =
    rw (c.new.ensures.items, c.new-2.ensures.items, c.new-3.ensures.items) (record {
      gathered = gathered_none (state_at (state_in c.args.graph.now) c.args.found.now.nodes) (values_of c.args.who);
      marked = none_marked c.args.graph.now.store.values [];
      parts = none_seen c.args.who c.args.graph.now.store [];
    })

pub returns : goal.returns
returns c =
    greatest_made (state_at (state_in c.args.graph.now) c.args.found.now.nodes) (values_of c.args.who)
    c.loop-state.state c.loop-state.gathering.greatest.items
    (λ i s is.
    let row = row_of (state_in c.args.graph.now) c.args.found.now.nodes i s is in
    let low = slice_get_within c.args.found.now.nodes i row.0 row.1 in
    omega arith) c.loop-state.invariant.gathered
