use Rattle.std.proofs.Common.{◌≡◌, ◌∙◌, length, ap, arith, rules}
use Rattle.std.proofs.lemmas.Grind.{common_steps}
use Rattle.std.specs.Prelude.{is_some, not, false}
use Rattle.owned_search.specs.Nodes.{at}
use Rattle.owned_search.proofs.GraphLemmas.{graph_alike}
use Rattle.owned_search.proofs.NodeLemmas.{none_before, none_so_far}
use Rattle.owned_search.proofs.seeking.first_of.Goals as goal

pub first_passing-number-requires-clause-before : goal.first_passing-number-requires-clause-before
first_passing-number-requires-clause-before g c =
    none_before (at c.in_ok-nodes.nodes.graph c.in_ok-nodes.nodes.reached) (g.T.StateTest.passing c.args.test.now)

pub first_passing-number-requires-in-loop-nodes-clause-before :
    goal.first_passing-number-requires-in-loop-nodes-clause-before
first_passing-number-requires-in-loop-nodes-clause-before g c =
    let none : is_some c.loop-nodes.number ≡ false = c.is_none.ensures ∙ ap not c.loop-nodes-test.true in
    none_so_far (at c.loop-nodes.nodes.graph c.loop-nodes.nodes.reached) (at c.in_ok-nodes-2.nodes.graph c.in_ok-nodes-2.nodes.reached)
    (length c.loop-nodes.nodes.reached.nodes) (g.T.StateTest.passing c.args.test.now) c.loop-nodes.number c.len-looked_at.result
    (λ i below. c.in_ok-nodes-2.ensures.numbers i below) c.loop-nodes.invariant.first none c.len-looked_at.ensures

pub loop-nodes-preserved : goal.loop-nodes-preserved
loop-nodes-preserved g c = record {
  nodes = c.in_ok-nodes-2.ensures.nodes;
  of = graph_alike c.args.turns.image.now c.args.turns.sees.now c.args.turns.live.now c.args.turns.shared.now c.loop-nodes.nodes.graph
      c.in_ok-nodes-2.nodes.graph c.loop-nodes.invariant.of c.in_ok-nodes-2.ensures.graph;
  some = first_of (search rules, grind (arith, common_steps));
  within = first_of (search rules, grind (arith, common_steps));
  first = c.first_passing-number-in-loop-nodes.ensures;
}
