use Rattle.std.proofs.Common.{◌≡◌, ℕ, ◌-◌, ◌*◌, ◌≤◌, length, arith, ap, sym, ◌∙◌, rules, subst}
use Rattle.graph_search.specs.Rounds.{AreRead}
use Rattle.graph_search.proofs.TreeLemmas.{same_search}
use Rattle.graph_search.proofs.JoinLemmas.{read_meant, none_stands, steps_later}
use Rattle.graph_search.proofs.by_rounds.first_round.Goals as goal

pub step-requires-clause-meant : goal.step-requires-clause-meant
step-requires-clause-meant g c =
    let waiting = c.round_size-count.ensures.waiting in
    let there = c.requires.there in
    let long : c.len.result ≡ length c.args.tree.now.nodes.rows = search rules in
    rw (c.read.ensures.count, sym c.requires.wide) (read_meant (g.G.Graph.next c.args.graph.now)
    (g.G.Graph.meaning c.args.graph.now) c.args.limit c.args.tree.now.nodes.width c.args.node c.round_size-count.result
    c.args.node 0 c.args.tree.now.nodes.rows c.args.tree.now.edges.items c.read.new.self.nodes.items c.requires.before
    (omega arith) c.read.ensures.read)

pub returns-then-count-eq0-clause-stands : goal.returns-then-count-eq0-clause-stands
returns-then-count-eq0-clause-stands g c =
    let there = c.requires.there in
    none_stands (g.G.Graph.next c.args.graph.now) (g.G.Graph.meaning c.args.graph.now) c.args.limit
    (g.G.Graph.width c.args.graph.now) (g.G.Graph.label_count c.args.graph.now) c.args.tree.now.nodes.rows
    c.args.tree.now.edges.items c.read.new.self (c.read.ensures.count ∙ c.if-count-eq0.true) c.read.ensures.no_steps
    (rw c.read.ensures.first there) (search rules) (search rules) (rw c.read.ensures.first c.requires.before)

pub returns-clause-stands : goal.returns-clause-stands
returns-clause-stands g c =
    let waiting = c.round_size-count.ensures.waiting in
    let there = c.requires.there in
    let most = c.round_size-count.ensures.most in
    let long : c.len.result ≡ length c.args.tree.now.nodes.rows = search rules in
    let long2 : c.len-2.result ≡ length c.args.tree.now.nodes.rows = search rules in
    let labels : c.label_count-labels.result ≡ g.G.Graph.label_count c.step.new.graph = search rules in
    let width : c.args.tree.now.nodes.width ≡ g.G.Graph.width c.step.new.graph = search rules in
    let first : c.step.new.self.first ≡ c.args.node = search rules in
    let count : c.step.new.self.count ≡ c.round_size-count.result = search rules in
    let within = c.requires.before.within in
    let fits = subst (λ (n : ℕ). c.round_size-count.result * n ≤ c.args.limit - c.len-2.result) labels
    c.round_size-count.ensures.room in
    let taken : AreRead (g.G.Graph.width c.step.new.graph) c.args.tree.now.nodes.rows c.step.new.self.first
    c.step.new.self.count c.step.new.self.nodes.items =
    rw (first, count, c.step.ensures.same_nodes, sym width) c.read.ensures.read in
    let counted = c.in_ok-step.ensures.count in
    let leads : length c.step.new.self.leads.items ≡ c.round_size-count.result * g.G.Graph.label_count c.step.new.graph =
    counted ∙ ap (λ (n : ℕ). n * g.G.Graph.label_count c.step.new.graph) count in
    let meant = read_meant (g.G.Graph.next c.args.graph.now) (g.G.Graph.meaning c.args.graph.now) c.args.limit
    (g.G.Graph.width c.step.new.graph) c.step.new.self.first c.step.new.self.count c.args.node 0
    c.args.tree.now.nodes.rows c.args.tree.now.edges.items c.step.new.self.nodes.items c.requires.before (omega arith)
    taken in
    record {
      few = omega arith;
      there = omega arith;
      labelled = λ some. let l = c.round_size-count.ensures.labels (omega arith) in omega arith;
      room = omega arith;
      long = rw c.step.ensures.same_nodes (search rules);
      rows = search rules;
      read = taken;
      counted = counted;
      steps = steps_later (g.G.Graph.next c.step.new.graph) (g.G.Graph.meaning c.args.graph.now)
          (g.G.Graph.meaning c.step.new.graph) (g.G.Graph.meaning c.step.new.graph) (g.G.Graph.width c.step.new.graph)
          (g.G.Graph.label_count c.step.new.graph) c.step.new.self.count c.step.new.self.nodes.items
          c.step.new.self.leads.items c.step.new.self.rows.items c.step.ensures.kept meant counted
          c.in_ok-step.ensures.steps;
      one_node = c.in_ok-step.ensures.one_then;
      searching = rw first (same_search (g.G.Graph.next c.args.graph.now) (g.G.Graph.next c.step.new.graph)
          (g.G.Graph.meaning c.args.graph.now) (g.G.Graph.meaning c.step.new.graph) c.args.limit
          c.args.tree.now.nodes.rows c.args.tree.now.edges.items c.args.node 0 c.requires.before
          c.step.ensures.same_graph c.step.ensures.kept);
    }
