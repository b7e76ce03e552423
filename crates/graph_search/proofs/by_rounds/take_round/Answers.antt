use Rattle.std.proofs.Common.{◌≡◌, ℕ, List, Bool, ◌++◌, length, arith, sym, rules, subst}
use Rattle.graph_nodes.specs.Joined.{targets_of, AreJoined}
use Rattle.graph_search.specs.Rounds.{edges_at}
use Rattle.graph_search.proofs.JoinLemmas.{read_meant, rows_there, flags_even, first_taken, round_taken}
use Rattle.graph_search.proofs.by_rounds.take_round.Goals as goal

pub start-requires : goal.start-requires
start-requires g c =
    let s = c.requires.stands.1 in
    let leads : c.as_slice.result.now ≡ c.args.now.now.leads.items = c.as_slice.ensures.value in
    let rows : c.as_slice-2.result.now ≡ c.args.now.now.rows.items = c.as_slice-2.ensures.value in
    let width : c.replace-nodes.result.width ≡ g.G.Graph.width c.args.graph.now = search rules in
    record {
      room = rw (leads, rows, width) (rows_there c.args.now.now.count (g.G.Graph.label_count c.args.graph.now)
          (g.G.Graph.width c.args.graph.now) (length c.args.now.now.leads.items) (length c.args.now.now.rows.items) s.few
          s.counted s.rows);
    }

pub step-stepped-requires-clause-meant : goal.step-stepped-requires-clause-meant
step-stepped-requires-clause-meant g c =
    let s = c.requires.stands in
    let b = c.requires.behind.1 in
    read_meant (g.G.Graph.next c.args.graph.now) (g.G.Graph.meaning c.args.graph.now) s.0
    (g.G.Graph.width c.args.graph.now) c.args.next.now.first c.args.next.now.count c.args.now.now.first 0
    c.args.tree.now.nodes.rows c.args.tree.now.edges.items c.args.next.now.nodes.items s.1.searching b.there b.read

pub follow-requires-clause-few : goal.follow-requires-clause-few
follow-requires-clause-few g c =
    let leads : c.as_slice.result.now ≡ c.args.now.now.leads.items = c.as_slice.ensures.value in
    let rows : c.as_slice-2.result.now ≡ c.args.now.now.rows.items = c.as_slice-2.ensures.value in
    let nodes : c.replace-nodes.result ≡ c.args.tree.now.nodes = c.replace-nodes.ensures.value in
    let width : c.replace-nodes.result.width ≡ g.G.Graph.width c.args.graph.now = search rules in
    let is : AreJoined (targets_of (g.G.Graph.width c.args.graph.now) c.args.now.now.leads.items
    c.args.now.now.rows.items (length c.args.now.now.leads.items)) c.in_ok-joined.joined.fresh.items
    c.args.tree.now.nodes.rows c.in_ok-joined.joined.nodes.rows = rw (sym leads, sym rows, sym width, sym nodes)
    (c.in_ok-joined.ensures.joined c.replace-nodes.result _ c.in_ok-joining.ensures) in
    let even = flags_even (g.G.Graph.width c.args.graph.now) c.args.now.now.leads.items c.args.now.now.rows.items
    c.in_ok-joined.joined.fresh.items c.args.tree.now.nodes.rows c.in_ok-joined.joined.nodes.rows is in
    let there = c.requires.stands.1.there in
    let few = c.requires.few in
    rw c.as_slice-3.ensures.value (omega arith)

pub returns-clause-first : goal.returns-clause-first
returns-clause-first g c =
    let s = c.requires.stands in
    let leads : c.as_slice.result.now ≡ c.args.now.now.leads.items = c.as_slice.ensures.value in
    let rows : c.as_slice-2.result.now ≡ c.args.now.now.rows.items = c.as_slice-2.ensures.value in
    let nodes : c.replace-nodes.result ≡ c.args.tree.now.nodes = c.replace-nodes.ensures.value in
    let width : c.replace-nodes.result.width ≡ g.G.Graph.width c.args.graph.now = search rules in
    let is : AreJoined (targets_of (g.G.Graph.width c.args.graph.now) c.args.now.now.leads.items
    c.args.now.now.rows.items (length c.args.now.now.leads.items)) c.in_ok-joined.joined.fresh.items
    c.args.tree.now.nodes.rows c.in_ok-joined.joined.nodes.rows = rw (sym leads, sym rows, sym width, sym nodes)
    (c.in_ok-joined.ensures.joined c.replace-nodes.result _ c.in_ok-joining.ensures) in
    first_taken (g.G.Graph.next c.args.graph.now) (g.G.Graph.next c.step-stepped.new.graph)
    (g.G.Graph.meaning c.args.graph.now) (g.G.Graph.meaning c.step-stepped.new.graph) s.0
    (g.G.Graph.width c.args.graph.now) (g.G.Graph.label_count c.args.graph.now) c.args.tree.now.nodes.rows
    c.in_ok-joined.joined.nodes.rows c.args.tree.now.edges.items c.args.now.now c.in_ok-joined.joined.fresh.items s.1
    c.step-stepped.ensures.same_graph c.step-stepped.ensures.kept is

pub returns-clause-after : goal.returns-clause-after
returns-clause-after g c limit stands behind =
    let leads : c.as_slice.result.now ≡ c.args.now.now.leads.items = c.as_slice.ensures.value in
    let rows : c.as_slice-2.result.now ≡ c.args.now.now.rows.items = c.as_slice-2.ensures.value in
    let nodes : c.replace-nodes.result ≡ c.args.tree.now.nodes = c.replace-nodes.ensures.value in
    let width : c.replace-nodes.result.width ≡ g.G.Graph.width c.args.graph.now = search rules in
    let is : AreJoined (targets_of (g.G.Graph.width c.args.graph.now) c.args.now.now.leads.items
    c.args.now.now.rows.items (length c.args.now.now.leads.items)) c.in_ok-joined.joined.fresh.items
    c.args.tree.now.nodes.rows c.in_ok-joined.joined.nodes.rows = rw (sym leads, sym rows, sym width, sym nodes)
    (c.in_ok-joined.ensures.joined c.replace-nodes.result _ c.in_ok-joining.ensures) in
    let labels : c.label_count-labels.result ≡ g.G.Graph.label_count c.args.graph.now = search rules in
    let same_labels = c.step-stepped.ensures.same_labels in
    let same_width = c.step-stepped.ensures.same_width in
    let flags : c.as_slice-3.result.now ≡ c.in_ok-joined.joined.fresh.items = c.as_slice-3.ensures.value in
    let followed = subst (λ (n : ℕ). c.follow.new.edges.items ≡ c.args.tree.now.edges.items
    ++ edges_at n c.args.now.now.first 0 c.in_ok-joined.joined.fresh.items) labels
    (subst (λ (fs : List Bool). c.follow.new.edges.items ≡ c.args.tree.now.edges.items
    ++ edges_at c.label_count-labels.result c.args.now.now.first 0 fs) flags c.in_ok-follow.ensures) in
    let counted = c.in_ok-stepped.ensures.count in
    rw (same_labels, same_width) (round_taken (g.G.Graph.next c.args.graph.now) (g.G.Graph.next c.step-stepped.new.graph)
    (g.G.Graph.meaning c.args.graph.now) (g.G.Graph.meaning c.step-stepped.new.graph) limit
    (g.G.Graph.width c.args.graph.now) (g.G.Graph.label_count c.args.graph.now) c.args.tree.now.nodes.rows
    c.in_ok-joined.joined.nodes.rows c.args.tree.now.edges.items c.args.now.now c.in_ok-joined.joined.fresh.items stands
    c.step-stepped.ensures.same_graph c.step-stepped.ensures.kept is c.follow.new.edges.items c.args.next.now
    c.step-stepped.new.self behind c.requires.some c.step-stepped.ensures.one_node c.in_ok-stepped.ensures.one_then
    c.step-stepped.ensures.same_first c.step-stepped.ensures.same_count c.step-stepped.ensures.same_nodes
    c.step-stepped.ensures.same_rows (rw (sym same_labels) counted) (rw (sym same_labels, sym same_width)
    c.in_ok-stepped.ensures.steps)
    (λ s m above. g.met.G.Graph.none_beyond c.step-stepped.new.graph s m (rw same_labels above)) followed)
