use Rattle.std.proofs.Common.{◌≡◌, true, arith, rules, length}
use Rattle.graph_loops.proofs.ScanLemmas.{known_still, known_starved, scans_states}
use Rattle.graph_loops.proofs.scans.judge_loops.Goals as goal

pub returns-then-is_still-clause-known : goal.returns-then-is_still-clause-known
returns-then-is_still-clause-known g c =
    let falls : c.in_ok-scan.field-0 ≡ true = search rules in
    known_still (g.G.Graph.next c.args.graph.now) (g.G.Graph.next c.scan.new.graph)
    (g.G.Graph.meaning c.args.graph.now) (g.G.Graph.meaning c.scan.new.graph) c.args.actors
    c.args.found.now.nodes c.args.numbers.now c.scan.new.tables.moves.items c.scan.new.tables.runs.items
    (rw falls at c.in_ok-scan.ensures.after) c.scan.ensures.same_graph c.requires.distinct
    (λ n m k. rw c.as_slice.ensures.value at (c.is_still.ensures c.if-is_still.true n m k))

pub returns-then-all_starved-clause-known : goal.returns-then-all_starved-clause-known
returns-then-all_starved-clause-known g c =
    let falls : c.in_ok-scan.field-0 ≡ true = search rules in
    known_starved (g.G.Graph.next c.args.graph.now) (g.G.Graph.next c.scan.new.graph)
    (g.G.Graph.meaning c.args.graph.now) (g.G.Graph.meaning c.scan.new.graph) c.args.actors
    c.args.found.now.nodes c.args.numbers.now c.scan.new.tables.moves.items c.scan.new.tables.runs.items
    (rw falls at c.in_ok-scan.ensures.after) c.scan.ensures.same_graph c.requires.distinct
    (λ n low. rw (c.as_slice-2.ensures.value, c.as_slice-3.ensures.value) at
    (c.all_starved.ensures c.if-all_starved.true n (omega arith)))

pub returns-then-not-branch-clause-states : goal.returns-then-not-branch-clause-states
returns-then-not-branch-clause-states g c =
    scans_states (g.G.Graph.next c.scan.new.graph) (g.G.Graph.meaning c.args.graph.now)
    (g.G.Graph.meaning c.scan.new.graph) c.args.actors c.args.found.now.nodes c.args.numbers.now
    (length c.args.numbers.now) 0 c.scan.new.tables.moves.items c.scan.new.tables.runs.items c.in_ok-scan.field-0
    c.in_ok-scan.ensures.after
