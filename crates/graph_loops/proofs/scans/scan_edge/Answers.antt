use Rattle.std.proofs.Common.{◌≡◌, ◌≤◌, ◌<◌, true, false, [], length, get_or, drop, slice_index, arith, rules, sym, ◌∙◌}
use Rattle.std.proofs.lemmas.Option.{slice_get-get_or, slice_get_within}
use Rattle.graph_search.proofs.TreeLemmas.{same_states}
use Rattle.graph_loops.specs.Loops.{AreMeant}
use Rattle.graph_loops.proofs.EdgeLemmas.{target_found}
use Rattle.graph_loops.proofs.ScanLemmas.{meant_node, rests, rests_nobody, leaves, stays}
use Rattle.graph_loops.proofs.scans.scan_edge.Goals as goal

pub follow-requires-clause-meant : goal.follow-requires-clause-meant
unfolding AreMeant
follow-requires-clause-meant g c = c.requires.before.meant

pub bounds-numbers-to : goal.bounds-numbers-to
bounds-numbers-to g c =
    let within = slice_get_within c.args.found.now.nodes c.in-Some.to (drop (g.G.Graph.width c.args.graph.now) c.follow.new.rows) (target_found c.args.found.now.nodes c.in-Some.to c.width.result (g.G.Graph.width c.args.graph.now)
    c.follow.new.rows c.in-Some.ensures.found (c.width.ensures ∙ c.follow.ensures.same_width)) in
    omega arith

pub returns-then-edge-actors-clause-after : goal.returns-then-edge-actors-clause-after
returns-then-edge-actors-clause-after g c =
    let idle : c.in_ok-follow.field-0 ≡ false = search rules in
    let within : c.place.result < length c.args.tables.now.runs.items = omega arith in
    rests (g.G.Graph.next c.args.graph.now) (g.G.Graph.next c.follow.new.graph)
    (g.G.Graph.meaning c.args.graph.now) (g.G.Graph.meaning c.follow.new.graph) c.args.actors
    c.args.found.now.nodes c.args.numbers.now c.args.tables.now.moves.items c.args.tables.now.runs.items
    c.args.edge.from c.args.edge.label c.requires.before c.follow.ensures.same_graph c.follow.ensures.kept
    c.requires.there (get_or c.args.found.now.nodes c.args.edge.from []) (drop (g.G.Graph.width c.args.graph.now) c.follow.new.rows) (slice_get-get_or c.args.found.now.nodes c.args.edge.from [] c.requires.there)
    c.in_ok-follow.field-0 (λ s. c.in_ok-follow.ensures.value (get_or c.args.found.now.nodes c.args.edge.from []) s
    (slice_get-get_or c.args.found.now.nodes c.args.edge.from [] c.requires.there)) idle c.place.result c.place.ensures.value within

pub returns-else-edge-actors-clause-after : goal.returns-else-edge-actors-clause-after
returns-else-edge-actors-clause-after g c =
    let idle : c.in_ok-follow.field-0 ≡ false = search rules in
    let nobody : c.args.actors ≤ c.args.edge.label = omega arith in
    rests_nobody (g.G.Graph.next c.args.graph.now) (g.G.Graph.next c.follow.new.graph)
    (g.G.Graph.meaning c.args.graph.now) (g.G.Graph.meaning c.follow.new.graph) c.args.actors
    c.args.found.now.nodes c.args.numbers.now c.args.tables.now.moves.items c.args.tables.now.runs.items
    c.args.edge.from c.args.edge.label c.requires.before c.follow.ensures.same_graph c.follow.ensures.kept
    c.requires.there (get_or c.args.found.now.nodes c.args.edge.from []) (drop (g.G.Graph.width c.args.graph.now) c.follow.new.rows) (slice_get-get_or c.args.found.now.nodes c.args.edge.from [] c.requires.there)
    c.in_ok-follow.field-0 (λ s. c.in_ok-follow.ensures.value (get_or c.args.found.now.nodes c.args.edge.from []) s
    (slice_get-get_or c.args.found.now.nodes c.args.edge.from [] c.requires.there)) idle nobody

pub returns-then-next-number-2-clause-after : goal.returns-then-next-number-2-clause-after
returns-then-next-number-2-clause-after g c =
    let leading : c.in_ok-follow.field-0 ≡ true = search rules in
    let low : slice_index c.args.numbers.now c.in-Some.to < slice_index c.args.numbers.now c.args.edge.from = omega arith in
    leaves (g.G.Graph.next c.args.graph.now) (g.G.Graph.next c.follow.new.graph)
    (g.G.Graph.meaning c.args.graph.now) (g.G.Graph.meaning c.follow.new.graph) c.args.actors
    c.args.found.now.nodes c.args.numbers.now c.args.tables.now.moves.items c.args.tables.now.runs.items
    c.args.edge.from c.args.edge.label c.requires.before c.follow.ensures.same_graph c.follow.ensures.kept
    c.requires.there (get_or c.args.found.now.nodes c.args.edge.from []) (drop (g.G.Graph.width c.args.graph.now) c.follow.new.rows) (slice_get-get_or c.args.found.now.nodes c.args.edge.from [] c.requires.there)
    c.in_ok-follow.field-0 (λ s. c.in_ok-follow.ensures.value (get_or c.args.found.now.nodes c.args.edge.from []) s
    (slice_get-get_or c.args.found.now.nodes c.args.edge.from [] c.requires.there)) leading c.in-Some.to (target_found c.args.found.now.nodes c.in-Some.to c.width.result (g.G.Graph.width c.args.graph.now)
    c.follow.new.rows c.in-Some.ensures.found (c.width.ensures ∙ c.follow.ensures.same_width)) (omega arith) (λ same. omega arith)

pub returns-then-edge-actors-2-clause-after : goal.returns-then-edge-actors-2-clause-after
returns-then-edge-actors-2-clause-after g c =
    let leading : c.in_ok-follow.field-0 ≡ true = search rules in
    let within : c.place-then-edge-actors-2.result < length c.args.tables.now.moves.items = omega arith in
    stays (g.G.Graph.next c.args.graph.now) (g.G.Graph.next c.follow.new.graph)
    (g.G.Graph.meaning c.args.graph.now) (g.G.Graph.meaning c.follow.new.graph) c.args.actors
    c.args.found.now.nodes c.args.numbers.now c.args.tables.now.moves.items c.args.tables.now.runs.items
    c.args.edge.from c.args.edge.label c.requires.before c.follow.ensures.same_graph c.follow.ensures.kept
    c.requires.there (get_or c.args.found.now.nodes c.args.edge.from []) (drop (g.G.Graph.width c.args.graph.now) c.follow.new.rows) (slice_get-get_or c.args.found.now.nodes c.args.edge.from [] c.requires.there)
    c.in_ok-follow.field-0 (λ s. c.in_ok-follow.ensures.value (get_or c.args.found.now.nodes c.args.edge.from []) s
    (slice_get-get_or c.args.found.now.nodes c.args.edge.from [] c.requires.there)) leading c.in-Some.to (target_found c.args.found.now.nodes c.in-Some.to c.width.result (g.G.Graph.width c.args.graph.now)
    c.follow.new.rows c.in-Some.ensures.found (c.width.ensures ∙ c.follow.ensures.same_width)) (omega arith) c.place-then-edge-actors-2.result c.place-then-edge-actors-2.ensures.value within

pub returns-else-edge-actors-2-clause-after : goal.returns-else-edge-actors-2-clause-after
returns-else-edge-actors-2-clause-after g c =
    let leading : c.in_ok-follow.field-0 ≡ true = search rules in
    let nobody : c.args.actors ≤ c.args.edge.label = omega arith in
    leaves (g.G.Graph.next c.args.graph.now) (g.G.Graph.next c.follow.new.graph)
    (g.G.Graph.meaning c.args.graph.now) (g.G.Graph.meaning c.follow.new.graph) c.args.actors
    c.args.found.now.nodes c.args.numbers.now c.args.tables.now.moves.items c.args.tables.now.runs.items
    c.args.edge.from c.args.edge.label c.requires.before c.follow.ensures.same_graph c.follow.ensures.kept
    c.requires.there (get_or c.args.found.now.nodes c.args.edge.from []) (drop (g.G.Graph.width c.args.graph.now) c.follow.new.rows) (slice_get-get_or c.args.found.now.nodes c.args.edge.from [] c.requires.there)
    c.in_ok-follow.field-0 (λ s. c.in_ok-follow.ensures.value (get_or c.args.found.now.nodes c.args.edge.from []) s
    (slice_get-get_or c.args.found.now.nodes c.args.edge.from [] c.requires.there)) leading c.in-Some.to (target_found c.args.found.now.nodes c.in-Some.to c.width.result (g.G.Graph.width c.args.graph.now)
    c.follow.new.rows c.in-Some.ensures.found (c.width.ensures ∙ c.follow.ensures.same_width)) (omega arith) (λ same. nobody)

pub returns-in_default-clause-after : goal.returns-in_default-clause-after
returns-in_default-clause-after g c =
    sym (same_states (g.G.Graph.meaning c.args.graph.now) (g.G.Graph.meaning c.follow.new.graph) c.args.found.now.nodes
    c.follow.ensures.kept c.requires.before.meant)

pub returns-then-next-number-clause-after : goal.returns-then-next-number-clause-after
returns-then-next-number-clause-after g c =
    sym (same_states (g.G.Graph.meaning c.args.graph.now) (g.G.Graph.meaning c.follow.new.graph) c.args.found.now.nodes
    c.follow.ensures.kept c.requires.before.meant)
