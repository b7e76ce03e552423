use Rattle.std.proofs.Common.{◌≡◌, [], get_or, drop, ◌∙◌, subst, rules}
use Rattle.std.specs.Prelude.{Bool, true}
use Rattle.std.proofs.lemmas.Option.{slice_get-get_or}
use Rattle.graph_search.specs.Graphs.{LeadsTo}
use Rattle.graph_loops.proofs.EdgeLemmas.{states_kept, meant_kept, target_is, target_there, targets_found}
use Rattle.graph_loops.proofs.edges.target_of.Goals as goal

pub returns-in_err-follow-clause-states : goal.returns-in_err-follow-clause-states
returns-in_err-follow-clause-states g c =
    states_kept (g.G.Graph.meaning c.args.graph.now) (g.G.Graph.meaning c.follow.new.graph) c.args.found.now.nodes
    c.follow.ensures.kept c.requires.meant

pub returns-in_err-follow-clause-meant : goal.returns-in_err-follow-clause-meant
returns-in_err-follow-clause-meant g c =
    meant_kept (g.G.Graph.meaning c.args.graph.now) (g.G.Graph.meaning c.follow.new.graph) c.args.found.now.nodes
    c.follow.ensures.kept c.requires.meant

pub returns-then-not-branch-clause-states : goal.returns-then-not-branch-clause-states
returns-then-not-branch-clause-states g c =
    states_kept (g.G.Graph.meaning c.args.graph.now) (g.G.Graph.meaning c.follow.new.graph) c.args.found.now.nodes
    c.follow.ensures.kept c.requires.meant

pub returns-then-not-branch-clause-meant : goal.returns-then-not-branch-clause-meant
returns-then-not-branch-clause-meant g c =
    meant_kept (g.G.Graph.meaning c.args.graph.now) (g.G.Graph.meaning c.follow.new.graph) c.args.found.now.nodes
    c.follow.ensures.kept c.requires.meant

pub returns-clause-states : goal.returns-clause-states
returns-clause-states g c =
    states_kept (g.G.Graph.meaning c.args.graph.now) (g.G.Graph.meaning c.follow.new.graph) c.args.found.now.nodes
    c.follow.ensures.kept c.requires.meant

pub returns-clause-meant : goal.returns-clause-meant
returns-clause-meant g c =
    meant_kept (g.G.Graph.meaning c.args.graph.now) (g.G.Graph.meaning c.follow.new.graph) c.args.found.now.nodes
    c.follow.ensures.kept c.requires.meant

pub returns-clause-there : goal.returns-clause-there
returns-clause-there g c = target_there c.args.found.now.nodes (drop (g.G.Graph.width c.args.graph.now) c.follow.new.rows) c.target_in.result
    (targets_found c.args.found.now.nodes c.target_in.result c.width.result (g.G.Graph.width c.args.graph.now)
    c.follow.new.rows c.target_in.ensures.found (c.width.ensures ∙ c.follow.ensures.same_width))

pub returns-clause-target : goal.returns-clause-target
returns-clause-target g c =
    let leading : c.in_ok-follow.field-0 ≡ true = search rules in
    target_is (g.G.Graph.meaning c.args.graph.now) (g.G.Graph.meaning c.follow.new.graph) c.args.found.now.nodes
    c.follow.ensures.kept c.requires.meant (g.G.Graph.next c.args.graph.now) c.args.node c.args.label (get_or c.args.found.now.nodes c.args.node [])
    (drop (g.G.Graph.width c.args.graph.now) c.follow.new.rows) (slice_get-get_or c.args.found.now.nodes c.args.node [] c.requires.there)
    (λ s means. subst (λ (b : Bool). LeadsTo (g.G.Graph.meaning c.follow.new.graph) b (drop (g.G.Graph.width c.args.graph.now) c.follow.new.rows)
    (g.G.Graph.next c.args.graph.now s c.args.label)) leading (c.in_ok-follow.ensures.value (get_or c.args.found.now.nodes c.args.node []) s
    (slice_get-get_or c.args.found.now.nodes c.args.node [] c.requires.there) means))
    c.target_in.result
    (targets_found c.args.found.now.nodes c.target_in.result c.width.result (g.G.Graph.width c.args.graph.now)
    c.follow.new.rows c.target_in.ensures.found (c.width.ensures ∙ c.follow.ensures.same_width))
