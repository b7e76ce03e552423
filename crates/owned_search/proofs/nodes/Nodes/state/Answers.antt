use Rattle.std.proofs.Common.{ap, sym, ◌∙◌}
use Rattle.state_store.specs.Stores.{Stored, state_of}
use Rattle.states.proofs.NodeLemmas.{is_some}
use Rattle.owned_search.proofs.NodeLemmas.{seen_node, short}
use Rattle.owned_search.proofs.nodes.Nodes.state.Goals as goal

pub read-requires-clause-few : goal.read-requires-clause-few
read-requires-clause-few c = short c.args.self.now.graph c.args.self.now.reached c.args.self.now.limit c.requires.nodes

pub returns-clause-state : goal.returns-clause-state
returns-clause-state c =
    let seen = seen_node c.args.self.now.graph c.args.self.now.reached c.args.self.now.limit c.requires.nodes c.args.number
    c.read.result.now c.requires.there c.read.ensures in
    seen.node ∙ sym (ap (λ (st : Stored). state_of st c.read.result.now) c.store.ensures ∙ seen.means)

pub returns-clause-meant : goal.returns-clause-meant
returns-clause-meant c =
    let seen = seen_node c.args.self.now.graph c.args.self.now.reached c.args.self.now.limit c.requires.nodes c.args.number
    c.read.result.now c.requires.there c.read.ensures in
    is_some (state_of c.store.result.now c.read.result.now) seen.state
    (ap (λ (st : Stored). state_of st c.read.result.now) c.store.ensures ∙ seen.means)
