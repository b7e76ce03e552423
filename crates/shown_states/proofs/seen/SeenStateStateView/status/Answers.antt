use Rattle.shown_states.proofs.MeantLemmas.{is_meant, hart_within}
use Rattle.shown_states.proofs.seen.SeenStateStateView.status.Goals as goal

pub status-requires-clause-hart : goal.status-requires-clause-hart
status-requires-clause-hart c =
    hart_within c.self.inside.state.store.now c.self.inside.state.row.now c.args.self.now c.args.hart c.self.invariant c.self.view_is c.requires

pub returns : goal.returns
returns c =
    c.status.ensures c.args.self.now
    (is_meant c.self.inside.state.store.now c.self.inside.state.row.now c.args.self.now c.self.invariant c.self.view_is)
